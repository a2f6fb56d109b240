-- What a container answers in the block axis, and that it measures nothing for it.
use Rattle.std.proofs.Common.{◌≡◌, [], List, Bool, true, false, if◌then◌else◌, refl, sym, ap, ◌∙◌, ℤ}
use Rattle.lunit.specs.declared.item.Item.{Item}
use Rattle.node_arena.specs.declared.number.NodeId.{NodeId}
use Rattle.placing.specs.Nodes.{BareTrees, kids_at, sight_at}
use Rattle.placing.specs.Walks.{events_at, events_by}
use Rattle.tree_rules.specs.Answers.{Down}
use Rattle.tree_rules.specs.FlexSizes as rules
use Rattle.tree_rules.specs.Frames.{given_size}
use Rattle.tree_rules.specs.GridSizes.{grid_block, grid_lends_rows}
use Rattle.tree_rules.specs.Queries.{Answer, answer_by, answer_of, block_size, lent_items}
use Rattle.tree_rules.specs.Whole.{answers_by, column_down, flex_down, row_down}
use Rattle.tree_rules.specs.declared.kind.NodeKind.{NodeKind}
use Rattle.tree_rules.specs.declared.kind.NodeKind.TheVariants as kind
use Rattle.tree_rules.specs.declared.query.Ask.TheVariants as ask
use Rattle.tree_rules.specs.declared.query.Query.{Query}
use Rattle.inline_sizes.specs.Flexes.{flex_seen}
use Rattle.inline_sizes.specs.GridsSeen.{grid_seen}
use Rattle.block_sizes.specs.Wides.{columns_seen, rows_seen, wides_seen}

-- ---- answers, out of their constructors

size_in : ℤ → Answer → ℤ
size_in other (block_size size) = size
size_in other a = other

pub size_is : (x y : ℤ) → block_size x ≡ block_size y → x ≡ y
unfolding size_in
size_is x y e = ap (size_in x) e

items_in : List Item → Answer → List Item
items_in other (lent_items items) = items
items_in other a = other

pub items_are : (x y : List Item) → lent_items x ≡ lent_items y → x ≡ y
unfolding items_in
items_are x y e = ap (items_in x) e

-- ---- a container

module _ (b : BareTrees) (n : NodeId) (q : Query) where
  pub grid_answer : (sight_at b n).label.kind ≡ kind.Grid → q.ask ≡ ask.Block → block_size (grid_block (grid_seen b n q.reps q.inline) (rows_seen b n q.reps q.inline)) ≡ answer_of (sight_at b n) q
  unfolding grid_seen columns_seen wides_seen rows_seen
  grid_answer k a = λ i. answer_by (answers_by (sym k i) (sight_at b n).label (sight_at b n).chain (kids_at b n)) (sym a i) q

  pub lent_answer : (sight_at b n).label.kind ≡ kind.Grid → q.ask ≡ ask.LendRows → lent_items (grid_lends_rows (grid_seen b n q.reps q.inline) (rows_seen b n q.reps q.inline)) ≡ answer_of (sight_at b n) q
  unfolding grid_seen columns_seen wides_seen rows_seen
  lent_answer k a = λ i. answer_by (answers_by (sym k i) (sight_at b n).label (sight_at b n).chain (kids_at b n)) (sym a i) q

  flex_answer : (sight_at b n).label.kind ≡ kind.Flex → q.ask ≡ ask.Block → block_size (flex_down (flex_seen b n) (given_size q.inline)).block ≡ answer_of (sight_at b n) q
  unfolding flex_seen
  flex_answer k a = λ i. answer_by (answers_by (sym k i) (sight_at b n).label (sight_at b n).chain (kids_at b n)) (sym a i) q

  flow : (sight_at b n).label.content.column ≡ (flex_seen b n).label.content.column
  unfolding flex_seen
  flow = refl

  pub row_answer : (sight_at b n).label.kind ≡ kind.Flex → (sight_at b n).label.content.column ≡ false → q.ask ≡ ask.Block
      → block_size (rules.row_block (flex_seen b n) (rules.row_lines (flex_seen b n) (given_size q.inline)) (rules.row_settled (flex_seen b n) (rules.row_lines (flex_seen b n) (given_size q.inline)))) ≡ answer_of (sight_at b n) q
  row_answer k c a =
      let row : Down = row_down (flex_seen b n) (given_size q.inline) in
      let column : Down = column_down (flex_seen b n) (given_size q.inline) in
      ap (λ (t : Bool). block_size (if t then column else row).block) (sym (sym flow ∙ c)) ∙ flex_answer k a

  pub column_answer : (sight_at b n).label.kind ≡ kind.Flex → (sight_at b n).label.content.column ≡ true → q.ask ≡ ask.Block
      → block_size (rules.column_block (flex_seen b n) (rules.column_settled (flex_seen b n) (given_size q.inline))) ≡ answer_of (sight_at b n) q
  column_answer k c a =
      let row : Down = row_down (flex_seen b n) (given_size q.inline) in
      let column : Down = column_down (flex_seen b n) (given_size q.inline) in
      ap (λ (t : Bool). block_size (if t then column else row).block) (sym (sym flow ∙ c)) ∙ flex_answer k a

  pub flex_quiet : (sight_at b n).label.kind ≡ kind.Flex → events_at b n q ≡ []
  flex_quiet k = ap (λ (z : NodeKind). events_by z (sight_at b n).label.name q) k

  pub grid_quiet : (sight_at b n).label.kind ≡ kind.Grid → events_at b n q ≡ []
  grid_quiet k = ap (λ (z : NodeKind). events_by z (sight_at b n).label.name q) k
