-- Questions: what answers them, and which fit a node (own rule).
use Rattle.std.specs.Prelude.{refl, ◌≡◌, ℕ, ◌==◌, ℤ, pos, ◌≤ℤ◌, Bool, true, false, ◌&&◌, not, List, [], ◌∷◌, reverse, length}
use Rattle.std.specs.Ordering.{int_eq}
use Rattle.lunit.specs.declared.item.Item.{Item}
use Rattle.tree_rules.specs.declared.kind.NodeKind.{NodeKind}
use Rattle.tree_rules.specs.declared.kind.NodeKind.TheVariants as kind
use Rattle.tree_rules.specs.declared.query.Ask.{Ask}
use Rattle.tree_rules.specs.declared.query.Ask.TheVariants as ask
use Rattle.tree_rules.specs.declared.query.Given.{Given}
use Rattle.tree_rules.specs.declared.query.Given.TheVariants as given
use Rattle.tree_rules.specs.declared.query.Query.{Query}
use Rattle.tree_rules.specs.Answers.{Answers, Frame, Pair}
use Rattle.tree_rules.specs.Chains.{has_chain, is_subgrid}
use Rattle.tree_rules.specs.Contexts.{Context, context_by}
use Rattle.tree_rules.specs.Places.{Seen, answers_of}
use Rattle.tree_rules.specs.Labels.{plain_content, plain_grid}
use Rattle.part_rules.specs.declared.content.Content.TheVariants as content
use Rattle.plain_tree.specs.Trees.{leafless}

-- ---- answers

-- What a question is answered by.
pub data Answer : Type 0 where
  inline_sizes : ℤ × ℤ → Answer
  lent_items : List Item → Answer
  block_size : ℤ → Answer
  child_frames : List Frame → Answer

-- the answer to what is asked, by the rest of the question
abbrev pub answer_by : Answers → Ask → Query → Answer
answer_by a ask.Inline q = inline_sizes (a.inline q.reps)
answer_by a ask.LendColumns q = lent_items (a.lend_columns q.reps)
answer_by a ask.Block q = block_size (a.down q.reps q.inline).block
answer_by a ask.LendRows q = lent_items (a.down q.reps q.inline).lend_rows
answer_by a ask.Frames q = child_frames ((a.down q.reps q.inline).frames q.block)

-- The answer of a node with these answers.
abbrev pub answer_in : Answers → Query → Answer
answer_in a q = answer_by a q.ask q

-- The answer of a node.
abbrev pub answer_of : Seen → Query → Answer
answer_of s q = answer_in (answers_of s) q

-- ---- questions that fit a node

-- a node that is a subgrid in the columns
abbrev pub sees_columns : Seen → Bool
sees_columns s = has_chain s.chain && is_subgrid s.label.grid.columns.template

-- a node that is a subgrid in the rows
abbrev pub sees_rows : Seen → Bool
sees_rows s = has_chain s.chain && is_subgrid s.label.grid.rows.template

-- a node that can have children
abbrev pub is_container : NodeKind → Bool
is_container kind.Grid = true
is_container kind.Flex = true
is_container (kind.Leaf content) = false

-- What may be asked of a node of this kind that is a subgrid in the columns, or not, and in the rows, or not.
abbrev pub may_ask : Bool → Bool → Bool → Ask → Bool
may_ask container in_columns in_rows ask.Inline = not in_columns
may_ask container in_columns in_rows ask.LendColumns = in_columns
may_ask container in_columns in_rows ask.Block = not in_rows
may_ask container in_columns in_rows ask.LendRows = in_rows
may_ask container in_columns in_rows ask.Frames = container

-- the answer depends on what the node is given in the inline axis
abbrev pub needs_inline : Ask → Bool
needs_inline ask.Inline = false
needs_inline ask.LendColumns = false
needs_inline ask.Block = true
needs_inline ask.LendRows = true
needs_inline ask.Frames = true

-- the answer depends on what the node is given in the block axis
abbrev pub needs_block : Ask → Bool
needs_block ask.Frames = true
needs_block a = false

-- What a node is given along an axis that a question needs, or does not: so many tracks where it is a subgrid there, else a size; no size and no
-- gap is below 0.
abbrev pub IsGivenFor : Bool → Bool → ℕ → Given → Type 0
IsGivenFor false shared tracks g = g ≡ given.None
IsGivenFor true false tracks (given.Size x) = pos 0 ≤ℤ x
IsGivenFor true true tracks (given.Tracks edges gap) = (length edges ≡ tracks) × (pos 0 ≤ℤ gap)
IsGivenFor true false tracks (given.Tracks edges gap) = ⊥
IsGivenFor true false tracks given.None = ⊥
IsGivenFor true true tracks (given.Size x) = ⊥
IsGivenFor true true tracks given.None = ⊥

-- the context of a node by the counts of the repetitions of the grids above it; its own play no part in its span
abbrev pub outer_context : Seen → List Pair → Context
outer_context s reps = context_by s.label.grid s.chain ((1, 1) ∷ reverse reps)

-- A question fits a node: what is asked fits its kind, there is a pair of counts for each grid that it sees above it, and it is given what the
-- answer depends on and nothing else.
pub record Fits (s : Seen) (q : Query) : Type 0 where
  pub ask : may_ask (is_container s.label.kind) (sees_columns s) (sees_rows s) q.ask ≡ true
  pub reps : length q.reps ≡ length s.chain
  pub inline : IsGivenFor (needs_inline q.ask) (sees_columns s) (outer_context s q.reps).columns.table.tracks q.inline
  pub block : IsGivenFor (needs_block q.ask) (sees_rows s) (outer_context s q.reps).rows.table.tracks q.block

-- ---- equal questions

-- what is asked, as a number
abbrev pub ask_number : Ask → ℕ
ask_number ask.Inline = 0
ask_number ask.LendColumns = 1
ask_number ask.Block = 2
ask_number ask.LendRows = 3
ask_number ask.Frames = 4

-- two lists have the same items
abbrev pub same_items : {A : Type 0} → (A → A → Bool) → List A → List A → Bool
same_items same [] [] = true
same_items same [] (y ∷ ys) = false
same_items same (x ∷ xs) [] = false
same_items same (x ∷ xs) (y ∷ ys) = same x y && same_items same xs ys

-- two questions are given the same
abbrev pub same_given : Given → Given → Bool
same_given given.None given.None = true
same_given (given.Size x) (given.Size y) = int_eq x y
same_given (given.Tracks e g) (given.Tracks f h) = same_items (λ (a : ℤ × ℤ) (b : ℤ × ℤ). int_eq a.0 b.0 && int_eq a.1 b.1) e f && int_eq g h
same_given a b = false

-- two questions are the same
abbrev pub same_query : Query → Query → Bool
same_query q r =
    (ask_number q.ask == ask_number r.ask) &&
    (same_items (λ (a : Pair) (b : Pair). (a.0 == b.0) && (a.1 == b.1)) q.reps r.reps &&
    (same_given q.inline r.inline && same_given q.block r.block))

-- ---- worked rows

abbrev question : Ask → Given → Given → Query
question a inline block = record { ask = a; reps = []; inline = inline; block = block }

-- a leaf of 40 by 20
abbrev a_leaf : Seen
a_leaf = record {
  label = record { name = []; kind = kind.Leaf (content.Fixed (pos 40) (pos 20)); grid = plain_grid; content = plain_content };
  chain = [];
  below = leafless;
}

its_sizes : answer_of a_leaf (question ask.Inline given.None given.None) ≡ inline_sizes (pos 40, pos 40)
its_sizes = refl

its_height : answer_of a_leaf (question ask.Block (given.Size (pos 7)) given.None) ≡ block_size (pos 20)
its_height = refl

-- A leaf has no frames, and only a subgrid lends.
no_frames : may_ask (is_container a_leaf.label.kind) (sees_columns a_leaf) (sees_rows a_leaf) ask.Frames ≡ false
no_frames = refl

no_lending : may_ask true false true ask.LendColumns ≡ false
no_lending = refl

lending : may_ask true false true ask.LendRows ≡ true
lending = refl

no_block_size : may_ask true false true ask.Block ≡ false
no_block_size = refl

-- The question for the height at a width fits it.
fits_leaf : Fits a_leaf (question ask.Block (given.Size (pos 7)) given.None)
fits_leaf = record { ask = refl; reps = refl; inline = record { le = tt }; block = refl }

-- Questions differ by what is given, and by what is asked.
other_width : same_query (question ask.Block (given.Size (pos 7)) given.None) (question ask.Block (given.Size (pos 8)) given.None) ≡ false
other_width = refl

other_ask : same_query (question ask.Block (given.Size (pos 7)) given.None) (question ask.LendRows (given.Size (pos 7)) given.None) ≡ false
other_ask = refl

same_tracks : same_query (question ask.Block (given.Tracks ((pos 0, pos 7) ∷ []) (pos 2)) given.None)
    (question ask.Block (given.Tracks ((pos 0, pos 7) ∷ []) (pos 2)) given.None) ≡ true
same_tracks = refl
