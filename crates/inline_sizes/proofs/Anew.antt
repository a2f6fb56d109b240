-- What a container answers, and that it measures nothing for it.
use Rattle.std.proofs.Common.{◌≡◌, [], sym, ap}
use Rattle.node_arena.specs.declared.number.NodeId.{NodeId}
use Rattle.placing.specs.Nodes.{BareTrees, kids_at, sight_at}
use Rattle.placing.specs.Walks.{events_at, events_by}
use Rattle.tree_rules.specs.FlexSizes as rules
use Rattle.tree_rules.specs.GridSizes.{grid_inline, grid_lends_columns}
use Rattle.tree_rules.specs.Queries.{answer_by, answer_of, inline_sizes, lent_items}
use Rattle.tree_rules.specs.Whole.{answers_by}
use Rattle.tree_rules.specs.declared.kind.NodeKind.{NodeKind}
use Rattle.tree_rules.specs.declared.kind.NodeKind.TheVariants as kind
use Rattle.tree_rules.specs.declared.query.Ask.TheVariants as ask
use Rattle.tree_rules.specs.declared.query.Given.TheVariants as given
use Rattle.tree_rules.specs.declared.query.Query.{Query}
use Rattle.inline_sizes.specs.Flexes.{flex_seen}
use Rattle.inline_sizes.specs.GridsSeen.{grid_seen}

module _ (b : BareTrees) (n : NodeId) (q : Query) where
  pub flex_answer : (sight_at b n).label.kind ≡ kind.Flex → q.ask ≡ ask.Inline → inline_sizes (rules.flex_inline (flex_seen b n)) ≡ answer_of (sight_at b n) q
  unfolding flex_seen
  flex_answer k a = λ i. answer_by (answers_by (sym k i) (sight_at b n).label (sight_at b n).chain (kids_at b n)) (sym a i) q

  pub grid_answer : (sight_at b n).label.kind ≡ kind.Grid → q.ask ≡ ask.Inline → inline_sizes (grid_inline (grid_seen b n q.reps given.None)) ≡ answer_of (sight_at b n) q
  unfolding grid_seen
  grid_answer k a = λ i. answer_by (answers_by (sym k i) (sight_at b n).label (sight_at b n).chain (kids_at b n)) (sym a i) q

  pub lent_answer : (sight_at b n).label.kind ≡ kind.Grid → q.ask ≡ ask.LendColumns → lent_items (grid_lends_columns (grid_seen b n q.reps given.None)) ≡ answer_of (sight_at b n) q
  unfolding grid_seen
  lent_answer k a = λ i. answer_by (answers_by (sym k i) (sight_at b n).label (sight_at b n).chain (kids_at b n)) (sym a i) q

  pub flex_quiet : (sight_at b n).label.kind ≡ kind.Flex → events_at b n q ≡ []
  flex_quiet k = ap (λ (z : NodeKind). events_by z (sight_at b n).label.name q) k

  pub grid_quiet : (sight_at b n).label.kind ≡ kind.Grid → events_at b n q ≡ []
  grid_quiet k = ap (λ (z : NodeKind). events_by z (sight_at b n).label.name q) k
