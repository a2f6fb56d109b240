use Rattle.std.proofs.Common.{◌≡◌}
use Rattle.placing.specs.Walks.{State, Walked, bare_in}
use Rattle.tree_rules.specs.declared.query.Query.{Query}
use Rattle.walker.specs.Walkers.{SameParts, Stands, kept, nodes, seen}
use Rattle.box_layout.specs.LeafHeights.{HoldLeaves, UsesLeaves}
use Rattle.box_layout.proofs.leaves.ask_leaves.Given as goal

abbrev pub invariant-loop-index : goal.invariant-loop-index
invariant-loop-index g l = record {
  stands : Stands l.walk;
  parts : SameParts l.fn.walk l.walk;
  same : nodes l.walk ≡ nodes l.fn.walk;
  walked : (q : Query) (s : State) → UsesLeaves (nodes l.fn.walk) l.fn.id q l.frames → bare_in s ≡ nodes l.fn.walk → Walked l.fn.id q s (seen g.R.Ruler.log l.fn.walk) → Walked l.fn.id q s (seen g.R.Ruler.log l.walk);
  own : kept l.walk l.fn.id ≡ kept l.fn.walk l.fn.id;
  held : HoldLeaves (nodes l.fn.walk) l.index l.frames (seen g.R.Ruler.log l.walk);
}
