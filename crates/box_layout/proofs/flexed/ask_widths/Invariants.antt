use Rattle.std.proofs.Common.{◌≡◌}
use Rattle.placing.specs.Walks.{WalkedBelow}
use Rattle.tree_rules.specs.declared.query.Query.{Query}
use Rattle.walker.specs.Walkers.{SameParts, Stands, nodes, seen}
use Rattle.box_layout.specs.FlexFrames.{AsksWidths}
use Rattle.box_layout.proofs.flexed.ask_widths.Given as goal

abbrev pub invariant-loop-index : goal.invariant-loop-index
invariant-loop-index g l = record {
  stands : Stands l.walk;
  parts : SameParts l.fn.walk l.walk;
  same : nodes l.walk ≡ nodes l.fn.walk;
  walked : (q : Query) → AsksWidths l.fn.width l.fn.height q → WalkedBelow l.fn.id q 0 (seen g.R.Ruler.log l.fn.walk) (seen g.R.Ruler.log l.walk);
}
