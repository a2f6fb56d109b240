use Rattle.std.proofs.Common.{◌≡◌, drop}
use Rattle.cell_index.specs.Passed.{passed}
use Rattle.cell_index.proofs.columns.passed.Given as goal

abbrev pub invariant-loop-edge : goal.invariant-loop-edge
invariant-loop-edge l = passed l.inside (drop l.edge-index l.edges) l.line l.columns ≡ passed l.begins_inside l.edges l.start l.columns
