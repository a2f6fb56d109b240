use Rattle.std.proofs.Common.{◌≡◌, drop, length}
use Rattle.std.specs.Cmp.Lexicographic.{pointwise}
use Rattle.runs.proofs.runs.RunsPartialEq.eq.Given as goal

-- what is left decides
abbrev pub invariant-loop-at : goal.invariant-loop-at
invariant-loop-at g l = record {
  same : pointwise g.T.PartialEq.eq (drop l.at l.self) (drop l.at l.other) ≡ pointwise g.T.PartialEq.eq l.self l.other;
  long : length l.self ≡ length l.other;
}
