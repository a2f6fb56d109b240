use Rattle.std.proofs.Common.{◌≡◌, ◌+◌, ◌++◌, take, drop, length}
use Rattle.part_rules.specs.Lists.{total_of}
use Rattle.part_rules.specs.Sharing.{part, apportioned, apportioned_after}
use Rattle.share_out.specs.Parts.{IsPart}
use Rattle.share_out.proofs.weights.apportion.Given as goal

abbrev pub invariant-loop-place : goal.invariant-loop-place
invariant-loop-place l =
    record {
      parts : take l.place l.out ++ apportioned_after l.sum l.space l.total (drop l.place l.weights) ≡ apportioned l.space l.total l.weights;
      length : length l.out ≡ length l.weights;
      sum : l.sum + total_of (drop l.place l.weights) ≡ total_of l.weights;
      lower : l.lower ≡ part l.space l.total l.sum;
      side : IsPart l.space l.lower;
    }
