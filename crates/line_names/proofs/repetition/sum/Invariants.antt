use Rattle.std.proofs.Common.{◌≡◌, take}
use Rattle.part_rules.specs.Lists.{sum_of}
use Rattle.line_names.specs.Repeats.{IsSum}
use Rattle.line_names.proofs.repetition.sum.Given as goal

abbrev pub invariant-loop-length : goal.invariant-loop-length
invariant-loop-length l = record {
  so_far : l.sum ≡ sum_of (take l.length-index l.lengths);
  range : IsSum l.length-index l.sum;
}
