use Rattle.std.proofs.Common.{arith, pos, ◌+ℤ◌, to_z, of_z, w32, w64}
use Rattle.std.specs.Int.{int_max, int_min}
use Rattle.std.proofs.lemmas.Int.{ints, clamps}
use Rattle.cell_index.proofs.Passed.{same_test}
use Rattle.cell_index.proofs.size.is_met.Goals as goal

pub returns : goal.returns
returns c =
    same_test (to_z w64 (of_z w64 (to_z w32 (of_z w32 c.max.result)))) (to_z w64 (of_z w64 c.min.result)) (int_max c.args.start c.args.span.start) (int_min (c.args.start +ℤ pos c.args.tracks) c.args.span.end) (omega (arith, ints, clamps, c.max.ensures.value))
    (omega (arith, ints, clamps, c.min.ensures.value))
