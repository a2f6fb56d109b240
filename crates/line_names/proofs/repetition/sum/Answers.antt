use Rattle.std.proofs.Common.{arith, ◌≡◌, ◌+◌, take}
use Rattle.std.proofs.lemmas.Int.{ints}
use Rattle.part_rules.specs.Lists.{sum_of}
use Rattle.line_names.specs.Repeats.{IsSum}
use Rattle.line_names.proofs.Repeats.{sum_next}
use Rattle.line_names.proofs.repetition.sum.Goals as goal

pub loop-length-preserved : goal.loop-length-preserved
loop-length-preserved c =
    let next : (c.add-sum.result ≡ sum_of (take (c.loop-length.length-index + 1) c.args.lengths.now)) ×
    IsSum (c.loop-length.length-index + 1) c.add-sum.result = sum_next c.args.lengths.now c.loop-length.length-index c.loop-length.sum c.length-item.result c.add-sum.result c.loop-length-test.true c.requires c.length-item.is
    (omega (arith, ints, c.wide.ensures.value, c.wide.ensures.range.1)) (omega (arith, ints, c.add-sum.ensures, c.wide.ensures.value)) c.loop-length.invariant.so_far c.loop-length.invariant.range in
    record { so_far = next.0; range = next.1 }
