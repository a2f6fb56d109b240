use Rattle.std.proofs.Common.{get_or, refl}
use Rattle.hit_index.proofs.Runs.{around_next}
use Rattle.hit_index.proofs.extents.extent_of.Goals as goal

pub loop-number-preserved : goal.loop-number-preserved
loop-number-preserved c =
    around_next c.args.rects.now c.args.numbers.now c.loop-number.number-index (get_or c.args.numbers.now c.loop-number.number-index 0) c.index-rects-number.result c.loop-number.extent c.with-extent.result c.loop-number-test.true refl
    (c.requires.within c.loop-number.number-index 0 c.loop-number-test.true) c.index-rects-number.is c.loop-number.invariant c.with-extent.ensures.wider c.with-extent.ensures.around
