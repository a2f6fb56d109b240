use Rattle.hit_index.proofs.Adding.{fill_next}
use Rattle.hit_index.proofs.strips.strips_of.Goals as goal

pub loop-number-preserved : goal.loop-number-preserved
loop-number-preserved c = fill_next c.args.edges.now c.args.rects.now c.loop-number.number c.index-rects-number.result c.loop-number.strips c.add_box.new.strips c.loop-number-test.true c.index-rects-number.is c.loop-number.invariant c.in_ok-add_box.ensures
