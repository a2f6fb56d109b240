use Rattle.std.proofs.Common.{arith, refl}
use Rattle.box_layout.proofs.FoundBoxes.{all_moved, close_there, long_moved, long_moved_down, moved_more, none_moved}
use Rattle.box_layout.proofs.last_boxes.hand_moved.Goals as goal

pub loop-index-init : goal.loop-index-init
loop-index-init g c = none_moved g.T.BoxSink.adds c.args.told.now c.args.few.now (c.args.x, c.args.y) c.args.boxes.now (g.met.T.BoxSink.adds_none c.args.told.now)

pub moved_by-moved-requires-clause-x : goal.moved_by-moved-requires-clause-x
moved_by-moved-requires-clause-x g c = long_moved c.args.x c.args.boxes.now c.loop-index.index c.index-boxes-index.result c.requires.x (omega (arith, c.loop-index-test.true)) c.index-boxes-index.is c.requires.close

pub moved_by-moved-requires-clause-y : goal.moved_by-moved-requires-clause-y
moved_by-moved-requires-clause-y g c = long_moved_down c.args.y c.args.boxes.now c.loop-index.index c.index-boxes-index.result c.requires.y (omega (arith, c.loop-index-test.true)) c.index-boxes-index.is c.requires.close

pub loop-index-preserved : goal.loop-index-preserved
loop-index-preserved g c =
    moved_more g.T.BoxSink.adds g.met.T.BoxSink.adds_both c.args.x c.args.y c.requires.x c.requires.y c.args.told.now c.loop-index.told c.tell.new.told c.args.few.now c.loop-index.few c.tell.new.few c.args.boxes.now c.loop-index.index c.index-boxes-index.result
    c.index-boxes-index.result.0 c.moved_by-moved.result
    c.loop-index.invariant (omega (arith, c.loop-index-test.true)) c.index-boxes-index.is refl c.moved_by-moved.ensures (close_there c.args.boxes.now c.loop-index.index c.index-boxes-index.result (omega (arith, c.loop-index-test.true)) c.index-boxes-index.is c.requires.close)
    c.in_ok-tell.ensures.value c.in_ok-tell.ensures.few

pub returns-clause-value : goal.returns-clause-value
returns-clause-value g c = (all_moved g.T.BoxSink.adds c.args.told.now c.loop-index.told c.args.few.now c.loop-index.few (c.args.x, c.args.y) c.args.boxes.now c.loop-index.index (omega (arith, c.loop-index-test.false)) c.loop-index.invariant).added

pub returns-clause-near : goal.returns-clause-near
returns-clause-near g c = (all_moved g.T.BoxSink.adds c.args.told.now c.loop-index.told c.args.few.now c.loop-index.few (c.args.x, c.args.y) c.args.boxes.now c.loop-index.index (omega (arith, c.loop-index-test.false)) c.loop-index.invariant).near

pub returns-clause-few : goal.returns-clause-few
returns-clause-few g c = (all_moved g.T.BoxSink.adds c.args.told.now c.loop-index.told c.args.few.now c.loop-index.few (c.args.x, c.args.y) c.args.boxes.now c.loop-index.index (omega (arith, c.loop-index-test.false)) c.loop-index.invariant).few
