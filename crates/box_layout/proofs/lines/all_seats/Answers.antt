use Rattle.std.proofs.Common.{arith, length}
use Rattle.std.proofs.lemmas.Int.{ints}
use Rattle.box_layout.specs.Seats.{all_seats, moved_by_rest}
use Rattle.box_layout.proofs.Steps.{lines_step, range_read}
use Rattle.box_layout.proofs.lines.all_seats.Goals as goal

pub line_of-line-requires : goal.line_of-line-requires
line_of-line-requires c = range_read _ (length c.args.children.now) c.args.ranges.now c.loop-k.k c.requires.ranges (omega (arith, c.loop-k-test.true, c.requires.same))

pub loop-k-preserved : goal.loop-k-preserved
loop-k-preserved c =
    let flex = c.args.flex.now in
    let sizes = c.args.sizes.now in
    let ranges = c.args.ranges.now in
    let children = c.args.children.now in
    record {
      so_far =
          lines_step _ _ flex (moved_by_rest flex.across c.cross_left-free.result (length sizes)) c.loop-k.k c.loop-k.at c.line_start-start.result c.line_step.result c.add-at.result c.moved_by_rest-moved.result c.index-sizes-k.result sizes ranges children c.line_of-line.result.now
          c.loop-k.seats c.in_ok-seats-2.seats (all_seats flex sizes ranges children) c.loop-k-test.true c.requires.same c.index-sizes-k.is c.line_of-line.ensures c.moved_by_rest-moved.ensures.value c.line_start-start.ensures.value c.line_step.ensures.value c.add-at.ensures
          c.in_ok-seats-2.ensures c.loop-k.invariant.so_far;
      low = omega (arith, ints, c.add-at.ensures, c.line_step.ensures.range.0, c.loop-k.invariant.low);
      high = omega (arith, ints, c.add-at.ensures, c.line_step.ensures.range.1, c.loop-k.invariant.high);
    }
