use Rattle.std.proofs.Common.{rules, arith, ◌++◌, pos, length}
use Rattle.std.proofs.lemmas.Int.{ints}
use Rattle.box_layout.specs.Seats.{moved_by_rest, seats_along}
use Rattle.box_layout.proofs.Steps.{seats_step}
use Rattle.box_layout.proofs.line.seat_along.Goals as goal

pub add-place-requires : goal.add-place-requires
add-place-requires c = (omega (arith, ints, c.loop-k.invariant.low, c.step_of.ensures.range.0, c.loop-k-test.true, c.requires.few), omega (arith, ints, c.loop-k.invariant.high, c.step_of.ensures.range.1, c.loop-k-test.true, c.requires.few))

pub loop-k-preserved : goal.loop-k-preserved
loop-k-preserved c =
    let flex = c.args.flex.now in
    let line = c.args.line.now in
    let all = c.args.seats ++ seats_along flex (record { at = c.args.at; size = c.args.size }) (moved_by_rest flex.along c.args.free (length line)) 0 (pos 0) c.args.taken.now line in
    record {
      so_far =
          seats_step _ _ _ flex (record { at = c.args.at; size = c.args.size }) (moved_by_rest flex.along c.args.free (length line)) c.loop-k.k c.loop-k.place c.start_of-start.result c.step_of.result c.add-place.result c.moved_by_rest-moved.result c.index-taken-k.result
          c.index-taken-k-in-loop-k.result c.index-line-k.result c.args.taken.now line c.loop-k.seats c.push.new.self all c.seat_in.result c.loop-k-test.true c.requires.count c.index-line-k.is c.index-taken-k.is c.index-taken-k-in-loop-k.is c.moved_by_rest-moved.ensures.value
          c.start_of-start.ensures.value c.seat_in.ensures (search rules) c.step_of.ensures.value c.add-place.ensures c.loop-k.invariant.so_far;
      low = omega (arith, ints, c.add-place.ensures, c.step_of.ensures.range.0, c.loop-k.invariant.low);
      high = omega (arith, ints, c.add-place.ensures, c.step_of.ensures.range.1, c.loop-k.invariant.high);
    }
