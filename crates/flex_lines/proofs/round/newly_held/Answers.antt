use Rattle.std.proofs.Common.{arith, ◌≡◌, ◌∙◌, sym, true, false}
use Rattle.std.proofs.lemmas.Int.{ints}
use Rattle.flex_lines.specs.Rounds.{stops}
use Rattle.flex_lines.proofs.Steps.{held_next, held_past}
use Rattle.flex_lines.proofs.round.newly_held.Goals as goal

pub loop-place-preserved-then-not-stops : goal.loop-place-preserved-then-not-stops
loop-place-preserved-then-not-stops c =
    let one = c.index-flexible-place.result in
    let size = c.index-sizes-place.result in
    let test : stops c.args.sum one size ≡ false = sym c.stops.ensures ∙ c.if-not-stops.true in
    record {
      so_far = omega (arith, ints, c.loop-place.invariant.so_far, held_past c.args.sum c.args.flexible.now c.args.sizes.now c.loop-place.place one size c.loop-place-test.true c.requires.length c.index-flexible-place.is c.index-sizes-place.is test);
      low = omega (arith, ints, c.loop-place.invariant.low);
      high = omega (arith, ints, c.loop-place.invariant.high);
    }

pub loop-place-preserved : goal.loop-place-preserved
loop-place-preserved c =
    let one = c.index-flexible-place.result in
    let size = c.index-sizes-place.result in
    let test : stops c.args.sum one size ≡ true = sym c.stops.ensures ∙ c.if-not-stops.false in
    record {
      so_far =
          omega
          (arith, ints, c.add-held.ensures, c.add.ensures, c.wide.ensures.value, c.wide-in-loop-place.ensures.value, c.stopped.ensures, c.loop-place.invariant.so_far, held_next c.args.sum c.args.flexible.now c.args.sizes.now c.loop-place.place one size c.loop-place-test.true c.requires.length c.index-flexible-place.is c.index-sizes-place.is test);
      low = omega (arith, ints, c.add-held.ensures, c.add.ensures, c.wide.ensures.range.0, c.wide-in-loop-place.ensures.range.0, c.loop-place.invariant.low);
      high = omega (arith, ints, c.add-held.ensures, c.add.ensures, c.wide.ensures.range.1, c.wide-in-loop-place.ensures.range.1, c.loop-place.invariant.high);
    }
