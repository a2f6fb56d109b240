use Rattle.std.proofs.Common.{arith, ◌≤ℤ◌, ◌<ℤ◌, ◌≡◌, pos}
use Rattle.std.proofs.lemmas.Int.{ints}
use Rattle.part_rules.specs.Repetition.{total_with, step_of}
use Rattle.line_names.proofs.Repeats.{step_short}
use Rattle.line_names.proofs.repetition.room_and_step.Goals as goal

pub units-requires : goal.units-requires
units-requires c =
    let above : pos 0 <ℤ c.room_beside-room.result = grind (arith, ints) in
    let less : total_with c.args.fixed.now c.args.repeated.now c.args.gap 1 <ℤ c.args.size = omega (arith, ints, above, c.room_beside-room.ensures.some above, c.total_once-once.ensures.value) in
    let short : step_of c.args.repeated.now c.args.gap ≤ℤ pos 4294967296 = step_short c.args.fixed.now c.args.repeated.now c.args.gap c.args.size c.requires.fixed c.requires.repeated c.requires.some c.requires.gap c.step-step.ensures.gap c.room_beside-room.ensures.size less in
    (omega (arith, ints, c.step-step.ensures.value, c.step-step.ensures.some), omega (arith, ints, c.step-step.ensures.value, short))

pub returns : goal.returns
returns c =
    let above : pos 0 <ℤ c.room_beside-room.result = grind (arith, ints) in
    let less : total_with c.args.fixed.now c.args.repeated.now c.args.gap 1 <ℤ c.args.size = omega (arith, ints, above, c.room_beside-room.ensures.some above, c.total_once-once.ensures.value) in
    let short : step_of c.args.repeated.now c.args.gap ≤ℤ pos 4294967296 = step_short c.args.fixed.now c.args.repeated.now c.args.gap c.args.size c.requires.fixed c.requires.repeated c.requires.some c.requires.gap c.step-step.ensures.gap c.room_beside-room.ensures.size less in
    let room : pos c.natural.result ≡ c.room_beside-room.result = omega (arith, ints, c.natural.ensures) in
    let step : pos c.natural-2.result ≡ step_of c.args.repeated.now c.args.gap = omega (arith, ints, c.natural-2.ensures, c.units.ensures, c.step-step.ensures.value) in
    record {
      room_is = omega (arith, ints, room, above, c.room_beside-room.ensures.some above, c.total_once-once.ensures.value);
      step_is = omega (arith, ints, step);
      some_room = omega (arith, ints, room, above);
      some_step = omega (arith, ints, step, c.step-step.ensures.some);
      room_fits = omega (arith, ints, room, c.room_beside-room.ensures.high);
      step_fits = omega (arith, ints, step, short);
    }
