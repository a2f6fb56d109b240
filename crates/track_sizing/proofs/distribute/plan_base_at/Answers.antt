use Rattle.std.proofs.Common.{arith, subst, ◌∙◌, sym, List}
use Rattle.std.proofs.lemmas.Int.{ints}
use Rattle.part_rules.specs.Tracks.{Track}
use Rattle.track_sizing.specs.Here.{HaveLengths, base_planned_of}
use Rattle.track_sizing.specs.Placed.{AreSet, base_step_of}
use Rattle.track_sizing.proofs.Groups.{base_at, base_set, joined_at, ready_of}
use Rattle.track_sizing.proofs.Still.{base_lengths, base_still}
use Rattle.track_sizing.proofs.distribute.plan_base_at.Goals as goal

pub returns-clause-rows : goal.returns-clause-rows
returns-clause-rows c =
    let tracks =
    base_at c.args.step.now.affected c.args.step.now.receives c.args.definite c.args.gap c.args.step.now.asks c.args.item.now c.args.first c.args.rows.now c.place_of-start.result c.span_length-tracks.result c.requires.set c.place_of-start.ensures
    (omega (arith, ints, c.span_length-tracks.ensures.value)) in
    joined_at (base_planned_of c.args.step.now.affected c.args.step.now.receives c.args.definite c.args.gap c.args.step.now.asks c.args.item.now) c.args.rows.now c.place_of-start.result c.span_length-tracks.result c.split_at_mut-before.result.0.now c.split_at_mut-before.result.1.now
    c.split_at_mut-mine.result.0.now c.split_at_mut-mine.result.1.now c.plan_base.new.rows
    c.split_at_mut-before.ensures.front c.split_at_mut-before.ensures.back c.split_at_mut-mine.ensures.front c.split_at_mut-mine.ensures.back c.plan_base.ensures ∙ sym tracks

pub returns-clause-set : goal.returns-clause-set
returns-clause-set c =
    let tracks =
    base_at c.args.step.now.affected c.args.step.now.receives c.args.definite c.args.gap c.args.step.now.asks c.args.item.now c.args.first c.args.rows.now c.place_of-start.result c.span_length-tracks.result c.requires.set c.place_of-start.ensures
    (omega (arith, ints, c.span_length-tracks.ensures.value)) in
    let rows =
    joined_at (base_planned_of c.args.step.now.affected c.args.step.now.receives c.args.definite c.args.gap c.args.step.now.asks c.args.item.now) c.args.rows.now c.place_of-start.result c.span_length-tracks.result c.split_at_mut-before.result.0.now
    c.split_at_mut-before.result.1.now c.split_at_mut-mine.result.0.now c.split_at_mut-mine.result.1.now c.plan_base.new.rows
    c.split_at_mut-before.ensures.front c.split_at_mut-before.ensures.back c.split_at_mut-mine.ensures.front c.split_at_mut-mine.ensures.back c.plan_base.ensures ∙ sym tracks in
    subst (λ (ts : List Track). AreSet c.args.first ts) (sym rows) (base_set (base_step_of c.args.step.now.affected c.args.step.now.receives c.args.definite c.args.gap c.args.step.now.asks) c.args.gap c.args.first c.args.rows.now c.args.item.now c.requires.set)

pub returns-clause-lengths : goal.returns-clause-lengths
returns-clause-lengths c =
    let tracks =
    base_at c.args.step.now.affected c.args.step.now.receives c.args.definite c.args.gap c.args.step.now.asks c.args.item.now c.args.first c.args.rows.now c.place_of-start.result c.span_length-tracks.result c.requires.set c.place_of-start.ensures
    (omega (arith, ints, c.span_length-tracks.ensures.value)) in
    let rows =
    joined_at (base_planned_of c.args.step.now.affected c.args.step.now.receives c.args.definite c.args.gap c.args.step.now.asks c.args.item.now) c.args.rows.now c.place_of-start.result c.span_length-tracks.result c.split_at_mut-before.result.0.now
    c.split_at_mut-before.result.1.now c.split_at_mut-mine.result.0.now c.split_at_mut-mine.result.1.now c.plan_base.new.rows
    c.split_at_mut-before.ensures.front c.split_at_mut-before.ensures.back c.split_at_mut-mine.ensures.front c.split_at_mut-mine.ensures.back c.plan_base.ensures ∙ sym tracks in
    subst HaveLengths (sym rows) (base_lengths (base_step_of c.args.step.now.affected c.args.step.now.receives c.args.definite c.args.gap c.args.step.now.asks) c.args.gap c.args.rows.now c.args.item.now c.requires.lengths)

pub returns-then-is_idle-clause-rows : goal.returns-then-is_idle-clause-rows
returns-then-is_idle-clause-rows c =
    base_still c.args.step.now.affected c.args.step.now.receives c.args.definite c.args.gap c.args.step.now.asks c.args.item.now c.args.rows.now (ready_of c.args.first c.args.rows.now c.requires.set) c.requires.lengths c.requires.item.some (c.is_idle.ensures c.if-is_idle.true)
