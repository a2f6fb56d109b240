use Rattle.std.proofs.Common.{arith, subst, ◌∙◌, sym, List}
use Rattle.std.proofs.lemmas.Int.{ints}
use Rattle.part_rules.specs.Tracks.{Track}
use Rattle.track_sizing.specs.Here.{HaveLengths, limit_planned_of}
use Rattle.track_sizing.specs.Placed.{AreSet, limit_step_in}
use Rattle.track_sizing.proofs.Groups.{limit_at, limit_set, joined_at, ready_of}
use Rattle.track_sizing.proofs.Still.{limit_lengths, limit_still}
use Rattle.track_sizing.proofs.distribute.plan_limit_at.Goals as goal

pub returns-clause-rows : goal.returns-clause-rows
returns-clause-rows c =
    let tracks = limit_at c.args.affected.now c.args.second c.args.gap c.args.item.now c.args.first c.args.rows.now c.place_of-start.result c.span_length-tracks.result c.requires.set c.place_of-start.ensures (omega (arith, ints, c.span_length-tracks.ensures.value)) in
    joined_at (limit_planned_of c.args.affected.now c.args.second c.args.gap c.args.item.now) c.args.rows.now c.place_of-start.result c.span_length-tracks.result c.split_at_mut-before.result.0.now c.split_at_mut-before.result.1.now c.split_at_mut-mine.result.0.now
    c.split_at_mut-mine.result.1.now c.plan_limit.new.rows
    c.split_at_mut-before.ensures.front c.split_at_mut-before.ensures.back c.split_at_mut-mine.ensures.front c.split_at_mut-mine.ensures.back c.plan_limit.ensures ∙ sym tracks

pub returns-clause-set : goal.returns-clause-set
returns-clause-set c =
    let tracks = limit_at c.args.affected.now c.args.second c.args.gap c.args.item.now c.args.first c.args.rows.now c.place_of-start.result c.span_length-tracks.result c.requires.set c.place_of-start.ensures (omega (arith, ints, c.span_length-tracks.ensures.value)) in
    let rows =
    joined_at (limit_planned_of c.args.affected.now c.args.second c.args.gap c.args.item.now) c.args.rows.now c.place_of-start.result c.span_length-tracks.result c.split_at_mut-before.result.0.now c.split_at_mut-before.result.1.now c.split_at_mut-mine.result.0.now
    c.split_at_mut-mine.result.1.now c.plan_limit.new.rows
    c.split_at_mut-before.ensures.front c.split_at_mut-before.ensures.back c.split_at_mut-mine.ensures.front c.split_at_mut-mine.ensures.back c.plan_limit.ensures ∙ sym tracks in
    subst (λ (ts : List Track). AreSet c.args.first ts) (sym rows) (limit_set (limit_step_in c.args.affected.now c.args.second) c.args.gap c.args.first c.args.rows.now c.args.item.now c.requires.set)

pub returns-clause-lengths : goal.returns-clause-lengths
returns-clause-lengths c =
    let tracks = limit_at c.args.affected.now c.args.second c.args.gap c.args.item.now c.args.first c.args.rows.now c.place_of-start.result c.span_length-tracks.result c.requires.set c.place_of-start.ensures (omega (arith, ints, c.span_length-tracks.ensures.value)) in
    let rows =
    joined_at (limit_planned_of c.args.affected.now c.args.second c.args.gap c.args.item.now) c.args.rows.now c.place_of-start.result c.span_length-tracks.result c.split_at_mut-before.result.0.now c.split_at_mut-before.result.1.now c.split_at_mut-mine.result.0.now
    c.split_at_mut-mine.result.1.now c.plan_limit.new.rows
    c.split_at_mut-before.ensures.front c.split_at_mut-before.ensures.back c.split_at_mut-mine.ensures.front c.split_at_mut-mine.ensures.back c.plan_limit.ensures ∙ sym tracks in
    subst HaveLengths (sym rows) (limit_lengths (limit_step_in c.args.affected.now c.args.second) c.args.gap c.args.rows.now c.args.item.now c.requires.lengths)

pub returns-then-is_idle-clause-rows : goal.returns-then-is_idle-clause-rows
returns-then-is_idle-clause-rows c =
    limit_still c.args.affected.now c.args.second c.args.gap c.args.item.now c.args.rows.now (ready_of c.args.first c.args.rows.now c.requires.set) c.requires.lengths c.requires.item.some (c.is_idle.ensures c.if-is_idle.true)
