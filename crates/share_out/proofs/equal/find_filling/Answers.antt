use Rattle.std.proofs.Common.{arith, ◌<◌, ◌-◌, ◌+◌, ◌/◌}
use Rattle.part_rules.proofs.Levels.{IsNextLevel, next_level}
use Rattle.share_out.proofs.equal.find_filling.Goals as goal

pub overflow_add-level : goal.overflow_add-level
overflow_add-level c =
    let next : IsNextLevel c.loop-tally.level (c.loop-tally.level + (c.args.units - c.loop-tally.tally.used) / c.loop-tally.tally.above) c.args.units c.args.rows.now = next_level c.loop-tally.level c.args.units c.loop-tally.tally.used c.loop-tally.tally.above c.args.rows.now
    c.loop-tally.invariant.used c.loop-tally.invariant.above c.loop-tally-test.true c.if-tally-units.true in
    omega (arith, next.low)

pub tally_at-tally-requires-in-loop-tally : goal.tally_at-tally-requires-in-loop-tally
tally_at-tally-requires-in-loop-tally c =
    let next : IsNextLevel c.loop-tally.level (c.loop-tally.level + (c.args.units - c.loop-tally.tally.used) / c.loop-tally.tally.above) c.args.units c.args.rows.now = next_level c.loop-tally.level c.args.units c.loop-tally.tally.used c.loop-tally.tally.above c.args.rows.now
    c.loop-tally.invariant.used c.loop-tally.invariant.above c.loop-tally-test.true c.if-tally-units.true in
    omega (arith, next.fits)

pub loop-tally-smaller : goal.loop-tally-smaller
loop-tally-smaller c =
    let next : IsNextLevel c.loop-tally.level (c.loop-tally.level + (c.args.units - c.loop-tally.tally.used) / c.loop-tally.tally.above) c.args.units c.args.rows.now = next_level c.loop-tally.level c.args.units c.loop-tally.tally.used c.loop-tally.tally.above c.args.rows.now
    c.loop-tally.invariant.used c.loop-tally.invariant.above c.loop-tally-test.true c.if-tally-units.true in
    let falls : c.args.units - c.tally_at-tally-in-loop-tally.result.used < c.args.units - c.loop-tally.tally.used = omega (arith, next.falls, c.tally_at-tally-in-loop-tally.ensures.used) in
    falls

pub loop-tally-preserved : goal.loop-tally-preserved
loop-tally-preserved c =
    let next : IsNextLevel c.loop-tally.level (c.loop-tally.level + (c.args.units - c.loop-tally.tally.used) / c.loop-tally.tally.above) c.args.units c.args.rows.now = next_level c.loop-tally.level c.args.units c.loop-tally.tally.used c.loop-tally.tally.above c.args.rows.now
    c.loop-tally.invariant.used c.loop-tally.invariant.above c.loop-tally-test.true c.if-tally-units.true in
    record {
      used = c.tally_at-tally-in-loop-tally.ensures.used;
      above = c.tally_at-tally-in-loop-tally.ensures.above;
      most = omega (arith, next.fits, c.tally_at-tally-in-loop-tally.ensures.used);
      level = next.low;
    }
