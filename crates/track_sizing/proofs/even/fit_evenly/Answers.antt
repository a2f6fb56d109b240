use Rattle.std.proofs.Common.{arith, subst, sym, filter, List}
use Rattle.part_rules.specs.Tracks.{Track, crosses_flexible}
use Rattle.track_sizing.specs.Placed.{AreSet}
use Rattle.track_sizing.proofs.EvenGroup.{even_is, even_set, groups_even}
use Rattle.track_sizing.proofs.Evenly.{open_fresh}
use Rattle.track_sizing.proofs.even.fit_evenly.Goals as goal

pub returns-clause-rows : goal.returns-clause-rows
returns-clause-rows g c =
    groups_even c.args.space.now c.args.gap c.args.first c.args.items.now (filter (crosses_flexible c.args.rows.now) c.args.items.now) c.args.rows.now c.lift_limits.new.rows
    c.requires.set c.requires.tracks c.requires.some c.requires.items c.requires.over (open_fresh c.args.rows.now c.requires.fresh)
    (even_is c.args.space.now c.args.gap c.args.items.now c.is_definite-definite.result c.is_max_content-max.result c.args.rows.now c.gain_all_bases-bases.new.rows c.lift_lows-limits.new.rows c.lift_limits.new.rows
    c.is_definite-definite.ensures c.is_max_content-max.ensures c.gain_all_bases-bases.ensures.rows c.lift_lows-limits.ensures.rows c.lift_limits.ensures)

pub returns-clause-set : goal.returns-clause-set
returns-clause-set g c =
    subst (λ (ts : List Track). AreSet c.args.first ts)
    (sym (even_is c.args.space.now c.args.gap c.args.items.now c.is_definite-definite.result c.is_max_content-max.result c.args.rows.now c.gain_all_bases-bases.new.rows c.lift_lows-limits.new.rows c.lift_limits.new.rows
    c.is_definite-definite.ensures c.is_max_content-max.ensures c.gain_all_bases-bases.ensures.rows c.lift_lows-limits.ensures.rows c.lift_limits.ensures))
    (even_set c.args.space.now c.args.gap c.args.first c.args.items.now c.args.rows.now c.requires.set (omega (arith, c.requires.tracks)) c.requires.items c.requires.over)
