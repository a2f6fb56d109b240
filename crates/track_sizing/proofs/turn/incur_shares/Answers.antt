use Rattle.std.proofs.Common.{arith, subst, pos, ◌+ℤ◌, ◌≤ℤ◌, get_or}
use Rattle.lunit.specs.Units.{IsUnits}
use Rattle.part_rules.specs.declared.share.Share.{Share}
use Rattle.part_rules.specs.Tracks.{Track}
use Rattle.track_sizing.proofs.Turns.{fitting_at}
use Rattle.track_sizing.proofs.turn.incur_shares.Goals as goal

pub incur-requires-clause-some : goal.incur-requires-clause-some
incur-requires-clause-some c =
    subst (λ (s : Share). pos 0 ≤ℤ s.got) c.index-takers-place.is
    (fitting_at c.args.rows.now c.args.takers.now c.loop-place.rows c.loop-place.place c.index-rows-place.result c.index-takers-place.result c.requires.fits c.loop-place.invariant (omega arith) (omega arith) c.index-rows-place.is c.index-takers-place.is).0

pub incur-requires-clause-fits : goal.incur-requires-clause-fits
incur-requires-clause-fits c =
    subst (λ (t : Track). IsUnits (t.incurred +ℤ (get_or c.args.takers.now c.loop-place.place c.index-takers-place.result).got)) c.index-rows-place.is
    (subst (λ (s : Share). IsUnits (c.index-rows-place.result.incurred +ℤ s.got)) c.index-takers-place.is
    (fitting_at c.args.rows.now c.args.takers.now c.loop-place.rows c.loop-place.place c.index-rows-place.result c.index-takers-place.result c.requires.fits c.loop-place.invariant (omega arith) (omega arith) c.index-rows-place.is c.index-takers-place.is).1)
