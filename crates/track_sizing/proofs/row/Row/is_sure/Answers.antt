use Rattle.std.proofs.Common.{arith, subst}
use Rattle.std.proofs.lemmas.Int.{ints}
use Rattle.track_sizing.specs.Calm.{IsSure}
use Rattle.track_sizing.specs.Rows.{track_of}
use Rattle.track_sizing.proofs.Unchanged.{row_sure}
use Rattle.track_sizing.proofs.row.Row.is_sure.Goals as goal

pub returns-in-Some : goal.returns-in-Some
returns-in-Some c = λ h. subst IsSure c.self.view_is
    (row_sure (track_of c.self.inside) c.in-Some.limit c.units.result c.units-in-Some.result c.in-Some.is c.units.ensures.value c.units.ensures.range c.units-in-Some.ensures.value c.units-in-Some.ensures.range (omega (arith, ints, h)) c.self.invariant.base c.if-self.false
    (c.is_nothing.ensures c.if-not-is_nothing.false))
