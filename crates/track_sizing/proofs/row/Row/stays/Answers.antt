use Rattle.std.proofs.Common.{subst}
use Rattle.track_sizing.specs.Reached.{Stays}
use Rattle.track_sizing.specs.Rows.{track_of}
use Rattle.track_sizing.proofs.Staying.{row_stays}
use Rattle.track_sizing.proofs.row.Row.stays.Goals as goal

pub returns-in-Some : goal.returns-in-Some
returns-in-Some c = λ h. subst Stays c.self.view_is (row_stays (track_of c.self.inside) c.in-Some.limit c.in-Some.is (c.stays_with.ensures h) c.if-self.false (c.is_nothing.ensures c.if-not-is_nothing.false))
