use Rattle.std.proofs.Common.{subst, ◌≡◌}
use Rattle.part_rules.specs.Tracks.{Track, raised_limit}
use Rattle.track_sizing.specs.Rows.{track_of}
use Rattle.track_sizing.proofs.Staying.{row_raised}
use Rattle.track_sizing.proofs.row.Row.is_raised.Goals as goal

pub returns-in-Some : goal.returns-in-Some
returns-in-Some c = λ h. subst (λ (t : Track). raised_limit t ≡ t) c.self.view_is (row_raised (track_of c.self.inside) c.in-Some.limit c.in-Some.is (c.stays_with.ensures h) (c.is_nothing.ensures c.if-not-is_nothing.false))
