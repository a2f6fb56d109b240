use Rattle.std.proofs.Common.{◌≡◌, map, take}
use Rattle.fr_tracks.specs.Settled.{HaveBases}
use Rattle.part_rules.specs.Tracks.{fr_row}
use Rattle.track_sizing.proofs.flex.fr_rows.Given as goal

abbrev pub invariant-loop-row : goal.invariant-loop-row
invariant-loop-row l = record { same : l.all.items ≡ map fr_row (take l.row-index l.rows); bases : HaveBases l.all.items }
