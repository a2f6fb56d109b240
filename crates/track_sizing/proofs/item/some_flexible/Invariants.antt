use Rattle.std.proofs.Common.{◌≡◌, drop}
use Rattle.std.specs.List.{list_any}
use Rattle.part_rules.specs.Tracks.{flexible}
use Rattle.track_sizing.proofs.item.some_flexible.Given as goal

abbrev pub invariant-loop-row : goal.invariant-loop-row
invariant-loop-row l = list_any flexible (drop l.row-index l.rows) ≡ list_any flexible l.rows
