use Rattle.std.proofs.Common.{◌≡◌, drop}
use Rattle.std.specs.List.{list_any}
use Rattle.track_sizing.specs.Alone.{is_special}
use Rattle.track_sizing.proofs.alone.some_special.Given as goal

abbrev pub invariant-loop-row : goal.invariant-loop-row
invariant-loop-row l = list_any is_special (drop l.row-index l.rows) ≡ list_any is_special l.rows
