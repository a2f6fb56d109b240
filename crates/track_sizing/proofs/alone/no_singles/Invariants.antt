use Rattle.std.proofs.Common.{◌≡◌, map, take}
use Rattle.track_sizing.specs.Alone.{single_none}
use Rattle.track_sizing.proofs.alone.no_singles.Given as goal

abbrev pub invariant-loop-row : goal.invariant-loop-row
invariant-loop-row l = l.singles.items ≡ map single_none (take l.row-index l.rows)
