use Rattle.std.proofs.Common.{◌≡◌, drop}
use Rattle.std.specs.List.{list_any}
use Rattle.track_sizing.specs.Here.{open_of}
use Rattle.track_sizing.proofs.step.some_open.Given as goal

abbrev pub invariant-loop-row : goal.invariant-loop-row
invariant-loop-row l = list_any (open_of l.affected l.receives) (drop l.row-index l.rows) ≡ list_any (open_of l.affected l.receives) l.rows
