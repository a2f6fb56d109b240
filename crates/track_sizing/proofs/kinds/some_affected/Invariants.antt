use Rattle.std.proofs.Common.{◌≡◌, drop}
use Rattle.std.specs.List.{list_any}
use Rattle.track_sizing.specs.Kinds.{affected_of}
use Rattle.track_sizing.proofs.kinds.some_affected.Given as goal

abbrev pub invariant-loop-row : goal.invariant-loop-row
invariant-loop-row l = list_any (affected_of l.affected) (drop l.row-index l.rows) ≡ list_any (affected_of l.affected) l.rows
