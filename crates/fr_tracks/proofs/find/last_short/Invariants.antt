use Rattle.std.proofs.Common.{◌-◌, length}
use Rattle.fr_tracks.proofs.Settled.{IsStart}
use Rattle.fr_tracks.proofs.find.last_short.Given as goal

abbrev pub invariant-loop-start : goal.invariant-loop-start
invariant-loop-start l = IsStart l.space l.rows l.last.space l.last.weight (length l.rows - l._start)
