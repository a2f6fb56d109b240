use Rattle.std.proofs.Common.{length, ◌-◌, ◌≤◌, drop}
use Rattle.outside.specs.Told.{AddsAllBut}
use Rattle.outside.proofs.sink.write_all.Given as goal

abbrev pub invariant-loop-at : goal.invariant-loop-at
invariant-loop-at g l =
    record {
      within : l.at ≤ length l.bytes;
      written : AddsAllBut (g.K.Sink.written l.fn.sink) (g.K.Sink.written l.sink) (drop l.at l.bytes) l.bytes;
      later : g.K.Sink.faults l.fn.sink ≤ g.K.Sink.faults l.sink;
    }

abbrev pub decreases-loop-at : goal.decreases-loop-at
decreases-loop-at g l = length l.bytes - l.at
