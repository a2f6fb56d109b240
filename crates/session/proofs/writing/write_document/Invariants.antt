use Rattle.std.proofs.Common.{◌≡◌, ◌≤◌, ◌+◌, ◌-◌}
use Rattle.session.specs.Input.{limit, AsksSoFar}
use Rattle.session.specs.Standing.{history_of}
use Rattle.session.specs.Writing.{IsLedTo}
use Rattle.session.proofs.writing.write_document.Given as goal

abbrev pub invariant-loop-line : goal.invariant-loop-line
invariant-loop-line g l =
    record {
      led : IsLedTo (g.S.Source.left l.fn.source) (g.S.Source.left l.source) l.reader.lines l.reader.ended (history_of l.engine) l.refused;
      count : l.reader.lines.fed ≡ l.reader.count;
      within : l.reader.count ≤ limit;
      written : g.K.Sink.written l.sink ≡ g.K.Sink.written l.fn.sink;
      read : g.S.Source.faults l.fn.source ≤ g.S.Source.faults l.source;
      fault : g.K.Sink.faults l.fn.sink ≤ g.K.Sink.faults l.sink;
      asks : AsksSoFar (g.S.Source.left l.fn.source) (g.S.Source.left l.source) (g.S.Source.asked l.fn.source) (g.S.Source.asked l.source) l.reader.count l.reader.ended;
    }

abbrev pub decreases-loop-line : goal.decreases-loop-line
decreases-loop-line g l = limit + 1 - l.reader.lines.number
