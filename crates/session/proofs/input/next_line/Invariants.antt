use Rattle.std.proofs.Common.{◌≡◌, ◌≤◌, ℕ, List, Option}
use Rattle.text_scan.specs.declared.line.Line.{Line}
use Rattle.session.specs.Input.{HasGiven, AsksSoFar, to_go, limit}
use Rattle.session.proofs.input.next_line.Given as goal

abbrev pub invariant-loop-line : goal.invariant-loop-line
invariant-loop-line g l =
    record {
      given : (before : Option (List ℕ)) (given : List Line) → HasGiven before (g.S.Source.left l.fn.source) given l.fn.reader.lines l.fn.reader.ended → HasGiven before (g.S.Source.left l.source) given l.reader.lines l.reader.ended;
      count : l.reader.lines.fed ≡ l.reader.count;
      within : l.reader.count ≤ limit;
      later : g.S.Source.faults l.fn.source ≤ g.S.Source.faults l.source;
      asks : (before : Option (List ℕ)) (first : ℕ) → AsksSoFar before (g.S.Source.left l.fn.source) first (g.S.Source.asked l.fn.source) l.fn.reader.count l.fn.reader.ended → AsksSoFar before (g.S.Source.left l.source) first (g.S.Source.asked l.source) l.reader.count l.reader.ended;
    }

abbrev pub decreases-loop-line : goal.decreases-loop-line
decreases-loop-line g l = to_go l.reader.count l.reader.ended
