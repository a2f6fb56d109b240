use Rattle.std.proofs.Common.{◌≡◌, ◌≤◌, ◌-◌}
use Rattle.doc_text.specs.Valid.{AreShort}
use Rattle.session.specs.Input.{limit, AsksSoFar}
use Rattle.session.proofs.Texts.{IsInText}
use Rattle.session.proofs.text.read_text.Given as goal

abbrev pub invariant-loop-line : goal.invariant-loop-line
invariant-loop-line g l =
    record {
      text : IsInText (g.S.Source.left l.fn.source) (g.S.Source.left l.source) l.reader.lines l.reader.ended l.held l.count;
      short : AreShort l.held.lines;
      fed : l.reader.lines.fed ≡ l.reader.count;
      within : l.reader.count ≤ limit;
      later : g.S.Source.faults l.fn.source ≤ g.S.Source.faults l.source;
      asks : AsksSoFar (g.S.Source.left l.fn.source) (g.S.Source.left l.source) (g.S.Source.asked l.fn.source) (g.S.Source.asked l.source) l.reader.count l.reader.ended;
    }

abbrev pub decreases-loop-line : goal.decreases-loop-line
decreases-loop-line g l = limit - l.count
