use Rattle.std.proofs.Common.{length}
use Rattle.open_document.proofs.Reading.{IsReading}
use Rattle.open_document.proofs.text.lines_of.Given as goal

abbrev pub invariant-loop-held : goal.invariant-loop-held
invariant-loop-held l = IsReading l.text l.lines l.held l.count

abbrev pub decreases-loop-held : goal.decreases-loop-held
decreases-loop-held l = length l.lines.held
