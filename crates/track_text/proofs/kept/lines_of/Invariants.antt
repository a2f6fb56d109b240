use Rattle.std.proofs.Common.{◌≡◌, ◌++◌, drop}
use Rattle.track_text.specs.Templates.{lines_of}
use Rattle.track_text.proofs.Holding.{seam}
use Rattle.track_text.proofs.kept.lines_of.Given as goal

abbrev pub invariant-loop-entry : goal.invariant-loop-entry
invariant-loop-entry l = l.lines ++ seam l.line (lines_of (drop l.entry-index l.entries)) ≡ lines_of l.entries
