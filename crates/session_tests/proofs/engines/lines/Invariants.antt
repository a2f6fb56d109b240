use Rattle.doc_text.specs.Valid.{AreShort}
use Rattle.session_tests.proofs.engines.lines.Given as goal

abbrev pub invariant-loop-line : goal.invariant-loop-line
invariant-loop-line l = AreShort l.lines
