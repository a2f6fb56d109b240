use Rattle.std.proofs.Common.{length}
use Rattle.session_tests.proofs.running.has_lines.Given as goal

abbrev pub decreases-loop-length : goal.decreases-loop-length
decreases-loop-length l = length l.left
