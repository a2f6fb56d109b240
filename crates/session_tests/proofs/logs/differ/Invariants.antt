use Rattle.std.proofs.Common.{length}
use Rattle.session_tests.proofs.logs.differ.Given as goal

abbrev pub decreases-loop-event : goal.decreases-loop-event
decreases-loop-event l = length l.left
