use Rattle.std.proofs.Common.{length}
use Rattle.session_tests.proofs.counts.counts_at.Given as goal

abbrev pub decreases-loop-length : goal.decreases-loop-length
decreases-loop-length l = length l.left
