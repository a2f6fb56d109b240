use Rattle.std.proofs.Common.{◌+◌, ◌*◌, length}
use Rattle.placing.proofs.seats.+chain.Given as goal

abbrev pub decreases-seat : goal.decreases-seat
decreases-seat l = 2 * length l.outer.now + 1

abbrev pub decreases-context : goal.decreases-context
decreases-context l = 2 * length l.reps.now
