use Rattle.placing.proofs.Tracks.{zeros_more}
use Rattle.placing.proofs.covered.zeros.Goals as goal

pub loop-at-preserved : goal.loop-at-preserved
loop-at-preserved c = zeros_more c.loop-at.at c.loop-at.zeros c.push.new.self c.loop-at.invariant c.in_ok-push.ensures.ok
