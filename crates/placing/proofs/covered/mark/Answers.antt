use Rattle.std.proofs.Common.{arith}
use Rattle.placing.proofs.Tracks.{mark_raised}
use Rattle.placing.proofs.covered.mark.Goals as goal

pub returns-then-start-len-clause-told : goal.returns-then-start-len-clause-told
returns-then-start-len-clause-told c = λ at h. mark_raised c.args.marks.now c.set.new.self c.as_slice.result.now c.args.start c.args.end c.max-reach.result (omega (arith, c.if-start-len.true, c.len.ensures)) c.set.ensures c.max-reach.ensures c.as_slice.ensures at
