use Rattle.std.proofs.Common.{arith, refl, ◌-◌}
use Rattle.placing.proofs.Seams.{repeat_next, repeat_done}
use Rattle.placing.proofs.template.join_repeated.Goals as goal

pub loop-left-preserved : goal.loop-left-preserved
loop-left-preserved c = repeat_next c.args.lines.now c.loop-left.lines c.join.new.lines c.args.names.now c.args.count c.loop-left.left (c.loop-left.left - 1) c.loop-left-test.true refl c.in_ok-join.ensures c.loop-left.invariant

pub returns : goal.returns
returns c = λ more. repeat_done c.args.lines.now c.loop-left.lines c.args.names.now c.args.count c.loop-left.left more (omega arith) c.loop-left.invariant
