use Rattle.std.proofs.Common.{to_z, of_z, w32}
use Rattle.placing.specs.Covered.{rules_by}
use Rattle.placing.proofs.Tracks.{rules_next}
use Rattle.placing.proofs.rules.rules_of.Goals as goal

pub loop-at-preserved : goal.loop-at-preserved
loop-at-preserved c =
    rules_next c.args.base.now c.args.sizes.now c.args.autos.now (to_z w32 (of_z w32 c.args.first)) c.loop-at.at c.args.collapsed.now c.rule_after-rule.result c.loop-at.rules.items c.extend_from_slice.new.self.items
    (rules_by c.args.base.now c.args.sizes.now c.args.autos.now (to_z w32 (of_z w32 c.args.first)) c.args.collapsed.now) c.loop-at-test.true c.rule_after-rule.ensures c.in_ok-extend_from_slice.ensures.items c.loop-at.invariant
