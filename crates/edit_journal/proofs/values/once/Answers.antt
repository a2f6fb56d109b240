use Rattle.std.proofs.Common.{sym, ◌∙◌}
use Rattle.edit_journal.proofs.Items.{once_next}
use Rattle.edit_journal.proofs.values.once.Goals as goal

pub loop-property-preserved : goal.loop-property-preserved
loop-property-preserved c =
    sym (once_next c.loop-property.all c.add_once.new.props c.args.props.now c.loop-property.property-index _ c.loop-property-test.true c.in_ok-add_once.ensures) ∙ c.loop-property.invariant
