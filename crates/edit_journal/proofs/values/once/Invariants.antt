use Rattle.std.proofs.Common.{◌≡◌, ◌++◌, drop}
use Rattle.std.specs.List.{filter}
use Rattle.edit_journal.specs.Steps.{once}
use Rattle.edit_journal.proofs.Items.{is_new}
use Rattle.edit_journal.proofs.values.once.Given as goal

-- those so far, before the new ones of those that are left, are all
abbrev pub invariant-loop-property : goal.invariant-loop-property
invariant-loop-property l = l.all ++ filter (is_new l.all) (once (drop l.property-index l.props)) ≡ once l.props
