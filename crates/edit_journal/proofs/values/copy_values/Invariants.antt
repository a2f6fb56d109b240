use Rattle.std.proofs.Common.{◌≡◌, take}
use Rattle.edit_journal.proofs.values.copy_values.Given as goal

abbrev pub invariant-loop-property : goal.invariant-loop-property
invariant-loop-property l = l.copies ≡ take l.property-index l.values
