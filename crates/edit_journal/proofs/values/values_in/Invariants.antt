use Rattle.std.proofs.Common.{◌≡◌, ◌++◌, drop}
use Rattle.edit_journal.proofs.Items.{from_style}
use Rattle.edit_journal.proofs.values.values_in.Given as goal

-- what is made so far, before what is left to make, is all
abbrev pub invariant-loop-property : goal.invariant-loop-property
invariant-loop-property l = l.values ++ from_style l.declared (drop l.property-index l.property-items) ≡ from_style l.declared l.property-items
