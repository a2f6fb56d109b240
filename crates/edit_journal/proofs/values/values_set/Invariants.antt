use Rattle.std.proofs.Common.{◌≡◌, ◌++◌, drop}
use Rattle.edit_journal.specs.Steps.{values_set}
use Rattle.edit_journal.proofs.values.values_set.Given as goal

-- what is made so far, before what is left to make, is all
abbrev pub invariant-loop-property : goal.invariant-loop-property
invariant-loop-property l = l.values ++ values_set (drop l.property-index l.settings) ≡ values_set l.settings
