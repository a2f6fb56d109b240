use Rattle.std.proofs.Common.{◌≡◌, ◌++◌, drop}
use Rattle.edit_journal.specs.Steps.{props_of}
use Rattle.edit_journal.proofs.values.props_of.Given as goal

-- what is made so far, before what is left to make, is all
abbrev pub invariant-loop-property : goal.invariant-loop-property
invariant-loop-property l = l.props ++ props_of (drop l.property-index l.settings) ≡ props_of l.settings
