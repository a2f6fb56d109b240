use Rattle.std.proofs.Common.{◌≡◌, drop}
use Rattle.edit_journal.specs.Changes.{with_values}
use Rattle.edit_journal.proofs.values.with_values.Given as goal

-- with the values that are left it is what all make
abbrev pub invariant-loop-property : goal.invariant-loop-property
invariant-loop-property l = with_values (drop l.property-index l.values) l.made ≡ with_values l.values l.declared
