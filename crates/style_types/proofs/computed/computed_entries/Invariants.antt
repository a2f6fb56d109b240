use Rattle.std.proofs.Common.{◌≡◌, take}
use Rattle.style_types.specs.Computed.{values_mapped, computed_value}
use Rattle.style_types.proofs.computed.computed_entries.Given as goal

-- the entries so far have their computed values
abbrev pub invariant-loop-p : goal.invariant-loop-p
invariant-loop-p l = l.made.items ≡ values_mapped (computed_value l.em l.rem) (take l.p-index l.entries)
