use Rattle.std.proofs.Common.{◌≡◌, take}
use Rattle.style_types.proofs.prop_map.PropMapCopied.copy.Given as goal

-- the entries so far are copied in order
abbrev pub invariant-loop-p : goal.invariant-loop-p
invariant-loop-p g l = l.entries.items ≡ take l.p-index l.p-items
