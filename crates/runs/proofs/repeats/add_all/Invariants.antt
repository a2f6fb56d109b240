use Rattle.std.proofs.Common.{◌≡◌, ◌++◌, take}
use Rattle.runs.proofs.repeats.add_all.Given as goal

-- the items so far are behind those before
abbrev pub invariant-loop-item : goal.invariant-loop-item
invariant-loop-item g l = l.all ≡ l.fn.all ++ take l.item-index l.items
