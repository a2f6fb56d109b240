use Rattle.std.proofs.Common.{◌≡◌, ◌++◌, take}
use Rattle.track_text.proofs.parts.push_all.Given as goal

abbrev pub invariant-loop-entry : goal.invariant-loop-entry
invariant-loop-entry l = l.entries ≡ l.fn.entries ++ take l.entry-index l.more
