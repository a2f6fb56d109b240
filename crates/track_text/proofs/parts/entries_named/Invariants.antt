use Rattle.std.proofs.Common.{◌≡◌, map, take}
use Rattle.track_text.specs.declared.entry.Entry.TheVariants.{Named}
use Rattle.track_text.proofs.parts.entries_named.Given as goal

abbrev pub invariant-loop-name : goal.invariant-loop-name
invariant-loop-name l = l.entries ≡ map Named (take l.name-index l.names)
