use Rattle.std.proofs.Common.{take}
use Rattle.open_document.proofs.Naming.{AreNamed}
use Rattle.open_document.proofs.changed.by_name.Given as goal

abbrev pub invariant-loop-name : goal.invariant-loop-name
invariant-loop-name l = AreNamed l.rects (take l.name-index l.boxes)
