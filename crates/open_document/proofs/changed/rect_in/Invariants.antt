use Rattle.std.proofs.Common.{◌≡◌, drop}
use Rattle.open_document.specs.Changed.{rect_in}
use Rattle.open_document.proofs.changed.rect_in.Given as goal

abbrev pub invariant-loop-own : goal.invariant-loop-own
invariant-loop-own l = rect_in (drop l.own-index l.boxes) l.name ≡ rect_in l.boxes l.name
