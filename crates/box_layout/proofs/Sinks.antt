-- A walk that hands over to the same, and keeps in the same list of boxes that were found last.
use Rattle.std.proofs.Common.{◌∙◌, refl}
use Rattle.box_layout.specs.Boxed.{SameSinks}
use Rattle.box_layout.specs.declared.spot.Boxes.{Boxes}

pub same_sinks : {T : Type 0} (s : Boxes T) → SameSinks s s
same_sinks s = record { told = refl; last = refl }

pub sinks_then : {T : Type 0} (s t u : Boxes T) → SameSinks s t → SameSinks t u → SameSinks s u
sinks_then s t u p q = record { told = q.told ∙ p.told; last = q.last ∙ p.last }
