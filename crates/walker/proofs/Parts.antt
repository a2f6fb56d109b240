-- A walk that goes on with the same parts.
use Rattle.std.proofs.Common.{◌∙◌, refl}
use Rattle.walker.specs.Walkers.{SameParts}
use Rattle.walker.specs.declared.walker.Walker.{Walker}

pub same_parts : {R L : Type 0} (w : Walker R L) → SameParts w w
same_parts w = record { tree = refl; ruler = refl; tally = refl; passes = refl }

pub parts_then : {R L : Type 0} (s t u : Walker R L) → SameParts s t → SameParts t u → SameParts s u
parts_then s t u p q = record { tree = q.tree ∙ p.tree; ruler = q.ruler ∙ p.ruler; tally = q.tally ∙ p.tally; passes = q.passes ∙ p.passes }
