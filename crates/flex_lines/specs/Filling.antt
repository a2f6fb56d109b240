-- Items whose limits leave their base sizes as they are.
use Rattle.std.specs.Prelude.{◌≡◌, ℤ, List, [], ◌∷◌, map}
use Rattle.lunit.specs.Units.{clamp}
use Rattle.part_rules.specs.declared.flex.FlexItem.{FlexItem}
use Rattle.part_rules.specs.FlexLines.{hypothetical}

-- The base size of an item is its hypothetical size, and in the range of lengths.
pub record IsSized (i : FlexItem) : Type 0 where
  pub limits : hypothetical i ≡ i.base
  pub units : clamp i.base ≡ i.base

abbrev pub AreSized : List FlexItem → Type 0
AreSized [] = Unit {0}
AreSized (i ∷ items) = IsSized i × AreSized items

-- their base sizes
abbrev pub bases_of : List FlexItem → List ℤ
bases_of items = map (λ (i : FlexItem). i.base) items
