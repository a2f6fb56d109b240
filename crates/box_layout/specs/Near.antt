-- How far from the border box of their parent the children of a flex container stand.
use Rattle.std.specs.Prelude.{ℕ, ℤ, ◌^◌, List, [], ◌∷◌}
use Rattle.lunit.specs.Units.{IsUnits}
use Rattle.placing.specs.Ranges.{IsGridStyle}
use Rattle.tree_rules.specs.Frames as rules
use Rattle.box_layout.specs.Ranges.{IsWithin}

-- lengths in their range
abbrev pub AreUnits : List ℤ → Type 0
AreUnits [] = Unit {0}
AreUnits (z ∷ rest) = IsUnits z × AreUnits rest

-- a child of a style in range, with sizes in the range of lengths
pub record IsSized (s : rules.Sitting) : Type 0 where
  pub main : IsUnits s.main
  pub cross : IsUnits s.cross
  pub grid : IsGridStyle s.settled.member.kid.label.grid

abbrev pub AreSized : List rules.Sitting → Type 0
AreSized [] = Unit {0}
AreSized (s ∷ rest) = IsSized s × AreSized rest

-- a frame whose position has a magnitude of at most 2^50: 64 of them sum to at most 2^56
pub record StandsNear (e : ℕ × rules.Framed) : Type 0 where
  pub x : IsWithin (2 ^ 50) e.1.frame.rect.x
  pub y : IsWithin (2 ^ 50) e.1.frame.rect.y

abbrev pub StandNear : List (ℕ × rules.Framed) → Type 0
StandNear [] = Unit {0}
StandNear (e ∷ rest) = StandsNear e × StandNear rest
