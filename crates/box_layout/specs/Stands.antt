-- How far the boxes of nodes stand from those of their parents, by the levels of the nodes (own rule: the range of positions).
use Rattle.std.specs.Prelude.{ℕ, ◌+◌, ◌*◌, ◌^◌, List, [], ◌∷◌}
use Rattle.lunit.specs.Units.{IsUnits}
use Rattle.tree_rules.specs.Answers.{Frame}
use Rattle.tree_rules.specs.declared.query.Given.{Given}
use Rattle.tree_rules.specs.declared.query.Given.TheVariants as given
use Rattle.placing.specs.Spread.{AreSpread}
use Rattle.box_layout.specs.Ranges.{IsWithin}

-- how far the edges of the tracks lie from each other and from 0 that a node is given so many levels below a grid that sizes them
abbrev pub near_by : ℕ → ℕ
near_by level = 2 ^ 50 + 2 ^ 34 + 2 ^ 33 * level

-- What a node of this level is given along an axis: a size is a length; tracks are not far from each other, and their gap is a length.
abbrev pub IsGivenNear : ℕ → Given → Type 0
IsGivenNear level given.None = Unit {0}
IsGivenNear level (given.Size x) = IsUnits x
IsGivenNear level (given.Tracks edges gap) = AreSpread (near_by level) edges × IsUnits gap

-- how far a child stands from its parent along an axis, at most
abbrev pub farthest_child : ℕ
farthest_child = 2 ^ 50 + 2 ^ 41

-- how far a node of this level stands from the origin of the viewport along an axis, at most: less than 2^56 for the 64 levels that there are
abbrev pub far_by : ℕ → ℕ
far_by level = 2 ^ 36 + level * farthest_child

-- The frame of a child of a node of this level: where it stands, that its sizes are lengths, and what it is given.
pub record StandsBelow (level : ℕ) (f : Frame) : Type 0 where
  pub x : IsWithin farthest_child f.rect.x
  pub y : IsWithin farthest_child f.rect.y
  pub width : IsUnits f.rect.width
  pub height : IsUnits f.rect.height
  pub inline : IsGivenNear (level + 1) f.inline
  pub block : IsGivenNear (level + 1) f.block

-- each of these frames
abbrev pub StandBelow : ℕ → List Frame → Type 0
StandBelow level [] = Unit {0}
StandBelow level (f ∷ rest) = StandsBelow level f × StandBelow level rest
