-- Positions of boxes, level by level.
use Rattle.std.proofs.Common.{arith, ◌≡◌, ℕ, ◌+◌, ◌^◌, ◌≤◌, ℤ, ◌+ℤ◌, List, [], ◌∷◌, drop, get_or, length, subst, zero, suc, ◌<◌}
use Rattle.std.proofs.lemmas.Int.{ints}
use Rattle.lunit.specs.Units.{IsLong}
use Rattle.tree_rules.specs.Answers.{Frame}
use Rattle.tree_rules.specs.declared.query.Given.{Given}
use Rattle.tree_rules.specs.declared.query.Given.TheVariants as given
use Rattle.block_sizes.proofs.Seen.{spread_grows}
use Rattle.placing.specs.Spread.{IsSpread}
use Rattle.block_sizes.specs.Wides.{farthest}
use Rattle.box_layout.specs.Ranges.{IsWithin}
use Rattle.box_layout.specs.Stands.{IsGivenNear, StandBelow, StandsBelow, far_by, farthest_child, near_by}

-- a child of a node stands this far
pub next_place : (level : ℕ) (x r : ℤ) → IsWithin (far_by level) x → IsWithin farthest_child r → IsWithin (far_by (level + 1)) (x +ℤ r)
next_place level x r h k = (omega (arith, ints, h.0, k.0), omega (arith, ints, h.1, k.1))

-- a place that is this far at a level lies within the range of positions
pub place_near : (level : ℕ) (x : ℤ) → level ≤ 63 → IsWithin (far_by level) x → IsWithin (2 ^ 56) x
place_near level x few h = (omega (arith, ints, few, h.0), omega (arith, ints, few, h.1))

-- what a node is given is spread no further than its level allows
pub given_spread : (level : ℕ) (g : Given) → IsGivenNear level g → IsSpread (farthest (level + 1)) g
given_spread level given.None h = tt
given_spread level (given.Size x) h = tt
given_spread level (given.Tracks edges gap) h = spread_grows (near_by level) (farthest (level + 1)) edges (omega arith) h.0

-- the frame of an index
pub stands_at : (level : ℕ) (frames : List Frame) (k : ℕ) (d : Frame) → StandBelow level frames → k < length frames → StandsBelow level (get_or frames k d)
stands_at level [] k d h l = absurd (omega (arith, l))
stands_at level (f ∷ frames) zero d h l = h.0
stands_at level (f ∷ frames) (suc k) d h l = stands_at level frames k d h.1 (omega (arith, l))
