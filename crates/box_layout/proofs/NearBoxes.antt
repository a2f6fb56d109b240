-- Where the boxes of a tree stand.
use Rattle.std.proofs.Common.{arith, ◌≡◌, ℕ, zero, suc, ◌+◌, ◌≤◌, ◌^◌, ◌∷◌, ◌++◌, [], List, sym, subst, ℤ, ◌+ℤ◌, drop}
use Rattle.std.proofs.lemmas.Int.{ints}
use Rattle.lunit.specs.Units.{IsLong, IsUnits}
use Rattle.node_arena.specs.declared.number.NodeId.{NodeId}
use Rattle.placing.specs.Nodes.{BareTrees, sight_at}
use Rattle.tree_rules.specs.Answers.{Box, Frame, Pair}
use Rattle.tree_rules.specs.Frames.{moved_by}
use Rattle.tree_rules.specs.Places.{answers_of}
use Rattle.tree_rules.specs.declared.query.Given.{Given}
use Rattle.tree_rules.specs.declared.query.Given.TheVariants as given
use Rattle.placing.specs.Spread.{IsSpread}
use Rattle.block_sizes.specs.Wides.{farthest}
use Rattle.box_layout.specs.Asking.{frames_asked}
use Rattle.box_layout.specs.BoxesSeen.{AreNear, IsNearAt, IsNearRect, frames_seen, reach}
use Rattle.box_layout.specs.Ranges.{IsWithin}
use Rattle.box_layout.specs.Stands.{IsGivenNear, StandBelow, StandsBelow, farthest_child}

-- ---- what is given

pub given_spread : (level : ℕ) (g : Given) → IsGivenNear level g → IsSpread (farthest level) g
given_spread level given.None h = tt
given_spread level (given.Size x) h = tt
given_spread level (given.Tracks edges gap) h = record { low = h.0.low; high = h.0.high; below = h.0.below; above = h.0.above; width = omega (arith, ints, h.0.width); between = h.0.between }

-- ---- children

pub stands_at : (level : ℕ) (frames rest : List Frame) (i : ℕ) (f : Frame) → StandBelow level frames → drop i frames ≡ f ∷ rest → StandsBelow level f
stands_at level [] rest zero f h e = absurd cc
stands_at level [] rest (suc i) f h e = absurd cc
stands_at level (x ∷ xs) rest zero f h e = let same : x ≡ f = cc in subst (StandsBelow level) same h.0
stands_at level (x ∷ xs) rest (suc i) f h e = stands_at level xs rest i f h.1 e

pub stand_seen : (b : BareTrees) (n : NodeId) (level : ℕ) (reps : List Pair) (inline block : Given) → StandBelow level (((answers_of (sight_at b n)).down reps inline).frames block) → StandBelow level (frames_seen b n (frames_asked reps inline block))
unfolding frames_seen
stand_seen b n level reps inline block h = h

within_more : (level : ℕ) (x z : ℤ) → 1 ≤ level → level + 1 ≤ 64 → IsWithin (reach level) x → IsWithin farthest_child z → IsWithin (reach (level + 1)) (x +ℤ z)
within_more level x z some top h k =
    let more : reach (level + 1) ≡ reach level + farthest_child = omega (arith, some, top) in
    (omega (arith, ints, h.0, k.0, more), omega (arith, ints, h.1, k.1, more))

pub near_child : (level lower : ℕ) (x y : ℤ) (f : Frame) → 1 ≤ level → lower ≡ level + 1 → lower ≤ 64 → IsWithin (reach level) x → IsWithin (reach level) y → StandsBelow level f → IsNearAt lower x y f
near_child level lower x y f some next top h k s =
    subst (λ (l : ℕ). IsNearAt l x y f) (sym next)
    (record {
      x = within_more level x f.rect.x some (omega (arith, next, top)) h s.x;
      y = within_more level y f.rect.y some (omega (arith, next, top)) k s.y;
      width = s.width;
      height = s.height;
      inline = s.inline;
      block = s.block;
    })

-- ---- boxes

units_within : (z : ℤ) → IsUnits z → IsWithin (2 ^ 56) z
units_within z h = (omega (arith, ints, h.0), omega (arith, ints, h.1))

reached : (level : ℕ) (z : ℤ) → IsWithin (reach level) z → IsWithin (2 ^ 56) z
reached level z h = (omega (arith, ints, h.0), omega (arith, ints, h.1))

pub near_rect : (level : ℕ) (x y : ℤ) (f : Frame) → IsNearAt level x y f → IsNearRect (moved_by (x, y) f.rect)
near_rect level x y f h = record { x = reached level (x +ℤ f.rect.x) h.x; y = reached level (y +ℤ f.rect.y) h.y; width = units_within f.rect.width h.width; height = units_within f.rect.height h.height }

pub near_both : (xs ys : List Box) → AreNear xs → AreNear ys → AreNear (xs ++ ys)
near_both [] ys h all = all
near_both (x ∷ xs) ys h all = (h.0, near_both xs ys h.1 all)

pub long : (level : ℕ) (z : ℤ) → IsWithin (reach level) z → IsLong z
long level z h = (omega (arith, ints, h.0), omega (arith, ints, h.1))
