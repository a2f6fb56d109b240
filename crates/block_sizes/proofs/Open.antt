-- Tracks that are not collapsed, and what they are moved by.
use Rattle.std.proofs.Common.{arith, ◌≡◌, refl, subst, sym, ℕ, ◌+◌, ◌-◌, ◌*◌, ◌<◌, ◌≤◌, nat_le, ℤ, pos, negsuc, neg_ℤ, ◌*ℤ◌, ◌≤ℤ◌, int_lt, unsigned_abs, Bool, true, false, ◌&&◌, ◌||◌, List, [], ◌∷◌, length, if◌then◌else◌}
use Rattle.std.proofs.lemmas.Int.{ints}
use Rattle.std.proofs.lemmas.Bool.{leb-false}
use Rattle.box_align.proofs.Parts.{within}
use Rattle.lunit.specs.Units.{IsUnits, floor_div}
use Rattle.part_rules.specs.declared.mode.Mode.{Mode}
use Rattle.part_rules.specs.declared.mode.Mode.TheVariants as mode
use Rattle.part_rules.specs.declared.track.Rule.{Rule}
use Rattle.part_rules.specs.Alignment.{content_moved, moved, spreads}
use Rattle.tree_rules.specs.Distribution.{open_tracks}
use Rattle.block_sizes.specs.Moving.{IsFree}

few-by : (collapsed : Bool) (r : Rule) (rest : List Rule) → r.collapsed ≡ collapsed → open_tracks rest ≤ length rest → open_tracks (r ∷ rest) ≤ length (r ∷ rest)
few-by true r rest e h = rw e (omega (arith, h))
few-by false r rest e h = rw e (omega (arith, h))

pub open_few : (rules : List Rule) → open_tracks rules ≤ length rules
open_few [] = omega arith
open_few (r ∷ rest) = few-by r.collapsed r rest refl (open_few rest)

times_few : (n m : ℕ) → n ≤ 1073741824 → m ≤ 131072 → n * m ≤ 140737488355328
times_few n m h k = grind arith

pub gutters_low : (gap : ℤ) (m : ℕ) → IsUnits gap → m ≤ 131072 → neg_ℤ (pos 140737488355328) ≤ℤ (gap *ℤ pos m)
gutters_low (pos n) m h k = omega (arith, ints)
gutters_low (negsuc n) m h k = omega (arith, ints, times_few (n + 1) m (omega (arith, ints, h.0)) k)

pub gutters_high : (gap : ℤ) (m : ℕ) → IsUnits gap → m ≤ 131072 → (gap *ℤ pos m) ≤ℤ pos 140737488355328
gutters_high (pos n) m h k = omega (arith, ints, times_few n m (omega (arith, ints, h.1)) k)
gutters_high (negsuc n) m h k = omega (arith, ints)

-- ---- how far a track is moved

-- a choice between two numbers that are near
near_choice : (b : Bool) (x y : ℤ) (n : ℕ) → unsigned_abs x ≤ n → unsigned_abs y ≤ n → unsigned_abs (if b then x else y) ≤ n
near_choice true x y n h k = h
near_choice false x y n h k = k

between_small : (free : ℤ) (k n : ℕ) → k < n → unsigned_abs (moved mode.Between free k n) ≤ unsigned_abs free
between_small free k n h = go (nat_le n 1) refl
  where
    go : (t : Bool) → nat_le n 1 ≡ t → unsigned_abs (if t then pos 0 else floor_div (free *ℤ pos k) (n - 1)) ≤ unsigned_abs free
    go true e = omega arith
    go false e = within free k (n - 1) (omega (arith, leb-false)) (omega (arith, h))

center_small : (free : ℤ) → unsigned_abs (floor_div free 2) ≤ unsigned_abs free
center_small free =
    let whole : free *ℤ pos 1 ≡ free = omega (arith, ints) in
    let small : unsigned_abs (floor_div (free *ℤ pos 1) 2) ≤ unsigned_abs free = within free 1 2 (omega arith) (omega arith) in
    subst (λ (z : ℤ). unsigned_abs (floor_div z 2) ≤ unsigned_abs free) whole small

moved_small : (m : Mode) (free : ℤ) (k n : ℕ) → k < n → unsigned_abs (moved m free k n) ≤ unsigned_abs free
moved_small mode.Start free k n h = omega arith
moved_small mode.End free k n h = omega arith
moved_small mode.Center free k n h = center_small free
moved_small mode.Stretch free k n h = omega arith
moved_small mode.Between free k n h = between_small free k n h
moved_small mode.Around free k n h = within free (2 * k + 1) (2 * n) (omega (arith, h)) (omega (arith, h))
moved_small mode.Evenly free k n h = within free (k + 1) (n + 1) (omega arith) (omega (arith, h))

pub offset_in_range : (m : Mode) (safe : Bool) (free : ℤ) (k n : ℕ) → IsFree free → k < n → IsFree (content_moved m safe free k n)
offset_in_range m safe free k n h l =
    let small : unsigned_abs (content_moved m safe free k n) ≤ unsigned_abs free = near_choice (int_lt free (pos 0) && (safe || spreads m)) (pos 0) (moved m free k n) (unsigned_abs free) (omega arith) (moved_small m free k n l) in
    (omega (arith, ints, h.0, h.1, small), omega (arith, ints, h.0, h.1, small))

pub offset_near : (z : ℤ) (m : Mode) (safe : Bool) (free : ℤ) (k n : ℕ) → z ≡ content_moved m safe free k n → IsFree free → k < n → IsFree z
offset_near z m safe free k n e h l = subst IsFree (sym e) (offset_in_range m safe free k n h l)
