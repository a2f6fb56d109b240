-- The ends of content whose rest stands between the subjects.
use Rattle.std.proofs.Common.{arith, ap, ◌≡◌, ◌∙◌, refl, true≢false, ℕ, ℤ, pos, ◌-◌, ◌<◌, ◌*ℤ◌, ◌≤ℤ◌, Bool, true, false, ◌&&◌, ◌||◌, nat_le, int_lt, if◌then◌else◌}
use Rattle.std.proofs.lemmas.Int.{ints}
use Rattle.std.proofs.lemmas.Bool.{leb-true, leb-false}
use Rattle.lunit.specs.Units.{floor_div}
use Rattle.part_rules.specs.declared.mode.Mode.TheVariants.{Between}
use Rattle.part_rules.specs.Alignment.{content_moved, moved}
use Rattle.part_rules.proofs.Floor.{floor_div-times, floor_div-none}

-- a choice between two equal values
either : {A : Type 0} (b : Bool) (x : A) → (if b then x else x) ≡ x
either true x = refl
either false x = refl

-- a test that is not met leaves the other value
second : {A : Type 0} (b : Bool) (x y : A) → b ≡ false → (if b then x else y) ≡ y
second true x y e = absurd (true≢false e)
second false x y e = refl

not_below : (free : ℤ) (b : Bool) → pos 0 ≤ℤ free → (int_lt free (pos 0) && b) ≡ false
not_below free b some = by (int_lt free (pos 0)) refl
  where
    by : (t : Bool) → int_lt free (pos 0) ≡ t → (t && b) ≡ false
    by true e = absurd (omega (arith, ints))
    by false e = refl

not_one : (n : ℕ) → 1 < n → nat_le n 1 ≡ false
not_one n two = by (nat_le n 1) refl
  where
    by : (t : Bool) → nat_le n 1 ≡ t → t ≡ false
    by true e = absurd (omega (arith, leb-true))
    by false e = refl

-- Space between the subjects leaves the first at the start.
pub between_first : (safe : Bool) (free : ℤ) (n : ℕ) → content_moved Between safe free 0 n ≡ pos 0
between_first safe free n = ap (λ (z : ℤ). if int_lt free (pos 0) && (safe || true) then pos 0 else z) (first (nat_le n 1) refl) ∙ either (int_lt free (pos 0) && (safe || true)) (pos 0)
  where
    first : (t : Bool) → nat_le n 1 ≡ t → (if t then pos 0 else floor_div (free *ℤ pos 0) (n - 1)) ≡ pos 0
    first true e = refl
    first false e = floor_div-none free (n - 1) (omega (arith, leb-false))

-- Space between the subjects moves the last to the end.
pub between_last : (safe : Bool) (free : ℤ) (n : ℕ) → pos 0 ≤ℤ free → 1 < n → content_moved Between safe free (n - 1) n ≡ free
between_last safe free n some two =
    second (int_lt free (pos 0) && (safe || true)) (pos 0) (moved Between free (n - 1) n) (not_below free (safe || true) some)
    ∙ second (nat_le n 1) (pos 0) (floor_div (free *ℤ pos (n - 1)) (n - 1)) (not_one n two)
    ∙ floor_div-times free (n - 1) (omega arith)
