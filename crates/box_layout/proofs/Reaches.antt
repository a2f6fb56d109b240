-- How far content distribution moves a subject: no further than the space that it has.
use Rattle.std.proofs.Common.{arith, ◌≡◌, refl, ℕ, ℤ, pos, negsuc, ◌+◌, ◌-◌, ◌*◌, ◌^◌, ◌<◌, ◌≤◌, ◌*ℤ◌, nat_le, int_lt, Bool, true, false, ◌&&◌, ◌||◌, if◌then◌else◌}
use Rattle.std.specs.Prelude.{unsigned_abs}
use Rattle.std.proofs.lemmas.Int.{ints}
use Rattle.std.proofs.lemmas.Bool.{leb-false}
use Rattle.lunit.specs.Units.{floor_div}
use Rattle.part_rules.specs.declared.mode.Mode.{Mode}
use Rattle.part_rules.specs.declared.mode.Mode.TheVariants.{Start, End, Center, Stretch, Between, Around, Evenly}
use Rattle.part_rules.specs.Alignment.{content_moved, moved, spreads}
use Rattle.part_rules.proofs.Floor.{floor_div_low, floor_div_high}
use Rattle.box_align.proofs.Parts.{within}
use Rattle.box_layout.specs.Ranges.{IsFree}

pub free_near : (z : ℤ) → IsFree z → unsigned_abs z ≤ 2 ^ 56
free_near (pos n) h = omega (arith, ints, h.1)
free_near (negsuc n) h = omega (arith, ints, h.0)

free_abs : (z : ℤ) → IsFree z → unsigned_abs z ≤ 2 ^ 49
free_abs (pos n) h = omega (arith, ints, h.1)
free_abs (negsuc n) h = omega (arith, ints, h.0)

abs_free : (z : ℤ) → unsigned_abs z ≤ 2 ^ 49 → IsFree z
abs_free (pos n) h = (omega (arith, ints, h), omega (arith, ints, h))
abs_free (negsuc n) h = (omega (arith, ints, h), omega (arith, ints, h))

none_free : IsFree (pos 0)
none_free = (omega (arith, ints), omega (arith, ints))

part_free : (z : ℤ) (count of : ℕ) → 0 < of → count ≤ of → IsFree z → IsFree (floor_div (z *ℤ pos count) of)
part_free z count of some h f = abs_free (floor_div (z *ℤ pos count) of) (omega (arith, within z count of some h, free_abs z f))

half_free : (z : ℤ) → IsFree z → IsFree (floor_div z 2)
half_free z h =
    let low = floor_div_low z 2 (omega arith) in
    let high = floor_div_high z 2 (omega arith) in
    (omega (arith, ints, low, high, h.0, h.1), omega (arith, ints, low, high, h.0, h.1))

between_free : (z : ℤ) (k n : ℕ) → k < n → IsFree z → IsFree (moved Between z k n)
between_free z k n l h = by (nat_le n 1) refl
  where
    by : (t : Bool) → nat_le n 1 ≡ t → IsFree (if t then pos 0 else floor_div (z *ℤ pos k) (n - 1))
    by true e = none_free
    by false e = let more : 1 < n = leb-false n 1 e in part_free z k (n - 1) (omega arith) (omega arith) h

all_moved : (mode : Mode) (z : ℤ) (k n : ℕ) → k < n → IsFree z → IsFree (moved mode z k n)
all_moved Start z k n l h = none_free
all_moved End z k n l h = h
all_moved Center z k n l h = half_free z h
all_moved Stretch z k n l h = none_free
all_moved Between z k n l h = between_free z k n l h
all_moved Around z k n l h = part_free z (2 * k + 1) (2 * n) (omega arith) (omega arith) h
all_moved Evenly z k n l h = part_free z (k + 1) (n + 1) (omega arith) (omega arith) h

chosen : (b : Bool) (x : ℤ) → IsFree x → IsFree (if b then pos 0 else x)
chosen true x h = none_free
chosen false x h = h

pub moved_free : (mode : Mode) (safe : Bool) (z : ℤ) (k n : ℕ) → k < n → IsFree z → IsFree (content_moved mode safe z k n)
moved_free mode safe z k n l h = chosen (int_lt z (pos 0) && (safe || spreads mode)) (moved mode z k n) (all_moved mode z k n l h)

pub ruleset reach_laws = (free_near, moved_free)
