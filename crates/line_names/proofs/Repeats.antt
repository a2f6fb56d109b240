-- Repetitions by division.
use Rattle.std.proofs.Common.{arith, rules, refl, sym, ap, ◌∙◌, ◌≡◌, ℕ, zero, suc, ◌+◌, ◌-◌, ◌*◌, ◌/◌, ◌<◌, ◌≤◌, min, ℤ, pos, negsuc, ◌+ℤ◌, ◌-ℤ◌, ◌≤ℤ◌, ◌<ℤ◌, true, List, [], ◌∷◌, ◌++◌, length, take, get_or}
use Rattle.std.specs.Prelude.{int_le}
use Rattle.std.specs.Int.{int_min}
use Rattle.std.proofs.Math.Nat.{mul-le-mul_left}
use Rattle.std.proofs.lemmas.Int.{ints}
use Rattle.std.proofs.lemmas.Bool.{and_parts}
use Rattle.std.proofs.lemmas.List.{take_more}
use Rattle.std.proofs.lemmas.Int.{int_max_is, int_min_is}
use Rattle.lunit.specs.Units.{clamp, floor_div, top, bottom}
use Rattle.part_rules.specs.Lists.{sum_of, above_zero}
use Rattle.part_rules.specs.declared.names.RepeatSpace.TheVariants.{Fits, Fills}
use Rattle.part_rules.specs.Repetition.{total_with, step_of, further_fitting, further_filling, repetitions}
use Rattle.part_rules.proofs.Floor.{floor_div_low, cancel}
use Rattle.part_rules.proofs.Repeats.{by_division}
use Rattle.line_names.specs.Repeats.{are_counted, IsSum, IsRoom}

-- ---- sums

from_test : (a b : ℤ) → int_le a b ≡ true → a ≤ℤ b
from_test a b h = search rules

counted_at : (xs : List ℤ) (i : ℕ) (d : ℤ) → are_counted xs ≡ true → i < length xs → pos 64 ≤ℤ get_or xs i d
counted_at [] i d h k = absurd (omega arith)
counted_at (x ∷ xs) zero d h k = from_test (pos 64) x (and_parts (int_le (pos 64) x) (are_counted xs) h).0
counted_at (x ∷ xs) (suc i) d h k = counted_at xs i d (and_parts (int_le (pos 64) x) (are_counted xs) h).1 (omega arith)

sum_of-append : (xs ys : List ℤ) → sum_of (xs ++ ys) ≡ sum_of xs +ℤ sum_of ys
sum_of-append [] ys = omega (arith, ints)
sum_of-append (x ∷ xs) ys = omega (arith, ints, sum_of-append xs ys)

sum_more : (xs : List ℤ) (i : ℕ) (d : ℤ) → i < length xs → sum_of (take (i + 1) xs) ≡ sum_of (take i xs) +ℤ get_or xs i d
sum_more xs i d h = omega (arith, ints, ap sum_of (take_more xs i d h), sum_of-append (take i xs) (get_or xs i d ∷ []))

-- one length more
pub sum_next : (xs : List ℤ) (i : ℕ) (now x next : ℤ) → i < length xs → are_counted xs ≡ true → x ≡ get_or xs i x → x ≤ℤ pos 1073741824 → next ≡ now +ℤ x → now ≡ sum_of (take i xs) → IsSum i now → (next ≡ sum_of (take (i + 1) xs)) × IsSum (i + 1) next
sum_next xs i now x next h all e high s f range =
    let low : pos 64 ≤ℤ get_or xs i x = counted_at xs i x all h in
    (omega (arith, ints, s, f, e, sum_more xs i x h), record { low = omega (arith, ints, s, e, low, range.low); high = omega (arith, ints, s, high, range.high) })

sum_low : (xs : List ℤ) → are_counted xs ≡ true → pos (64 * length xs) ≤ℤ sum_of xs
sum_low [] h = omega (arith, ints)
sum_low (x ∷ xs) h =
    let parts : (int_le (pos 64) x ≡ true) × (are_counted xs ≡ true) = and_parts (int_le (pos 64) x) (are_counted xs) h in
    omega (arith, ints, from_test (pos 64) x parts.0, sum_low xs parts.1)

-- ---- the step

-- a gutter more than the gutters of one repetition
gutters_up : (g a b : ℕ) → 0 < b → g * b ≤ g * (a + b * 1 - 1) + g
gutters_up g a b h =
    let more : g * b ≤ g * (a + b * 1 - 1 + 1) = mul-le-mul_left g (omega arith) in
    omega (arith, more)

-- where one repetition is less than a length, a step is not more than three times the greatest length
pub step_short : (fixed repeated : List ℤ) (gap size : ℤ) → are_counted fixed ≡ true → are_counted repeated ≡ true → 0 < length repeated → pos 0 ≤ℤ gap → gap ≤ℤ pos 1073741824 → size ≤ℤ pos 1073741824 → total_with fixed repeated gap 1 <ℤ size → step_of repeated gap ≤ℤ pos 4294967296
step_short fixed repeated (pos g) size f r some low most high less =
    omega (arith, ints, less, high, most, sum_low fixed f, sum_low repeated r, gutters_up g (length fixed) (length repeated) some)
step_short fixed repeated (negsuc g) size f r some low most high less = absurd (omega (arith, ints, low))

pub step_some : (repeated : List ℤ) (gap : ℤ) → are_counted repeated ≡ true → 0 < length repeated → pos 0 ≤ℤ gap → pos 0 <ℤ step_of repeated gap
step_some repeated (pos g) r some low = omega (arith, ints, sum_low repeated r)
step_some repeated (negsuc g) r some low = absurd (omega (arith, ints, low))

-- ---- the quotient

none_above : (z : ℤ) → z ≤ℤ pos 0 → above_zero z ≡ 0
none_above (pos n) h = omega (arith, ints)
none_above (negsuc n) h = refl

quotient_none : (room : ℤ) (d : ℕ) → 0 < d → room <ℤ pos d → above_zero (floor_div room d) ≡ 0
quotient_none room d some h = none_above (floor_div room d) (cancel (floor_div room d) (pos 0) d (omega (arith, ints, floor_div_low room d some)))

quotient_is : (r d : ℕ) → 0 < d → above_zero (floor_div (pos r) d) ≡ r / d
unfolding floor_div
quotient_is r d h = refl

none_fit : (step room : ℤ) → pos 0 <ℤ step → room ≤ℤ pos 0 → further_fitting step room ≡ 0
none_fit (pos zero) room some h = absurd (omega (arith, ints))
none_fit (pos (suc s)) room some h = ap (λ n. min n 9999) (quotient_none room (suc s) (omega arith) (omega (arith, ints)))
none_fit (negsuc s) room some h = absurd (omega (arith, ints))

none_fill : (step room : ℤ) → pos 0 <ℤ step → room ≤ℤ pos 0 → further_filling step room ≡ 0
none_fill (pos zero) room some h = absurd (omega (arith, ints))
none_fill (pos (suc s)) room some h = ap (λ n. min n 9999) (quotient_none (room +ℤ pos s) (suc s) (omega arith) (omega (arith, ints)))
none_fill (negsuc s) room some h = absurd (omega (arith, ints))

some_fit : (s r : ℕ) → 0 < s → further_fitting (pos s) (pos r) ≡ min (r / s) 9999
some_fit zero r h = absurd (omega arith)
some_fit (suc s) r h = ap (λ n. min n 9999) (quotient_is r (suc s) (omega arith))

some_fill : (s r : ℕ) → 0 < s → further_filling (pos s) (pos r) ≡ min ((r + (s - 1)) / s) 9999
some_fill zero r h = absurd (omega arith)
some_fill (suc s) r h =
    let less : s ≡ suc s - 1 = omega arith in
    ap (λ n. min n 9999) (quotient_is (r + s) (suc s) (omega arith) ∙ ap (λ n. (r + n) / suc s) less)

-- ---- repetitions

pub fits_once : (fixed repeated : List ℤ) (gap size : ℤ) → pos 0 <ℤ step_of repeated gap → (size -ℤ total_with fixed repeated gap 1) ≤ℤ pos 0 → repetitions fixed repeated gap (Fits size) ≡ 1
fits_once fixed repeated gap size some h =
    sym (by_division fixed repeated gap (Fits size)) ∙ ap (λ n. n + 1) (none_fit (step_of repeated gap) (size -ℤ total_with fixed repeated gap 1) some h)

pub fills_once : (fixed repeated : List ℤ) (gap size : ℤ) → pos 0 <ℤ step_of repeated gap → (size -ℤ total_with fixed repeated gap 1) ≤ℤ pos 0 → repetitions fixed repeated gap (Fills size) ≡ 1
fills_once fixed repeated gap size some h =
    sym (by_division fixed repeated gap (Fills size)) ∙ ap (λ n. n + 1) (none_fill (step_of repeated gap) (size -ℤ total_with fixed repeated gap 1) some h)

pub fits_divided : (fixed repeated : List ℤ) (gap size : ℤ) (r s : ℕ) → IsRoom (size -ℤ total_with fixed repeated gap 1) (step_of repeated gap) r s → repetitions fixed repeated gap (Fits size) ≡ min (r / s) 9999 + 1
fits_divided fixed repeated gap size r s h =
    sym (by_division fixed repeated gap (Fits size))
    ∙ ap (λ z. further_fitting z (size -ℤ total_with fixed repeated gap 1) + 1) h.step_is
    ∙ ap (λ z. further_fitting (pos s) z + 1) h.room_is
    ∙ ap (λ n. n + 1) (some_fit s r h.some_step)

pub fills_divided : (fixed repeated : List ℤ) (gap size : ℤ) (r s : ℕ) → IsRoom (size -ℤ total_with fixed repeated gap 1) (step_of repeated gap) r s → repetitions fixed repeated gap (Fills size) ≡ min ((r + (s - 1)) / s) 9999 + 1
fills_divided fixed repeated gap size r s h =
    sym (by_division fixed repeated gap (Fills size))
    ∙ ap (λ z. further_filling z (size -ℤ total_with fixed repeated gap 1) + 1) h.step_is
    ∙ ap (λ z. further_filling (pos s) z + 1) h.room_is
    ∙ ap (λ n. n + 1) (some_fill s r h.some_step)

pub ruleset counted_fits = (fits_once, fits_divided)

pub ruleset counted_fills = (fills_once, fills_divided)

-- ---- the room

pub limited_none : (z : ℤ) → clamp z ≤ℤ pos 0 → z ≤ℤ pos 0
unfolding clamp
limited_none z h = omega (arith, ints, h, int_max_is bottom (int_min top z), int_min_is top z)

pub limited_some : (z : ℤ) → z ≤ℤ pos 1073741824 → pos 0 <ℤ clamp z → clamp z ≡ z
unfolding clamp
limited_some z h k = omega (arith, ints, h, k, int_max_is bottom (int_min top z), int_min_is top z)

pub limited_high : (z : ℤ) → clamp z ≤ℤ pos 1073741824
unfolding clamp
limited_high z = omega (arith, ints, int_max_is bottom (int_min top z), int_min_is top z)

pub ruleset limited = (limited_none, limited_some, limited_high)
