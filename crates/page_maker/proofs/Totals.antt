-- Sums over boxes modulo 2^64, from one end to the other.
use Rattle.std.proofs.Common.{◌≡◌, refl, sym, ap, ◌∙◌, ℕ, ℤ, pos, negsuc, suc, ◌+◌, ◌*◌, ◌%◌, ◌^◌, ◌+ℤ◌, ◌<◌, ◌≤◌, List, length, drop, get_or, drop-cons, add-one, unsigned_abs, arith}
use Rattle.std.proofs.lemmas.Int.{ints, int_rem_euclid_is}
use Rattle.std.proofs.lemmas.List.{drop_all}
use Rattle.lunit.specs.declared.geometry.Rect.{Rect}
use Rattle.page_maker.specs.Sums.{weighted, sum_of, rest_of, checksum}

abbrev Box : Type 0
Box = List ℕ × Rect

-- ---- numbers modulo 2^64

-- a whole number that is natural once some times 2^64 are added
record IsLifted (z : ℤ) : Type 0 where
  pub times : ℕ
  pub number : ℕ
  pub is : z +ℤ pos (times * 18446744073709551616) ≡ pos number

lifted : (z : ℤ) → IsLifted z
lifted (pos n) = record { times = 0; number = n; is = omega (arith, ints) }
lifted (negsuc n) = record { times = suc n; number = suc n * 18446744073709551615; is = omega (arith, ints) }

rest_is : (z : ℤ) (times number : ℕ) → z +ℤ pos (times * 18446744073709551616) ≡ pos number → rest_of z ≡ number % 18446744073709551616
unfolding rest_of
rest_is z times number e = ap unsigned_abs (int_rem_euclid_is z (pos 18446744073709551616) 18446744073709551616 times number (omega arith) refl e)

-- a sum of what is left leaves what the sum leaves
rest_again : (y z : ℤ) → rest_of (pos (rest_of y) +ℤ z) ≡ rest_of (y +ℤ z)
rest_again y z =
    let a = lifted y in
    let b = lifted z in
    let first : rest_of y ≡ a.number % 18446744073709551616 = rest_is y a.times a.number a.is in
    let all : rest_of (y +ℤ z) ≡ (a.number + b.number) % 18446744073709551616 = rest_is (y +ℤ z) (a.times + b.times) (a.number + b.number) (omega (arith, ints, a.is, b.is)) in
    let next : rest_of (pos (a.number % 18446744073709551616) +ℤ z) ≡ (a.number % 18446744073709551616 + b.number) % 18446744073709551616 = rest_is (pos (a.number % 18446744073709551616) +ℤ z) b.times (a.number % 18446744073709551616 + b.number) (omega (arith, ints, b.is)) in
    let same : (a.number % 18446744073709551616 + b.number) % 18446744073709551616 ≡ (a.number + b.number) % 18446744073709551616 = omega arith in
    ap (λ (n : ℕ). rest_of (pos n +ℤ z)) first ∙ next ∙ same ∙ sym all

rest_small : (n : ℕ) → n < 18446744073709551616 → rest_of (pos n) ≡ n
rest_small n h = rest_is (pos n) 0 n (omega (arith, ints)) ∙ omega (arith, h)

-- ---- boxes, one after another

sum_of-drop : (boxes : List Box) (i : ℕ) (box : Box) → i < length boxes → sum_of (drop i boxes) ≡ weighted (get_or boxes i box).1 +ℤ sum_of (drop (i + 1) boxes)
sum_of-drop boxes i box h = rw add-one (ap sum_of (drop-cons boxes i box h))

pub total_first : (boxes : List Box) → rest_of (pos 0 +ℤ sum_of boxes) ≡ checksum boxes
total_first boxes = ap rest_of (let e : pos 0 +ℤ sum_of boxes ≡ sum_of boxes = omega (arith, ints) in e)

pub total_step : (total : ℕ) (boxes : List Box) (i : ℕ) (box : Box) → i < length boxes
    → rest_of (pos (rest_of (pos total +ℤ weighted (get_or boxes i box).1)) +ℤ sum_of (drop (i + 1) boxes)) ≡ rest_of (pos total +ℤ sum_of (drop i boxes))
total_step total boxes i box h =
    let next : sum_of (drop i boxes) ≡ weighted (get_or boxes i box).1 +ℤ sum_of (drop (i + 1) boxes) = sum_of-drop boxes i box h in
    let regrouped : (pos total +ℤ weighted (get_or boxes i box).1) +ℤ sum_of (drop (i + 1) boxes) ≡ pos total +ℤ sum_of (drop i boxes) = omega (arith, ints, next) in
    rest_again (pos total +ℤ weighted (get_or boxes i box).1) (sum_of (drop (i + 1) boxes)) ∙ ap rest_of regrouped

pub total_end : (total : ℕ) (boxes : List Box) (i : ℕ) → length boxes ≤ i → total < 2 ^ 64 → rest_of (pos total +ℤ sum_of (drop i boxes)) ≡ total
total_end total boxes i h small =
    let none : sum_of (drop i boxes) ≡ pos 0 = ap sum_of (drop_all i boxes h) in
    let same : pos total +ℤ sum_of (drop i boxes) ≡ pos total = omega (arith, ints, none) in
    ap rest_of same ∙ rest_small total small

pub ruleset sum_laws = (total_first, total_step, total_end)
