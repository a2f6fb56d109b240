-- Where the strips lie.
use Rattle.std.proofs.Common.{arith, sym, ap, ◌∙◌, ◌≡◌, ℕ, zero, suc, ◌+◌, ◌*◌, ◌<◌, ◌≤◌, ◌^◌, ℤ, pos, negsuc, ◌+ℤ◌, ◌-ℤ◌, ◌*ℤ◌, ◌≤ℤ◌, ◌<ℤ◌, int_lt, List, [], ◌∷◌, ◌++◌, length, get_or, below_more, length-append}
use Rattle.std.specs.Prelude.{unsigned_abs, fold}
use Rattle.std.specs.List.{All}
use Rattle.std.specs.Int.{int_max, int_min}
use Rattle.std.proofs.lemmas.Bool.{cond_both}
use Rattle.std.proofs.lemmas.Int.{ints, clamps, unsigned_abs-mul}
use Rattle.std.proofs.lemmas.Nat.{mul-le}
use Rattle.std.proofs.Math.Nat.{mul-le-mul_left}
use Rattle.std.proofs.Math.ListN.{get_or-append}
use Rattle.std.proofs.Math.Seq.{get_or-append_seam}
use Rattle.std.proofs.lemmas.List.Elements.{All-head, All-tail}
use Rattle.lunit.specs.Units.{floor_div, IsWide}
use Rattle.lunit.specs.declared.geometry.Rect.{Rect}
use Rattle.lunit.proofs.RoundedDown.{floor_low, floor_high}
use Rattle.hit_index.specs.Hits.{IsSmallRect}
use Rattle.hit_index.specs.Strips.{bottom_of, edge, edge_between, top_of, AreEdges, AreRising}

-- ---- small numbers

small_min : (n : ℕ) (a b : ℤ) → unsigned_abs a ≤ n → unsigned_abs b ≤ n → unsigned_abs (int_min a b) ≤ n
small_min n a b p q = cond_both (int_lt b a) b a (λ z. unsigned_abs z ≤ n) (λ _. q) (λ _. p)

small_max : (n : ℕ) (a b : ℤ) → unsigned_abs a ≤ n → unsigned_abs b ≤ n → unsigned_abs (int_max a b) ≤ n
small_max n a b p q = cond_both (int_lt b a) a b (λ z. unsigned_abs z ≤ n) (λ _. p) (λ _. q)

small_sum : (a b : ℤ) → unsigned_abs a ≤ 2 ^ 56 → unsigned_abs b ≤ 2 ^ 56 → unsigned_abs (a +ℤ b) ≤ 2 ^ 57
small_sum a b p q = omega (arith, ints)

pub small_height : (top bottom : ℤ) → unsigned_abs top ≤ 2 ^ 56 → unsigned_abs bottom ≤ 2 ^ 57 → unsigned_abs (bottom -ℤ top) ≤ 2 ^ 58
small_height top bottom p q = omega (arith, ints)

small_product : (height : ℤ) (j : ℕ) → unsigned_abs height ≤ 2 ^ 58 → j < 65 → unsigned_abs (height *ℤ pos j) ≤ 2 ^ 64
small_product height j p q =
    let product : unsigned_abs height * j ≤ 2 ^ 58 * 64 = mul-le (unsigned_abs height) j (2 ^ 58) 64 p (omega arith) in
    rw (unsigned_abs-mul height (pos j)) (omega arith)

small_is_wide : (z : ℤ) → unsigned_abs z ≤ 2 ^ 64 → IsWide z
small_is_wide z p = (omega (arith, ints), omega (arith, ints))

pub product_is_wide : (height : ℤ) (j : ℕ) → unsigned_abs height ≤ 2 ^ 58 → j < 65 → IsWide (height *ℤ pos j)
product_is_wide height j p q = small_is_wide (height *ℤ pos j) (small_product height j p q)

-- what is that much, and divided by 64
pub floor_is_small : (height : ℤ) (j : ℕ) → unsigned_abs height ≤ 2 ^ 58 → j < 65 → unsigned_abs (floor_div (height *ℤ pos j) 64) ≤ 2 ^ 59
floor_is_small height j p q = near (height *ℤ pos j) (floor_div (height *ℤ pos j) 64) (small_product height j p q) (floor_low (height *ℤ pos j) 64 (omega arith)) (floor_high (height *ℤ pos j) 64 (omega arith))
  where
    near : (z f : ℤ) → unsigned_abs z ≤ 2 ^ 64 → (f *ℤ pos 64) ≤ℤ z → z <ℤ (f *ℤ pos 64 +ℤ pos 64) → unsigned_abs f ≤ 2 ^ 59
    near z f p l h = omega (arith, ints)

-- ---- the steps to an edge

pub product_is_wide_at : (top bottom height : ℤ) (j : ℕ) → unsigned_abs top ≤ 2 ^ 56 → unsigned_abs bottom ≤ 2 ^ 57 → j < 65 → height ≡ (bottom -ℤ top) → IsWide (height *ℤ pos j)
product_is_wide_at top bottom height j t b l h = product_is_wide height j (rw h (small_height top bottom t b)) l

pub edge_is_small : (top bottom height product floor : ℤ) (j : ℕ) → unsigned_abs top ≤ 2 ^ 56 → unsigned_abs bottom ≤ 2 ^ 57 → j < 65 → height ≡ (bottom -ℤ top) → product ≡ (height *ℤ pos j) → floor ≡ floor_div product 64 → unsigned_abs (top +ℤ floor) ≤ 2 ^ 60
edge_is_small top bottom height product floor j t b l h p f =
    let small : unsigned_abs floor ≤ 2 ^ 59 = rw (f, p) (floor_is_small height j (rw h (small_height top bottom t b)) l) in
    omega (arith, ints)

pub edge_is : (top bottom height product floor : ℤ) (j : ℕ) → height ≡ (bottom -ℤ top) → product ≡ (height *ℤ pos j) → floor ≡ floor_div product 64 → (top +ℤ floor) ≡ edge_between top bottom j
unfolding edge_between
edge_is top bottom height product floor j h p f = ap (λ z. top +ℤ z) (f ∙ ap (λ z. floor_div z 64) (p ∙ ap (λ z. z *ℤ pos j) h))

-- ---- top and bottom

abbrev least : ℤ → List Rect → ℤ
least z boxes = fold (λ (top : ℤ) (other : Rect). int_min top other.y) z boxes

abbrev greatest : ℤ → List Rect → ℤ
greatest z boxes = fold (λ (bottom : ℤ) (other : Rect). int_max bottom (other.y +ℤ other.height)) z boxes

least_start : (z : ℤ) (boxes : List Rect) → least z boxes ≤ℤ z
least_start z [] = omega (arith, ints)
least_start z (box ∷ boxes) = omega (arith, ints, clamps, least_start (int_min z box.y) boxes)

least_each : (z : ℤ) (boxes : List Rect) (i : ℕ) (d : Rect) → i < length boxes → least z boxes ≤ℤ (get_or boxes i d).y
least_each z [] i d h = absurd (omega (arith, h))
least_each z (box ∷ boxes) zero d h = omega (arith, ints, clamps, least_start (int_min z box.y) boxes)
least_each z (box ∷ boxes) (suc i) d h = least_each (int_min z box.y) boxes i d (omega (arith, h))

greatest_start : (z : ℤ) (boxes : List Rect) → z ≤ℤ greatest z boxes
greatest_start z [] = omega (arith, ints)
greatest_start z (box ∷ boxes) = omega (arith, ints, clamps, greatest_start (int_max z (box.y +ℤ box.height)) boxes)

greatest_each : (z : ℤ) (boxes : List Rect) (i : ℕ) (d : Rect) → i < length boxes → ((get_or boxes i d).y +ℤ (get_or boxes i d).height) ≤ℤ greatest z boxes
greatest_each z [] i d h = absurd (omega (arith, h))
greatest_each z (box ∷ boxes) zero d h = omega (arith, ints, clamps, greatest_start (int_max z (box.y +ℤ box.height)) boxes)
greatest_each z (box ∷ boxes) (suc i) d h = greatest_each (int_max z (box.y +ℤ box.height)) boxes i d (omega (arith, h))

least_small : (z : ℤ) (boxes : List Rect) → unsigned_abs z ≤ 2 ^ 56 → All IsSmallRect boxes → unsigned_abs (least z boxes) ≤ 2 ^ 56
least_small z [] h s = h
least_small z (box ∷ boxes) h s = least_small (int_min z box.y) boxes (small_min (2 ^ 56) z box.y h (All-head IsSmallRect box boxes s).y) (All-tail IsSmallRect box boxes s)

end_small : (box : Rect) → IsSmallRect box → unsigned_abs (box.y +ℤ box.height) ≤ 2 ^ 57
end_small box s = small_sum box.y box.height s.y s.height

greatest_small : (z : ℤ) (boxes : List Rect) → unsigned_abs z ≤ 2 ^ 57 → All IsSmallRect boxes → unsigned_abs (greatest z boxes) ≤ 2 ^ 57
greatest_small z [] h s = h
greatest_small z (box ∷ boxes) h s = greatest_small (int_max z (box.y +ℤ box.height)) boxes (small_max (2 ^ 57) z (box.y +ℤ box.height) h (end_small box (All-head IsSmallRect box boxes s))) (All-tail IsSmallRect box boxes s)

pub top_small : (boxes : List Rect) → All IsSmallRect boxes → unsigned_abs (top_of boxes) ≤ 2 ^ 56
top_small [] s = omega arith
top_small (box ∷ boxes) s = least_small box.y boxes (All-head IsSmallRect box boxes s).y (All-tail IsSmallRect box boxes s)

pub bottom_small : (boxes : List Rect) → All IsSmallRect boxes → unsigned_abs (bottom_of boxes) ≤ 2 ^ 57
bottom_small [] s = omega arith
bottom_small (box ∷ boxes) s = greatest_small (box.y +ℤ box.height) boxes (end_small box (All-head IsSmallRect box boxes s)) (All-tail IsSmallRect box boxes s)

-- each box lies between the top and the bottom
pub top_each : (boxes : List Rect) (i : ℕ) (d : Rect) → i < length boxes → top_of boxes ≤ℤ (get_or boxes i d).y
top_each [] i d h = absurd (omega (arith, h))
top_each (box ∷ boxes) zero d h = least_start box.y boxes
top_each (box ∷ boxes) (suc i) d h = least_each box.y boxes i d (omega (arith, h))

pub bottom_each : (boxes : List Rect) (i : ℕ) (d : Rect) → i < length boxes → ((get_or boxes i d).y +ℤ (get_or boxes i d).height) ≤ℤ bottom_of boxes
bottom_each [] i d h = absurd (omega (arith, h))
bottom_each (box ∷ boxes) zero d h = greatest_start (box.y +ℤ box.height) boxes
bottom_each (box ∷ boxes) (suc i) d h = greatest_each (box.y +ℤ box.height) boxes i d (omega (arith, h))

-- ---- edges

-- one edge more
pub edges_next : (boxes : List Rect) (j : ℕ) (edges now : List ℤ) (e : ℤ) → AreEdges boxes j edges → e ≡ edge boxes j → now ≡ edges ++ e ∷ [] → AreEdges boxes (j + 1) now
edges_next boxes j edges now e h e_is now_is = record {
  counted = ap length now_is ∙ length-append edges (e ∷ []) ∙ ap (λ n. n + 1) h.counted;
  each = below_more _ j (λ i l. before i l) here;
}
  where
    before : (i : ℕ) → i < j → get_or now i (pos 0) ≡ edge boxes i
    before i l = ap (λ xs. get_or xs i (pos 0)) now_is ∙ get_or-append edges (e ∷ []) (pos 0) i (omega (arith, h.counted, l)) ∙ h.each i l

    here : get_or now j (pos 0) ≡ edge boxes j
    here = ap (λ xs. get_or xs j (pos 0)) now_is ∙ ap (λ n. get_or (edges ++ e ∷ []) n (pos 0)) (sym h.counted) ∙ get_or-append_seam edges e [] (pos 0) ∙ e_is

floor_rises : (a b : ℤ) → a ≤ℤ b → floor_div a 64 ≤ℤ floor_div b 64
floor_rises a b h =
    let low : (floor_div a 64 *ℤ pos 64) ≤ℤ a = floor_low a 64 (omega arith) in
    let high : b <ℤ (floor_div b 64 *ℤ pos 64 +ℤ pos 64) = floor_high b 64 (omega arith) in
    omega (arith, ints)

product_rises : (height : ℤ) (i j : ℕ) → pos 0 ≤ℤ height → i ≤ j → (height *ℤ pos i) ≤ℤ (height *ℤ pos j)
product_rises (pos n) i j h k = omega (arith, ints, mul-le-mul_left n k)
product_rises (negsuc n) i j h k = absurd (omega (arith, ints, h))

edge_rises : (top bottom : ℤ) (i j : ℕ) → top ≤ℤ bottom → i ≤ j → edge_between top bottom i ≤ℤ edge_between top bottom j
unfolding edge_between
edge_rises top bottom i j h k =
    let height : pos 0 ≤ℤ (bottom -ℤ top) = omega (arith, ints) in
    omega (arith, ints, floor_rises ((bottom -ℤ top) *ℤ pos i) ((bottom -ℤ top) *ℤ pos j) (product_rises (bottom -ℤ top) i j height k))

-- where a box has a height, the edges rise
pub edges_rise : (boxes : List Rect) (edges : List ℤ) (k : ℕ) (box : Rect) → AreEdges boxes 65 edges → k < length boxes → box ≡ get_or boxes k box → pos 0 <ℤ box.height → AreRising edges
edges_rise boxes edges k box h l is some = record { rises = λ i j p q. by i j p q }
  where
    high : top_of boxes ≤ℤ bottom_of boxes
    high = omega (arith, ints, some, rw (← is) at (top_each boxes k box l), rw (← is) at (bottom_each boxes k box l))

    by : (i j : ℕ) → i ≤ j → j < 65 → get_or edges i (pos 0) ≤ℤ get_or edges j (pos 0)
    by i j p q = rw (h.each i (omega (arith, p, q)), h.each j q) (edge_rises (top_of boxes) (bottom_of boxes) i j high p)

pub edge_first : (top bottom : ℤ) → edge_between top bottom 0 ≡ top
unfolding edge_between
edge_first top bottom = omega (arith, ints, floor_low ((bottom -ℤ top) *ℤ pos 0) 64 (omega arith), floor_high ((bottom -ℤ top) *ℤ pos 0) 64 (omega arith))

pub edge_last : (top bottom : ℤ) → edge_between top bottom 64 ≡ bottom
unfolding edge_between
edge_last top bottom = omega (arith, ints, floor_low ((bottom -ℤ top) *ℤ pos 64) 64 (omega arith), floor_high ((bottom -ℤ top) *ℤ pos 64) 64 (omega arith))

pub ruleset edges = (edges_next, top_small, bottom_small)
