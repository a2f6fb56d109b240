-- What an index finds.
use Rattle.std.proofs.Common.{arith, rules, refl, sym, ap, subst, ◌∙◌, ◌≡◌, ◌≢◌, ℕ, suc, ◌+◌, ◌<◌, ◌^◌, ◌⊎◌, ◌↔◌, inl, inr, ℤ, pos, ◌≤ℤ◌, ◌<ℤ◌, Bool, true, false, List, [], ◌∷◌, length, drop, get_or}
use Rattle.std.specs.Prelude.{filter, map, Option, Some, None, IfSome, IsNone, slice_get, if◌then◌else◌}
use Rattle.std.specs.List.{last_or, All}
use Rattle.std.specs.Int.{int_max}
use Rattle.std.specs.Option.{option_map_or}
use Rattle.std.proofs.lemmas.Int.{ints, clamps}
use Rattle.std.proofs.lemmas.Bool.{cases_eq}
use Rattle.std.proofs.lemmas.List.{get_or_default, length-map}
use Rattle.std.proofs.lemmas.List.Elements.{All-cons, All-head, All-map, All-nil, All-same, All-tail}
use Rattle.std.proofs.lemmas.Option.{slice_get-get_or}
use Rattle.std.proofs.Math.Bool.{false≢true}
use Rattle.lunit.specs.declared.geometry.Rect.{Rect}
use Rattle.hit_index.specs.Hits.{box_at, box_under, contains, hit_of, hits, numbers_from, rects_of, IsLastHit, IsSmallBox, IsSmallRect}
use Rattle.hit_index.specs.Strips.{bottom_of, reaches, reaches_strip, strip_of, top_of, AreEdges, AreStrips, HasPoint}
use Rattle.hit_index.proofs.Adding.{reaches_from, to_reaches, Reaches}
use Rattle.hit_index.proofs.Bounds.{bottom_each, edge_first, edge_last, top_each}
use Rattle.hit_index.proofs.Contained.{holds_from, to_contains, Holds}
use Rattle.hit_index.proofs.Numbers.{numbers_below}
use Rattle.hit_index.proofs.Lasts.{none_left}

-- ---- a strip

pub strip_is : (boxes : List Rect) (edges : List ℤ) (strips : List (List ℕ)) (j : ℕ) → AreEdges boxes 65 edges → AreStrips edges boxes strips → j < 64 → get_or strips j [] ≡ strip_of boxes j
unfolding strip_of
strip_is boxes edges strips j e s h =
    let from = e.each j (omega (arith, h)) in
    let to = e.each (j + 1) (omega (arith, h)) in
    s.each j h ∙ (λ i. numbers_from 0 (λ (box : Rect). reaches (from i) (to i) box) boxes)

-- each number is one of a box
pub strips_within : (boxes : List Rect) (edges : List ℤ) (strips : List (List ℕ)) → AreStrips edges boxes strips → All (All (λ number. number < length boxes)) strips
strips_within boxes edges strips s j d l =
    let is : get_or strips j d ≡ numbers_from 0 (λ (box : Rect). reaches_strip edges box j) boxes = get_or_default strips j d [] l ∙ s.each j (omega (arith, l, s.count)) in
    let all : 0 + length boxes ≡ length boxes = omega arith in
    subst (λ (ns : List ℕ). All (λ number. number < length boxes) ns) (sym is) (subst (λ (n : ℕ). All (λ number. number < n) (numbers_from 0 (λ (box : Rect). reaches_strip edges box j) boxes)) all (numbers_below 0 (λ (box : Rect). reaches_strip edges box j) boxes))

-- ---- a point lies in the strip that is looked at

passes_at : (boxes : List Rect) (edges : List ℤ) (x y : ℤ) (j : ℕ) → AreEdges boxes 65 edges → j < 64 → (0 < j → get_or edges j (pos 0) ≤ℤ y) → (j < 63 → y <ℤ get_or edges (j + 1) (pos 0)) → All (λ box. contains x y box ≡ true → reaches_strip edges box j ≡ true) boxes
passes_at boxes edges x y j e h begins ends k d l c = to_reaches (get_or edges j (pos 0)) (get_or edges (j + 1) (pos 0)) (get_or boxes k d) (by low high)
  where
    at : Holds x y (get_or boxes k d)
    at = holds_from x y (get_or boxes k d) c

    first : (j ≡ 0) ⊎ (j ≢ 0) → get_or edges j (pos 0) ≤ℤ y
    first (inl z) = omega (arith, ints, at.top, top_each boxes k d l, ap (λ n. get_or edges n (pos 0)) z ∙ e.each 0 (omega arith) ∙ edge_first (top_of boxes) (bottom_of boxes))
    first (inr n) = begins (omega (arith, n))

    low : get_or edges j (pos 0) ≤ℤ y
    low = first (cases_eq j 0)

    last : (j ≡ 63) ⊎ (j ≢ 63) → y <ℤ get_or edges (j + 1) (pos 0)
    last (inl z) = omega (arith, ints, at.bottom, bottom_each boxes k d l, ap (λ n. get_or edges (n + 1) (pos 0)) z ∙ e.each 64 (omega arith) ∙ edge_last (top_of boxes) (bottom_of boxes))
    last (inr n) = ends (omega (arith, n, h))

    high : y <ℤ get_or edges (j + 1) (pos 0)
    high = last (cases_eq j 63)

    by : get_or edges j (pos 0) ≤ℤ y → y <ℤ get_or edges (j + 1) (pos 0) → Reaches (get_or edges j (pos 0)) (get_or edges (j + 1) (pos 0)) (get_or boxes k d)
    by a b = record { wide = omega (arith, ints, at.left, at.right); common = omega (arith, ints, clamps, a, b, at.top, at.bottom) }

-- ---- the numbers that hit are those of all boxes

chosen_hits : (p q h : Bool) (k : ℕ) (ns ms : List ℕ) (f : ℕ → Bool) → f k ≡ h → h ≡ q → (q ≡ true → p ≡ true) → filter f ns ≡ ms → filter f (if p then k ∷ ns else ns) ≡ (if q then k ∷ ms else ms)
chosen_hits true q h k ns ms f e g w r = ap (λ b. if b then k ∷ filter f ns else filter f ns) (e ∙ g) ∙ ap (λ xs. if q then k ∷ xs else xs) r
chosen_hits false true h k ns ms f e g w r = absurd (false≢true (w refl))
chosen_hits false false h k ns ms f e g w r = r

hits_of_numbers : (k : ℕ) (all : List Rect) (x y : ℤ) (p : Rect → Bool) (boxes : List Rect) → ((i : ℕ) (d : Rect) → i < length boxes → slice_get all (k + i) ≡ Some (get_or boxes i d)) → All (λ box. contains x y box ≡ true → p box ≡ true) boxes →
    filter (hits all x y) (numbers_from k p boxes) ≡ numbers_from k (contains x y) boxes
unfolding hits
hits_of_numbers k all x y p [] at weaker = refl
hits_of_numbers k all x y p (box ∷ boxes) at weaker =
    let here : slice_get all k ≡ Some box = ap (slice_get all) (omega arith) ∙ at 0 box (omega arith) in
    let later : (i : ℕ) (d : Rect) → i < length boxes → slice_get all (k + 1 + i) ≡ Some (get_or boxes i d) = λ i d l. ap (slice_get all) (omega arith) ∙ at (suc i) d (omega arith) in
    chosen_hits (p box) (contains x y box) (hits all x y k) k (numbers_from (k + 1) p boxes) (numbers_from (k + 1) (contains x y) boxes) (hits all x y) refl (ap (λ (o : Option Rect). option_map_or (contains x y) o false) here)
    (All-head (λ (b : Rect). contains x y b ≡ true → p b ≡ true) box boxes weaker)
    (hits_of_numbers (k + 1) all x y p boxes later (All-tail (λ (b : Rect). contains x y b ≡ true → p b ≡ true) box boxes weaker))

-- the last of the numbers of the strip that hit is the one that is defined
pub found_is : (boxes : List Rect) (edges : List ℤ) (strips : List (List ℕ)) (x y : ℤ) (j : ℕ) (found : Option ℕ) → AreEdges boxes 65 edges → AreStrips edges boxes strips → j < 64 → (0 < j → get_or edges j (pos 0) ≤ℤ y) → (j < 63 → y <ℤ get_or edges (j + 1) (pos 0)) →
    found ≡ last_or None (filter (hits boxes x y) (get_or strips j [])) → found ≡ hit_of boxes x y
unfolding hit_of
found_is boxes edges strips x y j found e s h begins ends is =
    is
    ∙ ap (λ ns. last_or None (filter (hits boxes x y) ns)) (s.each j h)
    ∙ ap (last_or None) (hits_of_numbers 0 boxes x y (λ (box : Rect). reaches_strip edges box j) boxes (λ i d l. ap (slice_get boxes) (omega arith) ∙ slice_get-get_or boxes i d l) (passes_at boxes edges x y j e h begins ends))

-- ---- what the number says

none_from : (k : ℕ) (p : Rect → Bool) (boxes : List Rect) → numbers_from k p boxes ≡ [] → All (λ box. p box ≡ false) boxes
none_from k p [] h = All-nil (λ (box : Rect). p box ≡ false)
none_from k p (box ∷ boxes) h = by (p box) refl h (none_from (k + 1) p boxes)
  where
    by : (b : Bool) → p box ≡ b → (if b then k ∷ numbers_from (k + 1) p boxes else numbers_from (k + 1) p boxes) ≡ [] → (numbers_from (k + 1) p boxes ≡ [] → All (λ box. p box ≡ false) boxes) → All (λ box. p box ≡ false) (box ∷ boxes)
    by true e n rest = absurd (cc)
    by false e n rest = All-cons (λ (b : Rect). p b ≡ false) box boxes e (rest n)

none_to : (k : ℕ) (p : Rect → Bool) (boxes : List Rect) → All (λ box. p box ≡ false) boxes → numbers_from k p boxes ≡ []
none_to k p [] h = refl
none_to k p (box ∷ boxes) h = ap (λ b. if b then k ∷ numbers_from (k + 1) p boxes else numbers_from (k + 1) p boxes) (All-head (λ (b : Rect). p b ≡ false) box boxes h) ∙ none_to (k + 1) p boxes (All-tail (λ (b : Rect). p b ≡ false) box boxes h)

-- the box at a place passes, and none after it
record LastAt (p : Rect → Bool) (boxes : List Rect) (k number : ℕ) : Type 0 where
  place : ℕ
  counted : number ≡ k + place
  box : Rect
  is : slice_get boxes place ≡ Some box
  passes : p box ≡ true
  after : All (λ later. p later ≡ false) (drop (place + 1) boxes)

-- it stands further on where a box comes before
later_at : (p : Rect → Bool) (first : Rect) (boxes : List Rect) (k number : ℕ) → LastAt p boxes (k + 1) number → LastAt p (first ∷ boxes) k number
later_at p first boxes k number h = record {
  place = suc h.place;
  counted = omega (arith, h.counted);
  box = h.box;
  is = h.is;
  passes = h.passes;
  after = subst (λ (n : ℕ). All (λ (later : Rect). p later ≡ false) (drop n (first ∷ boxes))) {x = suc (h.place + 1)} {y = suc h.place + 1} (omega arith) h.after;
}

-- the first box is the last that passes
first_at : (p : Rect → Bool) (first : Rect) (boxes : List Rect) (k number : ℕ) → p first ≡ true → number ≡ k → All (λ later. p later ≡ false) boxes → LastAt p (first ∷ boxes) k number
first_at p first boxes k number t n rest = record {
  place = 0;
  counted = omega (arith, n);
  box = first;
  is = refl;
  passes = t;
  after = subst (λ (n : ℕ). All (λ (later : Rect). p later ≡ false) (drop n (first ∷ boxes))) {x = suc 0} {y = 0 + 1} (omega arith) rest;
}

last_from : (k : ℕ) (p : Rect → Bool) (boxes : List Rect) (number : ℕ) → last_or None (numbers_from k p boxes) ≡ Some number → LastAt p boxes k number
last_from k p [] number h = absurd (cc)
last_from k p (box ∷ boxes) number h = by (p box) refl h (last_from (k + 1) p boxes number)
  where
    more : (ns : List ℕ) → numbers_from (k + 1) p boxes ≡ ns → last_or (Some k) ns ≡ Some number → p box ≡ true → (last_or None (numbers_from (k + 1) p boxes) ≡ Some number → LastAt p boxes (k + 1) number) → LastAt p (box ∷ boxes) k number
    more [] n e t rest = first_at p box boxes k number t (cc) (none_from (k + 1) p boxes n)
    more (m ∷ ms) n e t rest = later_at p box boxes k number (rest (ap (last_or None) n ∙ e))

    by : (b : Bool) → p box ≡ b → last_or None (if b then k ∷ numbers_from (k + 1) p boxes else numbers_from (k + 1) p boxes) ≡ Some number → (last_or None (numbers_from (k + 1) p boxes) ≡ Some number → LastAt p boxes (k + 1) number) → LastAt p (box ∷ boxes) k number
    by true e n rest = more (numbers_from (k + 1) p boxes) refl n e rest
    by false e n rest = later_at p box boxes k number (rest n)

-- the number that is found is that of the last box that contains the point
pub hit_is_last : (boxes : List Rect) (x y : ℤ) (found : Option ℕ) → found ≡ hit_of boxes x y → IfSome found (IsLastHit boxes x y)
unfolding hit_of
hit_is_last boxes x y None h = tt
hit_is_last boxes x y (Some number) h = of (last_from 0 (contains x y) boxes number (sym h))
  where
    of : LastAt (contains x y) boxes 0 number → IsLastHit boxes x y number
    of a =
        let place : a.place ≡ number = omega (arith, a.counted) in
        record {
          box = a.box;
          is = ap (slice_get boxes) (sym place) ∙ a.is;
          hit = a.passes;
          after = subst (λ (n : ℕ). All (λ (later : Rect). contains x y later ≡ false) (drop (n + 1) boxes)) place a.after;
        }

-- there is none exactly where no box contains the point
pub hit_is_none : (boxes : List Rect) (x y : ℤ) (found : Option ℕ) → found ≡ hit_of boxes x y → IsNone found ↔ All (λ box. contains x y box ≡ false) boxes
unfolding hit_of
hit_is_none boxes x y found h = (there found h, back)
  where
    there : (o : Option ℕ) → o ≡ last_or None (numbers_from 0 (contains x y) boxes) → IsNone o → All (λ box. contains x y box ≡ false) boxes
    there None e n = none_from 0 (contains x y) boxes (none_left (numbers_from 0 (contains x y) boxes) (sym e))
    there (Some number) e n = absurd (search rules)

    back : All (λ box. contains x y box ≡ false) boxes → IsNone found
    back none = subst (λ (o : Option ℕ). IsNone o) (sym (h ∙ ap (last_or None) (none_to 0 (contains x y) boxes none))) (search rules)

-- ---- what an index is built of

pub small_rects : (boxes : List (List ℕ × Rect)) (rects : List Rect) → rects ≡ map (λ (box : List ℕ × Rect). box.1) boxes → All IsSmallBox boxes → All IsSmallRect rects
small_rects boxes rects e h = All-same IsSmallRect rects (map (λ (box : List ℕ × Rect). box.1) boxes) e (All-map IsSmallRect (λ (box : List ℕ × Rect). box.1) boxes h)

pub few_rects : (boxes : List (List ℕ × Rect)) (rects : List Rect) → rects ≡ map (λ (box : List ℕ × Rect). box.1) boxes → length boxes < 2 ^ 32 → length rects < 2 ^ 32
few_rects boxes rects e h = omega (arith, ap length e, length-map boxes (λ (box : List ℕ × Rect). box.1), h)

pub ruleset building = (small_rects, few_rects)

-- ---- a strip is reached where a box contains a point of it

point_there : (from to : ℤ) (box : Rect) → reaches from to box ≡ true → HasPoint from to box
point_there from to box h =
    let r = reaches_from from to box h in
    record {
      x = box.x;
      y = int_max from box.y;
      first = omega (arith, ints, clamps);
      last = omega (arith, ints, clamps, r.common);
      is = to_contains box.x (int_max from box.y) box record {
        left = omega (arith, ints);
        right = omega (arith, ints, r.wide);
        top = omega (arith, ints, clamps);
        bottom = omega (arith, ints, clamps, r.common);
      };
    }

point_back : (from to : ℤ) (box : Rect) → HasPoint from to box → reaches from to box ≡ true
point_back from to box h =
    let at = holds_from h.x h.y box h.is in
    to_reaches from to box record {
      wide = omega (arith, ints, at.left, at.right);
      common = omega (arith, ints, clamps, at.top, at.bottom, h.first, h.last);
    }

pub reached : (from to : ℤ) (box : Rect) → (reaches from to box ≡ true) ↔ HasPoint from to box
reached from to box = (point_there from to box, point_back from to box)

-- ---- the box of the number that is found

abbrev Box : Type 0
Box = List ℕ × Rect

box_from : (k : ℕ) (all : List Box) (x y : ℤ) (boxes : List Box) (o : Option ℕ) → ((i : ℕ) (d : Box) → i < length boxes → slice_get all (k + i) ≡ Some (get_or boxes i d)) →
    box_at all (last_or o (numbers_from k (contains x y) (rects_of boxes))) ≡ last_or (box_at all o) (filter (λ (box : Box). contains x y box.1) boxes)
box_from k all x y [] o at = refl
box_from k all x y (box ∷ boxes) o at =
    let here : slice_get all k ≡ Some box = ap (slice_get all) (omega arith) ∙ at 0 box (omega arith) in
    let later : (i : ℕ) (d : Box) → i < length boxes → slice_get all (k + 1 + i) ≡ Some (get_or boxes i d) = λ i d l. ap (slice_get all) (omega arith) ∙ at (suc i) d (omega arith) in
    by (contains x y box.1) here (box_from (k + 1) all x y boxes (Some k) later) (box_from (k + 1) all x y boxes o later)
  where
    by : (b : Bool) → slice_get all k ≡ Some box → box_at all (last_or (Some k) (numbers_from (k + 1) (contains x y) (rects_of boxes))) ≡ last_or (box_at all (Some k)) (filter (λ (box : Box). contains x y box.1) boxes) →
        box_at all (last_or o (numbers_from (k + 1) (contains x y) (rects_of boxes))) ≡ last_or (box_at all o) (filter (λ (box : Box). contains x y box.1) boxes) →
        box_at all (last_or o (if b then k ∷ numbers_from (k + 1) (contains x y) (rects_of boxes) else numbers_from (k + 1) (contains x y) (rects_of boxes))) ≡
        last_or (box_at all o) (if b then box ∷ filter (λ (box : Box). contains x y box.1) boxes else filter (λ (box : Box). contains x y box.1) boxes)
    by true here taken passed = taken ∙ ap (λ (p : Option Box). last_or p (filter (λ (box : Box). contains x y box.1) boxes)) here
    by false here taken passed = passed

pub under_is : (boxes : List Box) (x y : ℤ) → box_at boxes (hit_of (rects_of boxes) x y) ≡ box_under boxes x y
unfolding hit_of box_under
under_is boxes x y = box_from 0 boxes x y boxes None (λ i d l. ap (slice_get boxes) (omega arith) ∙ slice_get-get_or boxes i d l)
