-- The box under a point, by the number that the index of the boxes finds.
use Rattle.std.proofs.Common.{◌≡◌, refl, ap, sym, subst, ◌∙◌, ℕ, zero, suc, ◌+◌, ◌^◌, ◌≤◌, ◌<◌, ℤ, Bool, true, false, List, [], ◌∷◌, length, map, Option, Some, None, arith}
use Rattle.std.specs.Prelude.{drop, if◌then◌else◌, get_or, slice_get, unsigned_abs}
use Rattle.std.specs.List.{All}
use Rattle.std.specs.Option.{option_map}
use Rattle.std.proofs.lemmas.Option.{slice_get-get_or, slice_get-map, slice_get_within}
use Rattle.std.proofs.lemmas.List.{length-map}
use Rattle.lunit.specs.declared.geometry.Rect.{Rect}
use Rattle.hit_index.specs.Hits.{IsLastHit, IsSmallBox, contains}
use Rattle.session.specs.Hits.{box_under, or_else}
use Rattle.session.specs.Printing.{Box, IsPrintableBox}

-- the point lies in none of these
abbrev Misses : ℤ → ℤ → List Rect → Type 0
Misses x y rects = All (λ rect. contains x y rect ≡ false) rects

abbrev pub rects_of : List Box → List Rect
rects_of boxes = map (λ (box : Box). box.1) boxes

module _ (x y : ℤ) where
  first_missed : (rect : Rect) (rects : List Rect) → Misses x y (rect ∷ rects) → contains x y rect ≡ false
  first_missed rect rects h = h 0 rect (omega arith)

  others_missed : (rect : Rect) (rects : List Rect) → Misses x y (rect ∷ rects) → Misses x y rects
  others_missed rect rects h k d l = h (suc k) d (omega (arith, l))

  -- no box contains the point
  none_under : (boxes : List Box) → Misses x y (rects_of boxes) → box_under boxes x y ≡ None
  unfolding box_under
  none_under [] h = refl
  none_under (box ∷ boxes) h =
      ap (λ (o : Option (List ℕ)). or_else o (if contains x y box.1 then Some box.0 else None)) (none_under boxes (others_missed box.1 (rects_of boxes) h))
      ∙ ap (λ (b : Bool). if b then Some box.0 else None) (first_missed box.1 (rects_of boxes) h)

  -- the box of this number does, and none after it
  last_under : (boxes : List Box) (number : ℕ) (box : Box) → slice_get boxes number ≡ Some box → contains x y box.1 ≡ true → Misses x y (drop (number + 1) (rects_of boxes)) → box_under boxes x y ≡ Some box.0
  unfolding box_under
  last_under [] number box is hit after = absurd cc
  last_under (b ∷ boxes) zero box is hit after =
      let same : b ≡ box = some_is b box is in
      ap (λ (o : Option (List ℕ)). or_else o (if contains x y b.1 then Some b.0 else None)) (none_under boxes after)
      ∙ (λ i. if contains x y (same i).1 then Some (same i).0 else None)
      ∙ ap (λ (c : Bool). if c then Some box.0 else None) hit
    where
      some_is : (a c : Box) → Some a ≡ Some c → a ≡ c
      some_is a c e = cc
  last_under (b ∷ boxes) (suc number) box is hit after =
      let next : suc number + 1 ≡ suc (number + 1) = omega arith in
      ap (λ (o : Option (List ℕ)). or_else o (if contains x y b.1 then Some b.0 else None))
      (last_under boxes number box is hit (subst (λ (k : ℕ). Misses x y (drop k (b.1 ∷ rects_of boxes))) next after))

-- ---- what the index finds

module _ (boxes : List Box) (rects : List Rect) (is : rects ≡ rects_of boxes) (x y x' y' : ℤ) (across : x' ≡ x) (down : y' ≡ y) where
  pub under_none : Misses x' y' rects → None ≡ box_under boxes x y
  under_none h = sym (none_under x' y' boxes (subst (Misses x' y') is h)) ∙ (λ i. box_under boxes (across i) (down i))

  pub under_within : (number : ℕ) → IsLastHit rects x' y' number → number < length boxes
  under_within number h =
      let there : number < length rects = slice_get_within rects number h.box h.is in
      omega (arith, there, ap length is, length-map boxes (λ (b : Box). b.1))

  under_some : (number : ℕ) (box : Box) → slice_get boxes number ≡ Some box → IsLastHit rects x' y' number → Some box.0 ≡ box_under boxes x' y'
  under_some number box there h =
      let found : slice_get (rects_of boxes) number ≡ Some box.1 = slice_get-map (λ (b : Box). b.1) boxes number ∙ ap (option_map (λ (b : Box). b.1)) there in
      let rect : h.box ≡ box.1 = some_is h.box box.1 (sym h.is ∙ ap (λ (l : List Rect). slice_get l number) is ∙ found) in
      sym (last_under x' y' boxes number box there (ap (contains x' y') (sym rect) ∙ h.hit) (subst (λ (l : List Rect). Misses x' y' (drop (number + 1) l)) is h.after))
    where
      some_is : (a c : Rect) → Some a ≡ Some c → a ≡ c
      some_is a c e = cc

  pub under_at : (number : ℕ) (box : Box) → IsLastHit rects x' y' number → Some (get_or boxes number box).0 ≡ box_under boxes x y
  under_at number box h =
      under_some number (get_or boxes number box) (slice_get-get_or boxes number box (under_within number h)) h ∙ (λ i. box_under boxes (across i) (down i))

-- ---- boxes that an index can hold

pub small_boxes : (boxes : List Box) → All IsPrintableBox boxes → All IsSmallBox boxes
small_boxes boxes h k d l = let p = h k d l in record { x = p.x; y = p.y; width = p.width; height = p.height }

pub ruleset pointing = (small_boxes)
