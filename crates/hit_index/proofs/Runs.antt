-- Edges around the boxes of a run.
use Rattle.std.proofs.Common.{arith, rules, ◌-◌, ◌+ℤ◌, refl, sym, ap, ◌∙◌, ◌≡◌, ◌≢◌, ℕ, ◌+◌, ◌*◌, ◌<◌, ◌≤◌, ◌⊎◌, inl, inr, ℤ, ◌≤ℤ◌, ◌<ℤ◌, Bool, true, false, ◌&&◌, int_le, int_lt, List, [], ◌∷◌, ◌++◌, length, take, drop, get_or, length-append}
use Rattle.std.specs.Prelude.{filter, if◌then◌else◌, min}
use Rattle.std.specs.Int.{int_max, int_min}
use Rattle.std.proofs.Math.Bool.{false≢true}
use Rattle.std.proofs.lemmas.Bool.{and_parts, and_from, cases_eq, false_from_ne_true}
use Rattle.std.proofs.lemmas.List.{take_all, take_min, length-drop, get_or_default}
use Rattle.std.proofs.lemmas.Int.{ints, clamps}
use Rattle.std.proofs.lemmas.List.Elements.{filter_more}
use Rattle.std.proofs.Math.ListN.{get_or-append}
use Rattle.std.proofs.Math.Seq.{get_or-append_seam}
use Rattle.lunit.specs.declared.geometry.Rect.{Rect}
use Rattle.hit_index.specs.Hits.{contains, hits}
use Rattle.hit_index.specs.Extents.{is_between, lies_inside, AreAround, AreRuns, CountsRuns, IsAround}
use Rattle.hit_index.specs.declared.extents.Extent.{Extent}
use Rattle.hit_index.proofs.Contained.{hits_at, holds_from}

-- ---- a point between edges

lt_from : (a b : ℤ) → int_lt a b ≡ true → a <ℤ b
lt_from a b h = search rules

le_from : (a b : ℤ) → int_le a b ≡ true → a ≤ℤ b
le_from a b h = search rules

to_lt : (a b : ℤ) → a <ℤ b → int_lt a b ≡ true
to_lt a b h = search rules

to_le : (a b : ℤ) → a ≤ℤ b → int_le a b ≡ true
to_le a b h = search rules

pub record Inside (extent : Extent) (x y : ℤ) : Type 0 where
  pub left : extent.left ≤ℤ x
  pub right : x <ℤ extent.right
  pub top : extent.top ≤ℤ y
  pub bottom : y <ℤ extent.bottom

pub inside_from : (extent : Extent) (x y : ℤ) → lies_inside extent x y ≡ true → Inside extent x y
inside_from extent x y h =
    let parts : (is_between extent.left extent.right x ≡ true) × (is_between extent.top extent.bottom y ≡ true) = and_parts (int_le extent.left x && int_lt x extent.right) (int_le extent.top y && int_lt y extent.bottom) h in
    let across : (int_le extent.left x ≡ true) × (int_lt x extent.right ≡ true) = and_parts (int_le extent.left x) (int_lt x extent.right) parts.0 in
    let down : (int_le extent.top y ≡ true) × (int_lt y extent.bottom ≡ true) = and_parts (int_le extent.top y) (int_lt y extent.bottom) parts.1 in
    record {
      left = le_from extent.left x across.0;
      right = lt_from x extent.right across.1;
      top = le_from extent.top y down.0;
      bottom = lt_from y extent.bottom down.1;
    }

pub to_inside : (extent : Extent) (x y : ℤ) → Inside extent x y → lies_inside extent x y ≡ true
to_inside extent x y h =
    and_from (int_le extent.left x && int_lt x extent.right) (int_le extent.top y && int_lt y extent.bottom)
    (and_from (int_le extent.left x) (int_lt x extent.right) (to_le extent.left x h.left) (to_lt x extent.right h.right))
    (and_from (int_le extent.top y) (int_lt y extent.bottom) (to_le extent.top y h.top) (to_lt y extent.bottom h.bottom))

pub wider : (now next : Extent) (box : Rect) → next.left ≡ int_min now.left box.x → next.top ≡ int_min now.top box.y → next.right ≡ int_max now.right (box.x +ℤ box.width) → next.bottom ≡ int_max now.bottom (box.y +ℤ box.height) → (x y : ℤ) → lies_inside now x y ≡ true → lies_inside next x y ≡ true
wider now next box l t r b x y h =
    let i = inside_from now x y h in
    to_inside next x y record {
      left = omega (arith, ints, clamps);
      right = omega (arith, ints, clamps);
      top = omega (arith, ints, clamps);
      bottom = omega (arith, ints, clamps);
    }

pub around_box : (now next : Extent) (box : Rect) → next.left ≡ int_min now.left box.x → next.top ≡ int_min now.top box.y → next.right ≡ int_max now.right (box.x +ℤ box.width) → next.bottom ≡ int_max now.bottom (box.y +ℤ box.height) → (x y : ℤ) → contains x y box ≡ true → lies_inside next x y ≡ true
around_box now next box l t r b x y h =
    let i = holds_from x y box h in
    to_inside next x y record {
      left = omega (arith, ints, clamps);
      right = omega (arith, ints, clamps);
      top = omega (arith, ints, clamps);
      bottom = omega (arith, ints, clamps);
    }

-- ---- edges around boxes

both : (b : Bool) → b ≡ false → b ≡ true → ⊥
both b f t = false≢true (sym f ∙ t)

pub around_none : (boxes : List Rect) (numbers : List ℕ) (extent : Extent) → IsAround boxes (take 0 numbers) extent
around_none boxes numbers extent = record { around = λ x y h. refl }

pub around_next : (boxes : List Rect) (numbers : List ℕ) (i number : ℕ) (box : Rect) (extent next : Extent)
    → i < length numbers → number ≡ get_or numbers i 0 → number < length boxes → box ≡ get_or boxes number box
    → IsAround boxes (take i numbers) extent
    → ((x y : ℤ) → lies_inside extent x y ≡ true → lies_inside next x y ≡ true)
    → ((x y : ℤ) → contains x y box ≡ true → lies_inside next x y ≡ true)
    → IsAround boxes (take (i + 1) numbers) next
around_next boxes numbers i number box extent next h e l k a wider here = record { around = λ x y out. by x y out }
  where
    by : (x y : ℤ) → lies_inside next x y ≡ false → filter (hits boxes x y) (take (i + 1) numbers) ≡ []
    by x y out =
        let before : filter (hits boxes x y) (take i numbers) ≡ [] = a.around x y (false_from_ne_true (lies_inside extent x y) (λ t. both (lies_inside next x y) out (wider x y t))) in
        let not : contains x y box ≡ false = false_from_ne_true (contains x y box) (λ t. both (lies_inside next x y) out (here x y t)) in
        let last : hits boxes x y (get_or numbers i 0) ≡ false = ap (hits boxes x y) (sym e) ∙ sym (hits_at boxes x y number box l k) ∙ not in
        filter_more (hits boxes x y) numbers i 0 h ∙ ap (λ ns. ns ++ (if hits boxes x y (get_or numbers i 0) then get_or numbers i 0 ∷ [] else [])) before ∙ ap (λ b. if b then get_or numbers i 0 ∷ [] else []) last

pub around_all : (boxes : List Rect) (numbers : List ℕ) (n : ℕ) (extent : Extent) → length numbers ≤ n → IsAround boxes (take n numbers) extent → IsAround boxes numbers extent
around_all boxes numbers n extent h a = record { around = λ x y out. ap (filter (hits boxes x y)) (sym (take_all n numbers h)) ∙ a.around x y out }

pub ruleset around = (around_none, around_next, around_all)

-- ---- run by run

pub runs_none : (boxes : List Rect) (numbers : List ℕ) → AreAround boxes numbers []
runs_none boxes numbers = record { each = λ run d h. absurd (omega (arith, h)) }

pub runs_next : (boxes : List Rect) (numbers : List ℕ) (run : ℕ) (extents : List Extent) (extent : Extent) → length extents ≡ run → AreAround boxes numbers extents → IsAround boxes (take 64 (drop (run * 64) numbers)) extent → AreAround boxes numbers (extents ++ extent ∷ [])
runs_next boxes numbers run extents extent count a here = record { each = λ i d h. by i d h (cases_eq i run) }
  where
    by : (i : ℕ) (d : Extent) → i < length (extents ++ extent ∷ []) → (i ≡ run) ⊎ (i ≢ run) → IsAround boxes (take 64 (drop (i * 64) numbers)) (get_or (extents ++ extent ∷ []) i d)
    by i d h (inl s) =
        let place : i ≡ length extents = s ∙ sym count in
        let is : get_or (extents ++ extent ∷ []) i d ≡ extent = ap (λ n. get_or (extents ++ extent ∷ []) n d) place ∙ get_or-append_seam extents extent [] d in
        rw (is, s) here
    by i d h (inr n) =
        let before : i < length extents = omega (arith, h, n, count, length-append extents (extent ∷ [])) in
        rw (get_or-append extents (extent ∷ []) d i before) (a.each i d before)

pub ruleset runs = (runs_none, runs_next)

-- ---- the numbers of a run

pub run_is : (numbers : List ℕ) (start last : ℕ) → last ≡ min (length numbers) (start + 64) → take (last - start) (drop start numbers) ≡ take 64 (drop start numbers)
run_is numbers start last e =
    let count : last - start ≡ min 64 (length (drop start numbers)) = omega (arith, length-drop start numbers, e) in
    ap (λ n. take n (drop start numbers)) count ∙ take_min 64 (drop start numbers)

-- ---- strip by strip

pub all_none : (boxes : List Rect) (strips : List (List ℕ)) → AreRuns boxes strips 0 []
all_none boxes strips = record { counted = refl; counts = λ j h. absurd (omega (arith, h)); around = λ j h. absurd (omega (arith, h)) }

pub all_next : (boxes : List Rect) (strips : List (List ℕ)) (j : ℕ) (numbers : List ℕ) (now : List (List Extent)) (extents : List Extent) → j < length strips → numbers ≡ get_or strips j numbers → AreRuns boxes strips j now → CountsRuns numbers extents →
    AreAround boxes numbers extents → AreRuns boxes strips (j + 1) (now ++ extents ∷ [])
all_next boxes strips j numbers now extents l e a counts around = record {
  counted = length-append now (extents ∷ []) ∙ ap (λ n. n + 1) a.counted;
  counts = λ i h. by_counts i h (cases_eq i j);
  around = λ i h. by_around i h (cases_eq i j);
}
  where
    strip : get_or strips j [] ≡ numbers
    strip = get_or_default strips j [] numbers l ∙ sym e

    last : get_or (now ++ extents ∷ []) j [] ≡ extents
    last = ap (λ n. get_or (now ++ extents ∷ []) n []) (sym a.counted) ∙ get_or-append_seam now extents [] []

    before : (i : ℕ) → i < j + 1 → i ≢ j → get_or (now ++ extents ∷ []) i [] ≡ get_or now i []
    before i h n = get_or-append now (extents ∷ []) [] i (omega (arith, h, n, a.counted))

    by_counts : (i : ℕ) → i < j + 1 → (i ≡ j) ⊎ (i ≢ j) → CountsRuns (get_or strips i []) (get_or (now ++ extents ∷ []) i [])
    by_counts i h (inl s) = rw (s, strip, last) counts
    by_counts i h (inr n) = rw (before i h n) (a.counts i (omega (arith, h, n)))

    by_around : (i : ℕ) → i < j + 1 → (i ≡ j) ⊎ (i ≢ j) → AreAround boxes (get_or strips i []) (get_or (now ++ extents ∷ []) i [])
    by_around i h (inl s) = rw (s, strip, last) around
    by_around i h (inr n) = rw (before i h n) (a.around i (omega (arith, h, n)))

pub ruleset all_runs = (all_none, all_next)
