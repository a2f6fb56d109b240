-- The rectangle of a name among boxes whose names differ.
use Rattle.std.proofs.Common.{◌≡◌, refl, ap, sym, ◌∙◌, ℕ, zero, suc, ◌+◌, Bool, true, false, ◌&&◌, ◌||◌, cond, if◌then◌else◌, List, [], ◌∷◌, ◌++◌, take, Option, Some, None, is_some, slice_get, arith}
use Rattle.std.proofs.lemmas.Bool.{true≢false}
use Rattle.std.proofs.lemmas.Map.Text.{is_eq-slice_cmp}
use Rattle.std.proofs.lemmas.Slice.Eq.{bytes_eq-Decides}
use Rattle.std.specs.Bool.{one_answer}
use Rattle.std.specs.BTreeMap.{BTreeMap, get, Updates}
use Rattle.std.specs.Cmp.Lexicographic.{slice_cmp}
use Rattle.std.specs.Option.{unwrap_or}
use Rattle.std.specs.Ordering.{nat_cmp}
use Rattle.std.specs.Str.{bytes_eq}
use Rattle.lunit.specs.declared.geometry.Rect.{Rect}
use Rattle.session.specs.Printing.{Box}
use Rattle.open_document.specs.Apart.{AreApart}
use Rattle.open_document.specs.Changed.{has_box, rect_in, same_rect}

-- ---- names

pub same_bytes : (a b : List ℕ) → bytes_eq a b ≡ true → a ≡ b
same_bytes a b e = (bytes_eq-Decides a b).0 e

pub itself : (a b : List ℕ) → a ≡ b → bytes_eq a b ≡ true
itself a b e = (bytes_eq-Decides a b).1 e

either_way : (a b : List ℕ) → bytes_eq a b ≡ bytes_eq b a
either_way a b = one_answer (bytes_eq a b) (bytes_eq b a) (bytes_eq-Decides a b) (λ h. sym (same_bytes b a h), λ e. itself b a (sym e))

pub same_some : {A : Type 0} (x y : A) → Some x ≡ Some y → x ≡ y
same_some x y e = ap (λ (o : Option _). unwrap_or o x) e

pub some_is_none : {A X : Type 0} (x : A) → Some x ≡ None → X
some_is_none x e = absurd (true≢false (ap is_some e))

-- ---- a name that none has

none_of_if : {A : Type 0} (b : Bool) (x : A) (o : Option A) → (if b then Some x else o) ≡ None → (b ≡ false) × (o ≡ None)
none_of_if true x o e = some_is_none x e
none_of_if false x o e = (refl, e)

pub absent_at : (boxes : List Box) (name : List ℕ) (i : ℕ) (box : Box) → rect_in boxes name ≡ None → slice_get boxes i ≡ Some box → bytes_eq box.0 name ≡ false
absent_at [] name i box none at = some_is_none box (sym at)
absent_at (b ∷ boxes) name zero box none at =
    ap (λ (x : Box). bytes_eq x.0 name) (sym (same_some b box at)) ∙ (none_of_if (bytes_eq b.0 name) b.1 (rect_in boxes name) none).0
absent_at (b ∷ boxes) name (suc i) box none at = absent_at boxes name i box (none_of_if (bytes_eq b.0 name) b.1 (rect_in boxes name) none).1 at

-- a box that stands at an index is that of its name
pub rect_at : (boxes : List Box) (i : ℕ) (box : Box) → AreApart boxes → slice_get boxes i ≡ Some box → rect_in boxes box.0 ≡ Some box.1
rect_at [] i box apart at = some_is_none box (sym at)
rect_at (b ∷ boxes) zero box apart at =
    let is : b ≡ box = same_some b box at in
    ap (λ (t : Bool). if t then Some b.1 else rect_in boxes box.0) (itself b.0 box.0 (ap (λ (x : Box). x.0) is)) ∙ ap (λ (x : Box). Some x.1) is
rect_at (b ∷ boxes) (suc i) box apart at =
    ap (λ (t : Bool). if t then Some b.1 else rect_in boxes box.0) (either_way b.0 box.0 ∙ absent_at boxes b.0 i box apart.0 at) ∙ rect_at boxes i box apart.1 at

-- ---- a box among boxes

-- a rectangle beside the one that a name has
abbrev pub agrees : Option Rect → Rect → Bool
agrees None rect = false
agrees (Some old) rect = same_rect old rect

or_false : (b : Bool) → (b || false) ≡ b
or_false true = refl
or_false false = refl

pub has_by_name : (boxes : List Box) (box : Box) → AreApart boxes → has_box boxes box ≡ agrees (rect_in boxes box.0) box.1
has_by_name [] box apart = refl
has_by_name (b ∷ boxes) box apart = by_test (bytes_eq b.0 box.0) refl (has_by_name boxes box apart.1)
  where
    by_test : (t : Bool) → bytes_eq b.0 box.0 ≡ t → has_box boxes box ≡ agrees (rect_in boxes box.0) box.1
        → ((t && same_rect b.1 box.1) || has_box boxes box) ≡ agrees (if t then Some b.1 else rect_in boxes box.0) box.1
    by_test true e rest =
        let none : rect_in boxes box.0 ≡ None = ap (rect_in boxes) (sym (same_bytes b.0 box.0 e)) ∙ apart.0 in
        ap (λ (h : Bool). same_rect b.1 box.1 || h) (rest ∙ ap (λ (o : Option Rect). agrees o box.1) none) ∙ or_false (same_rect b.1 box.1)
    by_test false e rest = rest

-- ---- the same by a map

module _ (boxes : List Box) (rects : BTreeMap (List ℕ) Rect) (box : Box) (apart : AreApart boxes) (is : (q : List ℕ) → get (slice_cmp nat_cmp) rects q ≡ rect_in boxes q) where
  pub found_some : (old : Rect) (same : Bool) → get (slice_cmp nat_cmp) rects box.0 ≡ Some old → same ≡ same_rect old box.1 → same ≡ has_box boxes box
  found_some old same got e = e ∙ sym (has_by_name boxes box apart ∙ ap (λ (o : Option Rect). agrees o box.1) (sym (is box.0) ∙ got))

  pub found_none : get (slice_cmp nat_cmp) rects box.0 ≡ None → false ≡ has_box boxes box
  found_none got = sym (has_by_name boxes box apart ∙ ap (λ (o : Option Rect). agrees o box.1) (sym (is box.0) ∙ got))

pub ruleset looking_up = (found_some, found_none)

-- ---- making it

-- the rectangle of a name once a box more stands at the end
abbrev or_else : Option Rect → Option Rect → Option Rect
or_else None other = other
or_else (Some rect) other = Some rect

rect_behind : (boxes : List Box) (x : Box) (q : List ℕ) → rect_in (boxes ++ x ∷ []) q ≡ or_else (rect_in boxes q) (if bytes_eq x.0 q then Some x.1 else None)
rect_behind [] x q = refl
rect_behind (b ∷ boxes) x q = by_test (bytes_eq b.0 q) (rect_behind boxes x q)
  where
    by_test : (t : Bool) → rect_in (boxes ++ x ∷ []) q ≡ or_else (rect_in boxes q) (if bytes_eq x.0 q then Some x.1 else None)
        → (if t then Some b.1 else rect_in (boxes ++ x ∷ []) q) ≡ or_else (if t then Some b.1 else rect_in boxes q) (if bytes_eq x.0 q then Some x.1 else None)
    by_test true e = refl
    by_test false e = e

-- none of the boxes in front of an index has the name of the box there
absent_before : (boxes : List Box) (i : ℕ) (box : Box) → AreApart boxes → slice_get boxes i ≡ Some box → rect_in (take i boxes) box.0 ≡ None
absent_before [] i box apart at = some_is_none box (sym at)
absent_before (b ∷ boxes) zero box apart at = refl
absent_before (b ∷ boxes) (suc i) box apart at =
    ap (λ (t : Bool). if t then Some b.1 else rect_in (take i boxes) box.0) (either_way b.0 box.0 ∙ absent_at boxes b.0 i box apart.0 at) ∙ absent_before boxes i box apart.1 at

pub take_next : {A : Type 0} (xs : List A) (i : ℕ) (x : A) → slice_get xs i ≡ Some x → take (i + 1) xs ≡ take i xs ++ x ∷ []
take_next xs i x at = let more : i + 1 ≡ suc i = omega arith in ap (λ (n : ℕ). take n xs) more ∙ next xs i at
  where
    next : (ys : List _) (k : ℕ) → slice_get ys k ≡ Some x → take (suc k) ys ≡ take k ys ++ x ∷ []
    next [] k at = some_is_none x (sym at)
    next (y ∷ ys) zero at = ap (λ (z : _). z ∷ []) (same_some y x at)
    next (y ∷ ys) (suc k) at = ap (λ (zs : List _). y ∷ zs) (next ys k at)

-- so many of the boxes are in the map
pub record AreNamed (rects : BTreeMap (List ℕ) Rect) (boxes : List Box) : Type 0 where
  pub each : (q : List ℕ) → get (slice_cmp nat_cmp) rects q ≡ rect_in boxes q

pub named_more : (rects more : BTreeMap (List ℕ) Rect) (boxes : List Box) (i : ℕ) (box : Box) → AreApart boxes → slice_get boxes i ≡ Some box → AreNamed rects (take i boxes)
    → Updates (slice_cmp nat_cmp) rects more box.0 (Some box.1) → AreNamed more (take (i + 1) boxes)
named_more rects more boxes i box apart at named u =
    record { each = λ q. u.0 q ∙ rw (is_eq-slice_cmp box.0 q, named.each q) (by_test q (bytes_eq box.0 q) refl) ∙ sym (ap (λ (l : List Box). rect_in l q) (take_next boxes i box at) ∙ rect_behind (take i boxes) box q) }
  where
    by_test : (q : List ℕ) (t : Bool) → bytes_eq box.0 q ≡ t → cond t (Some box.1) (rect_in (take i boxes) q) ≡ or_else (rect_in (take i boxes) q) (if bytes_eq box.0 q then Some box.1 else None)
    by_test q true e =
        let none : rect_in (take i boxes) q ≡ None = ap (rect_in (take i boxes)) (sym (same_bytes box.0 q e)) ∙ absent_before boxes i box apart at in
        rw (none, e) refl
    by_test q false e = rw e (or_none (rect_in (take i boxes) q))
      where
        or_none : (o : Option Rect) → o ≡ or_else o None
        or_none None = refl
        or_none (Some rect) = refl

pub none_named : (rects : BTreeMap (List ℕ) Rect) (boxes : List Box) → ((q : List ℕ) → get (slice_cmp nat_cmp) rects q ≡ None) → AreNamed rects (take 0 boxes)
none_named rects boxes empty = record { each = empty }

pub ruleset naming = (named_more, none_named)
