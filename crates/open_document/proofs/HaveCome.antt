-- The boxes of a layout as they come, beside those before.
use Rattle.std.proofs.Common.{◌≡◌, refl, ap, sym, subst, ◌∙◌, ℕ, zero, suc, ◌+◌, ◌<◌, ◌≤◌, Bool, true, false, ◌&&◌, if◌then◌else◌, List, [], ◌∷◌, ◌++◌, length, take, Option, Some, None, is_some, slice_get, slice_index_or, slice_set, append-nil, arith, take_all}
use Rattle.std.proofs.lemmas.Bool.{true≢false}
use Rattle.std.proofs.lemmas.Bool.Decides.{Decides-int_eq}
use Rattle.std.proofs.lemmas.List.{map-append, take-append-le, length-take-le}
use Rattle.std.specs.Ordering.{int_eq}
use Rattle.std.specs.Str.{bytes_eq}
use Rattle.lunit.specs.declared.geometry.Rect.{Rect}
use Rattle.session.specs.Printing.{Box}
use Rattle.open_document.specs.Apart.{AreApart}
use Rattle.open_document.specs.Changed.{changed_from, changed_in, same_rect}
use Rattle.open_document.specs.Coming.{AreBelow, AreNext, Change, HaveCome, IsInStep, indices_of, next_boxes, with_rect, with_rects}
use Rattle.open_document.specs.Steps.{HasStepped, compared, name_of, noted}
use Rattle.open_document.proofs.Comparing.{all_stepped, drop_apart, stepped, stepped_none, within_of}
use Rattle.open_document.proofs.Naming.{same_bytes, same_some, take_next}

-- ---- other rectangles

length_with : (boxes : List Box) (k : ℕ) (r : Rect) → length (with_rect boxes k r) ≡ length boxes
length_with [] k r = refl
length_with (b ∷ boxes) zero r = refl
length_with (b ∷ boxes) (suc k) r = ap suc (length_with boxes k r)

front_with : (boxes : List Box) (x : Box) (k : ℕ) (r : Rect) → k < length boxes → with_rect (boxes ++ x ∷ []) k r ≡ with_rect boxes k r ++ x ∷ []
front_with [] x k r l = absurd (omega (arith, l))
front_with (b ∷ boxes) x zero r l = refl
front_with (b ∷ boxes) x (suc k) r l = ap (λ (z : List Box). b ∷ z) (front_with boxes x k r (omega (arith, l)))

last_with : (boxes : List Box) (x : Box) (r : Rect) → with_rect (boxes ++ x ∷ []) (length boxes) r ≡ boxes ++ (x.0, r) ∷ []
last_with [] x r = refl
last_with (b ∷ boxes) x r = ap (λ (z : List Box). b ∷ z) (last_with boxes x r)

front_all : (boxes : List Box) (x : Box) (changes : List Change) → AreBelow (length boxes) changes → with_rects (boxes ++ x ∷ []) changes ≡ with_rects boxes changes ++ x ∷ []
front_all boxes x [] below = refl
front_all boxes x (c ∷ changes) below =
    ap (λ (z : List Box). with_rects z changes) (front_with boxes x c.0 c.1 below.0)
    ∙ front_all (with_rect boxes c.0 c.1) x changes (subst (λ (n : ℕ). AreBelow n changes) (sym (length_with boxes c.0 c.1)) below.1)

one_more : (boxes : List Box) (changes : List Change) (c : Change) → with_rects boxes (changes ++ c ∷ []) ≡ with_rect (with_rects boxes changes) c.0 c.1
one_more boxes [] c = refl
one_more boxes (d ∷ changes) c = one_more (with_rect boxes d.0 d.1) changes c

below_more : (n : ℕ) (changes : List Change) → AreBelow n changes → AreBelow (n + 1) changes
below_more n [] below = tt
below_more n (c ∷ changes) below = (omega (arith, below.0), below_more n changes below.1)

below_last : (n : ℕ) (changes : List Change) (c : Change) → AreBelow n changes → c.0 < n → AreBelow n (changes ++ c ∷ [])
below_last n [] c below l = (l, tt)
below_last n (d ∷ changes) c below l = (below.0, below_last n changes c below.1 l)

-- ---- a list with one item more

length_more : {A : Type 0} (xs : List A) (x : A) → length (xs ++ x ∷ []) ≡ length xs + 1
length_more [] x = refl
length_more (y ∷ xs) x = ap suc (length_more xs x) ∙ omega arith

get_last : {A : Type 0} (xs : List A) (x : A) → slice_get (xs ++ x ∷ []) (length xs) ≡ Some x
get_last [] x = refl
get_last (y ∷ xs) x = get_last xs x

get_front : {A : Type 0} (xs ys : List A) (k : ℕ) → k < length xs → slice_get (xs ++ ys) k ≡ slice_get xs k
get_front [] ys k l = absurd (omega (arith, l))
get_front (x ∷ xs) ys zero l = refl
get_front (x ∷ xs) ys (suc k) l = get_front xs ys k (omega (arith, l))

length_longer : {A : Type 0} (xs ys : List A) → length xs ≤ length (xs ++ ys)
length_longer [] ys = omega arith
length_longer (x ∷ xs) ys = omega (arith, length_longer xs ys)

longer : (before done more : List Box) (count : ℕ) (changed : List ℕ) → HasStepped before done count changed → HasStepped before (done ++ more) count changed
longer before done more count changed p =
    record {
      within = omega (arith, length_longer done more, p.within);
      names = λ k l. ap name_of (get_front done more k (omega (arith, l, p.within))) ∙ p.names k l;
      noted = p.noted ∙ ap (changed_from 0 before) (sym (take-append-le count done more p.within));
    }

-- ---- the same rectangle

both : (a b : Bool) → (a && b) ≡ true → (a ≡ true) × (b ≡ true)
both true b e = (refl, e)
both false b e = absurd (true≢false (sym e))

is_same : (a b : Rect) → same_rect a b ≡ true → a ≡ b
is_same a b e =
    let first = both (int_eq a.x b.x) (int_eq a.y b.y && (int_eq a.width b.width && int_eq a.height b.height)) e in
    let second = both (int_eq a.y b.y) (int_eq a.width b.width && int_eq a.height b.height) first.1 in
    let third = both (int_eq a.width b.width) (int_eq a.height b.height) second.1 in
    let x : a.x ≡ b.x = (Decides-int_eq a.x b.x).0 first.0 in
    let y : a.y ≡ b.y = (Decides-int_eq a.y b.y).0 second.0 in
    let width : a.width ≡ b.width = (Decides-int_eq a.width b.width).0 third.0 in
    let height : a.height ≡ b.height = (Decides-int_eq a.height b.height).0 third.1 in
    λ i. record { x = x i; y = y i; width = width i; height = height i }

-- ---- a box that comes in step

module _ (before : List Box) (count : ℕ) (changes : List Change) (boxes done : List Box) (name : List ℕ) (rect : Rect) where
  -- the box before has its name
  record HasOld (same : Bool) : Type 0 where
    old : Box
    at : slice_get before count ≡ Some old
    named : old.0 ≡ name
    is : same_rect old.1 rect ≡ same

  old_of : (o : Option Box) (same : Bool) → slice_get before count ≡ o → compared o (Some (name, rect)) ≡ Some same → HasOld same
  old_of None same at e = absurd (true≢false (ap is_some (sym e)))
  old_of (Some old) same at e = by_test (bytes_eq old.0 name) refl e
    where
      by_test : (t : Bool) → bytes_eq old.0 name ≡ t → (if t then Some (same_rect old.1 rect) else None) ≡ Some same → HasOld same
      by_test true n e = record { old = old; at = at; named = same_bytes old.0 name n; is = same_some (same_rect old.1 rect) same e }
      by_test false n e = absurd (true≢false (ap is_some (sym e)))

  -- those that came, and the one before behind them
  with_old : IsInStep before count changes boxes done → (old : Box) → slice_get before count ≡ Some old → with_rects (take (count + 1) before) changes ≡ done ++ old ∷ []
  with_old p old at =
      let long : length (take count before) ≡ count = length-take-le count before (omega (arith, within_of before count old at)) in
      ap (λ (z : List Box). with_rects z changes) (take_next before count old at)
      ∙ front_all (take count before) old changes (subst (λ (n : ℕ). AreBelow n changes) (sym long) p.below)
      ∙ ap (λ (z : List Box). z ++ old ∷ []) (sym p.is)

  abbrev changes_by : Bool → List Change
  changes_by same = if same then changes else changes ++ (count, rect) ∷ []

  in_step : (same : Bool) → IsInStep before count changes boxes done → HasOld same → IsInStep before (count + 1) (changes_by same) boxes (done ++ (name, rect) ∷ [])
  in_step true p o =
      record {
        counted = omega (arith, length_more done (name, rect), p.counted);
        below = below_more count changes p.below;
        none = p.none;
        is = let box : o.old ≡ (name, rect) = λ i. (o.named i, is_same o.old.1 rect o.is i) in
            ap (λ (x : Box). done ++ x ∷ []) (sym box) ∙ sym (with_old p o.old o.at);
      }
  in_step false p o =
      record {
        counted = omega (arith, length_more done (name, rect), p.counted);
        below = below_last (count + 1) changes (count, rect) (below_more count changes p.below) (omega arith);
        none = p.none;
        is = ap (λ (n : List ℕ). done ++ (n, rect) ∷ []) (sym o.named)
            ∙ sym (last_with done o.old rect)
            ∙ ap (λ (n : ℕ). with_rect (done ++ o.old ∷ []) n rect) (sym p.counted)
            ∙ ap (λ (z : List Box). with_rect z count rect) (sym (with_old p o.old o.at))
            ∙ sym (one_more (take (count + 1) before) changes (count, rect));
      }

  indices_by : (same : Bool) → indices_of (changes_by same) ≡ indices_of changes ++ noted same count
  indices_by true = sym (append-nil (indices_of changes))
  indices_by false = map-append (λ (c : Change). c.0) changes ((count, rect) ∷ [])

  came_in_step : (same : Bool) → HaveCome before count changes false boxes done → compared (slice_get before count) (Some (name, rect)) ≡ Some same
      → HaveCome before (count + 1) (changes_by same) false boxes (done ++ (name, rect) ∷ [])
  came_in_step same p e =
      let p' : IsInStep before count changes boxes done = p.held in
      let at : slice_get (done ++ (name, rect) ∷ []) count ≡ Some (name, rect) = ap (slice_get (done ++ (name, rect) ∷ [])) p'.counted ∙ get_last done (name, rect) in
      record {
        names = p.names;
        stepped = stepped before (done ++ (name, rect) ∷ []) count (indices_of changes) (indices_of (changes_by same)) same p.names (longer before done ((name, rect) ∷ []) count (indices_of changes) p.stepped) (indices_by same)
            (sym e ∙ ap (compared (slice_get before count)) (sym at));
        held = in_step same p' (old_of (slice_get before count) same refl e);
      }

-- there is a box before
pub is_before : (before : List Box) (count : ℕ) (new : Option Box) (same : Bool) → compared (slice_get before count) new ≡ Some same → count < length before
is_before before count new same e = by_old (slice_get before count) refl e
  where
    by_old : (o : Option Box) → slice_get before count ≡ o → compared o new ≡ Some same → count < length before
    by_old None at e = absurd (true≢false (ap is_some (sym e)))
    by_old (Some old) at e = within_of before count old at

-- ---- and with another name

came_apart : (before : List Box) (count : ℕ) (changes : List Change) (boxes done more : List Box) → HaveCome before count changes true boxes done → HaveCome before count changes true (boxes ++ more) (done ++ more)
came_apart before count changes boxes done more p =
    record { names = p.names; stepped = longer before done more count (indices_of changes) p.stepped; held = ap (λ (z : List Box). z ++ more) p.held }

all_held : (before : List Box) (count : ℕ) (changes : List Change) (boxes done now : List Box) → HaveCome before count changes false boxes done → now ≡ with_rects (boxes ++ take count before) changes → HaveCome before count changes true now done
all_held before count changes boxes done now p e =
    let p' : IsInStep before count changes boxes done = p.held in
    record { names = p.names; stepped = p.stepped; held = e ∙ ap (λ (z : List Box). with_rects (z ++ take count before) changes) p'.none ∙ sym p'.is }

-- ---- the first and the last one

pub none_came : (before : List Box) → AreApart before → HaveCome before 0 [] false [] []
none_came before apart = record { names = apart; stepped = stepped_none before [] [] refl; held = record { counted = refl; below = tt; none = refl; is = refl } }

all_in_step : (before : List Box) (count : ℕ) (changes : List Change) (boxes done : List Box) (changed : List ℕ) → HaveCome before count changes false boxes done → length before ≤ count → changed ≡ indices_of changes → AreNext before done changes false boxes changed
all_in_step before count changes boxes done changed p l e =
    let p' : IsInStep before count changes boxes done = p.held in
    record {
      are = sym (p'.is ∙ ap (λ (z : List Box). with_rects z changes) (take_all count before (omega (arith, l))));
      told = e ∙ all_stepped before done count (indices_of changes) (omega (arith, p'.counted)) p.stepped;
    }

none_other : (before : List Box) (count : ℕ) (changes : List Change) (boxes done : List Box) (changed : List ℕ) → HaveCome before count changes true boxes done → length boxes ≤ count → changed ≡ indices_of changes → AreNext before done changes true boxes changed
none_other before count changes boxes done changed p l e =
    record { are = p.held; told = e ∙ all_stepped before done count (indices_of changes) (subst (λ (z : List Box). length z ≤ count) p.held l) p.stepped }

-- ---- a rectangle that is put

pub set_within : (boxes : List Box) (k : ℕ) (r : Rect) (d : Box) → k < length boxes → slice_set boxes k ((slice_index_or boxes k d).0, r) ≡ with_rect boxes k r
set_within [] k r d l = absurd (omega (arith, l))
set_within (b ∷ boxes) zero r d l = refl
set_within (b ∷ boxes) (suc k) r d l = ap (λ (z : List Box). b ∷ z) (set_within boxes k r d (omega (arith, l)))

pub set_past : (boxes : List Box) (k : ℕ) (r : Rect) → length boxes ≤ k → boxes ≡ with_rect boxes k r
set_past [] k r l = refl
set_past (b ∷ boxes) zero r l = absurd (omega (arith, l))
set_past (b ∷ boxes) (suc k) r l = ap (λ (z : List Box). b ∷ z) (set_past boxes k r (omega (arith, l)))

-- ---- as the code has it

same_came : (before before' : List Box) (count count' : ℕ) (changes changes' : List Change) (apart apart' : Bool) (boxes boxes' done : List Box) → before' ≡ before → count' ≡ count → changes' ≡ changes → apart' ≡ apart → boxes' ≡ boxes
    → HaveCome before count changes apart boxes done → HaveCome before' count' changes' apart' boxes' done
same_came before before' count count' changes changes' apart apart' boxes boxes' done a b c d e p =
    subst (λ (x : List Box). HaveCome x count' changes' apart' boxes' done) (sym a)
    (subst (λ (x : ℕ). HaveCome before x changes' apart' boxes' done) (sym b)
    (subst (λ (x : List Change). HaveCome before count x apart' boxes' done) (sym c)
    (subst (λ (x : Bool). HaveCome before count changes x boxes' done) (sym d)
    (subst (λ (x : List Box). HaveCome before count changes apart x done) (sym e) p))))

pub noted_came : (before : List Box) (count : ℕ) (changes : List Change) (apart : Bool) (boxes done : List Box) (name : List ℕ) (rect : Rect) (same : Bool) (before' : List Box) (count' : ℕ) (changes' : List Change) (apart' : Bool) (boxes' : List Box)
    → apart ≡ false → compared (slice_get before count) (Some (name, rect)) ≡ Some same → before' ≡ before → count' ≡ count + 1 → changes' ≡ (if same then changes else changes ++ (count, rect) ∷ []) → apart' ≡ apart → boxes' ≡ boxes
    → HaveCome before count changes apart boxes done → HaveCome before' count' changes' apart' boxes' (done ++ (name, rect) ∷ [])
noted_came before count changes apart boxes done name rect same before' count' changes' apart' boxes' f e a b c d g p =
    same_came before before' (count + 1) count' (changes_by before count changes boxes done name rect same) changes' false apart' boxes boxes' (done ++ (name, rect) ∷ []) a b c (d ∙ f) g
    (came_in_step before count changes boxes done name rect same (subst (λ (x : Bool). HaveCome before count changes x boxes done) f p) e)

pub added_came : (before : List Box) (count : ℕ) (changes : List Change) (apart : Bool) (boxes done more boxes' : List Box) → apart ≡ true → boxes' ≡ boxes ++ more → HaveCome before count changes apart boxes done → HaveCome before count changes apart boxes' (done ++ more)
added_came before count changes apart boxes done more boxes' t e p =
    same_came before before count count changes changes true apart (boxes ++ more) boxes' (done ++ more) refl refl refl t e
    (came_apart before count changes boxes done more (subst (λ (x : Bool). HaveCome before count changes x boxes done) t p))

pub held_came : (before : List Box) (count : ℕ) (changes : List Change) (apart : Bool) (boxes done now : List Box) → apart ≡ false → now ≡ with_rects (boxes ++ take count before) changes → HaveCome before count changes apart boxes done → HaveCome before count changes true now done
held_came before count changes apart boxes done now f e p = all_held before count changes boxes done now (subst (λ (x : Bool). HaveCome before count changes x boxes done) f p) e

pub none_noted : (before : List Box) (count : ℕ) (changes : List Change) (apart : Bool) (boxes done : List Box) (changed : List ℕ) → (apart ≡ false → length before ≤ count) → length boxes ≤ count → changed ≡ indices_of changes
    → HaveCome before count changes apart boxes done → AreNext before done changes apart boxes changed
none_noted before count changes true boxes done changed all l e p = none_other before count changes boxes done changed p l e
none_noted before count changes false boxes done changed all l e p = all_in_step before count changes boxes done changed p (all refl) e

-- ---- some are held that came with other names

-- they are all boxes that came
others_are : (before : List Box) (count : ℕ) (changes : List Change) (apart : Bool) (boxes done : List Box) → count < length boxes → HaveCome before count changes apart boxes done → (apart ≡ true) × (boxes ≡ done)
others_are before count changes true boxes done l p = (refl, p.held)
others_are before count changes false boxes done l p =
    let p' : IsInStep before count changes boxes done = p.held in
    absurd (omega (arith, l, ap length p'.none))

pub others_stepped : (before : List Box) (count : ℕ) (changes : List Change) (apart : Bool) (boxes done : List Box) (changed : List ℕ) → count < length boxes → changed ≡ indices_of changes → HaveCome before count changes apart boxes done → HasStepped before boxes count changed
others_stepped before count changes apart boxes done changed l e p =
    subst (λ (z : List Box). HasStepped before z count changed) (sym (others_are before count changes apart boxes done l p).1)
    (subst (λ (z : List ℕ). HasStepped before done count z) (sym e) p.stepped)

pub others_apart : (before : List Box) (count : ℕ) (changes : List Change) (apart : Bool) (boxes done : List Box) → count < length boxes → HaveCome before count changes apart boxes done → AreApart done → AreApart boxes
others_apart before count changes apart boxes done l p a = subst AreApart (sym (others_are before count changes apart boxes done l p).1) a

pub others_noted : (before : List Box) (count : ℕ) (changes : List Change) (apart : Bool) (boxes done : List Box) (changed : List ℕ) → count < length boxes → changed ≡ changed_in before boxes → HaveCome before count changes apart boxes done → AreNext before done changes apart boxes changed
others_noted before count changes apart boxes done changed l e p =
    let are = others_are before count changes apart boxes done l p in
    record { are = ap (λ (t : Bool). next_boxes t before changes boxes) are.0 ∙ are.1; told = e ∙ ap (changed_in before) are.1 }

pub ruleset coming = (none_came, noted_came, added_came, held_came, none_noted, others_noted, others_stepped, others_apart, is_before, drop_apart)

pub ruleset setting = (set_within, set_past)
