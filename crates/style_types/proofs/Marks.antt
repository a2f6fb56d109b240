-- Marks of entries: what they say of a look-up, and that they stay right after each change.
use Rattle.std.proofs.Common.{◌≡◌, ◌≢◌, ◌⊎◌, inl, inr, ℕ, zero, suc, ◌+◌, ◌-◌, ◌<◌, ◌≤◌, true, false, cond, ◌==◌, List, [], ◌∷◌, ◌++◌, length, replicate, Some, None, get_or, slice_set, refl, ap, sym, subst, ◌∙◌, arith}
use Rattle.std.proofs.lemmas.Bool.{cases_eq, cases_lt}
use Rattle.std.proofs.lemmas.Bool.Decides.{nat_tests}
use Rattle.std.proofs.lemmas.Grind.{get_or-set_at}
use Rattle.std.proofs.lemmas.List.{get_or-set_other, get_or-map, get_or_append_left, get_or_push, map_push, length-map, length-append, length-set}
use Rattle.std.proofs.lemmas.List.Sums.{sum_by-set, sum_by-cons}
use Rattle.std.specs.List.{sum_by, position_from}
use Rattle.std.proofs.Math.Seq.{map-set_same}
use Rattle.std.specs.FinMap as map
use denote.Enum.Declared.{variants}
use denote.Enum.Enum.{tag_below}
use Rattle.style_types.specs.Computed.{values_mapped}
use Rattle.style_types.specs.Entries.{is_entry_of, places_of}
use Rattle.style_types.specs.Marks.{IsMarked, one_if_set}
use Rattle.style_types.specs.Order.{place_of, prop_cmp_total, prop_cmp-IsAntisymmetric}
use Rattle.style_types.specs.declared.declared.DeclaredValue.{DeclaredValue}
use Rattle.style_types.specs.declared.prop.Prop.{Prop}
use Rattle.style_types.specs.declared.value.Value.{Value}
use Rattle.style_types.specs.contracts.prop.Prop as prop
use Rattle.style_types.proofs.Places.{Entries, map_of, value_in, found, absent_from, get_is, at_place}

pub place_within_table : (p : Prop) → place_of p < 45
place_within_table p = tag_below (variants prop.the_type) (prop.the_type.to p)

test_same : (m n : ℕ) → m ≡ n → (m == n) ≡ true
test_same m n e = grind (arith, nat_tests)

test_other : (m n : ℕ) → m ≢ n → (m == n) ≡ false
test_other m n e = grind (arith, nat_tests)

some_is : {i k : ℕ} → Some i ≡ Some k → i ≡ k
some_is e = (cc)

none_some : {i : ℕ} → None ≡ Some i → ⊥
none_some e = (cc)

-- ---- the first entry of a property

-- an entry of the property before which there is none
first_from : {V : Type 0} → (n : ℕ) (p : Prop) (es : Entries V) (i : ℕ) → i < length es → get_or (places_of es) i 0 ≡ place_of p → ((j : ℕ) → j < i → get_or (places_of es) j 0 ≢ place_of p) → position_from (is_entry_of p) n es ≡ Some (n + i)
first_from n p [] i h e other = absurd (omega (arith, h))
first_from n p (x ∷ es) zero h e other =
    ap (λ b. cond b (Some n) (position_from (is_entry_of p) (n + 1) es)) (test_same (place_of x.0) (place_of p) e) ∙ ap Some (omega arith)
first_from n p (x ∷ es) (suc i) h e other =
    ap (λ b. cond b (Some n) (position_from (is_entry_of p) (n + 1) es)) (test_other (place_of x.0) (place_of p) (other 0 (omega arith)))
    ∙ first_from (n + 1) p es i (omega (arith, h)) e (λ j l. other (suc j) (omega (arith, l)))
    ∙ ap Some (omega arith)

none_from : {V : Type 0} → (n : ℕ) (p : Prop) (es : Entries V) → ((j : ℕ) → j < length es → get_or (places_of es) j 0 ≢ place_of p) → position_from (is_entry_of p) n es ≡ None
none_from n p [] other = refl
none_from n p (x ∷ es) other =
    ap (λ b. cond b (Some n) (position_from (is_entry_of p) (n + 1) es)) (test_other (place_of x.0) (place_of p) (other 0 (omega arith)))
    ∙ none_from (n + 1) p es (λ j l. other (suc j) (omega (arith, l)))

marked_at : {V : Type 0} → (marks : List ℕ) (es : Entries V) (p : Prop) (i : ℕ) → IsMarked marks (places_of es) → get_or marks (place_of p) 0 ≡ i + 1 → position_from (is_entry_of p) 0 es ≡ Some i
marked_at marks es p i h e =
    let at = h.shown (place_of p) i e in
    let long : length (places_of es) ≡ length es = length-map es (λ x. place_of x.0) in
    first_from 0 p es i (omega (arith, at.0, long)) at.1 (λ j l same.
    let there : get_or marks (get_or (places_of es) j 0) 0 ≡ j + 1 = h.held j (omega (arith, at.0, l)) in
    let here : j + 1 ≡ i + 1 = sym there ∙ ap (λ k. get_or marks k 0) same ∙ e in
    omega (arith, here, l))
    ∙ ap Some (omega arith)

unmarked : {V : Type 0} → (marks : List ℕ) (es : Entries V) (p : Prop) → IsMarked marks (places_of es) → get_or marks (place_of p) 0 ≡ 0 → position_from (is_entry_of p) 0 es ≡ None
unmarked marks es p h e =
    let long : length (places_of es) ≡ length es = length-map es (λ x. place_of x.0) in
    none_from 0 p es (λ j l same.
    let there : get_or marks (get_or (places_of es) j 0) 0 ≡ j + 1 = h.held j (omega (arith, l, long)) in
    let here : j + 1 ≡ 0 = sym there ∙ ap (λ k. get_or marks k 0) same ∙ e in
    omega (arith, here))

-- what a mark says of the place
pub position_of : {V : Type 0} → (marks : List ℕ) (es : Entries V) (p : Prop) (m : ℕ) → IsMarked marks (places_of es) → m ≡ get_or marks (place_of p) 0 → m ≢ 0 → Some (m - 1) ≡ position_from (is_entry_of p) 0 es
position_of marks es p m h e there =
    let n : m ≡ (m - 1) + 1 = omega (arith, there) in
    sym (marked_at marks es p (m - 1) h (sym e ∙ n))

pub position_of_none : {V : Type 0} → (marks : List ℕ) (es : Entries V) (p : Prop) (m : ℕ) → IsMarked marks (places_of es) → m ≡ get_or marks (place_of p) 0 → m ≡ 0 → None ≡ position_from (is_entry_of p) 0 es
position_of_none marks es p m h e n = sym (unmarked marks es p h (sym e ∙ n))

-- what the place says of the mark
pub mark_is : {V : Type 0} → (marks : List ℕ) (es : Entries V) (p : Prop) (i : ℕ) → IsMarked marks (places_of es) → position_from (is_entry_of p) 0 es ≡ Some i → get_or marks (place_of p) 0 ≡ i + 1
mark_is marks es p i h found = by (get_or marks (place_of p) 0) refl where
  by : (m : ℕ) → get_or marks (place_of p) 0 ≡ m → m ≡ i + 1
  by zero e = absurd (none_some (sym (unmarked marks es p h e) ∙ found))
  by (suc n) e = let s : suc n ≡ n + 1 = omega arith in s ∙ ap (λ k. k + 1) (some_is (sym (marked_at marks es p n h (e ∙ s)) ∙ found))

pub mark_is_none : {V : Type 0} → (marks : List ℕ) (es : Entries V) (p : Prop) → IsMarked marks (places_of es) → position_from (is_entry_of p) 0 es ≡ None → get_or marks (place_of p) 0 ≡ 0
mark_is_none marks es p h absent = by (get_or marks (place_of p) 0) refl where
  by : (m : ℕ) → get_or marks (place_of p) 0 ≡ m → m ≡ 0
  by zero e = refl
  by (suc n) e = let s : suc n ≡ n + 1 = omega arith in absurd (none_some (sym absent ∙ marked_at marks es p n h (e ∙ s)))

-- ---- how many marks are set

one_at_most : (n : ℕ) → one_if_set n ≤ 1
one_at_most zero = omega arith
one_at_most (suc n) = omega arith

pub set_at_most : (marks : List ℕ) → sum_by one_if_set marks ≤ length marks
set_at_most [] = omega arith
set_at_most (m ∷ marks) = omega (arith, sum_by-cons one_if_set m marks, one_at_most m, set_at_most marks)

one_of : (n m : ℕ) → m ≡ n + 1 → one_if_set m ≡ 1
one_of n m e = let s : m ≡ suc n = omega (arith, e) in ap one_if_set s

none_of : (m : ℕ) → m ≡ 0 → one_if_set m ≡ 0
none_of m e = ap one_if_set e

-- a mark that is not set leaves room for one more entry
pub room_left : {V : Type 0} → (marks : List ℕ) (es : Entries V) (p : Prop) → IsMarked marks (places_of es) → get_or marks (place_of p) 0 ≡ 0 → length es < 45
room_left marks es p h e =
    let within : place_of p < length marks = omega (arith, h.room, place_within_table p) in
    let long : length (places_of es) ≡ length es = length-map es (λ x. place_of x.0) in
    let sums = sum_by-set one_if_set marks (place_of p) 1 0 within in
    let most = set_at_most (slice_set marks (place_of p) 1) in
    omega (arith, h.few, h.room, long, sums, most, length-set marks (place_of p) 1, none_of (get_or marks (place_of p) 0) e, one_of 0 1 refl)

-- an index is below the number of marks
pub place_below : {V : Type 0} → (marks : List ℕ) (es : Entries V) (p : Prop) (i : ℕ) → IsMarked marks (places_of es) → position_from (is_entry_of p) 0 es ≡ Some i → (i < 45) × (i < length es)
place_below marks es p i h found =
    let at = h.shown (place_of p) i (mark_is marks es p i h found) in
    let long : length (places_of es) ≡ length es = length-map es (λ x. place_of x.0) in
    (omega (arith, at.0, h.few, h.room, set_at_most marks), omega (arith, at.0, long))

-- ---- changes

read_set : (marks : List ℕ) (i j m : ℕ) → i < length marks → j ≡ i → get_or (slice_set marks i m) j 0 ≡ m
read_set marks i j m h e = get_or-set_at marks i j m 0 e h

zeros_in : (n k : ℕ) → ◌≡◌ {A = ℕ} (get_or (replicate n 0) k 0) 0
zeros_in zero k = refl
zeros_in (suc n) zero = refl
zeros_in (suc n) (suc k) = zeros_in n k

pub marks_of_none : IsMarked (replicate 45 0) []
marks_of_none = record {
  room = refl;
  held = λ i h. absurd (omega (arith, h));
  shown = λ k i e. let z : 0 ≡ i + 1 = sym (zeros_in 45 k) ∙ e in absurd (omega (arith, z));
  few = omega arith;
}

added : (marks places : List ℕ) (k : ℕ) → IsMarked marks places → k < 45 → get_or marks k 0 ≡ 0 → IsMarked (slice_set marks k (length places + 1)) (places ++ k ∷ [])
added marks places k h below free =
    let within : k < length marks = omega (arith, h.room, below) in
    let longer : length (places ++ k ∷ []) ≡ length places + 1 = length-append places (k ∷ []) in
    record {
      room = length-set marks k (length places + 1) ∙ h.room;
      held = λ i l. held_of i (cases_lt i (length places)) (omega (arith, l, longer));
      shown = λ j i e. shown_of j i (cases_eq j k) e;
      few = omega (arith, longer, h.few, sum_by-set one_if_set marks k (length places + 1) 0 within, one_of (length places) (length places + 1) refl, none_of (get_or marks k 0) free);
    }
  where
    within_marks : k < length marks
    within_marks = omega (arith, h.room, below)

    longer_by_one : length (places ++ k ∷ []) ≡ length places + 1
    longer_by_one = length-append places (k ∷ [])

    other_of : (i : ℕ) → i < length places → get_or places i 0 ≢ k
    other_of i l e = let z : i + 1 ≡ 0 = sym (h.held i l) ∙ ap (λ x. get_or marks x 0) e ∙ free in omega (arith, z)

    held_of : (i : ℕ) → (i < length places) ⊎ (length places ≤ i) → i < length places + 1 → get_or (slice_set marks k (length places + 1)) (get_or (places ++ k ∷ []) i 0) 0 ≡ i + 1
    held_of i (inl l) b = ap (λ x. get_or (slice_set marks k (length places + 1)) x 0) (get_or_append_left places (k ∷ []) 0 i l)
        ∙ get_or-set_other marks k (get_or places i 0) (length places + 1) 0 (other_of i l) ∙ h.held i l
    held_of i (inr l) b = let last : length places ≡ i = omega (arith, l, b) in
        read_set marks k (get_or (places ++ k ∷ []) i 0) (length places + 1) within_marks (get_or_push places k 0 i last) ∙ ap (λ x. x + 1) last

    shown_of : (j i : ℕ) → (j ≡ k) ⊎ (j ≡ k → ⊥) → get_or (slice_set marks k (length places + 1)) j 0 ≡ i + 1 → (i < length (places ++ k ∷ [])) × (get_or (places ++ k ∷ []) i 0 ≡ j)
    shown_of j i (inl e) m = let last : length places ≡ i = omega (arith, sym (read_set marks k j (length places + 1) within_marks e) ∙ m) in
        (omega (arith, longer_by_one, last), get_or_push places k 0 i last ∙ sym e)
    shown_of j i (inr n) m = let at = h.shown j i (sym (get_or-set_other marks k j (length places + 1) 0 n) ∙ m) in
        (omega (arith, longer_by_one, at.0), get_or_append_left places (k ∷ []) 0 i at.0 ∙ at.1)

-- marks of a list with one more entry, of a property that was not in it
pub marked_after_add : {V : Type 0} → (marks now : List ℕ) (es fs : Entries V) (p : Prop) (v : V) → IsMarked marks (places_of es) → get_or marks (place_of p) 0 ≡ 0 → now ≡ slice_set marks (place_of p) (length es + 1) → fs ≡ es ++ (p, v) ∷ [] → IsMarked now (places_of fs)
marked_after_add marks now es fs p v h free e f =
    let long : length (places_of es) ≡ length es = length-map es (λ x. place_of x.0) in
    let marked = added marks (places_of es) (place_of p) h (place_within_table p) free in
    subst (λ x. IsMarked x (places_of fs)) (ap (λ n. slice_set marks (place_of p) (n + 1)) long ∙ sym e)
    (subst (λ ps. IsMarked (slice_set marks (place_of p) (length (places_of es) + 1)) ps) (sym (map_push (λ x. place_of x.0) es (p, v)) ∙ ap places_of (sym f)) marked)

-- ---- an entry taken out

-- the list without the entry at i, in whose place the last one has come
pub record IsTaken {V : Type 0} (es fs : Entries V) (i : ℕ) (d : Prop × V) : Type 0 where
  pub shorter : length fs + 1 ≡ length es
  pub moved : i + 1 < length es → get_or fs i d ≡ get_or es (length es - 1) d
  pub stays : (j : ℕ) → j ≢ i → j + 1 < length es → get_or fs j d ≡ get_or es j d

-- the places without the one at i, in whose place the last one has come
record PlacesTaken (es fs : List ℕ) (i z : ℕ) : Type 0 where
  shorter : length fs + 1 ≡ length es
  last : get_or es (length fs) 0 ≡ z
  moved : i < length fs → get_or fs i 0 ≡ z
  stays : (j : ℕ) → j ≢ i → j < length fs → get_or fs j 0 ≡ get_or es j 0

taken_marks : (marks es fs : List ℕ) (k i z : ℕ) → IsMarked marks es → PlacesTaken es fs i z → k < 45 → z < 45 → get_or marks k 0 ≡ i + 1 → IsMarked (slice_set (slice_set marks z (i + 1)) k 0) fs
taken_marks marks es fs k i z h t kb zb e = record {
  room = length-set (slice_set marks z (i + 1)) k 0 ∙ length-set marks z (i + 1) ∙ h.room;
  held = λ j l. held_of j l (cases_eq j i);
  shown = λ x j m. shown_of x j (cases_eq x k) (cases_eq x z) m;
  few = omega (arith, h.few, t.shorter, sum_by-set one_if_set marks z (i + 1) 0 zw, one_of i (i + 1) refl, one_of (length fs) (get_or marks z 0) marks_z, sum_by-set one_if_set (slice_set marks z (i + 1)) k 0 0 kw, one_at_most (get_or (slice_set marks z (i + 1)) k 0), none_of 0 refl);
}
  where
    zw : z < length marks
    zw = omega (arith, h.room, zb)

    kw : k < length (slice_set marks z (i + 1))
    kw = omega (arith, h.room, kb, length-set marks z (i + 1))

    at : (i < length es) × (get_or es i 0 ≡ k)
    at = h.shown k i e

    marks_z : get_or marks z 0 ≡ length fs + 1
    marks_z = ap (λ x. get_or marks x 0) (sym t.last) ∙ h.held (length fs) (omega (arith, t.shorter))

    -- one place is the mark of one entry
    apart : (x y m n : ℕ) → get_or marks x 0 ≡ m + 1 → get_or marks y 0 ≡ n + 1 → m ≢ n → x ≢ y
    apart x y m n a b c f = let s : m + 1 ≡ n + 1 = sym a ∙ ap (λ q. get_or marks q 0) f ∙ b in c (omega (arith, s))

    held_of : (j : ℕ) → j < length fs → (j ≡ i) ⊎ (j ≡ i → ⊥) → get_or (slice_set (slice_set marks z (i + 1)) k 0) (get_or fs j 0) 0 ≡ j + 1
    held_of j l (inl f) =
        let il : i < length fs = omega (arith, l, f) in
        let n : length fs ≢ i = λ c. omega (arith, c, il) in
        ap (λ x. get_or (slice_set (slice_set marks z (i + 1)) k 0) x 0) (ap (λ q. get_or fs q 0) f ∙ t.moved il)
        ∙ get_or-set_other (slice_set marks z (i + 1)) k z 0 0 (apart z k (length fs) i marks_z e n)
        ∙ read_set marks z z (i + 1) zw refl ∙ ap (λ q. q + 1) (sym f)
    held_of j l (inr f) =
        let there : get_or marks (get_or es j 0) 0 ≡ j + 1 = h.held j (omega (arith, l, t.shorter)) in
        let n : j ≢ length fs = λ c. omega (arith, c, l) in
        ap (λ x. get_or (slice_set (slice_set marks z (i + 1)) k 0) x 0) (t.stays j f l)
        ∙ get_or-set_other (slice_set marks z (i + 1)) k (get_or es j 0) 0 0 (apart (get_or es j 0) k j i there e f)
        ∙ get_or-set_other marks z (get_or es j 0) (i + 1) 0 (apart (get_or es j 0) z j (length fs) there marks_z n)
        ∙ there

    moved_of : (x j : ℕ) → x ≢ k → x ≡ z → j ≡ i → (i < length fs) ⊎ (length fs ≤ i) → (j < length fs) × (get_or fs j 0 ≡ x)
    moved_of x j n f g (inl l) = (omega (arith, l, g), ap (λ q. get_or fs q 0) g ∙ t.moved l ∙ sym f)
    moved_of x j n f g (inr l) =
        let same : i ≡ length fs = omega (arith, l, at.0, t.shorter) in
        absurd (n (f ∙ sym t.last ∙ ap (λ q. get_or es q 0) (sym same) ∙ at.1))

    shown_of : (x j : ℕ) → (x ≡ k) ⊎ (x ≡ k → ⊥) → (x ≡ z) ⊎ (x ≡ z → ⊥) → get_or (slice_set (slice_set marks z (i + 1)) k 0) x 0 ≡ j + 1 → (j < length fs) × (get_or fs j 0 ≡ x)
    shown_of x j (inl f) o m =
        let s : 0 ≡ j + 1 = sym (read_set (slice_set marks z (i + 1)) k x 0 kw f) ∙ m in absurd (omega (arith, s))
    shown_of x j (inr n) (inl f) m =
        let s : i + 1 ≡ j + 1 = sym (read_set marks z x (i + 1) zw f) ∙ sym (get_or-set_other (slice_set marks z (i + 1)) k x 0 0 n) ∙ m in
        moved_of x j n f (omega (arith, s)) (cases_lt i (length fs))
    shown_of x j (inr n) (inr o) m =
        let there : get_or marks x 0 ≡ j + 1 = sym (get_or-set_other marks z x (i + 1) 0 o) ∙ sym (get_or-set_other (slice_set marks z (i + 1)) k x 0 0 n) ∙ m in
        let was = h.shown x j there in
        let not_last : j ≢ length fs = λ c. o (sym was.1 ∙ ap (λ q. get_or es q 0) c ∙ t.last) in
        let not_taken : j ≢ i = λ c. n (sym was.1 ∙ ap (λ q. get_or es q 0) c ∙ at.1) in
        let l : j < length fs = omega (arith, was.0, t.shorter, not_last) in
        (l, t.stays j not_taken l ∙ was.1)

place_read : {V : Type 0} → (es : Entries V) (i : ℕ) (d : Prop × V) → i < length es → get_or (places_of es) i 0 ≡ place_of (get_or es i d).0
place_read es i d l = get_or-map (λ x. place_of x.0) es i d 0 l

places_taken : {V : Type 0} → (es fs : Entries V) (i : ℕ) (d : Prop × V) → IsTaken es fs i d → i < length es → PlacesTaken (places_of es) (places_of fs) i (place_of (get_or es (length es - 1) d).0)
places_taken {V = V} es fs i d t l =
    let before : length (places_of es) ≡ length es = length-map es (λ x. place_of x.0) in
    let after : length (places_of fs) ≡ length fs = length-map fs (λ x. place_of x.0) in
    let end : length (places_of fs) ≡ length es - 1 = omega (arith, after, t.shorter) in
    record {
      shorter = omega (arith, before, after, t.shorter);
      last = ap (λ n. get_or (places_of es) n 0) end ∙ place_read es (length es - 1) d (omega (arith, l));
      moved = λ m. place_read fs i d (omega (arith, m, after)) ∙ ap (λ (x : Prop × V). place_of x.0) (t.moved (omega (arith, m, after, t.shorter)));
      stays = λ j n m. place_read fs j d (omega (arith, m, after)) ∙ ap (λ (x : Prop × V). place_of x.0) (t.stays j n (omega (arith, m, after, t.shorter))) ∙ sym (place_read es j d (omega (arith, m, after, t.shorter)));
    }

pub marked_after_take : {V : Type 0} → (marks now : List ℕ) (es fs : Entries V) (p : Prop) (i : ℕ) (d : Prop × V) → IsMarked marks (places_of es) → position_from (is_entry_of p) 0 es ≡ Some i → IsTaken es fs i d →
    now ≡ slice_set (slice_set marks (place_of (get_or es (length es - 1) d).0) (i + 1)) (place_of p) 0 → IsMarked now (places_of fs)
marked_after_take marks now es fs p i d h found t e =
    let m = mark_is marks es p i h found in
    let at = h.shown (place_of p) i m in
    let long : length (places_of es) ≡ length es = length-map es (λ x. place_of x.0) in
    subst (λ x. IsMarked x (places_of fs)) (sym e)
    (taken_marks marks (places_of es) (places_of fs) (place_of p) i (place_of (get_or es (length es - 1) d).0) h
    (places_taken es fs i d t (omega (arith, at.0, long))) (place_within_table p) (place_within_table (get_or es (length es - 1) d).0) m)

-- ---- entries with other values

place_in_both : {V : Type 0} → (marks : List ℕ) (es fs : Entries V) (q : Prop) (d : Prop × V) (j k : ℕ) → IsMarked marks (places_of es) → get_or (places_of fs) j 0 ≡ place_of q → j < length fs → k < length es → get_or fs j d ≡ get_or es k d → position_from (is_entry_of q) 0 es ≡ Some k
place_in_both {V = V} marks es fs q d j k h at jl kl same =
    let long : length (places_of es) ≡ length es = length-map es (λ x. place_of x.0) in
    let there : place_of q ≡ get_or (places_of es) k 0 = sym at ∙ place_read fs j d jl ∙ ap (λ (x : Prop × V). place_of x.0) same ∙ sym (place_read es k d kl) in
    marked_at marks es q k h (ap (λ n. get_or marks n 0) there ∙ h.held k (omega (arith, kl, long)))

values_same : {V : Type 0} → (marks now : List ℕ) (es fs : Entries V) (q : Prop) (d : Prop × V) (j k : ℕ) → IsMarked marks (places_of es) → IsMarked now (places_of fs) → get_or now (place_of q) 0 ≡ j + 1 → k < length es → get_or fs j d ≡ get_or es k d → value_in q fs ≡ value_in q es
values_same {V = V} marks now es fs q d j k h hn e kl same =
    let at = hn.shown (place_of q) j e in
    let long : length (places_of fs) ≡ length fs = length-map fs (λ x. place_of x.0) in
    let jl : j < length fs = omega (arith, at.0, long) in
    (found q fs j (marked_at now fs q j hn e)).value d
    ∙ ap (λ (x : Prop × V). Some x.1) same
    ∙ sym ((found q es k (place_in_both marks es fs q d j k h at.1 jl kl same)).value d)

value_after_take : {V : Type 0} → (marks now : List ℕ) (es fs : Entries V) (p : Prop) (i : ℕ) (d : Prop × V) → IsMarked marks (places_of es) → IsMarked now (places_of fs) → IsTaken es fs i d →
    now ≡ slice_set (slice_set marks (place_of (get_or es (length es - 1) d).0) (i + 1)) (place_of p) 0 → (q : Prop) → value_in q fs ≡ cond (place_of p == place_of q) None (value_in q es)
value_after_take {V = V} marks now es fs p i d h hn t e q = by (cases_eq (place_of q) (place_of p)) where
  z : ℕ
  z = place_of (get_or es (length es - 1) d).0

  zw : z < length marks
  zw = omega (arith, h.room, place_within_table (get_or es (length es - 1) d).0)

  kw : place_of p < length (slice_set marks z (i + 1))
  kw = omega (arith, h.room, place_within_table p, length-set marks z (i + 1))

  read : (place_of q ≡ place_of p → ⊥) → get_or now (place_of q) 0 ≡ get_or (slice_set marks z (i + 1)) (place_of q) 0
  read n = ap (λ m. get_or m (place_of q) 0) e ∙ get_or-set_other (slice_set marks z (i + 1)) (place_of p) (place_of q) 0 0 n

  none_there : (place_of q ≡ place_of p → ⊥) → get_or now (place_of q) 0 ≡ 0 → (place_of q ≡ z) ⊎ (place_of q ≡ z → ⊥) → get_or marks (place_of q) 0 ≡ 0
  none_there n f (inl s) = let c : i + 1 ≡ 0 = sym (read_set marks z (place_of q) (i + 1) zw s) ∙ sym (read n) ∙ f in absurd (omega (arith, c))
  none_there n f (inr o) = sym (get_or-set_other marks z (place_of q) (i + 1) 0 o) ∙ sym (read n) ∙ f

  at_index : (j : ℕ) → get_or now (place_of q) 0 ≡ j + 1 → j < length fs → (j ≡ i) ⊎ (j ≡ i → ⊥) → value_in q fs ≡ value_in q es
  at_index j f l (inl s) =
      let il : i + 1 < length es = omega (arith, l, s, t.shorter) in
      values_same marks now es fs q d j (length es - 1) h hn f (omega (arith, il)) (ap (λ n. get_or fs n d) s ∙ t.moved il)
  at_index j f l (inr n) = values_same marks now es fs q d j j h hn f (omega (arith, l, t.shorter)) (t.stays j n (omega (arith, l, t.shorter)))

  other : (place_of q ≡ place_of p → ⊥) → (m : ℕ) → get_or now (place_of q) 0 ≡ m → value_in q fs ≡ value_in q es
  other n zero f = absent_from 0 q fs (unmarked now fs q hn f) ∙ sym (absent_from 0 q es (unmarked marks es q h (none_there n f (cases_eq (place_of q) z))))
  other n (suc j) f =
      let s : suc j ≡ j + 1 = omega arith in
      let at = hn.shown (place_of q) j (f ∙ s) in
      let long : length (places_of fs) ≡ length fs = length-map fs (λ x. place_of x.0) in
      at_index j (f ∙ s) (omega (arith, at.0, long)) (cases_eq j i)

  by : (place_of q ≡ place_of p) ⊎ (place_of q ≡ place_of p → ⊥) → value_in q fs ≡ cond (place_of p == place_of q) None (value_in q es)
  by (inl s) = absent_from 0 q fs (unmarked now fs q hn (ap (λ m. get_or m (place_of q) 0) e ∙ read_set (slice_set marks z (i + 1)) (place_of p) (place_of q) 0 kw s))
      ∙ sym (ap (λ b. cond b None (value_in q es)) (test_same (place_of p) (place_of q) (sym s)))
  by (inr n) = other n (get_or now (place_of q) 0) refl
      ∙ sym (ap (λ b. cond b None (value_in q es)) (test_other (place_of p) (place_of q) (λ s. n (sym s))))

pub map_after_take : {V : Type 0} → (marks now : List ℕ) (es fs : Entries V) (p : Prop) (i : ℕ) (d : Prop × V) → IsMarked marks (places_of es) → position_from (is_entry_of p) 0 es ≡ Some i → IsTaken es fs i d →
    now ≡ slice_set (slice_set marks (place_of (get_or es (length es - 1) d).0) (i + 1)) (place_of p) 0 → map_of fs ≡ map.remove (map_of es) p
map_after_take marks now es fs p i d h at t e = map.same_map prop_cmp_total prop_cmp-IsAntisymmetric (map_of fs) (map.remove (map_of es) p) (λ q.
    get_is fs q ∙ value_after_take marks now es fs p i d h (marked_after_take marks now es fs p i d h at t e) t e q
    ∙ sym (map.get-remove prop_cmp_total (map_of es) p q ∙ at_place p q None (map.get (map_of es) q) ∙ ap (cond (place_of p == place_of q) None) (get_is es q)))

-- a property that is not there is taken out by nothing
value_of_absent : {V : Type 0} → (marks : List ℕ) (es : Entries V) (p q : Prop) → IsMarked marks (places_of es) → position_from (is_entry_of p) 0 es ≡ None → value_in q es ≡ cond (place_of p == place_of q) None (value_in q es)
value_of_absent marks es p q h absent = by (cases_eq (place_of p) (place_of q)) where
  by : (place_of p ≡ place_of q) ⊎ (place_of p ≡ place_of q → ⊥) → value_in q es ≡ cond (place_of p == place_of q) None (value_in q es)
  by (inl s) = absent_from 0 q es (unmarked marks es q h (ap (λ n. get_or marks n 0) (sym s) ∙ mark_is_none marks es p h absent))
      ∙ sym (ap (λ b. cond b None (value_in q es)) (test_same (place_of p) (place_of q) s))
  by (inr n) = sym (ap (λ b. cond b None (value_in q es)) (test_other (place_of p) (place_of q) n))

pub map_without : {V : Type 0} → (marks : List ℕ) (es : Entries V) (p : Prop) → IsMarked marks (places_of es) → position_from (is_entry_of p) 0 es ≡ None → map_of es ≡ map.remove (map_of es) p
map_without marks es p h absent = map.same_map prop_cmp_total prop_cmp-IsAntisymmetric (map_of es) (map.remove (map_of es) p) (λ q.
    get_is es q ∙ value_of_absent marks es p q h absent
    ∙ sym (map.get-remove prop_cmp_total (map_of es) p q ∙ at_place p q None (map.get (map_of es) q) ∙ ap (cond (place_of p == place_of q) None) (get_is es q)))

pub marked_after_replace : {V : Type 0} → (marks : List ℕ) (es fs : Entries V) (p : Prop) (i : ℕ) (v : V) → IsMarked marks (places_of es) → position_from (is_entry_of p) 0 es ≡ Some i → fs ≡ slice_set es i (p, v) → IsMarked marks (places_of fs)
marked_after_replace {V = V} marks es fs p i v h at e =
    let there = h.shown (place_of p) i (mark_is marks es p i h at) in
    let long : length (places_of es) ≡ length es = length-map es (λ x. place_of x.0) in
    subst (IsMarked marks) (sym (ap places_of e ∙ map-set_same (λ (x : Prop × V). place_of x.0) es i (p, v) (p, v) (sym there.1 ∙ place_read es i (p, v) (omega (arith, there.0, long))))) h

pub same_places : (f : DeclaredValue → Value) (es : Entries DeclaredValue) → places_of (values_mapped f es) ≡ places_of es
same_places f [] = refl
same_places f (e ∷ es) = ap (λ ps. place_of e.0 ∷ ps) (same_places f es)

pub is_taken : {V : Type 0} → (es fs : Entries V) (i m n : ℕ) (d : Prop × V) → m ≡ length es → n ≡ length fs → n + 1 ≡ m → ((d : Prop × V) → i + 1 < m → get_or fs i d ≡ get_or es (m - 1) d) × ((k : ℕ) (d : Prop × V) → k ≢ i → k + 1 < m → get_or fs k d ≡ get_or es k d) → IsTaken es fs i d
is_taken es fs i m n d em en less by = record {
  shorter = omega (arith, em, en, less);
  moved = λ l. by.0 d (omega (arith, l, em)) ∙ ap (λ x. get_or es (x - 1) d) em;
  stays = λ j other l. by.1 j d other (omega (arith, l, em));
}
