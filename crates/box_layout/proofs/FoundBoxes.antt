-- What is kept of the boxes of containers.
use Rattle.std.proofs.Common.{arith, ◌≡◌, ◌≢◌, ℕ, zero, suc, ◌+◌, ◌-◌, ◌≤◌, ◌<◌, ◌^◌, ◌∷◌, ◌++◌, [], List, Bool, true, false, if◌then◌else◌, length, drop, take, refl, sym, ap, ◌∙◌, subst, ℤ, Option, Some, None, inl, inr, append_assoc, append-nil, length-append, length-drop, take-append-drop}
use Rattle.std.specs.Prelude.{◌==◌, ◌⊎◌, ◌+ℤ◌, ◌-ℤ◌, Contains, IfSome, IsSome, get_or, slice_get, slice_set}
use Rattle.std.proofs.lemmas.Bool.{cases_eq, cases_lt, false≢true}
use Rattle.std.proofs.lemmas.Grind.{take_at_read}
use Rattle.std.proofs.lemmas.Int.{ints}
use Rattle.std.proofs.lemmas.List.{drop-append-le, drop_at, take-append-le, take_all, take_rest}
use Rattle.std.proofs.lemmas.Option.{get_or_from_slice_get, slice_get_read, slice_get_within}
use Rattle.layout_cache.proofs.Sames.{query_is}
use Rattle.lunit.specs.declared.geometry.Rect.{Rect}
use Rattle.lunit.specs.Units.{IsLong}
use Rattle.node_arena.specs.Numbers.{same}
use Rattle.node_arena.specs.declared.number.NodeId.{NodeId}
use Rattle.node_arena.proofs.Same.{same_is, same_not}
use Rattle.placing.specs.Nodes.{BareTrees}
use Rattle.placing.specs.declared.node.Answer.{Answer}
use Rattle.placing.proofs.Tellings.{get_last, get_old}
use Rattle.tree_rules.specs.Answers.{Box}
use Rattle.tree_rules.specs.Frames.{moved_boxes, moved_by}
use Rattle.tree_rules.specs.Queries.{same_query}
use Rattle.tree_rules.specs.declared.query.Query.{Query}
use Rattle.box_layout.specs.BoxesSeen.{AreNear, IsNearRect}
use Rattle.box_layout.specs.LastBoxes.{AddsFew, AreClose, AreFound, AreListed, Found, IsClose, IsFoundOf, IsListed, IsPut, KeepsSlots, all_found, boxes_between, boxes_now, found_at}
use Rattle.box_layout.specs.Ranges.{IsWithin}
use Rattle.box_layout.specs.declared.last_boxes.Below.{Below}

-- ---- lists

pub some_same : {X : Type 0} (x y : X) → Some x ≡ Some y → x ≡ y
some_same x y e = cc

take_next : (boxes : List Box) (i : ℕ) (b : Box) → i < length boxes → b ≡ get_or boxes i b → take (i + 1) boxes ≡ take i boxes ++ b ∷ []
take_next boxes i b l e = (take_at_read boxes i b l).1 ∙ ap (λ (z : Box). take i boxes ++ z ∷ []) (sym e)

-- ---- few boxes

pub few_both : (xs ys : List Box) (a b c : Option (List Box)) → AddsFew xs a b → AddsFew ys b c → AddsFew (xs ++ ys) a c
few_both xs ys a b None h k = tt
few_both xs ys a None (Some c) h k = absurd k
few_both xs ys None (Some b) (Some c) h k = absurd h
few_both xs ys (Some a) (Some b) (Some c) h k = k ∙ ap (λ (l : List Box). l ++ ys) h ∙ append_assoc a xs ys

pub few_none : (a : Option (List Box)) → AddsFew [] a a
few_none None = tt
few_none (Some a) = sym (append-nil a)

-- the boxes, where they are few
pub few_items : (whole : Bool) (items below : List Box) (few : Option (List Box)) → few ≡ (if whole then Some items else None) → few ≡ Some below → items ≡ below
few_items true items below few e h = let same : Some items ≡ Some below = sym e ∙ h in some_same items below same
few_items false items below few e h = let same : None ≡ Some below = sym e ∙ h in absurd cc

-- ---- a place in a list

pub number_there : (slots : List ℕ) (slot i d : ℕ) → slice_get slots slot ≡ Some i → get_or slots slot d ≡ i
number_there slots slot i d e = get_or_from_slice_get slots slot i d e

pub number_past : (slots : List ℕ) (slot i n : ℕ) → length slots ≤ slot → slice_get slots slot ≡ Some i → n ≡ i
number_past slots slot i n l e = absurd (omega (arith, l, slice_get_within slots slot i e))

pub ruleset number_laws = (number_there, number_past)

pub slot_there : (slots : List ℕ) (slot at number : ℕ) → at ≡ slot → at < length slots → number ≡ get_or slots at number → slice_get slots slot ≡ Some number
slot_there slots slot at number is l e = subst (λ (z : ℕ). slice_get slots z ≡ Some number) is (slice_get_read slots (length slots) at number refl l e)

pub entry_there : (containers : List (Option Below)) (n : ℕ) (entry : Option Below) (b : Below) → slice_get containers n ≡ Some entry → entry ≡ Some b → slice_get containers n ≡ Some (Some b)
entry_there containers n entry b e is = e ∙ ap (λ (z : Option Below). Some z) is

pub ruleset below_laws = (entry_there)

-- ---- boxes that are close

close_more : (boxes : List Box) (i : ℕ) (b : Box) → i < length boxes → b ≡ get_or boxes i b → IsClose b.1 → AreClose (take i boxes) → AreClose (take (suc i) boxes)
close_more [] i b l e h k = absurd (omega (arith, l))
close_more (x ∷ xs) zero b l e h k = (subst (λ (z : Box). IsClose z.1) e h, tt)
close_more (x ∷ xs) (suc i) b l e h k = (k.0, close_more xs i b (omega (arith, l)) e h k.1)

pub close_next : (boxes : List Box) (i : ℕ) (b : Box) → i < length boxes → b ≡ get_or boxes i b → IsClose b.1 → AreClose (take i boxes) → AreClose (take (i + 1) boxes)
close_next boxes i b l e h k = let next : suc i ≡ i + 1 = omega arith in subst (λ (n : ℕ). AreClose (take n boxes)) next (close_more boxes i b l e h k)

pub close_there : (boxes : List Box) (i : ℕ) (b : Box) → i < length boxes → b ≡ get_or boxes i b → AreClose boxes → IsClose b.1
close_there [] i b l e k = absurd (omega (arith, l))
close_there (x ∷ xs) zero b l e k = subst (λ (z : Box). IsClose z.1) (sym e) k.0
close_there (x ∷ xs) (suc i) b l e k = close_there xs i b (omega (arith, l)) e k.1

-- ---- boxes that are moved

pub moved_both : (by : ℤ × ℤ) (xs ys : List Box) → moved_boxes by (xs ++ ys) ≡ moved_boxes by xs ++ moved_boxes by ys
moved_both by [] ys = refl
moved_both by (x ∷ xs) ys = ap (λ (l : List Box). (x.0, moved_by by x.1) ∷ l) (moved_both by xs ys)

pub moved_next : (by : ℤ × ℤ) (boxes : List Box) (i : ℕ) (b : Box) → i < length boxes → b ≡ get_or boxes i b → moved_boxes by (take (i + 1) boxes) ≡ moved_boxes by (take i boxes) ++ (b.0, moved_by by b.1) ∷ []
moved_next by boxes i b l e = ap (moved_boxes by) (take_next boxes i b l e) ∙ moved_both by (take i boxes) (b ∷ [])

near_both : (xs ys : List Box) → AreNear xs → AreNear ys → AreNear (xs ++ ys)
near_both [] ys h k = k
near_both (x ∷ xs) ys h k = (h.0, near_both xs ys h.1 k)

within_sum : (x z : ℤ) → IsWithin (2 ^ 51) x → IsWithin (2 ^ 50) z → IsWithin (2 ^ 56) (x +ℤ z)
within_sum x z h k = (omega (arith, ints, h.0, k.0), omega (arith, ints, h.1, k.1))

within_more : (z : ℤ) → IsWithin (2 ^ 50) z → IsWithin (2 ^ 56) z
within_more z k = (omega (arith, ints, k.0), omega (arith, ints, k.1))

long_sum : (x z : ℤ) → IsWithin (2 ^ 51) x → IsWithin (2 ^ 50) z → IsLong (x +ℤ z)
long_sum x z h k = (omega (arith, ints, h.0, k.0), omega (arith, ints, h.1, k.1))

pub near_close : (r : Rect) → IsClose r → IsNearRect r
near_close r h = record { x = within_more r.x h.x; y = within_more r.y h.y; width = within_more r.width h.width; height = within_more r.height h.height }

near_moved : (x y : ℤ) (r : Rect) → IsWithin (2 ^ 51) x → IsWithin (2 ^ 51) y → IsClose r → IsNearRect (moved_by (x, y) r)
near_moved x y r h k c = record { x = within_sum x r.x h c.x; y = within_sum y r.y k c.y; width = within_more r.width c.width; height = within_more r.height c.height }

-- what was handed over of these boxes, so many of them
pub record AreMoved {S : Type 0} (adds : S → S → List Box → Type 0) (old now : S) (before after : Option (List Box)) (by : ℤ × ℤ) (boxes : List Box) : Type 0 where
  pub added : adds old now (moved_boxes by boxes)
  pub near : AreNear (moved_boxes by boxes)
  pub few : AddsFew (moved_boxes by boxes) before after

pub none_moved : {S : Type 0} (adds : S → S → List Box → Type 0) (s : S) (few : Option (List Box)) (by : ℤ × ℤ) (boxes : List Box) → adds s s [] → AreMoved adds s s few few by (take 0 boxes)
none_moved adds s few by boxes none = record { added = none; near = tt; few = few_none few }

module _ {S : Type 0} (adds : S → S → List Box → Type 0) (both : (a b c : S) (x y : List Box) → adds a b x → adds b c y → adds a c (x ++ y)) (x y : ℤ) (h : IsWithin (2 ^ 51) x) (k : IsWithin (2 ^ 51) y) where
  pub moved_more : (old now later : S) (before few after : Option (List Box)) (boxes : List Box) (i : ℕ) (b : Box) (name : List ℕ) (r : Rect) → AreMoved adds old now before few (x, y) (take i boxes) → i < length boxes → b ≡ get_or boxes i b → name ≡ b.0 → r ≡ moved_by (x, y) b.1 → IsClose b.1
      → adds now later ((name, r) ∷ []) → AddsFew ((name, r) ∷ []) few after → AreMoved adds old later before after (x, y) (take (i + 1) boxes)
  moved_more old now later before few after boxes i b name r m l e named is close added kept =
      let same : (name, r) ∷ [] ≡ (b.0, moved_by (x, y) b.1) ∷ [] = λ j. (named j, is j) ∷ [] in
      let next = moved_next (x, y) boxes i b l e in
      record {
        added = subst (adds old later) (sym next) (both old now later (moved_boxes (x, y) (take i boxes)) ((b.0, moved_by (x, y) b.1) ∷ []) m.added (subst (adds now later) same added));
        near = subst AreNear (sym next) (near_both (moved_boxes (x, y) (take i boxes)) ((b.0, moved_by (x, y) b.1) ∷ []) m.near (near_moved x y b.1 h k close, tt));
        few = subst (λ (z : List Box). AddsFew z before after) (sym next) (few_both (moved_boxes (x, y) (take i boxes)) ((b.0, moved_by (x, y) b.1) ∷ []) before few after m.few (subst (λ (z : List Box). AddsFew z few after) same kept));
      }

pub all_moved : {S : Type 0} (adds : S → S → List Box → Type 0) (old now : S) (before few : Option (List Box)) (by : ℤ × ℤ) (boxes : List Box) (n : ℕ) → length boxes ≤ n → AreMoved adds old now before few by (take n boxes) → AreMoved adds old now before few by boxes
all_moved adds old now before few by boxes n e h = subst (AreMoved adds old now before few by) (take_all n boxes e) h

pub some_boxes : (boxes : List Box) (none : Bool) → none ≡ (length boxes == 0) → none ≡ false → 0 < length boxes
some_boxes [] none e f = absurd (false≢true (sym f ∙ e))
some_boxes (b ∷ boxes) none e f = omega arith

-- the first of them is the container's own
pub boxes_there : (boxes : List Box) (own : Box) (r : Rect) (x y : ℤ) → 0 < length boxes → own ≡ get_or boxes 0 own → x ≡ r.x -ℤ own.1.x → y ≡ r.y -ℤ own.1.y → (own.0, r) ∷ moved_boxes (x, y) (take (length boxes - 1) (drop 1 boxes)) ≡ boxes_now boxes r
boxes_there [] own r x y l is across down = absurd (omega (arith, l))
boxes_there (b ∷ below) own r x y l is across down =
    let left : x ≡ r.x -ℤ b.1.x = across ∙ ap (λ (z : Box). r.x -ℤ z.1.x) is in
    let up : y ≡ r.y -ℤ b.1.y = down ∙ ap (λ (z : Box). r.y -ℤ z.1.y) is in
    let rest : take (length (b ∷ below) - 1) (drop 1 (b ∷ below)) ≡ below = take_rest (b ∷ below) 1 in
    λ j. ((is j).0, r) ∷ moved_boxes (left j, up j) (rest j)

pub long_moved : (x : ℤ) (boxes : List Box) (i : ℕ) (b : Box) → IsWithin (2 ^ 51) x → i < length boxes → b ≡ get_or boxes i b → AreClose boxes → IsLong (x +ℤ b.1.x)
long_moved x boxes i b h l e c = long_sum x b.1.x h (close_there boxes i b l e c).x

pub long_moved_down : (y : ℤ) (boxes : List Box) (i : ℕ) (b : Box) → IsWithin (2 ^ 51) y → i < length boxes → b ≡ get_or boxes i b → AreClose boxes → IsLong (y +ℤ b.1.y)
long_moved_down y boxes i b h l e c = long_sum y b.1.y h (close_there boxes i b l e c).y

-- ---- where a container is listed

get_set : {X : Type 0} (xs : List X) (k : ℕ) (x : X) → k < length xs → slice_get (slice_set xs k x) k ≡ Some x
get_set [] k x h = absurd (omega (arith, h))
get_set (y ∷ xs) zero x h = refl
get_set (y ∷ xs) (suc k) x h = get_set xs k x (omega (arith, h))

get_other : {X : Type 0} (xs : List X) (k j : ℕ) (x : X) → j ≢ k → slice_get (slice_set xs k x) j ≡ slice_get xs j
get_other [] k j x h = refl
get_other (y ∷ xs) zero zero x h = absurd (h refl)
get_other (y ∷ xs) zero (suc j) x h = refl
get_other (y ∷ xs) (suc k) zero x h = refl
get_other (y ∷ xs) (suc k) (suc j) x h = get_other xs k j x (λ e. h (ap suc e))

set_cases : {X : Type 0} (xs : List X) (n : ℕ) (x : X) (i : ℕ) (y : X) → n < length xs → slice_get (slice_set xs n x) i ≡ Some y → ((i ≡ n) × (x ≡ y)) ⊎ ((i ≢ n) × (slice_get xs i ≡ Some y))
set_cases xs n x i y l e = at (cases_eq i n)
  where
    at : (i ≡ n) ⊎ (i ≢ n) → ((i ≡ n) × (x ≡ y)) ⊎ ((i ≢ n) × (slice_get xs i ≡ Some y))
    at (inl same) = inl (same, some_same x y (sym (get_set xs n x l) ∙ ap (slice_get (slice_set xs n x)) (sym same) ∙ e))
    at (inr other) = inr (other, sym (get_other xs n i x other) ∙ e)

push_cases : {X : Type 0} (xs : List X) (x : X) (i : ℕ) (y : X) → slice_get (xs ++ x ∷ []) i ≡ Some y → ((i ≡ length xs) × (x ≡ y)) ⊎ (slice_get xs i ≡ Some y)
push_cases xs x i y e = at (cases_lt i (length xs))
  where
    at : (i < length xs) ⊎ (length xs ≤ i) → ((i ≡ length xs) × (x ≡ y)) ⊎ (slice_get xs i ≡ Some y)
    at (inl l) = inr (sym (get_old xs x i l) ∙ e)
    at (inr l) =
        let within : i < length (xs ++ x ∷ []) = slice_get_within (xs ++ x ∷ []) i y e in
        let last : i ≡ length xs = omega (arith, l, within, length-append xs (x ∷ [])) in
        inl (last, some_same x y (sym (get_last xs x) ∙ ap (slice_get (xs ++ x ∷ [])) (sym last) ∙ e))

pub record IsListedAt (boxes : List Box) (containers : List (Option Below)) (f : Found) : Type 0 where
  pub place : ℕ
  pub below : Below
  pub there : slice_get containers place ≡ Some (Some below)
  pub is : f ≡ found_at boxes below

listed_more : (boxes : List Box) (c : Option Below) (cs : List (Option Below)) (f : Found) → IsListedAt boxes cs f → IsListedAt boxes (c ∷ cs) f
listed_more boxes c cs f h = record { place = suc h.place; below = h.below; there = h.there; is = h.is }

pub listed_of : (boxes : List Box) (cs : List (Option Below)) (f : Found) → Contains (all_found boxes cs) f → IsListedAt boxes cs f
listed_of boxes [] f h = absurd (omega (arith, h.1))
listed_of boxes (None ∷ cs) f h = listed_more boxes None cs f (listed_of boxes cs f h)
listed_of boxes (Some b ∷ cs) f h = at h.0 h.1 h.2 (listed_of boxes cs f)
  where
    at : (k : ℕ) → k < length (found_at boxes b ∷ all_found boxes cs) → get_or (found_at boxes b ∷ all_found boxes cs) k f ≡ f → (Contains (all_found boxes cs) f → IsListedAt boxes cs f) → IsListedAt boxes (Some b ∷ cs) f
    at zero l e more = record { place = 0; below = b; there = refl; is = sym e }
    at (suc k) l e more = listed_more boxes (Some b) cs f (more (k, omega (arith, l), e))

pub found_there : (boxes : List Box) (cs : List (Option Below)) (i : ℕ) (b : Below) → slice_get cs i ≡ Some (Some b) → Contains (all_found boxes cs) (found_at boxes b)
found_there boxes [] i b e = absurd cc
found_there boxes (None ∷ cs) zero b e = absurd cc
found_there boxes (None ∷ cs) (suc i) b e = found_there boxes cs i b e
found_there boxes (Some a ∷ cs) zero b e = let same : a ≡ b = cc in (0, omega arith, ap (found_at boxes) same)
found_there boxes (Some a ∷ cs) (suc i) b e = let h = found_there boxes cs i b e in (suc h.0, omega (arith, h.1), h.2)

abbrev pub found_as : NodeId → Query → List Box → Found
found_as n q boxes = record { id = n; query = q; boxes = boxes }

pub found_asked : (boxes : List Box) (cs : List (Option Below)) (i : ℕ) (b : Below) (n : NodeId) (q : Query) → slice_get cs i ≡ Some (Some b) → same b.id n ≡ true → same_query b.query q ≡ true → Contains (all_found boxes cs) (record { id = n; query = q; boxes = boxes_between boxes b.start b.end })
found_asked boxes cs i b n q e s k =
    let asked : found_at boxes b ≡ found_as n q (boxes_between boxes b.start b.end) = λ j. found_as (same_is b.id n s j) (query_is b.query q k j) (boxes_between boxes b.start b.end) in
    subst (Contains (all_found boxes cs)) asked (found_there boxes cs i b e)

pub found_here : (boxes items : List Box) (cs : List (Option Below)) (all : List Found) → all_found boxes cs ≡ all → items ≡ boxes → (i : ℕ) (b : Below) (n : NodeId) (q : Query) → slice_get cs i ≡ Some (Some b) → same b.id n ≡ true → same_query b.query q ≡ true
    → Contains all (record { id = n; query = q; boxes = take (b.end - b.start) (drop b.start items) })
found_here boxes items cs all view is i b n q e s k =
    subst (λ (z : List Box). Contains all (found_as n q (boxes_between z b.start b.end))) (sym is)
    (subst (λ (z : List Found). Contains z (found_as n q (boxes_between boxes b.start b.end))) view (found_asked boxes cs i b n q e s k))

pub close_here : (boxes items : List Box) (slots : List ℕ) (cs : List (Option Below)) → AreListed slots cs boxes → items ≡ boxes → (i : ℕ) (b : Below) → slice_get cs i ≡ Some (Some b) → AreClose (take (b.end - b.start) (drop b.start items))
close_here boxes items slots cs h is i b e = subst (λ (z : List Box). AreClose (boxes_between z b.start b.end)) (sym is) (h.close i b e)

-- ---- the same boxes in a longer list

longer : (old new : List Box) → take (length old) new ≡ old → old ++ drop (length old) new ≡ new
longer old new front = ap (λ (l : List Box). l ++ drop (length old) new) (sym front) ∙ take-append-drop (length old) new

longer_by : (old new : List Box) → take (length old) new ≡ old → length old ≤ length new
longer_by old new front = omega (arith, ap length (longer old new front), length-append old (drop (length old) new))

between_same : (old new : List Box) (start end : ℕ) → take (length old) new ≡ old → start ≤ end → end ≤ length old → boxes_between new start end ≡ boxes_between old start end
between_same old new start end front order within =
    let rest = drop (length old) new in
    ap (λ (l : List Box). boxes_between l start end) (sym (longer old new front))
    ∙ ap (take (end - start)) (drop-append-le start old rest (omega (arith, order, within)))
    ∙ take-append-le (end - start) (drop start old) rest (omega (arith, length-drop start old, order, within))

pub all_same : (old new : List Box) (cs : List (Option Below)) → take (length old) new ≡ old → ((i : ℕ) (b : Below) → slice_get cs i ≡ Some (Some b) → b.start ≤ b.end) → ((i : ℕ) (b : Below) → slice_get cs i ≡ Some (Some b) → b.end ≤ length old) → all_found new cs ≡ all_found old cs
all_same old new [] front order within = refl
all_same old new (None ∷ cs) front order within = all_same old new cs front (λ i. order (suc i)) (λ i. within (suc i))
all_same old new (Some b ∷ cs) front order within =
    let first = between_same old new b.start b.end front (order 0 b refl) (within 0 b refl) in
    let more = all_same old new cs front (λ i. order (suc i)) (λ i. within (suc i)) in
    λ j. found_as b.id b.query (first j) ∷ more j

pub listed_longer : (slots : List ℕ) (cs : List (Option Below)) (old new : List Box) → take (length old) new ≡ old → AreListed slots cs old → AreListed slots cs new
listed_longer slots cs old new front h =
    record {
      placed = h.placed;
      ordered = h.ordered;
      within = λ i b e. omega (arith, h.within i b e, longer_by old new front);
      close = λ i b e. subst AreClose (sym (between_same old new b.start b.end front (h.ordered i b e) (h.within i b e))) (h.close i b e);
    }

between_put : (old more : List Box) → boxes_between (old ++ more) (length old) (length (old ++ more)) ≡ more
between_put old more = ap (take (length (old ++ more) - length old)) (drop_at old more (length old) refl) ∙ take_all (length (old ++ more) - length old) more (omega (arith, length-append old more))

-- ---- a container that is listed

module _ (b : Below) where
  listed_slots : (slots later : List ℕ) (cs : List (Option Below)) (boxes : List Box) → KeepsSlots slots later → AreListed slots cs boxes → AreListed later cs boxes
  listed_slots slots later cs boxes keeps h = record { placed = λ i c e. keeps c.id.slot i (h.placed i c e); ordered = h.ordered; within = h.within; close = h.close }

  pub not_listed : (slots later : List ℕ) (cs : List (Option Below)) → KeepsSlots slots later → IsListed b slots cs later cs
  not_listed slots later cs keeps =
      record {
        listed = λ boxes h order within close. listed_slots slots later cs boxes keeps h;
        all = λ boxes f h. inl h;
      }

  pub listed_through : (slots middle later : List ℕ) (cs now : List (Option Below)) → KeepsSlots slots middle → IsListed b middle cs later now → IsListed b slots cs later now
  listed_through slots middle later cs now keeps h =
      record {
        listed = λ boxes k. h.listed boxes (listed_slots slots middle cs boxes keeps k);
        all = h.all;
      }

  -- each container that is listed now was before, or is this one at this place
  abbrev pub AddsAt : List (Option Below) → List (Option Below) → ℕ → Type 0
  AddsAt cs now n = (i : ℕ) (c : Below) → slice_get now i ≡ Some (Some c) → ((i ≡ n) × (b ≡ c)) ⊎ (slice_get cs i ≡ Some (Some c))

  module _ (slots later : List ℕ) (cs now : List (Option Below)) (n : ℕ) (adds : AddsAt cs now n) (own : slice_get later b.id.slot ≡ Some n) where
    listed_as : ((boxes : List Box) → AreListed slots cs boxes → (i : ℕ) (c : Below) → slice_get cs i ≡ Some (Some c) → slice_get later c.id.slot ≡ Some i) → IsListed b slots cs later now
    listed_as others =
        record {
          listed = λ boxes h order within close.
              record {
                placed = λ i c e. placed boxes h i c (adds i c e);
                ordered = λ i c e. either (λ (z : Below). z.start ≤ z.end) (λ i d e. h.ordered i d e) order i c (adds i c e);
                within = λ i c e. either (λ (z : Below). z.end ≤ length boxes) (λ i d e. h.within i d e) within i c (adds i c e);
                close = λ i c e. either (λ (z : Below). AreClose (boxes_between boxes z.start z.end)) (λ i d e. h.close i d e) close i c (adds i c e);
              };
          all = λ boxes f h. all boxes f (listed_of boxes now f h);
        }
      where
        placed : (boxes : List Box) → AreListed slots cs boxes → (i : ℕ) (c : Below) → ((i ≡ n) × (b ≡ c)) ⊎ (slice_get cs i ≡ Some (Some c)) → slice_get later c.id.slot ≡ Some i
        placed boxes h i c (inl e) = ap (λ (z : Below). slice_get later z.id.slot) (sym e.1) ∙ own ∙ ap (λ (z : ℕ). Some z) (sym e.0)
        placed boxes h i c (inr e) = others boxes h i c e

        either : (P : Below → Type 0) → ((i : ℕ) (c : Below) → slice_get cs i ≡ Some (Some c) → P c) → P b → (i : ℕ) (c : Below) → ((i ≡ n) × (b ≡ c)) ⊎ (slice_get cs i ≡ Some (Some c)) → P c
        either P h k i c (inl e) = subst P e.1 k
        either P h k i c (inr e) = h i c e

        all : (boxes : List Box) (f : Found) → IsListedAt boxes now f → Contains (all_found boxes cs) f ⊎ (f ≡ found_at boxes b)
        all boxes f h = at (adds h.place h.below h.there)
          where
            at : ((h.place ≡ n) × (b ≡ h.below)) ⊎ (slice_get cs h.place ≡ Some (Some h.below)) → Contains (all_found boxes cs) f ⊎ (f ≡ found_at boxes b)
            at (inl e) = inr (h.is ∙ ap (found_at boxes) (sym e.1))
            at (inr e) = inl (subst (Contains (all_found boxes cs)) (sym h.is) (found_there boxes cs h.place h.below e))

  pub listed_in_place : (slots : List ℕ) (cs now : List (Option Below)) (n : ℕ) → slice_get slots b.id.slot ≡ Some n → n < length cs → now ≡ slice_set cs n (Some b) → IsListed b slots cs slots now
  listed_in_place slots cs now n own l is =
      subst (λ (z : List (Option Below)). IsListed b slots cs slots z) (sym is)
      (listed_as slots slots cs (slice_set cs n (Some b)) n (λ i c e. at i c (set_cases cs n (Some b) i (Some c) l e)) own (λ boxes h. h.placed))
    where
      at : (i : ℕ) (c : Below) → ((i ≡ n) × (Some b ≡ Some c)) ⊎ ((i ≢ n) × (slice_get cs i ≡ Some (Some c))) → ((i ≡ n) × (b ≡ c)) ⊎ (slice_get cs i ≡ Some (Some c))
      at i c (inl e) = inl (e.0, some_same b c e.1)
      at i c (inr e) = inr e.1

  pub listed_at_end : (slots later : List ℕ) (cs now : List (Option Below)) (n : ℕ) → n ≡ length cs → b.id.slot < length slots → ((i : ℕ) → slice_get slots b.id.slot ≡ Some i → length cs ≤ i) → later ≡ slice_set slots b.id.slot n → now ≡ cs ++ Some b ∷ [] → IsListed b slots cs later now
  listed_at_end slots later cs now n last l free set put =
      listed_as slots later cs now n (λ i c e. at i c (push_cases cs (Some b) i (Some c) (ap (λ (z : List (Option Below)). slice_get z i) (sym put) ∙ e))) (ap (λ (z : List ℕ). slice_get z b.id.slot) set ∙ get_set slots b.id.slot n l) others
    where
      at : (i : ℕ) (c : Below) → ((i ≡ length cs) × (Some b ≡ Some c)) ⊎ (slice_get cs i ≡ Some (Some c)) → ((i ≡ n) × (b ≡ c)) ⊎ (slice_get cs i ≡ Some (Some c))
      at i c (inl e) = inl (e.0 ∙ sym last, some_same b c e.1)
      at i c (inr e) = inr e

      others : (boxes : List Box) → AreListed slots cs boxes → (i : ℕ) (c : Below) → slice_get cs i ≡ Some (Some c) → slice_get later c.id.slot ≡ Some i
      others boxes h i c e =
          let place = h.placed i c e in
          let within : i < length cs = slice_get_within cs i (Some c) e in
          let other : c.id.slot ≢ b.id.slot = λ same. let past : length cs ≤ i = free i (ap (slice_get slots) (sym same) ∙ place) in absurd (omega (arith, past, within)) in
          ap (λ (z : List ℕ). slice_get z c.id.slot) set ∙ get_other slots b.id.slot c.id.slot n other ∙ place

-- ---- a container that is forgotten

module _ (slots : List ℕ) (cs : List (Option Below)) (boxes : List Box) (h : AreListed slots cs boxes) where
  but : (n i : ℕ) (c : Below) (now : List (Option Below)) → n < length cs → now ≡ slice_set cs n None → slice_get now i ≡ Some (Some c) → (i ≢ n) × (slice_get cs i ≡ Some (Some c))
  but n i c now l is e = at (set_cases cs n None i (Some c) l (ap (λ (z : List (Option Below)). slice_get z i) (sym is) ∙ e))
    where
      at : ((i ≡ n) × (None ≡ Some c)) ⊎ ((i ≢ n) × (slice_get cs i ≡ Some (Some c))) → (i ≢ n) × (slice_get cs i ≡ Some (Some c))
      at (inl p) = let none : None ≡ Some c = p.1 in absurd cc
      at (inr p) = p

  pub listed_but : (now : List (Option Below)) (n : ℕ) → n < length cs → now ≡ slice_set cs n None → AreListed slots now boxes
  listed_but now n l is =
      record {
        placed = λ i c e. h.placed i c (before i c e);
        ordered = λ i c e. h.ordered i c (before i c e);
        within = λ i c e. h.within i c (before i c e);
        close = λ i c e. h.close i c (before i c e);
      }
    where
      before : (i : ℕ) (c : Below) → slice_get now i ≡ Some (Some c) → slice_get cs i ≡ Some (Some c)
      before i c e = (but n i c now l is e).1

  others_left : (now : List (Option Below)) (n : NodeId) (f : Found) → ((i : ℕ) (c : Below) → slice_get now i ≡ Some (Some c) → (slice_get cs i ≡ Some (Some c)) × (slice_get slots n.slot ≢ Some i)) → IsListedAt boxes now f → Contains (all_found boxes cs) f × (same f.id n ≡ false)
  others_left now n f other k =
      let before = other k.place k.below k.there in (
        subst (Contains (all_found boxes cs)) (sym k.is) (found_there boxes cs k.place k.below before.0),
        ap (λ (z : Found). same z.id n) k.is ∙ same_not k.below.id n (λ e. before.1 (ap (λ (z : NodeId). slice_get slots z.slot) (sym e) ∙ h.placed k.place k.below before.0)),
      )

  pub forgets_one : (all : List Found) → all_found boxes cs ≡ all → (now : List (Option Below)) (n : NodeId) (number : ℕ) → ((i : ℕ) → slice_get slots n.slot ≡ Some i → number ≡ i) → number < length cs → now ≡ slice_set cs number None → (f : Found) → Contains (all_found boxes now) f →
      Contains all f × (same f.id n ≡ false)
  forgets_one all view now n number there l is f k =
      let left = others_left now n f (λ i c e. let p = but number i c now l is e in (p.1, λ same. p.0 (sym (there i same)))) (listed_of boxes now f k) in
      (subst (λ (z : List Found). Contains z f) view left.0, left.1)

  pub forgets_none : (all : List Found) → all_found boxes cs ≡ all → (n : NodeId) (number : ℕ) → ((i : ℕ) → slice_get slots n.slot ≡ Some i → number ≡ i) → length cs ≤ number → (f : Found) → Contains all f → Contains all f × (same f.id n ≡ false)
  forgets_none all view n number there l f k =
      let left = others_left cs n f (λ i c e. (e, λ same. let is : number ≡ i = there i same in absurd (omega (arith, is, l, slice_get_within cs i (Some c) e)))) (listed_of boxes cs f (subst (λ (z : List Found). Contains z f) (sym view) k)) in
      (k, left.1)

-- ---- a container that is kept

-- what is put at the end
pub record HasPut (own : Box) (old new : List Box) (listed : Option (List Box)) : Type 0 where
  pub below : List Box
  pub few : listed ≡ Some below
  pub is : new ≡ old ++ own ∷ below

pub put_there : (own : Box) (old new : List Box) (few : Option (List Box)) → IsSome few → IfSome few (λ below. new ≡ old ++ own ∷ below) → HasPut own old new few
put_there own old new None some h = absurd cc
put_there own old new (Some below) some h = record { below = below; few = refl; is = h }

module _ (own : Box) (old new : List Box) (few : Option (List Box)) (put : HasPut own old new few) where
  pub put_long : length old ≤ length new
  put_long = omega (arith, ap length put.is, length-append old (own ∷ put.below))

  pub put_between : boxes_between new (length old) (length new) ≡ own ∷ put.below
  put_between = ap (λ (l : List Box). boxes_between l (length old) (length l)) put.is ∙ between_put old (own ∷ put.below)

  put_close : IsClose own.1 → ((boxes : List Box) → few ≡ Some boxes → AreClose boxes) → AreClose (boxes_between new (length old) (length new))
  put_close h k = subst AreClose (sym put_between) (h, k put.below put.few)

  put_found : (n : NodeId) (q : Query) (f : Found) → f ≡ found_as n q (boxes_between new (length old) (length new)) → IsFoundOf n q own few f
  put_found n q f is =
      record {
        id = ap (λ (z : Found). z.id) is;
        query = ap (λ (z : Found). z.query) is;
        below = put.below;
        few = put.few;
        boxes = ap (λ (z : Found). z.boxes) is ∙ put_between;
      }

  pub put_here : (n : NodeId) (q : Query) (slots later : List ℕ) (cs now : List (Option Below)) (start end : ℕ) → take (length old) new ≡ old → start ≡ length old → end ≡ length new → IsClose own.1 → ((boxes : List Box) → few ≡ Some boxes → AreClose boxes) →
      IsListed (record { id = n; query = q; start = start; end = end }) slots cs later now
      → IsPut n q own few slots cs old later now new
  put_here n q slots later cs now start end front at to h k listed =
      record {
        listed = λ are. listed.listed new (listed_longer slots cs old new front are) (omega (arith, at, to, put_long)) (omega (arith, to)) (subst AreClose between (put_close h k));
        all = λ are f in_now. either are f (listed.all new f in_now);
      }
    where
      between : boxes_between new (length old) (length new) ≡ boxes_between new start end
      between = λ j. boxes_between new (sym at j) (sym to j)

      either : AreListed slots cs old → (f : Found) → Contains (all_found new cs) f ⊎ (f ≡ found_at new (record { id = n; query = q; start = start; end = end })) → Contains (all_found old cs) f ⊎ IsFoundOf n q own few f
      either are f (inl there) = inl (subst (λ (z : List Found). Contains z f) (all_same old new cs front are.ordered are.within) there)
      either are f (inr is) = inr (put_found n q f (is ∙ ap (found_as n q) (sym between)))

pub not_put : (n : NodeId) (q : Query) (own : Box) (few : Option (List Box)) (slots : List ℕ) (cs : List (Option Below)) (old new : List Box) → take (length old) new ≡ old → IsPut n q own few slots cs old slots cs new
not_put n q own few slots cs old new front =
    record {
      listed = λ are. listed_longer slots cs old new front are;
      all = λ are f there. inl (subst (λ (z : List Found). Contains z f) (all_same old new cs front are.ordered are.within) there);
    }

-- ---- what is left

-- What was found last is right where it is let go once it may not be.
pub found_left : (b now : BareTrees) → now ≡ b → (kept : NodeId → List (Query × Answer)) (lost : Bool) (old new : List Found) → new ≡ (if lost then [] else old) → (lost ≡ false → AreFound b kept old) → AreFound now kept new
found_left b now same kept true old new left found f there live =
    let none : Contains [] f = subst (λ (l : List Found). Contains l f) left there in
    absurd (omega (arith, none.1))
found_left b now same kept false old new left found f there live = subst (λ (z : BareTrees). AreFound z kept new) (sym same) (subst (AreFound b kept) (sym left) (found refl)) f there live
