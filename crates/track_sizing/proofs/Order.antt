-- Items in the order of how many tracks they span, and runs of those that span as many.
use Rattle.std.proofs.Common.{arith, ap, subst, ◌≡◌, ◌≢◌, ◌∙◌, sym, refl, true≢false, ℕ, zero, suc, ◌+◌, ◌<◌, ◌≤◌, ℤ, pos, ◌+ℤ◌, ◌≤ℤ◌, ◌<ℤ◌, Bool, true, false, not, ◌&&◌, List, [], ◌∷◌, ◌++◌, take, drop, length, get_or, cond, filter, int_lt}
use Rattle.std.specs.Ordering.{int_cmp, int_eq, is_eq, is_lt}
use Rattle.std.specs.declared.cmp.Ordering.TheVariants.{Less, Equal, Greater}
use Rattle.std.specs.List.{All}
use Rattle.std.specs.List.Sorted.{IsPermutation, IsSortedByKey, IsStableByKey, ties}
use Rattle.std.proofs.lemmas.Int.{ints}
use Rattle.std.proofs.Math.ListN.{drop_of_length-le}
use Rattle.std.proofs.lemmas.List.{append-nil, take-append-drop}
use Rattle.std.proofs.lemmas.List.Elements.{filter-append}
use Rattle.std.proofs.lemmas.List.Sorted.{All-permutation}
use Rattle.lunit.specs.declared.item.Item.{Item}
use Rattle.lunit.specs.declared.item.Floor.TheVariants.{Known}
use Rattle.part_rules.specs.declared.track.Space.{Space}
use Rattle.part_rules.specs.Tracks.{Track, crosses_flexible, of_span, some_fitted, span_length, spans_fitted}
use Rattle.track_sizing.specs.Placed.{AreIn, IsIn}
use Rattle.track_sizing.specs.Ordered.{AreFrom, AreOf, AreRising, IsInOrder, IsLeft, IsRun, has}
use Rattle.track_sizing.specs.Spans.{is_wide}
use Rattle.track_sizing.proofs.Sums.{drop_item}

-- ---- tests of numbers

eq_of : (x k : ℤ) (a b : Bool) → int_lt x k ≡ a → int_lt k x ≡ b → int_eq x k ≡ is_eq (cond a Less (cond b Greater Equal))
eq_of x k a b d c = ap (λ (t : Bool). is_eq (cond t Less (cond (int_lt k x) Greater Equal))) d ∙ ap (λ (t : Bool). is_eq (cond a Less (cond t Greater Equal))) c

pub is_it : (x k : ℤ) → x ≡ k → int_eq x k ≡ true
is_it x k e = go (int_lt x k) (int_lt k x) refl refl
  where
    go : (a b : Bool) → int_lt x k ≡ a → int_lt k x ≡ b → int_eq x k ≡ true
    go true b d c = absurd (omega (arith, ints))
    go false true d c = absurd (omega (arith, ints))
    go false false d c = eq_of x k false false d c

pub is_not : (x k : ℤ) → x ≢ k → int_eq x k ≡ false
is_not x k n = go (int_lt x k) (int_lt k x) refl refl
  where
    go : (a b : Bool) → int_lt x k ≡ a → int_lt k x ≡ b → int_eq x k ≡ false
    go true b d c = eq_of x k true b d c
    go false true d c = eq_of x k false true d c
    go false false d c = absurd (n (omega (arith, ints)))

pub other_number : (x k : ℤ) → int_eq x k ≡ false → x ≢ k
other_number x k h e = true≢false (sym (is_it x k e) ∙ h)

pub that_number : (x k : ℤ) → int_eq x k ≡ true → x ≡ k
that_number x k h = go (int_lt x k) (int_lt k x) refl refl
  where
    go : (a b : Bool) → int_lt x k ≡ a → int_lt k x ≡ b → x ≡ k
    go true b d c = absurd (true≢false (sym h ∙ eq_of x k true b d c))
    go false true d c = absurd (true≢false (sym h ∙ eq_of x k false true d c))
    go false false d c = omega (arith, ints)

pub same_test : (p q : Item → Bool) (items : List Item) → ((i : Item) → p i ≡ q i) → filter p items ≡ filter q items
same_test p q [] h = refl
same_test p q (i ∷ rest) h = ap (λ (b : Bool). cond b (i ∷ filter p rest) (filter p rest)) (h i) ∙ ap (λ (xs : List Item). cond (q i) (i ∷ xs) xs) (same_test p q rest h)

-- ---- what is left

from_lower : (j k : ℤ) (items : List Item) → j ≤ℤ k → AreFrom k items → AreFrom j items
from_lower j k [] l h = tt
from_lower j k (i ∷ rest) l h = (omega (arith, ints, h.0), from_lower j k rest l h.1)

from_drop : (k : ℤ) (n : ℕ) (items : List Item) → AreFrom k items → AreFrom k (drop n items)
from_drop k zero items h = h
from_drop k (suc n) [] h = tt
from_drop k (suc n) (i ∷ rest) h = from_drop k n rest h.1

rising_drop : (n : ℕ) (items : List Item) → AreRising items → AreRising (drop n items)
rising_drop zero items h = h
rising_drop (suc n) [] h = tt
rising_drop (suc n) (i ∷ rest) h = rising_drop n rest h.1

-- those of a lesser number than all
none_of : (j k : ℤ) (items : List Item) → j <ℤ k → AreFrom k items → filter (has j) items ≡ []
none_of j k [] l h = refl
none_of j k (i ∷ rest) l h = ap (λ (b : Bool). cond b (i ∷ filter (has j) rest) (filter (has j) rest)) (is_not (span_length i) j (λ e. omega (arith, ints, h.0, e))) ∙ none_of j k rest l h.1

-- ---- the first of one number

pub of_none : (k : ℤ) (items : List Item) (n : ℕ) → n ≡ 0 → AreOf k (take n items)
of_none k items n e = subst (λ (m : ℕ). AreOf k (take m items)) (sym e) tt

pub of_more : (k : ℤ) (items : List Item) (n : ℕ) (i : Item) → AreOf k (take n items) → n < length items → i ≡ get_or items n i → span_length i ≡ k → AreOf k (take (suc n) items)
of_more k [] n i h l e v = tt
of_more k (x ∷ xs) zero i h l e v = (ap span_length (sym e) ∙ v, tt)
of_more k (x ∷ xs) (suc n) i h l e v = (h.0, of_more k xs n i h.1 (omega arith) e v)

others_of : (j k : ℤ) (items : List Item) → j ≢ k → AreOf k items → filter (has j) items ≡ []
others_of j k [] n h = refl
others_of j k (i ∷ rest) n h = ap (λ (b : Bool). cond b (i ∷ filter (has j) rest) (filter (has j) rest)) (is_not (span_length i) j (λ e. n (sym e ∙ h.0))) ∙ others_of j k rest n h.1

-- where the next one has another number, or there is none
above : (k : ℤ) (items : List Item) → AreRising items → AreFrom k items → ((i : Item) → 0 < length items → i ≡ get_or items 0 i → span_length i ≢ k) → AreFrom (k +ℤ pos 1) items
above k [] r f n = tt
above k (i ∷ rest) r f n =
    let more : (k +ℤ pos 1) ≤ℤ span_length i = beyond (span_length i) f.0 (n i (omega arith) refl) in
    (more, from_lower (k +ℤ pos 1) (span_length i) rest more r.0)
  where
    beyond : (x : ℤ) → k ≤ℤ x → x ≢ k → (k +ℤ pos 1) ≤ℤ x
    beyond x l d = go (int_lt k x) refl
      where
        go : (b : Bool) → int_lt k x ≡ b → (k +ℤ pos 1) ≤ℤ x
        go true e = omega (arith, ints)
        go false e = absurd (d (omega (arith, ints)))

pub run_of : (k : ℤ) (items : List Item) (n : ℕ) → AreRising items → AreFrom k items → AreOf k (take n items) → AreFrom (k +ℤ pos 1) (drop n items) → IsRun k items n
run_of k items n r f o a =
    let whole : take n items ++ drop n items ≡ items = take-append-drop n items in
    record {
      each = o;
      own = sym (append_none (filter (has k) (take n items)) (filter (has k) (drop n items)) (none_of k (k +ℤ pos 1) (drop n items) (omega (arith, ints)) a)) ∙ sym (filter-append (has k) (take n items) (drop n items)) ∙ ap (filter (has k)) whole;
      others = λ j l. ap (λ (xs : List Item). xs ++ filter (has j) (drop n items)) (sym (others_of j k (take n items) (λ e. omega (arith, ints, e)) o)) ∙ sym (filter-append (has j) (take n items) (drop n items)) ∙ ap (filter (has j)) whole;
      rising = rising_drop n items r;
      from = a;
    }
  where
    append_none : (xs ys : List Item) → ys ≡ [] → xs ++ ys ≡ xs
    append_none xs ys e = ap (λ (zs : List Item). xs ++ zs) e ∙ append-nil xs

drop_first : (n : ℕ) (items : List Item) (i : Item) → 0 < length (drop n items) → i ≡ get_or (drop n items) 0 i → (n < length items) × (i ≡ get_or items n i)
drop_first zero items i l e = (l, e)
drop_first (suc n) [] i l e = absurd (omega arith)
drop_first (suc n) (x ∷ xs) i l e = let more = drop_first n xs i l e in (omega (arith, more.0), more.1)

pub run_ends : (k : ℤ) (items : List Item) (n : ℕ) → AreRising items → AreFrom k items → AreOf k (take n items) → length items ≤ n → IsRun k items n
run_ends k items n r f o l = run_of k items n r f o (above k (drop n items) (rising_drop n items r) (from_drop k n items f) (λ i s e. absurd (omega (arith, (drop_first n items i s e).0))))

pub run_stops : (k : ℤ) (items : List Item) (n : ℕ) (i : Item) → AreRising items → AreFrom k items → AreOf k (take n items) → n < length items → i ≡ get_or items n i → span_length i ≢ k → IsRun k items n
run_stops k items n i r f o l e d = run_of k items n r f o (above k (drop n items) (rising_drop n items r) (from_drop k n items f) (λ x s v. λ same. d (ap span_length (e ∙ same_at items n i x l ∙ sym (drop_first n items x s v).1) ∙ same)))
  where
    same_at : (xs : List Item) (m : ℕ) (y z : Item) → m < length xs → get_or xs m y ≡ get_or xs m z
    same_at [] m y z h = absurd (omega arith)
    same_at (x ∷ xs) zero y z h = refl
    same_at (x ∷ xs) (suc m) y z h = same_at xs m y z (omega arith)

pub ruleset runs = (of_none, of_more, run_ends, run_stops)

-- ---- from one number to the next

pub next_left : (k : ℤ) (items left : List Item) (n : ℕ) → IsLeft k items left → IsRun k left n → IsLeft (k +ℤ pos 1) items (drop n left)
next_left k items left n so run = record { same = λ j l. run.others j l ∙ so.same j (omega (arith, ints)); rising = run.rising; from = run.from }

pub own_items : (k : ℤ) (items left : List Item) (n : ℕ) → IsLeft k items left → IsRun k left n → filter (has k) (take n left) ≡ filter (has k) items
own_items k items left n so run = run.own ∙ so.same k (omega (arith, ints))

-- ---- what a stable sort gives

with_key : ℤ → Item
with_key k = record { span = record { start = pos 0; end = k }; low = pos 0; high = pos 0; floor = Known (pos 0) }

its_key : (k : ℤ) → span_length (with_key k) ≡ k
unfolding with_key
its_key k = omega (arith, ints)

abbrev less : ℤ → ℤ → Bool
less x y = is_lt (int_cmp x y)

less_true : (x y : ℤ) → int_lt x y ≡ true → less x y ≡ true
less_true x y d = ap (λ (t : Bool). is_lt (cond t Less (cond (int_lt y x) Greater Equal))) d

less_false : (x y : ℤ) → int_lt x y ≡ false → less x y ≡ false
less_false x y d = ap (λ (t : Bool). is_lt (cond t Less (cond (int_lt y x) Greater Equal))) d ∙ go (int_lt y x)
  where
    go : (b : Bool) → is_lt (cond b Greater Equal) ≡ false
    go true = refl
    go false = refl

tie_test : (x y k : ℤ) → x ≡ k → (not (less x y) && not (less y x)) ≡ int_eq y k
tie_test x y k e = go (int_lt x y) (int_lt y x) refl refl
  where
    go : (a b : Bool) → int_lt x y ≡ a → int_lt y x ≡ b → (not (less x y) && not (less y x)) ≡ int_eq y k
    go true b d c = ap (λ (t : Bool). not t && not (less y x)) (less_true x y d) ∙ sym (is_not y k (λ f. omega (arith, ints, e, f)))
    go false true d c = ap (λ (t : Bool). not t && not (less y x)) (less_false x y d) ∙ ap not (less_true y x c) ∙ sym (is_not y k (λ f. omega (arith, ints, e, f)))
    go false false d c = ap (λ (t : Bool). not t && not (less y x)) (less_false x y d) ∙ ap not (less_false y x c) ∙ sym (is_it y k (omega (arith, ints, e)))

pub same_classes : (items sorted : List Item) → IsStableByKey span_length int_cmp items sorted → (k : ℤ) → filter (has k) sorted ≡ filter (has k) items
same_classes items sorted h k =
    let same : (i : Item) → ties (λ x y. less (span_length x) (span_length y)) (with_key k) i ≡ has k i = λ i. tie_test (span_length (with_key k)) (span_length i) k (its_key k) in
    sym (same_test (ties (λ x y. less (span_length x) (span_length y)) (with_key k)) (has k) sorted same) ∙ h (with_key k) ∙ same_test (ties (λ x y. less (span_length x) (span_length y)) (with_key k)) (has k) items same

not_less : (x y : ℤ) → less x y ≡ false → y ≤ℤ x
not_less x y e = go (int_lt x y) refl
  where
    go : (b : Bool) → int_lt x y ≡ b → y ≤ℤ x
    go true d = absurd (true≢false (sym (less_true x y d) ∙ e))
    go false d = omega (arith, ints)

later : (i : Item) (rest : List Item) → IsSortedByKey span_length int_cmp (i ∷ rest) → IsSortedByKey span_length int_cmp rest
later i rest h k d a b =
    let next : suc k + 1 ≡ suc (k + 1) = omega arith in
    sym (ap (λ (m : ℕ). less (span_length (get_or (i ∷ rest) m d)) (span_length (get_or rest k d))) next) ∙ h (suc k) d (omega arith) (omega arith)

from_first : (m : ℤ) (i : Item) (rest : List Item) → m ≤ℤ span_length i → IsSortedByKey span_length int_cmp (i ∷ rest) → AreFrom m (i ∷ rest)
from_first m i [] l h = (l, tt)
from_first m i (x ∷ rest) l h =
    let step : span_length i ≤ℤ span_length x = not_less (span_length x) (span_length i) (h 0 i (omega arith) (omega arith)) in
    (l, from_first m x rest (omega (arith, ints, l, step)) (later i (x ∷ rest) h))

pub rises : (items : List Item) → IsSortedByKey span_length int_cmp items → AreRising items
rises [] h = tt
rises (i ∷ []) h = (tt, tt)
rises (i ∷ x ∷ rest) h = (from_first (span_length i) x rest (not_less (span_length x) (span_length i) (h 0 i (omega arith) (omega arith))) (later i (x ∷ rest) h), rises (x ∷ rest) (later i (x ∷ rest) h))

pub all_from_in : (first : ℤ) (n : ℕ) (items : List Item) → AreIn first n items → All (IsIn first n) items
all_from_in first n [] h k d l = absurd (omega arith)
all_from_in first n (i ∷ rest) h zero d l = h.0
all_from_in first n (i ∷ rest) h (suc k) d l = all_from_in first n rest h.1 k d (omega arith)

pub in_from_all : (first : ℤ) (n : ℕ) (items : List Item) → All (IsIn first n) items → AreIn first n items
in_from_all first n [] h = tt
in_from_all first n (i ∷ rest) h = (h 0 i (omega arith), in_from_all first n rest (λ k d l. h (suc k) d (omega arith)))

pub in_permuted : (first : ℤ) (n : ℕ) (items sorted : List Item) → IsPermutation items sorted → AreIn first n items → AreIn first n sorted
in_permuted first n items sorted p h = in_from_all first n sorted (All-permutation (IsIn first n) items sorted p (all_from_in first n items h))

all_at_least : (k : ℤ) (items : List Item) → AreFrom k items → All (λ i. k ≤ℤ span_length i) items
all_at_least k [] h m d l = absurd (omega arith)
all_at_least k (i ∷ rest) h zero d l = h.0
all_at_least k (i ∷ rest) h (suc m) d l = all_at_least k rest h.1 m d (omega arith)

from_all : (k : ℤ) (items : List Item) → All (λ i. k ≤ℤ span_length i) items → AreFrom k items
from_all k [] h = tt
from_all k (i ∷ rest) h = (h 0 i (omega arith), from_all k rest (λ m d l. h (suc m) d (omega arith)))

pub from_permuted : (k : ℤ) (items sorted : List Item) → IsPermutation items sorted → AreFrom k items → AreFrom k sorted
from_permuted k items sorted p h = from_all k sorted (All-permutation (λ i. k ≤ℤ span_length i) items sorted p (all_at_least k items h))

-- ---- items that are in order already

-- Where those from this place on are in order and none spans fewer than so many tracks, all are in order.
pub record IsRisingTo (items : List Item) (i : ℕ) (least : ℤ) : Type 0 where
  pub whole : AreFrom least (drop i items) → AreRising (drop i items) → AreRising items

pub rising_start : (items : List Item) (least : ℤ) → IsRisingTo items 0 least
rising_start items least = record { whole = λ f r. r }

pub rising_more : (items : List Item) (i : ℕ) (least tracks : ℤ) (x : Item) → IsRisingTo items i least → i < length items → x ≡ get_or items i x → tracks ≡ span_length x → least ≤ℤ tracks → IsRisingTo items (i + 1) tracks
rising_more items i least tracks x so h e v l =
    let rest : drop i items ≡ x ∷ drop (i + 1) items = drop_item items i x h e in
    record {
      whole = λ f r.
          so.whole (subst (AreFrom least) (sym rest) (omega (arith, ints, l, v), from_lower least tracks (drop (i + 1) items) l f))
          (subst AreRising (sym rest) (subst (λ (z : ℤ). AreFrom z (drop (i + 1) items)) v f, r));
    }

pub rising_all : (items : List Item) (i : ℕ) (least : ℤ) → IsRisingTo items i least → length items ≤ i → AreRising items
rising_all items i least so h = let none : drop i items ≡ [] = drop_of_length-le items h in so.whole (subst (AreFrom least) (sym none) tt) (subst AreRising (sym none) tt)

pub ruleset rising = (rising_start, rising_more, rising_all)

pub as_they_were : (items sorted : List Item) → sorted ≡ items → AreRising sorted → IsInOrder items sorted
as_they_were items sorted e r =
    record {
      same = λ k. ap (filter (has k)) e;
      rising = r;
      from = λ k h. subst (AreFrom k) (sym e) h;
      in_them = λ first n h. subst (AreIn first n) (sym e) h;
    }

-- ---- items that span two tracks or more

wide_same : (j : ℤ) (items : List Item) → pos 2 ≤ℤ j → filter (has j) (filter is_wide items) ≡ filter (has j) items
wide_same j [] l = refl
wide_same j (i ∷ rest) l = go (is_wide i) refl (wide_same j rest l)
  where
    go : (b : Bool) → is_wide i ≡ b → filter (has j) (filter is_wide rest) ≡ filter (has j) rest → filter (has j) (cond b (i ∷ filter is_wide rest) (filter is_wide rest)) ≡ cond (has j i) (i ∷ filter (has j) rest) (filter (has j) rest)
    go true e h = ap (λ (xs : List Item). cond (has j i) (i ∷ xs) xs) h
    go false e h = h ∙ sym (ap (λ (b : Bool). cond b (i ∷ filter (has j) rest) (filter (has j) rest)) (is_not (span_length i) j (λ d. omega (arith, ints, e, d, l))))

wide_from : (items : List Item) → AreFrom (pos 2) (filter is_wide items)
wide_from [] = tt
wide_from (i ∷ rest) = go (is_wide i) refl (wide_from rest)
  where
    go : (b : Bool) → is_wide i ≡ b → AreFrom (pos 2) (filter is_wide rest) → AreFrom (pos 2) (cond b (i ∷ filter is_wide rest) (filter is_wide rest))
    go true e h = (omega (arith, ints, e), h)
    go false e h = h

pub wide_left : (items wide sorted : List Item) → wide ≡ filter is_wide items → IsInOrder wide sorted → IsLeft (pos 2) items sorted
wide_left items wide sorted e so =
    record {
      same = λ j l. so.same j ∙ ap (filter (has j)) e ∙ wide_same j items l;
      rising = so.rising;
      from = so.from (pos 2) (subst (AreFrom (pos 2)) (sym e) (wide_from items));
    }

pub in_filter : (test : Item → Bool) (first : ℤ) (n : ℕ) (items : List Item) → AreIn first n items → AreIn first n (filter test items)
in_filter test first n [] h = tt
in_filter test first n (i ∷ rest) h = go (test i) (in_filter test first n rest h.1)
  where
    go : (b : Bool) → AreIn first n (filter test rest) → AreIn first n (cond b (i ∷ filter test rest) (filter test rest))
    go true g = (h.0, g)
    go false g = g

-- ---- tests that ask for a number first

both_tests : (p q : Item → Bool) (items : List Item) → filter (λ i. p i && q i) items ≡ filter q (filter p items)
both_tests p q [] = refl
both_tests p q (i ∷ rest) = go (p i) (both_tests p q rest)
  where
    go : (a : Bool) → filter (λ x. p x && q x) rest ≡ filter q (filter p rest) → cond (a && q i) (i ∷ filter (λ x. p x && q x) rest) (filter (λ x. p x && q x) rest) ≡ filter q (cond a (i ∷ filter p rest) (filter p rest))
    go true h = ap (λ (xs : List Item). cond (q i) (i ∷ xs) xs) h
    go false h = h

pub group_in : (ts : List Track) (n : ℕ) (items mine : List Item) → filter (has (pos n)) mine ≡ filter (has (pos n)) items → of_span ts mine n ≡ of_span ts items n
group_in ts n items mine h =
    both_tests (has (pos n)) (λ i. not (crosses_flexible ts i)) mine
    ∙ ap (filter (λ (i : Item). not (crosses_flexible ts i))) h
    ∙ sym (both_tests (has (pos n)) (λ i. not (crosses_flexible ts i)) items)

-- where none is left, the groups that follow change nothing
none_left : {axis : ℕ} (space : Space axis) (gap : ℤ) (items : List Item) (more n : ℕ) (ts : List Track) → IsLeft (pos n) items [] → spans_fitted space gap items more n ts ≡ ts
unfolding spans_fitted
none_left space gap items zero n ts h = refl
none_left space gap items (suc more) n ts h =
    let own : of_span ts items n ≡ [] = sym (group_in ts n items [] (h.same (pos n) (omega (arith, ints)))) in
    ap (λ (xs : List Item). spans_fitted space gap items more (n + 1) (some_fitted space gap xs ts)) own
    ∙ none_left space gap items more (n + 1) ts (record { same = λ j l. h.same j (omega (arith, ints)); rising = tt; from = tt })

pub ended : {axis : ℕ} (space : Space axis) (gap : ℤ) (items left : List Item) (more n : ℕ) (ts whole : List Track) → IsLeft (pos n) items left → length left ≡ 0 → spans_fitted space gap items more n ts ≡ whole → ts ≡ whole
ended space gap items [] more n ts whole h l e = sym (none_left space gap items more n ts h) ∙ e
ended space gap items (x ∷ xs) more n ts whole h l e = absurd (omega arith)

-- ---- items in the tracks

pub in_take : (first : ℤ) (n k : ℕ) (items : List Item) → AreIn first n items → AreIn first n (take k items)
in_take first n zero items h = tt
in_take first n (suc k) [] h = tt
in_take first n (suc k) (i ∷ rest) h = (h.0, in_take first n k rest h.1)

pub in_drop : (first : ℤ) (n k : ℕ) (items : List Item) → AreIn first n items → AreIn first n (drop k items)
in_drop first n zero items h = h
in_drop first n (suc k) [] h = tt
in_drop first n (suc k) (i ∷ rest) h = in_drop first n k rest h.1
