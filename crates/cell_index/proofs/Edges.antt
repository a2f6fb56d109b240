-- Lines at which what is taken changes.
use Rattle.std.proofs.Common.{arith, rules, refl, sym, ap, subst, ◌∙◌, ◌≡◌, ℕ, zero, suc, ◌%◌, ◌==◌, ◌<◌, ◌≤◌, ℤ, pos, ◌≤ℤ◌, ◌<ℤ◌, Bool, true, false, not, ◌&&◌, ◌||◌, List, [], ◌∷◌, ◌++◌, length, get_or, take, drop, int_le, int_lt, if◌then◌else◌}
use Rattle.std.specs.List.{AllByRecursion}
use Rattle.std.proofs.lemmas.Int.{ints}
use Rattle.std.specs.Cmp.Lexicographic.{pointwise}
use Rattle.std.specs.Cmp.Rules.{signed_items}
use Rattle.std.proofs.Common.{append_assoc, negsuc, ◌+ℤ◌, ◌-ℤ◌, ◌≢◌, int_eq, tests, take-append-drop, length-take-le, drop_of_length-le, true≢false}
use Rattle.lunit.specs.declared.geometry.Span.{Span}
use Rattle.cell_index.specs.Rising.{AreRising}
use Rattle.cell_index.specs.Taken.{are_free, changes, is_open, one_if, tracks_of, with_span, within}

-- ---- lists whose items all pass

all_at : (P : ℤ → Type 0) (xs : List ℤ) → AllByRecursion P xs → (i : ℕ) → i < length xs → P (get_or xs i (pos 0))
all_at P [] h i k = absurd (omega (arith, k))
all_at P (x ∷ xs) h zero k = h.0
all_at P (x ∷ xs) h (suc i) k = all_at P xs h.1 i (omega arith)

all_take : (P : ℤ → Type 0) (n : ℕ) (xs : List ℤ) → ((i : ℕ) → i < n → i < length xs → P (get_or xs i (pos 0))) → AllByRecursion P (take n xs)
all_take P zero xs h = tt
all_take P (suc n) [] h = tt
all_take P (suc n) (x ∷ xs) h = (h 0 (omega arith) (omega arith), all_take P n xs (λ i k l. h (suc i) (omega arith) (omega arith)))

all_drop : (P : ℤ → Type 0) (n : ℕ) (xs : List ℤ) → ((i : ℕ) → n ≤ i → i < length xs → P (get_or xs i (pos 0))) → AllByRecursion P (drop n xs)
all_drop P zero [] h = tt
all_drop P zero (x ∷ xs) h = (h 0 (omega arith) (omega arith), all_drop P zero xs (λ i k l. h (suc i) (omega arith) (omega arith)))
all_drop P (suc n) [] h = tt
all_drop P (suc n) (x ∷ xs) h = all_drop P n xs (λ i k l. h (suc i) (omega arith) (omega arith))

-- lines that rise do not fall
pub ascending : (es : List ℤ) → AreRising es → (i j : ℕ) → i ≤ j → j < length es → get_or es i (pos 0) ≤ℤ get_or es j (pos 0)
ascending [] h i j k l = absurd (omega (arith, l))
ascending (e ∷ es) h zero zero k l = omega (arith, ints)
ascending (e ∷ es) h zero (suc j) k l =
    let less : e <ℤ get_or es j (pos 0) = all_at (λ later. e <ℤ later) es h.0 j (omega arith) in
    omega (arith, ints, less)
ascending (e ∷ es) h (suc i) zero k l = absurd (omega (arith, k))
ascending (e ∷ es) h (suc i) (suc j) k l = ascending es h.1 i j (omega arith) (omega arith)

pub counted_before : (es : List ℤ) (limit : ℤ) (n : ℕ) → ((i : ℕ) → i < n → get_or es i (pos 0) ≤ℤ limit) → AllByRecursion (λ edge. edge ≤ℤ limit) (take n es)
counted_before es limit n h = all_take (λ edge. edge ≤ℤ limit) n es (λ i k l. h i k)

pub counted_after : (es : List ℤ) (limit : ℤ) (n : ℕ) → ((i : ℕ) → n ≤ i → i < length es → limit <ℤ get_or es i (pos 0)) → AllByRecursion (λ edge. limit <ℤ edge) (drop n es)
counted_after es limit n h = all_drop (λ edge. limit <ℤ edge) n es h

pub before_counted : (es : List ℤ) (limit line : ℤ) → line ≡ limit -ℤ pos 1 → AllByRecursion (λ edge. edge ≤ℤ line) es → AllByRecursion (λ edge. edge <ℤ limit) es
before_counted [] limit line e h = tt
before_counted (x ∷ xs) limit line e h = (omega (arith, ints, e, h.0), before_counted xs limit line e h.1)

pub from_counted : (es : List ℤ) (limit line : ℤ) → line ≡ limit -ℤ pos 1 → AllByRecursion (λ edge. line <ℤ edge) es → AllByRecursion (λ edge. limit ≤ℤ edge) es
from_counted [] limit line e h = tt
from_counted (x ∷ xs) limit line e h = (omega (arith, ints, e, h.0), from_counted xs limit line e h.1)

pub same_lines : (xs ys : List ℤ) → pointwise int_eq xs ys ≡ true → xs ≡ ys
same_lines xs ys h = search (rules, signed_items)

pub in_order : (front start end back one two all : List ℤ) → one ≡ front ++ start → two ≡ one ++ end → all ≡ two ++ back → all ≡ front ++ (start ++ (end ++ back))
in_order front start end back one two all e f g =
    g ∙ ap (λ l. l ++ back) (f ∙ ap (λ l. l ++ end) e) ∙ append_assoc (front ++ start) end back ∙ append_assoc front start (end ++ back)

-- ---- so many changes

or_false : (b : Bool) → (b || false) ≡ b
or_false true = refl
or_false false = refl

or_true : (b : Bool) → (b || true) ≡ true
or_true true = refl
or_true false = refl

not_not : (b : Bool) → not (not b) ≡ b
not_not true = refl
not_not false = refl

zero_from : (m : ℕ) → (m == 0) ≡ true → m ≡ 0
zero_from m e = search (rules, tests)

above_from : (m : ℕ) → (m == 0) ≡ false → 0 < m
above_from m e =
    let other : m ≢ 0 = search (rules, tests) in
    omega (arith, other)

-- after an even number comes an odd one
parity : (n : ℕ) → (suc n % 2 == 0) ≡ not (n % 2 == 0)
parity n = by (n % 2 == 0) refl
  where
    by : (b : Bool) → (n % 2 == 0) ≡ b → (suc n % 2 == 0) ≡ not b
    by true e =
        let one : suc n % 2 ≡ 1 = omega (arith, zero_from (n % 2) e) in
        ap (λ m. m == 0) one
    by false e =
        let none : suc n % 2 ≡ 0 = omega (arith, above_from (n % 2) e) in
        ap (λ m. m == 0) none

-- what is said after so many changes
abbrev pub turned : Bool → ℕ → Bool
turned now zero = now
turned now (suc n) = turned (not now) n

turned_is : (now : Bool) (n : ℕ) → turned now n ≡ (if n % 2 == 0 then now else not now)
turned_is now zero = refl
turned_is now (suc n) = turned_is (not now) n ∙ by (n % 2 == 0) ∙ ap (λ b. if b then now else not now) (sym (parity n))
  where
    by : (b : Bool) → (if b then not now else not (not now)) ≡ (if not b then now else not now)
    by true = refl
    by false = not_not now

pub turned_once : (n : ℕ) → turned false n ≡ not (n % 2 == 0)
turned_once n = turned_is false n ∙ by (n % 2 == 0)
  where
    by : (b : Bool) → (if b then false else not false) ≡ not b
    by true = refl
    by false = refl

-- ---- what changes say

le_true : (x q : ℤ) → x ≤ℤ q → int_le x q ≡ true
le_true x q h = search rules

le_false : (x q : ℤ) → q <ℤ x → int_le x q ≡ false
le_false x q h = search rules

chosen : {B : Type 0} (b : Bool) (x y : B) → b ≡ true → (if b then x else y) ≡ x
chosen b x y e = ap (λ t. if t then x else y) e

passed : {B : Type 0} (b : Bool) (x y : B) → b ≡ false → (if b then x else y) ≡ y
passed b x y e = ap (λ t. if t then x else y) e

both : {B : Type 0} (b : Bool) (x y z : B) → x ≡ z → (if b then x else y) ≡ (if b then z else y)
both b x y z e = ap (λ t. if b then t else y) e

changes_past : (now : Bool) (xs ys : List ℤ) (place : ℤ) → AllByRecursion (λ edge. edge ≤ℤ place) xs → changes now (xs ++ ys) place ≡ changes (turned now (length xs)) ys place
changes_past now [] ys place h = refl
changes_past now (x ∷ xs) ys place h = chosen (int_le x place) (changes (not now) (xs ++ ys) place) now (le_true x place h.0) ∙ changes_past (not now) xs ys place h.1

changes_none : (now : Bool) (ys : List ℤ) (place : ℤ) → AllByRecursion (λ edge. place <ℤ edge) ys → changes now ys place ≡ now
changes_none now [] place h = refl
changes_none now (y ∷ ys) place h = passed (int_le y place) (changes (not now) ys place) now (le_false y place h.0)

changes_front : (now : Bool) (xs ys zs : List ℤ) (place : ℤ) → AllByRecursion (λ edge. place <ℤ edge) ys → AllByRecursion (λ edge. place <ℤ edge) zs → changes now (xs ++ ys) place ≡ changes now (xs ++ zs) place
changes_front now [] ys zs place h k = changes_none now ys place h ∙ sym (changes_none now zs place k)
changes_front now (x ∷ xs) ys zs place h k = both (int_le x place) (changes (not now) (xs ++ ys) place) now (changes (not now) (xs ++ zs) place) (changes_front (not now) xs ys zs place h k)

-- a line from which on all is taken, where it was not
enters : (b : Bool) (edge : ℤ) (ys : List ℤ) (place : ℤ) → edge ≤ℤ place → changes (not b) (one_if b edge ++ ys) place ≡ changes true ys place
enters true edge ys place h = chosen (int_le edge place) (changes true ys place) false (le_true edge place h)
enters false edge ys place h = refl

-- a line from which on it is as before
leaves : (b : Bool) (edge : ℤ) (ys : List ℤ) (place : ℤ) → edge ≤ℤ place → changes true (one_if b edge ++ ys) place ≡ changes (not b) ys place
leaves true edge ys place h = chosen (int_le edge place) (changes false ys place) true (le_true edge place h)
leaves false edge ys place h = refl

-- ---- a span more

pub all_weaker : (P Q : ℤ → Type 0) → ((x : ℤ) → P x → Q x) → (xs : List ℤ) → AllByRecursion P xs → AllByRecursion Q xs
all_weaker P Q f [] h = tt
all_weaker P Q f (x ∷ xs) h = (f x h.0, all_weaker P Q f xs h.1)

all_joined : (P : ℤ → Type 0) (xs ys : List ℤ) → AllByRecursion P xs → AllByRecursion P ys → AllByRecursion P (xs ++ ys)
all_joined P [] ys h k = k
all_joined P (x ∷ xs) ys h k = (h.0, all_joined P xs ys h.1 k)

all_one : (P : ℤ → Type 0) (b : Bool) (edge : ℤ) (ys : List ℤ) → P edge → AllByRecursion P ys → AllByRecursion P (one_if b edge ++ ys)
all_one P true edge ys h k = (h, k)
all_one P false edge ys h k = k

pub record IsParted (es : List ℤ) (n m : ℕ) (span : Span) : Type 0 where
  pub some : span.start <ℤ span.end
  pub first : n ≤ length es
  pub last : m ≤ length es
  pub before : AllByRecursion (λ edge. edge <ℤ span.start) (take n es)
  pub from : AllByRecursion (λ edge. span.start ≤ℤ edge) (drop n es)
  pub up_to : AllByRecursion (λ edge. edge ≤ℤ span.end) (take m es)
  pub after : AllByRecursion (λ edge. span.end <ℤ edge) (drop m es)

pub span_added : (es : List ℤ) (n m : ℕ) (span : Span) (place : ℤ) → IsParted es n m span → changes false (with_span es n m span) place ≡ (changes false es place || within span place)
span_added es n m span place p = by (int_le span.start place) (int_lt place span.end) refl refl
  where
    even_first : Bool
    even_first = n % 2 == 0

    even_last : Bool
    even_last = m % 2 == 0

    back : List ℤ
    back = drop m es

    whole : (k : ℕ) → changes false es place ≡ changes false (take k es ++ drop k es) place
    whole k = ap (λ l. changes false l place) (sym (take-append-drop k es))

    entered : span.start ≤ℤ place → changes false (with_span es n m span) place ≡ changes true (one_if even_last span.end ++ back) place
    entered h =
        changes_past false (take n es) (one_if even_first span.start ++ (one_if even_last span.end ++ back)) place (all_weaker (λ edge. edge <ℤ span.start) (λ edge. edge ≤ℤ place) (λ x k. omega (arith, ints, h, k)) (take n es) p.before)
        ∙ ap (λ k. changes (turned false k) (one_if even_first span.start ++ (one_if even_last span.end ++ back)) place) (length-take-le n es p.first)
        ∙ ap (λ b. changes b (one_if even_first span.start ++ (one_if even_last span.end ++ back)) place) (turned_once n)
        ∙ enters even_first span.start (one_if even_last span.end ++ back) place h

    by : (a b : Bool) → int_le span.start place ≡ a → int_lt place span.end ≡ b → changes false (with_span es n m span) place ≡ (changes false es place || (a && b))
    by false b e f =
        let less : place <ℤ span.start = search rules in
        let behind : AllByRecursion (λ edge. place <ℤ edge) back = all_weaker (λ edge. span.end <ℤ edge) (λ edge. place <ℤ edge) (λ x k. omega (arith, ints, less, p.some, k)) back p.after in
        changes_front false (take n es) (one_if even_first span.start ++ (one_if even_last span.end ++ back)) (drop n es) place
        (all_one (λ edge. place <ℤ edge) even_first span.start (one_if even_last span.end ++ back) less (all_one (λ edge. place <ℤ edge) even_last span.end back (omega (arith, ints, less, p.some)) behind))
        (all_weaker (λ edge. span.start ≤ℤ edge) (λ edge. place <ℤ edge) (λ x k. omega (arith, ints, less, k)) (drop n es) p.from)
        ∙ sym (whole n) ∙ sym (or_false (changes false es place))
    by true true e f =
        let from : span.start ≤ℤ place = search rules in
        let less : place <ℤ span.end = search rules in
        let behind : AllByRecursion (λ edge. place <ℤ edge) back = all_weaker (λ edge. span.end <ℤ edge) (λ edge. place <ℤ edge) (λ x k. omega (arith, ints, less, k)) back p.after in
        entered from ∙ changes_none true (one_if even_last span.end ++ back) place (all_one (λ edge. place <ℤ edge) even_last span.end back less behind) ∙ sym (or_true (changes false es place))
    by true false e f =
        let from : span.start ≤ℤ place = search rules in
        let past : span.end ≤ℤ place = search rules in
        entered from
        ∙ leaves even_last span.end back place past
        ∙ ap (λ b. changes b back place) (sym (turned_once m))
        ∙ ap (λ k. changes (turned false k) back place) (sym (length-take-le m es p.last))
        ∙ sym (changes_past false (take m es) back place (all_weaker (λ edge. edge ≤ℤ span.end) (λ edge. edge ≤ℤ place) (λ x k. omega (arith, ints, past, k)) (take m es) p.up_to))
        ∙ sym (whole m) ∙ sym (or_false (changes false es place))

-- ---- lines in order

rising_take : (n : ℕ) (es : List ℤ) → AreRising es → AreRising (take n es)
rising_take zero es h = tt
rising_take (suc n) [] h = tt
rising_take (suc n) (e ∷ es) h = (kept n es h.0, rising_take n es h.1)
  where
    kept : (n : ℕ) (xs : List ℤ) → AllByRecursion (λ later. e <ℤ later) xs → AllByRecursion (λ later. e <ℤ later) (take n xs)
    kept zero xs k = tt
    kept (suc n) [] k = tt
    kept (suc n) (x ∷ xs) k = (k.0, kept n xs k.1)

rising_drop : (n : ℕ) (es : List ℤ) → AreRising es → AreRising (drop n es)
rising_drop zero es h = h
rising_drop (suc n) [] h = tt
rising_drop (suc n) (e ∷ es) h = rising_drop n es h.1

rising_one : (b : Bool) (edge : ℤ) (ys : List ℤ) → AllByRecursion (λ later. edge <ℤ later) ys → AreRising ys → AreRising (one_if b edge ++ ys)
rising_one true edge ys h k = (h, k)
rising_one false edge ys h k = k

rising_joined : (start : ℤ) (xs ys : List ℤ) → AreRising xs → AllByRecursion (λ edge. edge <ℤ start) xs → AreRising ys → AllByRecursion (λ edge. start ≤ℤ edge) ys → AreRising (xs ++ ys)
rising_joined start [] ys h k r s = r
rising_joined start (x ∷ xs) ys h k r s = (all_joined (λ later. x <ℤ later) xs ys h.0 (all_weaker (λ edge. start ≤ℤ edge) (λ later. x <ℤ later) (λ y l. omega (arith, ints, k.0, l)) ys s), rising_joined start xs ys h.1 k.1 r s)

pub span_rises : (es : List ℤ) (n m : ℕ) (span : Span) → AreRising es → IsParted es n m span → AreRising (with_span es n m span)
span_rises es n m span h p =
    rising_joined span.start (take n es) (one_if (n % 2 == 0) span.start ++ (one_if (m % 2 == 0) span.end ++ drop m es)) (rising_take n es h) p.before
    (rising_one (n % 2 == 0) span.start (one_if (m % 2 == 0) span.end ++ drop m es)
    (all_one (λ later. span.start <ℤ later) (m % 2 == 0) span.end (drop m es) p.some (all_weaker (λ edge. span.end <ℤ edge) (λ later. span.start <ℤ later) (λ x k. omega (arith, ints, p.some, k)) (drop m es) p.after))
    (rising_one (m % 2 == 0) span.end (drop m es) p.after (rising_drop m es h)))
    (all_one (λ edge. span.start ≤ℤ edge) (n % 2 == 0) span.start (one_if (m % 2 == 0) span.end ++ drop m es) (omega (arith, ints))
    (all_one (λ edge. span.start ≤ℤ edge) (m % 2 == 0) span.end (drop m es) (omega (arith, ints, p.some)) (all_weaker (λ edge. span.end <ℤ edge) (λ edge. span.start ≤ℤ edge) (λ x k. omega (arith, ints, p.some, k)) (drop m es) p.after)))

-- ---- an open span

-- Whether no place of a span is taken: none is where it starts, and no change comes before it ends.
abbrev pub leaves_open : Bool → List ℤ → Span → Bool
leaves_open now [] span = not now
leaves_open now (edge ∷ edges) span = if int_le edge span.start then leaves_open (not now) edges span else (not now && int_le span.end edge)

open_past : (now : Bool) (xs ys : List ℤ) (span : Span) → AllByRecursion (λ edge. edge ≤ℤ span.start) xs → leaves_open now (xs ++ ys) span ≡ leaves_open (turned now (length xs)) ys span
open_past now [] ys span h = refl
open_past now (x ∷ xs) ys span h = chosen (int_le x span.start) (leaves_open (not now) (xs ++ ys) span) (not now && int_le span.end x) (le_true x span.start h.0) ∙ open_past (not now) xs ys span h.1

open_first : (es : List ℤ) (n : ℕ) (span : Span) → n ≤ length es → AllByRecursion (λ edge. edge ≤ℤ span.start) (take n es) → leaves_open false es span ≡ leaves_open (not (n % 2 == 0)) (drop n es) span
open_first es n span h k =
    ap (λ l. leaves_open false l span) (sym (take-append-drop n es))
    ∙ open_past false (take n es) (drop n es) span k
    ∙ ap (λ m. leaves_open (turned false m) (drop n es) span) (length-take-le n es h)
    ∙ ap (λ b. leaves_open b (drop n es) span) (turned_once n)

pub taken_shut : (ys : List ℤ) (span : Span) → AllByRecursion (λ edge. span.start <ℤ edge) ys → leaves_open true ys span ≡ false
taken_shut [] span h = refl
taken_shut (y ∷ ys) span h = passed (int_le y span.start) (leaves_open false ys span) false (le_false y span.start h.0)

pub shut_where_taken : (es : List ℤ) (n : ℕ) (span : Span) → n ≤ length es → AllByRecursion (λ edge. edge ≤ℤ span.start) (take n es) → AllByRecursion (λ edge. span.start <ℤ edge) (drop n es) → (n % 2 == 0) ≡ false → leaves_open false es span ≡ false
shut_where_taken es n span h k l e = open_first es n span h k ∙ ap (λ b. leaves_open (not b) (drop n es) span) e ∙ taken_shut (drop n es) span l

pub open_at_end : (es : List ℤ) (n : ℕ) (span : Span) → n ≡ length es → AllByRecursion (λ edge. edge ≤ℤ span.start) (take n es) → (n % 2 == 0) ≡ true → leaves_open false es span ≡ true
open_at_end es n span h k e = open_first es n span (omega (arith, h)) k ∙ ap (λ b. leaves_open (not b) (drop n es) span) e ∙ ap (λ l. leaves_open false l span) (drop_of_length-le es (omega (arith, h)))

pub open_up_to : (es : List ℤ) (n : ℕ) (span : Span) → n < length es → AllByRecursion (λ edge. edge ≤ℤ span.start) (take n es) → AllByRecursion (λ edge. span.start <ℤ edge) (drop n es) → (n % 2 == 0) ≡ true → leaves_open false es span ≡ int_le span.end (get_or es n (pos 0))
open_up_to es n span h k l e = open_first es n span (omega (arith, h)) k ∙ ap (λ b. leaves_open (not b) (drop n es) span) e ∙ by es n h l
  where
    by : (xs : List ℤ) (i : ℕ) → i < length xs → AllByRecursion (λ edge. span.start <ℤ edge) (drop i xs) → leaves_open false (drop i xs) span ≡ int_le span.end (get_or xs i (pos 0))
    by [] i g s = absurd (omega (arith, g))
    by (x ∷ xs) zero g s = passed (int_le x span.start) (leaves_open true xs span) (int_le span.end x) (le_false x span.start s.0)
    by (x ∷ xs) (suc i) g s = by xs i (omega arith) s

-- ---- what an open span says, and one that is not

not_less : (a b : ℤ) → int_lt a b ≡ false → b ≤ℤ a
not_less a b h = search rules

difference : (z : ℤ) → pos 0 ≤ℤ z → pos (tracks_of z) ≡ z
difference (pos n) h = refl
difference (negsuc n) h = absurd (omega (arith, ints, h))

none : (z : ℤ) → z ≤ℤ pos 0 → tracks_of z ≡ 0
none (pos n) h = omega (arith, ints, h)
none (negsuc n) h = refl

lt_from : (a b : ℤ) → int_le a b ≡ false → b <ℤ a
lt_from a b h = search rules

le_from : (a b : ℤ) → int_le a b ≡ true → a ≤ℤ b
le_from a b h = search rules

-- no column of an open span is taken
open_has_none : (now : Bool) (es : List ℤ) (span : Span) (place : ℤ) → leaves_open now es span ≡ true → span.start ≤ℤ place → place <ℤ span.end → changes now es place ≡ false
open_has_none true [] span place h low high = absurd (true≢false (sym h))
open_has_none false [] span place h low high = refl
open_has_none now (e ∷ es) span place h low high = by (int_le e span.start) refl h (λ k. open_has_none (not now) es span place k low high)
  where
    free : (b : Bool) → (not b && int_le span.end e) ≡ true → (if int_le e place then changes (not b) es place else b) ≡ false
    free true k = absurd (true≢false (sym k))
    free false k =
        let far : span.end ≤ℤ e = le_from span.end e k in
        passed (int_le e place) (changes true es place) false (le_false e place (omega (arith, ints, far, high)))

    by : (b : Bool) → int_le e span.start ≡ b → (if b then leaves_open (not now) es span else (not now && int_le span.end e)) ≡ true → (leaves_open (not now) es span ≡ true → changes (not now) es place ≡ false) → (if int_le e place then changes (not now) es place else now) ≡ false
    by true f k again =
        let near : e ≤ℤ span.start = le_from e span.start f in
        chosen (int_le e place) (changes (not now) es place) now (le_true e place (omega (arith, ints, near, low))) ∙ again k
    by false f k again = free now k

-- a column that is taken and lies in the span
record IsTaken (now : Bool) (es : List ℤ) (span : Span) : Type 0 where
  pub track : ℤ
  pub first : span.start ≤ℤ track
  pub last : track <ℤ span.end
  pub is : changes now es track ≡ true

-- a span that is not open has such a column
shut_has_one : (now : Bool) (es : List ℤ) (span : Span) → AreRising es → span.start <ℤ span.end → leaves_open now es span ≡ false → IsTaken now es span
shut_has_one true [] span r some h = record { track = span.start; first = omega (arith, ints); last = some; is = refl }
shut_has_one false [] span r some h = absurd (true≢false h)
shut_has_one now (e ∷ es) span r some h = by (int_le e span.start) refl h (λ k. shut_has_one (not now) es span r.1 some k)
  where
    later : e ≤ℤ span.start → IsTaken (not now) es span → IsTaken now (e ∷ es) span
    later near s = record { track = s.track; first = s.first; last = s.last; is = chosen (int_le e s.track) (changes (not now) es s.track) now (le_true e s.track (omega (arith, ints, near, s.first))) ∙ s.is }

    here : (b : Bool) → span.start <ℤ e → (not b && int_le span.end e) ≡ false → IsTaken b (e ∷ es) span
    here true far k = record { track = span.start; first = omega (arith, ints); last = some; is = passed (int_le e span.start) (changes false es span.start) true (le_false e span.start far) }
    here false far k =
        let less : e <ℤ span.end = lt_from span.end e k in
        record { track = e; first = omega (arith, ints, far); last = less; is = chosen (int_le e e) (changes true es e) false (le_true e e (omega (arith, ints))) ∙ changes_none true es e r.0 }

    by : (b : Bool) → int_le e span.start ≡ b → (if b then leaves_open (not now) es span else (not now && int_le span.end e)) ≡ false → (leaves_open (not now) es span ≡ false → IsTaken (not now) es span) → IsTaken now (e ∷ es) span
    by true f k again = later (le_from e span.start f) (again k)
    by false f k again = here now (lt_from e span.start f) k

-- ---- column by column

all_free : (es : List ℤ) (first : ℤ) (n : ℕ) → ((column : ℤ) → first ≤ℤ column → column <ℤ (first +ℤ pos n) → changes false es column ≡ false) → are_free es first n ≡ true
all_free es first zero h = refl
all_free es first (suc n) h =
    ap (λ b. not b && are_free es (first +ℤ pos 1) n) (h first (omega (arith, ints)) (omega (arith, ints)))
    ∙ all_free es (first +ℤ pos 1) n (λ column low high. h column (omega (arith, ints, low)) (omega (arith, ints, high)))

one_taken : (es : List ℤ) (first : ℤ) (n : ℕ) (column : ℤ) → first ≤ℤ column → column <ℤ (first +ℤ pos n) → changes false es column ≡ true → are_free es first n ≡ false
one_taken es first zero column low high h = absurd (omega (arith, ints, low, high))
one_taken es first (suc n) column low high h = by (changes false es first) refl (λ k. one_taken es (first +ℤ pos 1) n column k (omega (arith, ints, high)) h)
  where
    later : changes false es first ≡ false → (first +ℤ pos 1) ≤ℤ column
    later e = by_order (int_lt first column) refl
      where
        by_order : (b : Bool) → int_lt first column ≡ b → (first +ℤ pos 1) ≤ℤ column
        by_order true k =
            let less : first <ℤ column = search rules in
            omega (arith, ints, less)
        by_order false k =
            let same : first ≡ column = omega (arith, ints, low, not_less first column k) in
            absurd (true≢false (sym h ∙ ap (λ z. changes false es z) (sym same) ∙ e))

    by : (b : Bool) → changes false es first ≡ b → ((first +ℤ pos 1) ≤ℤ column → are_free es (first +ℤ pos 1) n ≡ false) → (not b && are_free es (first +ℤ pos 1) n) ≡ false
    by true e again = refl
    by false e again = again (later e)

width : (span : Span) → span.start <ℤ span.end → (span.start +ℤ pos (tracks_of (span.end -ℤ span.start))) ≡ span.end
width span some = omega (arith, ints, difference (span.end -ℤ span.start) (omega (arith, ints, some)))

pub open_told : (r : Bool) (es : List ℤ) (span : Span) → AreRising es → span.start <ℤ span.end → r ≡ leaves_open false es span → r ≡ is_open es span
open_told true es span rising some h = sym (all_free es span.start (tracks_of (span.end -ℤ span.start)) (λ column low high. open_has_none false es span column (sym h) low (omega (arith, ints, high, width span some))))
open_told false es span rising some h =
    let one : IsTaken false es span = shut_has_one false es span rising some (sym h) in
    sym (one_taken es span.start (tracks_of (span.end -ℤ span.start)) one.track one.first (omega (arith, ints, one.last, width span some)) one.is)

-- no column of an empty span is taken
pub open_if_empty : (es : List ℤ) (span : Span) → span.end ≤ℤ span.start → true ≡ is_open es span
open_if_empty es span h = ap (λ n. are_free es span.start n) (sym (none (span.end -ℤ span.start) (omega (arith, ints, h))))

pub open_is_free : (es : List ℤ) (span : Span) (column : ℤ) → is_open es span ≡ true → span.start ≤ℤ column → column <ℤ span.end → changes false es column ≡ false
open_is_free es span column h low high = by (changes false es column) refl
  where
    by : (b : Bool) → changes false es column ≡ b → b ≡ false
    by true e = absurd (true≢false (sym h ∙ one_taken es span.start (tracks_of (span.end -ℤ span.start)) column low (omega (arith, ints, high, width span (omega (arith, ints, low, high)))) e))
    by false e = refl

-- a column that is taken and lies in the span
pub record IsShut (es : List ℤ) (first after : ℤ) : Type 0 where
  pub track : ℤ
  pub low : first ≤ℤ track
  pub high : track <ℤ after
  pub is : changes false es track ≡ true

first_taken : (es : List ℤ) (first : ℤ) (n : ℕ) → are_free es first n ≡ false → IsShut es first (first +ℤ pos n)
first_taken es first zero h = absurd (true≢false h)
first_taken es first (suc n) h = by (changes false es first) refl h (λ k. first_taken es (first +ℤ pos 1) n k)
  where
    by : (b : Bool) → changes false es first ≡ b → (not b && are_free es (first +ℤ pos 1) n) ≡ false → (are_free es (first +ℤ pos 1) n ≡ false → IsShut es (first +ℤ pos 1) ((first +ℤ pos 1) +ℤ pos n)) → IsShut es first (first +ℤ pos (suc n))
    by true e k again = record { track = first; low = omega (arith, ints); high = omega (arith, ints); is = e }
    by false e k again =
        let rest : IsShut es (first +ℤ pos 1) ((first +ℤ pos 1) +ℤ pos n) = again k in
        record { track = rest.track; low = omega (arith, ints, rest.low); high = omega (arith, ints, rest.high); is = rest.is }

-- a span that is not open has such a column
pub shut_has : (es : List ℤ) (span : Span) → span.start <ℤ span.end → is_open es span ≡ false → IsShut es span.start span.end
shut_has es span some h =
    let one : IsShut es span.start (span.start +ℤ pos (tracks_of (span.end -ℤ span.start))) = first_taken es span.start (tracks_of (span.end -ℤ span.start)) h in
    record { track = one.track; low = one.low; high = omega (arith, ints, one.high, width span some); is = one.is }

-- ---- the same of a list that is spelled otherwise

moved : (P : List ℤ → Type 0) (xs ys : List ℤ) → xs ≡ ys → P xs → P ys
moved P xs ys e h = subst P e h

pub parted : (es front back : List ℤ) (n m : ℕ) (span : Span) (start end : ℤ) → front ≡ es → back ≡ es → start ≡ span.start → end ≡ span.end → span.start <ℤ span.end → n ≤ length front → m ≤ length back → AllByRecursion (λ edge. edge <ℤ start) (take n front) →
    AllByRecursion (λ edge. start ≤ℤ edge) (drop n front) → AllByRecursion (λ edge. edge ≤ℤ end) (take m back) → AllByRecursion (λ edge. end <ℤ edge) (drop m back) → IsParted es n m span
parted es front back n m span start end e f at to some a b p q r s = record {
  some = some;
  first = moved (λ l. n ≤ length l) front es e a;
  last = moved (λ l. m ≤ length l) back es f b;
  before = all_weaker (λ edge. edge <ℤ start) (λ edge. edge <ℤ span.start) (λ x k. omega (arith, ints, at, k)) (take n es) (moved (λ l. AllByRecursion (λ edge. edge <ℤ start) (take n l)) front es e p);
  from = all_weaker (λ edge. start ≤ℤ edge) (λ edge. span.start ≤ℤ edge) (λ x k. omega (arith, ints, at, k)) (drop n es) (moved (λ l. AllByRecursion (λ edge. start ≤ℤ edge) (drop n l)) front es e q);
  up_to = all_weaker (λ edge. edge ≤ℤ end) (λ edge. edge ≤ℤ span.end) (λ x k. omega (arith, ints, to, k)) (take m es) (moved (λ l. AllByRecursion (λ edge. edge ≤ℤ end) (take m l)) back es f r);
  after = all_weaker (λ edge. end <ℤ edge) (λ edge. span.end <ℤ edge) (λ x k. omega (arith, ints, to, k)) (drop m es) (moved (λ l. AllByRecursion (λ edge. end <ℤ edge) (drop m l)) back es f s);
}
