-- Changes of a value along a line.
use Rattle.std.proofs.Common.{arith, rules, refl, sym, ap, subst, length, get_or, ◌∙◌, ◌≡◌, ◌⊎◌, inl, inr, ℤ, pos, ◌-ℤ◌, ◌≤ℤ◌, ◌<ℤ◌, Bool, true, false, not, ◌&&◌, List, [], ◌∷◌, ◌++◌, int_le, int_lt, if◌then◌else◌}
use Rattle.std.specs.Prelude.{filter, Some, IsSome, is_some, unwrap_or}
use Rattle.std.specs.List.{list_all, AllByRecursion}
use Rattle.std.specs.List.Sorted.{IsStrictlySortedBy}
use Rattle.std.specs.Ordering.{int_cmp, is_lt, is_le, is_eq, match_ordering}
use Rattle.std.specs.Map.{keys_of, lookup, remove_entry, set_value}
use Rattle.std.specs.BTreeMap.{insert_entry, is_at}
use Rattle.std.specs.declared.cmp.Ordering.{Ordering}
use Rattle.std.specs.declared.cmp.Ordering.TheVariants.{Less, Equal, Greater}
use Rattle.std.proofs.lemmas.Int.{ints}
use Rattle.std.proofs.lemmas.Map.Keys.{sorted_head, sorted_tail}
use Rattle.std.proofs.lemmas.Map.Lookups.{exact_signed}
use Rattle.std.proofs.lemmas.Bool.{and_parts}
use Rattle.std.proofs.Math.Bool.{true≢false}
use Rattle.cell_index.specs.Taken.{reads, strictly}

-- ---- the order of places

pub not_after : (x q : ℤ) → not (is_lt (int_cmp x q)) ≡ int_le q x
not_after x q = by (int_lt x q) (int_lt q x) (int_le q x) refl refl refl
  where
    by : (s t u : Bool) → int_lt x q ≡ s → int_lt q x ≡ t → int_le q x ≡ u → not (is_lt (if s then Less else (if t then Greater else Equal))) ≡ u
    by true true u a b c = absurd (omega (arith, ints))
    by true false true a b c = absurd (omega (arith, ints))
    by true false false a b c = refl
    by false true true a b c = refl
    by false true false a b c = absurd (omega (arith, ints))
    by false false true a b c = refl
    by false false false a b c = absurd (omega (arith, ints))

le_true : (x q : ℤ) → x ≤ℤ q → int_le x q ≡ true
le_true x q h = search rules

lt_true : (x q : ℤ) → x <ℤ q → int_lt x q ≡ true
lt_true x q h = search rules

lt_from : (x q : ℤ) → int_lt x q ≡ true → x <ℤ q
lt_from x q h = search rules

le_from : (x q : ℤ) → int_le x q ≡ true → x ≤ℤ q
le_from x q h = search rules

equal_from : (x q : ℤ) → is_eq (int_cmp x q) ≡ true → x ≡ q
equal_from x q h = exact_signed x q (by (int_cmp x q) h)
  where
    by : (o : Ordering) → is_eq o ≡ true → o ≡ Equal
    by Less e = absurd (true≢false (sym e))
    by Equal e = refl
    by Greater e = absurd (true≢false (sym e))

before_from : (x q : ℤ) → is_eq (int_cmp x q) ≡ false → q ≤ℤ x → q <ℤ x
before_from x q h k = by (int_lt x q) (int_lt q x) refl refl h
  where
    by : (s t : Bool) → int_lt x q ≡ s → int_lt q x ≡ t → is_eq (if s then Less else (if t then Greater else Equal)) ≡ false → q <ℤ x
    by true t e f g = absurd (omega (arith, ints, lt_from x q e, k))
    by false true e f g = lt_from q x f
    by false false e f g = absurd (true≢false g)

some_is : {B : Type 0} (x y : B) → Some x ≡ Some y → x ≡ y
some_is x y e = ap (λ o. unwrap_or o x) e

le_false : (x q : ℤ) → q <ℤ x → int_le x q ≡ false
le_false x q h = search rules

pub less_from : (x q : ℤ) → int_cmp x q ≡ Less → x <ℤ q
less_from x q h = by (int_lt x q) (int_lt q x) refl h
  where
    by : (s t : Bool) → int_lt x q ≡ s → (if s then Less else (if t then Greater else Equal)) ≡ Less → x <ℤ q
    by true t e g = search rules
    by false true e g = absurd (search rules)
    by false false e g = absurd (search rules)

greater_from : (x q : ℤ) → int_cmp x q ≡ Greater → q <ℤ x
greater_from x q h = by (int_lt x q) (int_lt q x) refl h
  where
    by : (s t : Bool) → int_lt q x ≡ t → (if s then Less else (if t then Greater else Equal)) ≡ Greater → q <ℤ x
    by true t e g = absurd (search rules)
    by false true e g = search rules
    by false false e g = absurd (search rules)

-- ---- the last change

abbrev last_says : {A : Type 0} → (A → Bool) → Bool → List (ℤ × A) → Bool
last_says says before [] = before
last_says says before (e ∷ es) = last_says says (says e.1) es

reads_is : {A : Type 0} (says : A → Bool) (p : ℤ × A → Bool) (before : Bool) (es : List (ℤ × A)) (place : ℤ) → ((e : ℤ × A) → p e ≡ int_le e.0 place) → reads says before es place ≡ last_says says before (filter p es)
reads_is says p before [] place same = refl
reads_is {A} says p before (e ∷ es) place same =
    by (int_le e.0 place) (reads_is says p (says e.1) es place same) (reads_is says p before es place same)
    ∙ ap (λ b. last_says says before (if b then e ∷ filter p es else filter p es)) (sym (same e))
  where
    by : (b : Bool) → reads says (says e.1) es place ≡ last_says says (says e.1) (filter p es) → reads says before es place ≡ last_says says before (filter p es) →
        (if b then reads says (says e.1) es place else reads says before es place) ≡ last_says says before (if b then e ∷ filter p es else filter p es)
    by true h k = h
    by false h k = k

last_pushed : {A : Type 0} (says : A → Bool) (before : Bool) (xs : List (ℤ × A)) (e : ℤ × A) → last_says says before (xs ++ e ∷ []) ≡ says e.1
last_pushed says before [] e = refl
last_pushed says before (x ∷ xs) e = last_pushed says (says x.1) xs e

pub reads_last : {A : Type 0} (says : A → Bool) (before : Bool) (es : List (ℤ × A)) (place : ℤ) (xs : List (ℤ × A)) (e : ℤ × A) → filter (λ (c : ℤ × A). not (is_lt (int_cmp place c.0))) es ≡ xs ++ e ∷ [] → reads says before es place ≡ says e.1
reads_last {A} says before es place xs e h = reads_is says (λ (c : ℤ × A). not (is_lt (int_cmp place c.0))) before es place (λ c. not_after place c.0) ∙ ap (λ ys. last_says says before ys) h ∙ last_pushed says before xs e

pub reads_none : {A : Type 0} (says : A → Bool) (before : Bool) (es : List (ℤ × A)) (place : ℤ) → filter (λ (c : ℤ × A). not (is_lt (int_cmp place c.0))) es ≡ [] → reads says before es place ≡ before
reads_none {A} says before es place h = reads_is says (λ (c : ℤ × A). not (is_lt (int_cmp place c.0))) before es place (λ c. not_after place c.0) ∙ ap (λ ys. last_says says before ys) h

-- ---- changes at sorted places

-- a choice whose test is known
chosen : {B : Type 0} (b : Bool) (x y : B) → b ≡ true → (if b then x else y) ≡ x
chosen b x y e = ap (λ t. if t then x else y) e

passed : {B : Type 0} (b : Bool) (x y : B) → b ≡ false → (if b then x else y) ≡ y
passed b x y e = ap (λ t. if t then x else y) e

either : {B : Type 0} (b : Bool) (x y : B) → x ≡ y → (if b then x else y) ≡ y
either true x y e = e
either false x y e = refl

both : {B : Type 0} (b : Bool) (x y u v : B) → x ≡ u → y ≡ v → (if b then x else y) ≡ (if b then u else v)
both true x y u v h k = h
both false x y u v h k = k

-- no change of these comes up to the place
pub none_yet : {A : Type 0} (says : A → Bool) (before : Bool) (k : ℤ) (es : List (ℤ × A)) (place : ℤ) → AllByRecursion (λ y. int_cmp k y ≡ Less) (keys_of es) → place ≤ℤ k → reads says before es place ≡ before
none_yet says before k [] place s h = refl
none_yet {A} says before k (e ∷ es) place s h =
    let past : k <ℤ e.0 = less_from k e.0 s.0 in
    passed (int_le e.0 place) (reads says (says e.1) es place) (reads says before es place) (le_false e.0 place (omega (arith, ints, past, h))) ∙ none_yet says before k es place s.1 h

lt_false : (x q : ℤ) → int_le x q ≡ false → q <ℤ x
lt_false x q h = search rules

-- nor does one more that comes after it
none_inserted : {A : Type 0} (says : A → Bool) (before : Bool) (q k : ℤ) (v : A) (es : List (ℤ × A)) (place : ℤ) → AllByRecursion (λ y. int_cmp q y ≡ Less) (keys_of es) → q <ℤ k → place ≤ℤ q → reads says before (insert_entry int_cmp es k v) place ≡ before
none_inserted says before q k v [] place s h g = passed (int_le k place) (says v) before (le_false k place (omega (arith, ints, h, g)))
none_inserted {A} says before q k v (e ∷ es) place s h g = by (int_cmp k e.0) (none_inserted says before q k v es place s.1 h g)
  where
    by : (o : Ordering) → reads says before (insert_entry int_cmp es k v) place ≡ before → reads says before (match_ordering o ((k, v) ∷ e ∷ es) ((e.0, v) ∷ es) (e ∷ insert_entry int_cmp es k v)) place ≡ before
    by Less again = passed (int_le k place) (reads says (says v) (e ∷ es) place) (reads says before (e ∷ es) place) (le_false k place (omega (arith, ints, h, g))) ∙ none_yet says before q (e ∷ es) place s g
    by Equal again = passed (int_le e.0 place) (reads says (says v) es place) (reads says before es place) (le_false e.0 place (omega (arith, ints, less_from q e.0 s.0, g))) ∙ none_yet says before q es place s.1 g
    by Greater again = passed (int_le e.0 place) (reads says (says e.1) (insert_entry int_cmp es k v) place) (reads says before (insert_entry int_cmp es k v) place) (le_false e.0 place (omega (arith, ints, less_from q e.0 s.0, g))) ∙ again

-- one change more that says what was said there changes nothing
pub reads_cut : {A : Type 0} (says : A → Bool) (before : Bool) (k : ℤ) (v : A) (es : List (ℤ × A)) (place : ℤ) → IsStrictlySortedBy int_cmp (keys_of es) → says v ≡ reads says before es k → reads says before (insert_entry int_cmp es k v) place ≡ reads says before es place
reads_cut says before k v [] place s h = either (int_le k place) (says v) before h
reads_cut {A} says before k v (e ∷ es) place s h =
    by (int_cmp k e.0) refl (λ g. reads_cut says (says e.1) k v es place (sorted_tail int_cmp e.0 (keys_of es) s) g)
  where
    behind : AllByRecursion (λ y. int_cmp e.0 y ≡ Less) (keys_of es)
    behind = sorted_head int_cmp e.0 (keys_of es) s

    by : (o : Ordering) → int_cmp k e.0 ≡ o → (says v ≡ reads says (says e.1) es k → reads says (says e.1) (insert_entry int_cmp es k v) place ≡ reads says (says e.1) es place) →
        reads says before (match_ordering o ((k, v) ∷ e ∷ es) ((e.0, v) ∷ es) (e ∷ insert_entry int_cmp es k v)) place ≡ reads says before (e ∷ es) place
    by Less o again =
        let less : k <ℤ e.0 = less_from k e.0 o in
        let flat : says v ≡ before = h ∙ passed (int_le e.0 k) (reads says (says e.1) es k) (reads says before es k) (le_false e.0 k less) ∙ none_yet says before e.0 es k behind (omega (arith, ints, less)) in
        either (int_le k place) (reads says (says v) (e ∷ es) place) (reads says before (e ∷ es) place) (ap (λ b. reads says b (e ∷ es) place) flat)
    by Equal o again =
        let same : k ≡ e.0 = exact_signed k e.0 o in
        let flat : says v ≡ says e.1 = h ∙ chosen (int_le e.0 k) (reads says (says e.1) es k) (reads says before es k) (le_true e.0 k (omega (arith, ints, same))) ∙ none_yet says (says e.1) e.0 es k behind (omega (arith, ints, same)) in
        both (int_le e.0 place) (reads says (says v) es place) (reads says before es place) (reads says (says e.1) es place) (reads says before es place) (ap (λ b. reads says b es place) flat) refl
    by Greater o again =
        let more : e.0 <ℤ k = greater_from k e.0 o in
        let g : says v ≡ reads says (says e.1) es k = h ∙ chosen (int_le e.0 k) (reads says (says e.1) es k) (reads says before es k) (le_true e.0 k (omega (arith, ints, more))) in
        past (int_le e.0 place) refl more (again g)
      where
        past : (b : Bool) → int_le e.0 place ≡ b → e.0 <ℤ k → reads says (says e.1) (insert_entry int_cmp es k v) place ≡ reads says (says e.1) es place →
            (if b then reads says (says e.1) (insert_entry int_cmp es k v) place else reads says before (insert_entry int_cmp es k v) place) ≡ (if b then reads says (says e.1) es place else reads says before es place)
        past true e1 more here = here
        past false e1 more here = none_inserted says before e.0 k v es place behind more (omega (arith, ints, lt_false e.0 place e1)) ∙ sym (none_yet says before e.0 es place behind (omega (arith, ints, lt_false e.0 place e1)))

-- ---- the changes between two places

is_between : (s t q : ℤ) → s <ℤ q → q <ℤ t → strictly s t q ≡ true
is_between s t q h k = by (int_lt s q) (int_lt q s) (int_lt t q) (int_lt q t) refl refl refl refl
  where
    by : (a b u v : Bool) → int_lt s q ≡ a → int_lt q s ≡ b → int_lt t q ≡ u → int_lt q t ≡ v → (is_lt (if a then Less else (if b then Greater else Equal)) && not (is_le (if u then Less else (if v then Greater else Equal)))) ≡ true
    by false b u v e f g j = absurd (true≢false (sym (lt_true s q h) ∙ e))
    by true b true v e f g j = absurd (omega (arith, ints, lt_from t q g, k))
    by true b false true e f g j = refl
    by true b false false e f g j = absurd (true≢false (sym (lt_true q t k) ∙ j))

between_from : (s t q : ℤ) → strictly s t q ≡ true → (s <ℤ q) × (q <ℤ t)
between_from s t q h = by (int_lt s q) (int_lt q s) (int_lt t q) (int_lt q t) refl refl refl refl h
  where
    by : (a b u v : Bool) → int_lt s q ≡ a → int_lt q s ≡ b → int_lt t q ≡ u → int_lt q t ≡ v → (is_lt (if a then Less else (if b then Greater else Equal)) && not (is_le (if u then Less else (if v then Greater else Equal)))) ≡ true → (s <ℤ q) × (q <ℤ t)
    by true b true v e f g j k = absurd (true≢false (sym k))
    by true b false true e f g j k = (lt_from s q e, lt_from q t j)
    by true b false false e f g j k = absurd (true≢false (sym k))
    by false true u v e f g j k = absurd (true≢false (sym k))
    by false false u v e f g j k = absurd (true≢false (sym k))

-- a test of a filtered list, when its first item is looked at
all_kept : {B : Type 0} (p : B → Bool) (b : Bool) (x : B) (xs : List B) → list_all p (if b then x ∷ xs else xs) ≡ true → list_all p xs ≡ true
all_kept p true x xs h = (and_parts (p x) (list_all p xs) h).1
all_kept p false x xs h = h

-- where nothing is taken at the first place, and no change between says that something is, nothing is taken up to the last
pub reads_free : {A : Type 0} (says clear : A → Bool) → ((a : A) → clear a ≡ true → says a ≡ false) → (s t place : ℤ) → s ≤ℤ place → place <ℤ t → (at here : Bool) (es : List (ℤ × A)) → reads says at es s ≡ false → (here ≡ at) ⊎ (here ≡ false) →
    list_all (λ (e : ℤ × A). clear e.1) (filter (λ (e : ℤ × A). strictly s t e.0) es) ≡ true → reads says here es place ≡ false
reads_free says clear f s t place low high at here [] h (inl e) g = e ∙ h
reads_free says clear f s t place low high at here [] h (inr e) g = e
reads_free {A} says clear f s t place low high at here (e ∷ es) h j g =
    by (int_le e.0 s) (int_le e.0 place) refl refl h (λ a b u v w. reads_free says clear f s t place low high a b es u v w)
  where
    rest : list_all (λ (c : ℤ × A). clear c.1) (filter (λ (c : ℤ × A). strictly s t c.0) es) ≡ true
    rest = all_kept (λ (c : ℤ × A). clear c.1) (strictly s t e.0) e (filter (λ (c : ℤ × A). strictly s t c.0) es) g

    says_no : s <ℤ e.0 → e.0 <ℤ t → says e.1 ≡ false
    says_no u v =
        f e.1
        (and_parts (clear e.1) (list_all (λ (c : ℤ × A). clear c.1) (filter (λ (c : ℤ × A). strictly s t c.0) es))
        (sym (ap (λ b. list_all (λ (c : ℤ × A). clear c.1) (if b then e ∷ filter (λ (c : ℤ × A). strictly s t c.0) es else filter (λ (c : ℤ × A). strictly s t c.0) es)) (is_between s t e.0 u v)) ∙ g)).0

    by : (a b : Bool) → int_le e.0 s ≡ a → int_le e.0 place ≡ b → (if a then reads says (says e.1) es s else reads says at es s) ≡ false →
        ((x y : Bool) → reads says x es s ≡ false → (y ≡ x) ⊎ (y ≡ false) → list_all (λ (c : ℤ × A). clear c.1) (filter (λ (c : ℤ × A). strictly s t c.0) es) ≡ true → reads says y es place ≡ false) → (if b then reads says (says e.1) es place else reads says here es place) ≡ false
    by true true k l m again = again (says e.1) (says e.1) m (inl refl) rest
    by true false k l m again = absurd (omega (arith, ints, le_from e.0 s k, lt_false e.0 place l, low))
    by false true k l m again = again at (says e.1) m (inr (says_no (lt_false e.0 s k) (omega (arith, ints, le_from e.0 place l, high)))) rest
    by false false k l m again = again at here m j rest

-- a change between the two places that is not clear
pub record IsChange {A : Type 0} (clear : A → Bool) (s t : ℤ) (es : List (ℤ × A)) : Type 0 where
  pub place : ℤ
  pub value : A
  pub first : s <ℤ place
  pub last : place <ℤ t
  pub shut : clear value ≡ false
  pub read : (says : A → Bool) (before : Bool) → reads says before es place ≡ says value

pub shut_change : {A : Type 0} (clear : A → Bool) (s t : ℤ) (es : List (ℤ × A)) → IsStrictlySortedBy int_cmp (keys_of es) → list_all (λ (e : ℤ × A). clear e.1) (filter (λ (e : ℤ × A). strictly s t e.0) es) ≡ false → IsChange clear s t es
shut_change clear s t [] sorted h = absurd (true≢false h)
shut_change {A} clear s t (e ∷ es) sorted h =
    by (strictly s t e.0) (clear e.1) refl refl h (λ k. later (shut_change clear s t es (sorted_tail int_cmp e.0 (keys_of es) sorted) k))
  where
    behind : AllByRecursion (λ y. int_cmp e.0 y ≡ Less) (keys_of es)
    behind = sorted_head int_cmp e.0 (keys_of es) sorted

    later : IsChange clear s t es → IsChange clear s t (e ∷ es)
    later c = record { place = c.place; value = c.value; first = c.first; last = c.last; shut = c.shut; read = λ says before. either (int_le e.0 c.place) (reads says (says e.1) es c.place) (reads says before es c.place) (c.read says (says e.1) ∙ sym (c.read says before)) ∙ c.read says before }

    by : (a b : Bool) → strictly s t e.0 ≡ a → clear e.1 ≡ b → list_all (λ (c : ℤ × A). clear c.1) (if a then e ∷ filter (λ (c : ℤ × A). strictly s t c.0) es else filter (λ (c : ℤ × A). strictly s t c.0) es) ≡ false →
        (list_all (λ (c : ℤ × A). clear c.1) (filter (λ (c : ℤ × A). strictly s t c.0) es) ≡ false → IsChange clear s t (e ∷ es)) → IsChange clear s t (e ∷ es)
    by false b k l m again = again m
    by true true k l m again = again (sym (ap (λ o. o && list_all (λ (c : ℤ × A). clear c.1) (filter (λ (c : ℤ × A). strictly s t c.0) es)) l) ∙ m)
    by true false k l m again =
        record {
          place = e.0;
          value = e.1;
          first = (between_from s t e.0 k).0;
          last = (between_from s t e.0 k).1;
          shut = l;
          read = λ says before. chosen (int_le e.0 e.0) (reads says (says e.1) es e.0) (reads says before es e.0) (le_true e.0 e.0 (omega (arith, ints))) ∙ none_yet says (says e.1) e.0 es e.0 behind (omega (arith, ints));
        }

-- ---- what another value at a change says

-- past a change it does not matter what was said before it
pub forgets : {A : Type 0} (says : A → Bool) (a b : Bool) (t : ℤ) (es : List (ℤ × A)) (place : ℤ) → IsSome (lookup (is_at (int_cmp t)) es) → t ≤ℤ place → reads says a es place ≡ reads says b es place
forgets says a b t [] place some h = absurd (true≢false (sym some))
forgets {A} says a b t (e ∷ es) place some h = by (is_eq (int_cmp t e.0)) (int_le e.0 place) refl refl some (λ k. forgets says a b t es place k h)
  where
    by : (o u : Bool) → is_eq (int_cmp t e.0) ≡ o → int_le e.0 place ≡ u → IsSome (if o then Some e.1 else lookup (is_at (int_cmp t)) es) → (IsSome (lookup (is_at (int_cmp t)) es) → reads says a es place ≡ reads says b es place) →
        (if u then reads says (says e.1) es place else reads says a es place) ≡ (if u then reads says (says e.1) es place else reads says b es place)
    by o true k l m again = refl
    by false false k l m again = again m
    by true false k l m again = absurd (omega (arith, ints, equal_from t e.0 k, lt_false e.0 place l, h))

-- a value that says the same changes nothing
pub reads_same : {A : Type 0} (says : A → Bool) (before : Bool) (k : ℤ) (v w : A) (es : List (ℤ × A)) (place : ℤ) → lookup (is_at (int_cmp k)) es ≡ Some v → says w ≡ says v → reads says before (set_value (is_at (int_cmp k)) es w) place ≡ reads says before es place
reads_same says before k v w [] place some h = refl
reads_same {A} says before k v w (e ∷ es) place some h = by (is_eq (int_cmp k e.0)) some (λ b g. reads_same says b k v w es place g h)
  where
    by : (o : Bool) → (if o then Some e.1 else lookup (is_at (int_cmp k)) es) ≡ Some v → ((b : Bool) → lookup (is_at (int_cmp k)) es ≡ Some v → reads says b (set_value (is_at (int_cmp k)) es w) place ≡ reads says b es place) →
        reads says before (if o then (e.0, w) ∷ es else e ∷ set_value (is_at (int_cmp k)) es w) place ≡ reads says before (e ∷ es) place
    by true g again = ap (λ b. if int_le e.0 place then reads says b es place else reads says before es place) (h ∙ ap says (sym (some_is e.1 v g)))
    by false g again = both (int_le e.0 place) (reads says (says e.1) (set_value (is_at (int_cmp k)) es w) place) (reads says before (set_value (is_at (int_cmp k)) es w) place) (reads says (says e.1) es place) (reads says before es place) (again (says e.1) g) (again before g)

-- before the change nothing is changed
pub reads_before : {A : Type 0} (says : A → Bool) (before : Bool) (k : ℤ) (w : A) (es : List (ℤ × A)) (place : ℤ) → place <ℤ k → reads says before (set_value (is_at (int_cmp k)) es w) place ≡ reads says before es place
reads_before says before k w [] place h = refl
reads_before {A} says before k w (e ∷ es) place h = by (is_eq (int_cmp k e.0)) refl (reads_before says (says e.1) k w es place h) (reads_before says before k w es place h)
  where
    by : (o : Bool) → is_eq (int_cmp k e.0) ≡ o → reads says (says e.1) (set_value (is_at (int_cmp k)) es w) place ≡ reads says (says e.1) es place → reads says before (set_value (is_at (int_cmp k)) es w) place ≡ reads says before es place →
        reads says before (if o then (e.0, w) ∷ es else e ∷ set_value (is_at (int_cmp k)) es w) place ≡ reads says before (e ∷ es) place
    by true o u v =
        let no : int_le e.0 place ≡ false = le_false e.0 place (omega (arith, ints, equal_from k e.0 o, h)) in
        passed (int_le e.0 place) (reads says (says w) es place) (reads says before es place) no ∙ sym (passed (int_le e.0 place) (reads says (says e.1) es place) (reads says before es place) no)
    by false o u v = both (int_le e.0 place) (reads says (says e.1) (set_value (is_at (int_cmp k)) es w) place) (reads says before (set_value (is_at (int_cmp k)) es w) place) (reads says (says e.1) es place) (reads says before es place) u v

-- a change that is not there is not changed
set_none : {A : Type 0} (k q : ℤ) (w : A) (es : List (ℤ × A)) → AllByRecursion (λ y. int_cmp q y ≡ Less) (keys_of es) → k ≤ℤ q → set_value (is_at (int_cmp k)) es w ≡ es
set_none k q w [] s h = refl
set_none {A} k q w (e ∷ es) s h = by (is_eq (int_cmp k e.0)) refl (set_none k q w es s.1 h)
  where
    by : (o : Bool) → is_eq (int_cmp k e.0) ≡ o → set_value (is_at (int_cmp k)) es w ≡ es → (if o then (e.0, w) ∷ es else e ∷ set_value (is_at (int_cmp k)) es w) ≡ e ∷ es
    by true o g = absurd (omega (arith, ints, equal_from k e.0 o, less_from q e.0 s.0, h))
    by false o g = ap (λ xs. e ∷ xs) g

-- nor from the next change on
pub reads_after : {A : Type 0} (says : A → Bool) (before : Bool) (k t : ℤ) (w : A) (es : List (ℤ × A)) (place : ℤ) → IsStrictlySortedBy int_cmp (keys_of es) → k <ℤ t → t ≤ℤ place → IsSome (lookup (is_at (int_cmp t)) es) →
    reads says before (set_value (is_at (int_cmp k)) es w) place ≡ reads says before es place
reads_after says before k t w [] place sorted less h some = refl
reads_after {A} says before k t w (e ∷ es) place sorted less h some = by (is_eq (int_cmp k e.0)) (is_eq (int_cmp t e.0)) refl refl some (λ b g. reads_after says b k t w es place (sorted_tail int_cmp e.0 (keys_of es) sorted) less h g)
  where
    by : (o u : Bool) → is_eq (int_cmp k e.0) ≡ o → is_eq (int_cmp t e.0) ≡ u → IsSome (if u then Some e.1 else lookup (is_at (int_cmp t)) es) → ((b : Bool) → IsSome (lookup (is_at (int_cmp t)) es) → reads says b (set_value (is_at (int_cmp k)) es w) place ≡ reads says b es place) →
        reads says before (if o then (e.0, w) ∷ es else e ∷ set_value (is_at (int_cmp k)) es w) place ≡ reads says before (e ∷ es) place
    by true true o u g again = absurd (omega (arith, ints, equal_from k e.0 o, equal_from t e.0 u, less))
    by true false o u g again = both (int_le e.0 place) (reads says (says w) es place) (reads says before es place) (reads says (says e.1) es place) (reads says before es place) (forgets says (says w) (says e.1) t es place g h) refl
    by false true o u g again =
        let rest : set_value (is_at (int_cmp k)) es w ≡ es = set_none k e.0 w es (sorted_head int_cmp e.0 (keys_of es) sorted) (omega (arith, ints, equal_from t e.0 u, less)) in
        ap (λ xs. reads says before (e ∷ xs) place) rest
    by false false o u g again = both (int_le e.0 place) (reads says (says e.1) (set_value (is_at (int_cmp k)) es w) place) (reads says before (set_value (is_at (int_cmp k)) es w) place) (reads says (says e.1) es place) (reads says before es place) (again (says e.1) g) (again before g)

-- an empty list has no first item
pub no_item : {B : Type 0} (x : B) (xs : List B) → x ∷ xs ≡ [] → ⊥
no_item x xs h = let n : length (x ∷ xs) ≡ 0 = ap length h in omega (arith, n)

none_left : {B : Type 0} (b : Bool) (x : B) (xs : List B) → (if b then x ∷ xs else xs) ≡ [] → xs ≡ []
none_left true x xs h = absurd (no_item x xs h)
none_left false x xs h = h

-- no change comes before the next one
none_between : {A : Type 0} (says : A → Bool) (b : Bool) (k t : ℤ) (es : List (ℤ × A)) (place : ℤ) → AllByRecursion (λ y. int_cmp k y ≡ Less) (keys_of es) → filter (λ (e : ℤ × A). strictly k t e.0) es ≡ [] → place <ℤ t → reads says b es place ≡ b
none_between says b k t [] place s h g = refl
none_between {A} says b k t (e ∷ es) place s h g = by (int_le e.0 place) refl (none_between says b k t es place s.1 (none_left (strictly k t e.0) e (filter (λ (c : ℤ × A). strictly k t c.0) es) h) g)
  where
    by : (u : Bool) → int_le e.0 place ≡ u → reads says b es place ≡ b → (if u then reads says (says e.1) es place else reads says b es place) ≡ b
    by true e1 again =
        let yes : strictly k t e.0 ≡ true = is_between k t e.0 (less_from k e.0 s.0) (omega (arith, ints, le_from e.0 place e1, g)) in
        absurd (no_item e (filter (λ (c : ℤ × A). strictly k t c.0) es) (sym (ap (λ o. if o then e ∷ filter (λ (c : ℤ × A). strictly k t c.0) es else filter (λ (c : ℤ × A). strictly k t c.0) es) yes) ∙ h))
    by false e1 again = again

-- from the change up to the next one it says what is new
pub reads_within : {A : Type 0} (says : A → Bool) (before : Bool) (k t : ℤ) (w : A) (es : List (ℤ × A)) (place : ℤ) → IsStrictlySortedBy int_cmp (keys_of es) → IsSome (lookup (is_at (int_cmp k)) es) → filter (λ (e : ℤ × A). strictly k t e.0) es ≡ [] → k ≤ℤ place → place <ℤ t →
    reads says before (set_value (is_at (int_cmp k)) es w) place ≡ says w
reads_within says before k t w [] place sorted some none low high = absurd (true≢false (sym some))
reads_within {A} says before k t w (e ∷ es) place sorted some none low high = by (is_eq (int_cmp k e.0)) refl some (λ b g. reads_within says b k t w es place (sorted_tail int_cmp e.0 (keys_of es) sorted) g rest low high)
  where
    rest : filter (λ (c : ℤ × A). strictly k t c.0) es ≡ []
    rest = none_left (strictly k t e.0) e (filter (λ (c : ℤ × A). strictly k t c.0) es) none

    by : (o : Bool) → is_eq (int_cmp k e.0) ≡ o → IsSome (if o then Some e.1 else lookup (is_at (int_cmp k)) es) → ((b : Bool) → IsSome (lookup (is_at (int_cmp k)) es) → reads says b (set_value (is_at (int_cmp k)) es w) place ≡ says w) →
        reads says before (if o then (e.0, w) ∷ es else e ∷ set_value (is_at (int_cmp k)) es w) place ≡ says w
    by true o g again =
        let same : k ≡ e.0 = equal_from k e.0 o in
        let P : ℤ → Type 0 = λ q. AllByRecursion (λ y. int_cmp q y ≡ Less) (keys_of es) in
        chosen (int_le e.0 place) (reads says (says w) es place) (reads says before es place) (le_true e.0 place (omega (arith, ints, same, low)))
        ∙ none_between says (says w) k t es place (subst P (sym same) (sorted_head int_cmp e.0 (keys_of es) sorted)) rest high
    by false o g again = either (int_le e.0 place) (reads says (says e.1) (set_value (is_at (int_cmp k)) es w) place) (reads says before (set_value (is_at (int_cmp k)) es w) place) (again (says e.1) g ∙ sym (again before g)) ∙ again before g

-- ---- a change fewer

-- the changes that are left come after those before them
none_removed : {A : Type 0} (says : A → Bool) (before : Bool) (q k : ℤ) (es : List (ℤ × A)) (place : ℤ) → AllByRecursion (λ y. int_cmp q y ≡ Less) (keys_of es) → place ≤ℤ q → reads says before (remove_entry (is_at (int_cmp k)) es) place ≡ before
none_removed says before q k [] place s h = refl
none_removed {A} says before q k (e ∷ es) place s h = by (is_eq (int_cmp k e.0)) (none_removed says before q k es place s.1 h)
  where
    by : (o : Bool) → reads says before (remove_entry (is_at (int_cmp k)) es) place ≡ before → reads says before (if o then es else e ∷ remove_entry (is_at (int_cmp k)) es) place ≡ before
    by true again = none_yet says before q es place s.1 h
    by false again = passed (int_le e.0 place) (reads says (says e.1) (remove_entry (is_at (int_cmp k)) es) place) (reads says before (remove_entry (is_at (int_cmp k)) es) place) (le_false e.0 place (omega (arith, ints, less_from q e.0 s.0, h))) ∙ again

-- a change that says what was said before it can go
pub reads_joined : {A : Type 0} (says : A → Bool) (before : Bool) (k : ℤ) (es : List (ℤ × A)) (place : ℤ) → IsStrictlySortedBy int_cmp (keys_of es) → reads says before es k ≡ reads says before es (k -ℤ pos 1) →
    reads says before (remove_entry (is_at (int_cmp k)) es) place ≡ reads says before es place
reads_joined says before k [] place s h = refl
reads_joined {A} says before k (e ∷ es) place s h =
    by (is_eq (int_cmp k e.0)) (int_le e.0 k) refl refl (λ b g. reads_joined says b k es place (sorted_tail int_cmp e.0 (keys_of es) s) g)
  where
    behind : AllByRecursion (λ y. int_cmp e.0 y ≡ Less) (keys_of es)
    behind = sorted_head int_cmp e.0 (keys_of es) s

    rest : List (ℤ × A)
    rest = remove_entry (is_at (int_cmp k)) es

    -- it is after the first change
    past : e.0 ≤ℤ (k -ℤ pos 1) → (b : Bool) → int_le e.0 place ≡ b → (reads says (says e.1) es k ≡ reads says (says e.1) es (k -ℤ pos 1) → reads says (says e.1) rest place ≡ reads says (says e.1) es place) →
        (if b then reads says (says e.1) rest place else reads says before rest place) ≡ (if b then reads says (says e.1) es place else reads says before es place)
    past low true f again =
        again (sym (chosen (int_le e.0 k) (reads says (says e.1) es k) (reads says before es k) (le_true e.0 k (omega (arith, ints, low)))) ∙ h ∙ chosen (int_le e.0 (k -ℤ pos 1)) (reads says (says e.1) es (k -ℤ pos 1)) (reads says before es (k -ℤ pos 1)) (le_true e.0 (k -ℤ pos 1) low))
    past low false f again = none_removed says before e.0 k es place behind (omega (arith, ints, lt_false e.0 place f)) ∙ sym (none_yet says before e.0 es place behind (omega (arith, ints, lt_false e.0 place f)))

    by : (o u : Bool) → is_eq (int_cmp k e.0) ≡ o → int_le e.0 k ≡ u → ((b : Bool) → reads says b es k ≡ reads says b es (k -ℤ pos 1) → reads says b rest place ≡ reads says b es place) → reads says before (if o then es else e ∷ rest) place ≡ reads says before (e ∷ es) place
    by true u f g again =
        let same : k ≡ e.0 = equal_from k e.0 f in
        let here : reads says before (e ∷ es) k ≡ says e.1 = chosen (int_le e.0 k) (reads says (says e.1) es k) (reads says before es k) (le_true e.0 k (omega (arith, ints, same))) ∙ none_yet says (says e.1) e.0 es k behind (omega (arith, ints, same)) in
        let there : reads says before (e ∷ es) (k -ℤ pos 1) ≡
        before = passed (int_le e.0 (k -ℤ pos 1)) (reads says (says e.1) es (k -ℤ pos 1)) (reads says before es (k -ℤ pos 1)) (le_false e.0 (k -ℤ pos 1) (omega (arith, ints, same))) ∙ none_yet says before e.0 es (k -ℤ pos 1) behind (omega (arith, ints, same)) in
        sym (either (int_le e.0 place) (reads says (says e.1) es place) (reads says before es place) (ap (λ b. reads says b es place) (sym here ∙ h ∙ there)))
    by false true f g again = past (omega (arith, ints, before_from k e.0 f (le_from e.0 k g))) (int_le e.0 place) refl (again (says e.1))
    by false false f g again =
        let less : k <ℤ e.0 = lt_false e.0 k g in
        let flat : (b : Bool) → reads says b es k ≡ reads says b es (k -ℤ pos 1) = λ b. none_yet says b e.0 es k behind (omega (arith, ints, less)) ∙ sym (none_yet says b e.0 es (k -ℤ pos 1) behind (omega (arith, ints, less))) in
        both (int_le e.0 place) (reads says (says e.1) rest place) (reads says before rest place) (reads says (says e.1) es place) (reads says before es place) (again (says e.1) (flat (says e.1))) (again before (flat before))

-- ---- the first change between two places

none_behind : {A : Type 0} (s q : ℤ) (es : List (ℤ × A)) → AllByRecursion (λ y. int_cmp q y ≡ Less) (keys_of es) → filter (λ (c : ℤ × A). strictly s q c.0) es ≡ []
none_behind s q [] h = refl
none_behind {A} s q (e ∷ es) h = by (strictly s q e.0) refl (none_behind s q es h.1)
  where
    by : (b : Bool) → strictly s q e.0 ≡ b → filter (λ (c : ℤ × A). strictly s q c.0) es ≡ [] → (if b then e ∷ filter (λ (c : ℤ × A). strictly s q c.0) es else filter (λ (c : ℤ × A). strictly s q c.0) es) ≡ []
    by true k again = absurd (omega (arith, ints, (between_from s q e.0 k).1, less_from q e.0 h.0))
    by false k again = again

pub record IsNext {A : Type 0} (s t q : ℤ) (es : List (ℤ × A)) : Type 0 where
  pub begins : IsSome (lookup (is_at (int_cmp q)) es)
  pub none : filter (λ (c : ℤ × A). strictly s q c.0) es ≡ []
  pub first : s <ℤ q
  pub last : q <ℤ t

same_key : (q : ℤ) → is_eq (int_cmp q q) ≡ true
same_key q = by (int_lt q q) refl
  where
    by : (b : Bool) → int_lt q q ≡ b → is_eq (if b then Less else (if b then Greater else Equal)) ≡ true
    by true e = absurd (omega (arith, ints, lt_from q q e))
    by false e = refl

head_next : {A : Type 0} (s t : ℤ) (x : ℤ × A) (xs : List (ℤ × A)) → IsStrictlySortedBy int_cmp (keys_of (x ∷ xs)) → strictly s t x.0 ≡ true → IsNext s t x.0 (x ∷ xs)
head_next {A} s t x xs sorted h =
    record {
      begins = ap is_some (chosen (is_eq (int_cmp x.0 x.0)) (Some x.1) (lookup (is_at (int_cmp x.0)) xs) (same_key x.0));
      none = by (strictly s x.0 x.0) refl;
      first = (between_from s t x.0 h).0;
      last = (between_from s t x.0 h).1;
    }
  where
    by : (b : Bool) → strictly s x.0 x.0 ≡ b → (if b then x ∷ filter (λ (c : ℤ × A). strictly s x.0 c.0) xs else filter (λ (c : ℤ × A). strictly s x.0 c.0) xs) ≡ []
    by true k = absurd (omega (arith, ints, (between_from s x.0 x.0 k).1))
    by false k = none_behind s x.0 xs (sorted_head int_cmp x.0 (keys_of xs) sorted)

later_next : {A : Type 0} (s t q : ℤ) (x : ℤ × A) (xs : List (ℤ × A)) → strictly s t x.0 ≡ false → IsNext s t q xs → IsNext s t q (x ∷ xs)
later_next {A} s t q x xs h n =
    record {
      begins = found (is_eq (int_cmp q x.0)) n.begins;
      none = by (strictly s q x.0) refl;
      first = n.first;
      last = n.last;
    }
  where
    found : (b : Bool) → IsSome (lookup (is_at (int_cmp q)) xs) → IsSome (if b then Some x.1 else lookup (is_at (int_cmp q)) xs)
    found true k = refl
    found false k = k

    by : (b : Bool) → strictly s q x.0 ≡ b → (if b then x ∷ filter (λ (c : ℤ × A). strictly s q c.0) xs else filter (λ (c : ℤ × A). strictly s q c.0) xs) ≡ []
    by true k = absurd (true≢false (sym (is_between s t x.0 (between_from s q x.0 k).0 (omega (arith, ints, (between_from s q x.0 k).1, n.last))) ∙ h))
    by false k = n.none

pub next_is : {A : Type 0} (s t : ℤ) (es : List (ℤ × A)) (e : ℤ × A) (rest : List (ℤ × A)) → IsStrictlySortedBy int_cmp (keys_of es) → filter (λ (c : ℤ × A). strictly s t c.0) es ≡ e ∷ rest → IsNext s t e.0 es
next_is s t [] e rest sorted h = absurd (no_item e rest (sym h))
next_is {A} s t (x ∷ xs) e rest sorted h = by (strictly s t x.0) refl h (λ g. next_is s t xs e rest (sorted_tail int_cmp x.0 (keys_of xs) sorted) g)
  where
    by : (b : Bool) → strictly s t x.0 ≡ b → (if b then x ∷ filter (λ (c : ℤ × A). strictly s t c.0) xs else filter (λ (c : ℤ × A). strictly s t c.0) xs) ≡ e ∷ rest → (filter (λ (c : ℤ × A). strictly s t c.0) xs ≡ e ∷ rest → IsNext s t e.0 xs) → IsNext s t e.0 (x ∷ xs)
    by true k g again =
        let P : ℤ × A → Type 0 = λ c. IsNext s t c.0 (x ∷ xs) in
        subst P (ap (λ ys. get_or ys 0 x) g) (head_next s t x xs sorted k)
    by false k g again = later_next s t e.0 x xs k (again g)
