-- Questions that are the same.
use Rattle.std.proofs.Common.{◌≡◌, ◌≢◌, ℕ, zero, suc, ◌+◌, ◌≤◌, ◌<◌, ℤ, Bool, true, false, List, [], ◌∷◌, Some, None, drop, length, get_or, refl, sym, ap, ◌∙◌, arith, inl, inr, cond, drop-cons, add-one}
use Rattle.std.specs.Prelude.{◌==◌, ◌&&◌, ◌⊎◌, if◌then◌else◌}
use Rattle.std.specs.Ordering.{int_eq}
use Rattle.std.proofs.lemmas.Bool.{and_parts, and_right, cases_Bool, false_from_ne_true, false≢true, eq-eqb}
use Rattle.std.proofs.Math.Facts.{eqb_yes}
use Rattle.std.proofs.lemmas.Bool.Decides.{Decides-int_eq}
use Rattle.tree_rules.specs.declared.query.Query.{Query}
use Rattle.tree_rules.specs.declared.query.Ask.{Ask}
use Rattle.tree_rules.specs.declared.query.Ask.TheVariants as ask
use Rattle.tree_rules.specs.declared.query.Given.{Given}
use Rattle.tree_rules.specs.declared.query.Given.TheVariants as given
use Rattle.tree_rules.specs.KeptAnswers.{IsAbsent}
use Rattle.layout_cache.specs.Kept.{answer_to}
use Rattle.tree_rules.specs.Queries.{ask_number, same_items, same_given, same_query}

module _ {A : Type 0} where
  pub other_length : (same : A → A → Bool) (xs ys : List A) → length xs ≢ length ys → same_items same xs ys ≡ false
  other_length same [] [] ne = absurd (ne refl)
  other_length same [] (y ∷ ys) ne = refl
  other_length same (x ∷ xs) [] ne = refl
  other_length same (x ∷ xs) (y ∷ ys) ne = and_right (same x y) (same_items same xs ys) (other_length same xs ys (λ e. ne (ap suc e)))

  pub same_next : (same : A → A → Bool) (xs ys : List A) (i : ℕ) (d e : A) → i < length xs → i < length ys →
      same_items same (drop i xs) (drop i ys) ≡ (same (get_or xs i d) (get_or ys i e) && same_items same (drop (i + 1) xs) (drop (i + 1) ys))
  same_next same xs ys i d e h k = rw add-one (λ j. same_items same (drop-cons xs i d h j) (drop-cons ys i e k j))

  nil_drop : (i : ℕ) → drop {A = A} i [] ≡ []
  nil_drop zero = refl
  nil_drop (suc i) = refl

  same_drop : (same : A → A → Bool) (xs ys : List A) (i : ℕ) → length xs ≤ i → length ys ≤ i → same_items same (drop i xs) (drop i ys) ≡ true
  same_drop same [] [] zero h k = refl
  same_drop same [] [] (suc i) h k = refl
  same_drop same [] (y ∷ ys) zero h k = absurd (omega (arith, k))
  same_drop same [] (y ∷ ys) (suc i) h k = ap (λ z. same_items same z (drop i ys)) (sym (nil_drop i)) ∙ same_drop same [] ys i (omega arith) (omega (arith, k))
  same_drop same (x ∷ xs) [] zero h k = absurd (omega (arith, h))
  same_drop same (x ∷ xs) [] (suc i) h k = ap (λ z. same_items same (drop i xs) z) (sym (nil_drop i)) ∙ same_drop same xs [] i (omega (arith, h)) (omega arith)
  same_drop same (x ∷ xs) (y ∷ ys) zero h k = absurd (omega (arith, h))
  same_drop same (x ∷ xs) (y ∷ ys) (suc i) h k = same_drop same xs ys i (omega (arith, h)) (omega (arith, k))

  pub same_end : (same : A → A → Bool) (xs ys : List A) (i : ℕ) → length xs ≤ i → length ys ≤ i → same_items same (drop i xs) (drop i ys) ≡ true
  same_end = same_drop

pub ruleset item_laws = (other_length, same_next, same_end)

-- ---- the same question is the question
module _ {A : Type 0} (same : A → A → Bool) where
  pub items_refl : ((x : A) → same x x ≡ true) → (xs : List A) → same_items same xs xs ≡ true
  items_refl r [] = refl
  items_refl r (x ∷ xs) = ap (λ b. b && same_items same xs xs) (r x) ∙ items_refl r xs

  pub items_is : ((x y : A) → same x y ≡ true → x ≡ y) → (xs ys : List A) → same_items same xs ys ≡ true → xs ≡ ys
  items_is r [] [] e = refl
  items_is r [] (y ∷ ys) e = absurd (false≢true e)
  items_is r (x ∷ xs) [] e = absurd (false≢true e)
  items_is r (x ∷ xs) (y ∷ ys) e = let parts = and_parts (same x y) (same_items same xs ys) e in λ i. r x y parts.0 i ∷ items_is r xs ys parts.1 i

eqb_is : (m n : ℕ) → (m == n) ≡ true → m ≡ n
eqb_is m n e = grind (arith, eqb_yes)

ask_of : ℕ → Ask
ask_of n = if n == 0 then ask.Inline else if n == 1 then ask.LendColumns else if n == 2 then ask.Block else if n == 3 then ask.LendRows else ask.Frames

ask_back : (a : Ask) → ask_of (ask_number a) ≡ a
unfolding ask_of
ask_back ask.Inline = refl
ask_back ask.LendColumns = refl
ask_back ask.Block = refl
ask_back ask.LendRows = refl
ask_back ask.Frames = refl

ask_is : (a b : Ask) → (ask_number a == ask_number b) ≡ true → a ≡ b
ask_is a b e = sym (ask_back a) ∙ ap ask_of (eqb_is (ask_number a) (ask_number b) e) ∙ ask_back b

pub count_is : (x y : ℕ × ℕ) → ((x.0 == y.0) && (x.1 == y.1)) ≡ true → x ≡ y
count_is x y e = let parts = and_parts (x.0 == y.0) (x.1 == y.1) e in λ i. (eqb_is x.0 y.0 parts.0 i, eqb_is x.1 y.1 parts.1 i)

pub count_refl : (x : ℕ × ℕ) → ((x.0 == x.0) && (x.1 == x.1)) ≡ true
count_refl x = ap (λ b. b && (x.1 == x.1)) (eq-eqb x.0 x.0 refl) ∙ eq-eqb x.1 x.1 refl

int_is : (x y : ℤ) → int_eq x y ≡ true → x ≡ y
int_is x y e = (Decides-int_eq x y).0 e

int_refl : (x : ℤ) → int_eq x x ≡ true
int_refl x = (Decides-int_eq x x).1 refl

track_is : (x y : ℤ × ℤ) → (int_eq x.0 y.0 && int_eq x.1 y.1) ≡ true → x ≡ y
track_is x y e = let parts = and_parts (int_eq x.0 y.0) (int_eq x.1 y.1) e in λ i. (int_is x.0 y.0 parts.0 i, int_is x.1 y.1 parts.1 i)

track_refl : (x : ℤ × ℤ) → (int_eq x.0 x.0 && int_eq x.1 x.1) ≡ true
track_refl x = ap (λ b. b && int_eq x.1 x.1) (int_refl x.0) ∙ int_refl x.1

given_is : (a b : Given) → same_given a b ≡ true → a ≡ b
given_is given.None given.None e = refl
given_is given.None (given.Size y) e = absurd (false≢true e)
given_is given.None (given.Tracks f h) e = absurd (false≢true e)
given_is (given.Size x) given.None e = absurd (false≢true e)
given_is (given.Size x) (given.Size y) e = ap given.Size (int_is x y e)
given_is (given.Size x) (given.Tracks f h) e = absurd (false≢true e)
given_is (given.Tracks d g) given.None e = absurd (false≢true e)
given_is (given.Tracks d g) (given.Size y) e = absurd (false≢true e)
given_is (given.Tracks d g) (given.Tracks f h) e =
    let parts = and_parts (same_items (λ (a : ℤ × ℤ) (b : ℤ × ℤ). int_eq a.0 b.0 && int_eq a.1 b.1) d f) (int_eq g h) e in
    λ i. given.Tracks (items_is (λ (a : ℤ × ℤ) (b : ℤ × ℤ). int_eq a.0 b.0 && int_eq a.1 b.1) track_is d f parts.0 i) (int_is g h parts.1 i)

given_refl : (a : Given) → same_given a a ≡ true
given_refl given.None = refl
given_refl (given.Size x) = int_refl x
given_refl (given.Tracks d g) = ap (λ b. b && int_eq g g) (items_refl (λ (a : ℤ × ℤ) (b : ℤ × ℤ). int_eq a.0 b.0 && int_eq a.1 b.1) track_refl d) ∙ int_refl g

pub query_is : (q r : Query) → same_query q r ≡ true → q ≡ r
query_is q r e =
    let asks = and_parts (ask_number q.ask == ask_number r.ask) (same_items (λ (a : ℕ × ℕ) (b : ℕ × ℕ). (a.0 == b.0) && (a.1 == b.1)) q.reps r.reps && (same_given q.inline r.inline && same_given q.block r.block)) e in
    let reps = and_parts (same_items (λ (a : ℕ × ℕ) (b : ℕ × ℕ). (a.0 == b.0) && (a.1 == b.1)) q.reps r.reps) (same_given q.inline r.inline && same_given q.block r.block) asks.1 in
    let givens = and_parts (same_given q.inline r.inline) (same_given q.block r.block) reps.1 in
    λ i. record {
      ask = ask_is q.ask r.ask asks.0 i;
      reps = items_is (λ (a : ℕ × ℕ) (b : ℕ × ℕ). (a.0 == b.0) && (a.1 == b.1)) count_is q.reps r.reps reps.0 i;
      inline = given_is q.inline r.inline givens.0 i;
      block = given_is q.block r.block givens.1 i;
    }

pub query_refl : (q : Query) → same_query q q ≡ true
query_refl q =
    ap (λ b. b && (same_items (λ (a : ℕ × ℕ) (b : ℕ × ℕ). (a.0 == b.0) && (a.1 == b.1)) q.reps q.reps && (same_given q.inline q.inline && same_given q.block q.block))) (eq-eqb (ask_number q.ask) (ask_number q.ask) refl)
    ∙ ap (λ b. b && (same_given q.inline q.inline && same_given q.block q.block)) (items_refl (λ (a : ℕ × ℕ) (b : ℕ × ℕ). (a.0 == b.0) && (a.1 == b.1)) count_refl q.reps)
    ∙ ap (λ b. b && same_given q.block q.block) (given_refl q.inline) ∙ given_refl q.block

-- ---- a question that no pair has
module _ {A : Type 0} where
  pub absent_from : (q : Query) (pairs : List (Query × A)) → None ≡ answer_to q pairs → IsAbsent q pairs
  absent_from q [] e = tt
  absent_from q (p ∷ rest) e = at (cases_Bool (same_query p.0 q)) e (absent_from q rest)
    where
      at : (same_query p.0 q ≡ true) ⊎ (same_query p.0 q ≡ false) → None ≡ answer_to q (p ∷ rest) → (None ≡ answer_to q rest → IsAbsent q rest) → IsAbsent q (p ∷ rest)
      at (inl h) k r = let none : None ≡ Some p.1 = k ∙ ap (λ b. cond b (Some p.1) (answer_to q rest)) h in absurd cc
      at (inr h) k r = (λ same. absurd (false≢true (sym h ∙ ap (λ z. same_query z q) same ∙ query_refl q)), r (k ∙ ap (λ b. cond b (Some p.1) (answer_to q rest)) h))

  pub absent_to : (q : Query) (pairs : List (Query × A)) → IsAbsent q pairs → answer_to q pairs ≡ None
  absent_to q [] h = refl
  absent_to q (p ∷ rest) h = ap (λ b. cond b (Some p.1) (answer_to q rest)) (false_from_ne_true (same_query p.0 q) (λ e. h.0 (query_is p.0 q e))) ∙ absent_to q rest h.1

  pub not_absent : (q : Query) (pairs : List (Query × A)) (a : A) → Some a ≡ answer_to q pairs → IsAbsent q pairs → ⊥
  not_absent q pairs a e h = let none : Some a ≡ None = e ∙ absent_to q pairs h in absurd cc

  -- a pair of what is left has the question
  pub found_there : (q : Query) (pairs left : List (Query × A)) (p : Query × A) (rest : List (Query × A)) → answer_to q left ≡ answer_to q pairs → left ≡ p ∷ rest → same_query p.0 q ≡ true → IsAbsent q pairs → ⊥
  found_there q pairs left p rest e s k h = not_absent q pairs p.1 (sym (ap (answer_to q) s ∙ ap (λ b. cond b (Some p.1) (answer_to q rest)) k) ∙ e) h
