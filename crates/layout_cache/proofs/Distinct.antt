-- Kept pairs of which no two have the same question.
use Rattle.std.proofs.Common.{◌≡◌, ◌≢◌, ℕ, zero, suc, ◌+◌, ◌-◌, ◌≤◌, ◌<◌, true, false, List, [], ◌∷◌, ◌++◌, Some, None, refl, drop, length, slice_get, sym, ap, subst, ◌∙◌, ◌⊎◌, inl, inr, cond, is_some, arith}
use Rattle.std.proofs.lemmas.Bool.{cases_Bool, false_from_ne_true, false≢true}
use Rattle.std.proofs.lemmas.Bool.Decides.{nat_tests}
use Rattle.std.proofs.lemmas.List.{length-append, length-drop}
use Rattle.std.specs.Prelude.{if◌then◌else◌, nat_lt}
use Rattle.tree_rules.specs.declared.query.Query.{Query}
use Rattle.tree_rules.specs.KeptAnswers.{AreDistinct, IsAbsent}
use Rattle.layout_cache.specs.Kept.{answer_to}
use Rattle.tree_rules.specs.Queries.{same_query}
use Rattle.layout_cache.proofs.Sames.{absent_to, not_absent, query_is, query_refl}

module _ {A : Type 0} where
  -- ---- a pair put at the end, and the first ones dropped

  absent_put : (q : Query) (xs : List (Query × A)) (e : Query × A) → IsAbsent q xs → e.0 ≢ q → IsAbsent q (xs ++ e ∷ [])
  absent_put q [] e h other = (other, tt)
  absent_put q (x ∷ xs) e h other = (h.0, absent_put q xs e h.1 other)

  distinct_put : (xs : List (Query × A)) (e : Query × A) → AreDistinct xs → IsAbsent e.0 xs → AreDistinct (xs ++ e ∷ [])
  distinct_put [] e h absent = (tt, tt)
  distinct_put (x ∷ xs) e h absent = (absent_put x.0 xs e h.0 (λ same. absent.0 (sym same)), distinct_put xs e h.1 absent.1)

  distinct_drop : (n : ℕ) (xs : List (Query × A)) → AreDistinct xs → AreDistinct (drop n xs)
  distinct_drop zero xs h = h
  distinct_drop (suc n) [] h = h
  distinct_drop (suc n) (x ∷ xs) h = distinct_drop n xs h.1

  pub distinct_kept : (xs : List (Query × A)) (q : Query) (a : A) (n : ℕ) → AreDistinct xs → IsAbsent q xs → AreDistinct (drop n (xs ++ (q, a) ∷ []))
  distinct_kept xs q a n h absent = distinct_drop n (xs ++ (q, a) ∷ []) (distinct_put xs (q, a) h absent)

  pub few_last : (n : ℕ) (xs : List (Query × A)) → length (drop (length xs - n) xs) ≤ n
  few_last n xs = omega (arith, length-drop (length xs - n) xs)

  -- what a ring keeps that has room for sixteen pairs or for one more
  pub last_kept : (n : ℕ) (xs : List (Query × A)) (e : Query × A) → (n ≡ 16) ⊎ (length xs < n) → n ≤ 16 →
      drop (length (xs ++ e ∷ []) - n) (xs ++ e ∷ []) ≡ drop (length (xs ++ e ∷ []) - 16) (xs ++ e ∷ [])
  last_kept n xs e (inl full) most = ap (λ k. drop (length (xs ++ e ∷ []) - k) (xs ++ e ∷ [])) full
  last_kept n xs e (inr less) most =
      let one : length (xs ++ e ∷ []) ≡ length xs + 1 = length-append xs (e ∷ []) in
      let none : length (xs ++ e ∷ []) - n ≡ 0 = omega (arith, one, less) in
      let none_of : length (xs ++ e ∷ []) - 16 ≡ 0 = omega (arith, one, less, most) in
      ap (λ k. drop k (xs ++ e ∷ [])) (none ∙ sym none_of)

  -- a ring that hands no pair back had room for one more
  first_of : (xs : List (Query × A)) (e : Query × A) → is_some (slice_get (xs ++ e ∷ []) 0) ≡ true
  first_of [] e = refl
  first_of (x ∷ xs) e = refl

  pub all_kept : (n : ℕ) (xs : List (Query × A)) (e : Query × A) → is_some (if nat_lt (length xs) n then None else slice_get (xs ++ e ∷ []) 0) ≡ false →
      drop (length (xs ++ e ∷ []) - n) (xs ++ e ∷ []) ≡ xs ++ e ∷ []
  all_kept n xs e none = room (cases_Bool (nat_lt (length xs) n))
    where
      room : (nat_lt (length xs) n ≡ true) ⊎ (nat_lt (length xs) n ≡ false) → drop (length (xs ++ e ∷ []) - n) (xs ++ e ∷ []) ≡ xs ++ e ∷ []
      room (inl t) =
          let one : length (xs ++ e ∷ []) ≡ length xs + 1 = length-append xs (e ∷ []) in
          let less : length xs < n = grind (arith, nat_tests) in
          let none_of : length (xs ++ e ∷ []) - n ≡ 0 = omega (arith, one, less) in
          ap (λ k. drop k (xs ++ e ∷ [])) none_of
      room (inr f) = absurd (false≢true (sym none ∙ ap (λ b. is_some (if b then None else slice_get (xs ++ e ∷ []) 0)) f ∙ first_of xs e))

  -- ---- any pair that has the question is the first

  -- a pair stands in a list that has not its question
  stands_not : (q : Query) (pairs : List (Query × A)) (i : ℕ) (p : Query × A) → IsAbsent q pairs → Some p ≡ slice_get pairs i → p.0 ≢ q
  stands_not q [] i p h e = absurd cc
  stands_not q (x ∷ xs) zero p h e = let same : p ≡ x = cc in λ k. h.0 (sym (ap (λ z. z.0) same) ∙ k)
  stands_not q (x ∷ xs) (suc i) p h e = stands_not q xs i p h.1 e

  first_at : (q : Query) (pairs : List (Query × A)) (i : ℕ) (p : Query × A) → AreDistinct pairs → Some p ≡ slice_get pairs i → p.0 ≡ q → Some p.1 ≡ answer_to q pairs
  first_at q [] i p h e k = absurd cc
  first_at q (x ∷ xs) zero p h e k =
      let same : p ≡ x = cc in
      let found : same_query x.0 q ≡ true = ap (λ z. same_query z q) (sym (ap (λ z. z.0) same) ∙ k) ∙ query_refl q in
      ap (λ z. Some z.1) same ∙ sym (ap (λ b. cond b (Some x.1) (answer_to q xs)) found)
  first_at q (x ∷ xs) (suc i) p h e k =
      let other : same_query x.0 q ≡ false = false_from_ne_true (same_query x.0 q) (λ s. stands_not x.0 xs i p h.0 e (k ∙ sym (query_is x.0 q s))) in
      first_at q xs i p h.1 e k ∙ sym (ap (λ b. cond b (Some x.1) (answer_to q xs)) other)

  -- the answer of a pair that has the question
  pub found_at : (q : Query) (pairs : List (Query × A)) (i : ℕ) (p : Query × A) → AreDistinct pairs → Some p ≡ slice_get pairs i → same_query p.0 q ≡ true → Some p.1 ≡ answer_to q pairs
  found_at q pairs i p h e k = first_at q pairs i p h e (query_is p.0 q k)

  -- ---- none of the newer pairs has the question

  pub absent_end : (q : Query) (pairs : List (Query × A)) (i : ℕ) → length pairs ≤ i → IsAbsent q (drop i pairs)
  absent_end q [] zero h = tt
  absent_end q [] (suc i) h = tt
  absent_end q (x ∷ xs) zero h = absurd (omega (arith, h))
  absent_end q (x ∷ xs) (suc i) h = absent_end q xs i (omega (arith, h))

  pub absent_none : (q : Query) (pairs : List (Query × A)) (i : ℕ) → None ≡ slice_get pairs i → IsAbsent q (drop i pairs)
  absent_none q [] zero e = tt
  absent_none q [] (suc i) e = tt
  absent_none q (x ∷ xs) zero e = absurd cc
  absent_none q (x ∷ xs) (suc i) e = absent_none q xs i e

  absent_next : (q : Query) (pairs : List (Query × A)) (i : ℕ) (p : Query × A) → Some p ≡ slice_get pairs i → same_query p.0 q ≡ false → IsAbsent q (drop (suc i) pairs) → IsAbsent q (drop i pairs)
  absent_next q [] i p e k h = absurd cc
  absent_next q (x ∷ xs) zero p e k h =
      let same : p ≡ x = cc in
      ((λ s. absurd (false≢true (sym k ∙ ap (λ z. same_query z.0 q) same ∙ ap (λ z. same_query z q) s ∙ query_refl q))), h)
  absent_next q (x ∷ xs) (suc i) p e k h = absent_next q xs i p e k h

  pub absent_back : (q : Query) (pairs : List (Query × A)) (left : ℕ) (p : Query × A) → 0 < left → Some p ≡ slice_get pairs (left - 1) → same_query p.0 q ≡ false → IsAbsent q (drop left pairs) → IsAbsent q (drop (left - 1) pairs)
  absent_back q pairs zero p less e k h = absurd (omega (arith, less))
  absent_back q pairs (suc i) p less e k h =
      let is : suc i - 1 ≡ i = omega arith in
      subst (λ j. IsAbsent q (drop j pairs)) (sym is) (absent_next q pairs i p (e ∙ ap (slice_get pairs) is) k h)

  pub absent_all : (q : Query) (pairs : List (Query × A)) (left : ℕ) → left ≤ 0 → IsAbsent q (drop left pairs) → IsAbsent q pairs
  absent_all q pairs zero less h = h
  absent_all q pairs (suc i) less h = absurd (omega (arith, less))

pub ruleset put_laws = (distinct_kept)

pub ruleset newest_laws = (found_at, absent_end, absent_none, absent_back, absent_all, absent_to, not_absent)
