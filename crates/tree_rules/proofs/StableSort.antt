-- A stable sort by a key gives the list that `sorted_by` gives.
use Rattle.std.specs.Prelude.{◌≡◌, refl, ℕ, suc, ◌+◌, ◌<◌, ℤ, ◌≤ℤ◌, ◌<ℤ◌, int_le, Bool, true, false, not, ◌&&◌, List, [], ◌∷◌, length, filter, cond, slice_index_or, if◌then◌else◌}
use Rattle.std.specs.declared.cmp.Ordering.{Ordering}
use Rattle.std.specs.declared.cmp.Ordering.TheVariants.{Less, Equal, Greater}
use Rattle.std.specs.Ordering.{int_cmp, is_lt, MatchOrdering}
use Rattle.std.specs.Cmp.{int_ranks}
use Rattle.std.specs.List.Sorted.{IsSortedByKey, IsStableByKey, ties}
use Rattle.std.proofs.Common.{ap, sym, arith, subst, true≢false, add-one, ◌∙◌}
use Rattle.std.proofs.lemmas.Int.{ints}
use Rattle.tree_rules.specs.Orders.{put_before, sorted_by}

-- ---- the test by which a sort compares

under : (o : Ordering) (x y : ℤ) → MatchOrdering o (x <ℤ y) (x ≡ y) (y <ℤ x) → x <ℤ y → is_lt o ≡ true
under Less x y h k = refl
under Equal x y h k = absurd (omega (arith, ints, h))
under Greater x y h k = absurd (omega (arith, ints, h))

not_less : (o : Ordering) (x y : ℤ) → MatchOrdering o (x <ℤ y) (x ≡ y) (y <ℤ x) → y ≤ℤ x → is_lt o ≡ false
not_less Less x y h k = absurd (omega (arith, ints, h))
not_less Equal x y h k = refl
not_less Greater x y h k = refl

at_least : (o : Ordering) (x y : ℤ) → MatchOrdering o (x <ℤ y) (x ≡ y) (y <ℤ x) → is_lt o ≡ false → y ≤ℤ x
at_least Less x y h k = absurd (true≢false k)
at_least Equal x y h k = omega (arith, ints, h)
at_least Greater x y h k = omega (arith, ints, h)

below_is : (x y : ℤ) → x <ℤ y → is_lt (int_cmp x y) ≡ true
below_is x y h = under (int_cmp x y) x y (int_ranks x y) h

below_not : (x y : ℤ) → y ≤ℤ x → is_lt (int_cmp x y) ≡ false
below_not x y h = not_less (int_cmp x y) x y (int_ranks x y) h

not_below : (x y : ℤ) → is_lt (int_cmp x y) ≡ false → y ≤ℤ x
not_below x y h = at_least (int_cmp x y) x y (int_ranks x y) h

-- ---- ties

tie_by : (b c : Bool) → b ≡ false → c ≡ false → not b && not c ≡ true
tie_by b c h k = ap (λ (x : Bool). not x && not c) h ∙ ap (λ (x : Bool). not x) k

no_tie_first : (b c : Bool) → b ≡ true → not b && not c ≡ false
no_tie_first b c h = ap (λ (x : Bool). not x && not c) h

no_tie_second : (b c : Bool) → b ≡ false → c ≡ true → not b && not c ≡ false
no_tie_second b c h k = ap (λ (x : Bool). not x && not c) h ∙ ap (λ (x : Bool). not x) k

-- ---- a test that a list is filtered by

kept_first : {A : Type 0} (p : A → Bool) (x : A) (xs : List A) → p x ≡ true → filter p (x ∷ xs) ≡ x ∷ filter p xs
kept_first p x xs h = ap (λ (b : Bool). cond b (x ∷ filter p xs) (filter p xs)) h

left_first : {A : Type 0} (p : A → Bool) (x : A) (xs : List A) → p x ≡ false → filter p (x ∷ xs) ≡ filter p xs
left_first p x xs h = ap (λ (b : Bool). cond b (x ∷ filter p xs) (filter p xs)) h

abbrev IsSome : {A : Type 0} → List A → Type 0
IsSome [] = ⊥
IsSome (x ∷ xs) = Unit {0}

abbrev head_or : {A : Type 0} → A → List A → A
head_or d [] = d
head_or d (x ∷ xs) = x

abbrev tail_of : {A : Type 0} → List A → List A
tail_of [] = []
tail_of (x ∷ xs) = xs

module _ {A : Type 0} (key : A → ℤ) where
  abbrev by : A → A → Bool
  by a b = is_lt (int_cmp (key a) (key b))

  -- the test by which items tie with one
  abbrev tied : A → A → Bool
  tied x = ties by x

  tied_equal : (x y : A) → key x ≡ key y → tied x y ≡ true
  tied_equal x y e = tie_by (by x y) (by y x) (below_not (key x) (key y) (omega (arith, ints, e))) (below_not (key y) (key x) (omega (arith, ints, e)))

  tied_under : (x y : A) → key x <ℤ key y → tied x y ≡ false
  tied_under x y h = no_tie_first (by x y) (by y x) (below_is (key x) (key y) h)

  tied_over : (x y : A) → key y <ℤ key x → tied x y ≡ false
  tied_over x y h = no_tie_second (by x y) (by y x) (below_not (key x) (key y) (omega (arith, ints))) (below_is (key y) (key x) h)

  tied_keys_at : (x y : A) (c d : Bool) → by x y ≡ c → by y x ≡ d → not c && not d ≡ true → key x ≡ key y
  tied_keys_at x y true d h k t = absurd (true≢false (sym t))
  tied_keys_at x y false true h k t = absurd (true≢false (sym t))
  tied_keys_at x y false false h k t = let p : key y ≤ℤ key x = not_below (key x) (key y) h in let q : key x ≤ℤ key y = not_below (key y) (key x) k in omega (arith, ints, p, q)

  tied_keys : (x y : A) → tied x y ≡ true → key x ≡ key y
  tied_keys x y t = tied_keys_at x y (by x y) (by y x) refl refl t

  -- ---- lists whose keys do not fall

  abbrev AllFrom : ℤ → List A → Type 0
  AllFrom k [] = Unit {0}
  AllFrom k (y ∷ ys) = (k ≤ℤ key y) × AllFrom k ys

  abbrev Rises : List A → Type 0
  Rises [] = Unit {0}
  Rises (y ∷ ys) = AllFrom (key y) ys × Rises ys

  from_lower : (j k : ℤ) (ys : List A) → j ≤ℤ k → AllFrom k ys → AllFrom j ys
  from_lower j k [] h all = tt
  from_lower j k (y ∷ ys) h all = (omega (arith, ints, all.0), from_lower j k ys h all.1)

  none_tied : (x : A) (k : ℤ) (ys : List A) → key x <ℤ k → AllFrom k ys → filter (tied x) ys ≡ []
  none_tied x k [] h all = refl
  none_tied x k (y ∷ ys) h all = left_first (tied x) y ys (tied_under x y (omega (arith, ints, all.0))) ∙ none_tied x k ys h all.1

  -- two such lists in which the items of each key are the same
  tails_at : (x y z : A) (ys zs : List A) (b : Bool) → tied x y ≡ b → y ≡ z → filter (tied x) (y ∷ ys) ≡ filter (tied x) (z ∷ zs) → filter (tied x) ys ≡ filter (tied x) zs
  tails_at x y z ys zs true h e same = ap tail_of (sym (kept_first (tied x) y ys h) ∙ same ∙ kept_first (tied x) z zs (ap (tied x) (sym e) ∙ h))
  tails_at x y z ys zs false h e same = sym (left_first (tied x) y ys h) ∙ same ∙ left_first (tied x) z zs (ap (tied x) (sym e) ∙ h)

  heads_equal : (y z : A) (ys zs : List A) → key y ≡ key z → filter (tied y) (y ∷ ys) ≡ filter (tied y) (z ∷ zs) → y ≡ z
  heads_equal y z ys zs e same = ap (head_or y) (sym (kept_first (tied y) y ys (tied_equal y y refl)) ∙ same ∙ kept_first (tied y) z zs (tied_equal y z e))

  no_lower : (y z : A) (ys zs : List A) → key y <ℤ key z → AllFrom (key z) zs → filter (tied y) (y ∷ ys) ≡ filter (tied y) (z ∷ zs) → ⊥
  no_lower y z ys zs h all same = subst IsSome (sym (kept_first (tied y) y ys (tied_equal y y refl)) ∙ same ∙ none_tied y (key z) (z ∷ zs) h (omega (arith, ints), all)) tt

  unique : (ys zs : List A) → Rises ys → Rises zs → ((x : A) → filter (tied x) ys ≡ filter (tied x) zs) → ys ≡ zs
  unique [] [] r s same = refl
  unique [] (z ∷ zs) r s same = absurd (subst IsSome (sym (same z ∙ kept_first (tied z) z zs (tied_equal z z refl))) tt)
  unique (y ∷ ys) [] r s same = absurd (subst IsSome (sym (kept_first (tied y) y ys (tied_equal y y refl)) ∙ same y) tt)
  unique (y ∷ ys) (z ∷ zs) r s same = go (int_le (key y) (key z)) (int_le (key z) (key y)) refl refl (unique ys zs r.1 s.1)
    where
      go : (c d : Bool) → int_le (key y) (key z) ≡ c → int_le (key z) (key y) ≡ d → (((x : A) → filter (tied x) ys ≡ filter (tied x) zs) → ys ≡ zs) → y ∷ ys ≡ z ∷ zs
      go true true h k lower =
          let e : y ≡ z = heads_equal y z ys zs (omega (arith, ints)) (same y) in
          let rest : ys ≡ zs = lower (λ x. tails_at x y z ys zs (tied x y) refl e (same x)) in
          λ i. e i ∷ rest i
      go true false h k lower = absurd (no_lower y z ys zs (omega (arith, ints)) s.0 (same y))
      go false d h k lower = absurd (no_lower z y zs ys (omega (arith, ints)) r.0 (sym (same z)))

  -- ---- sorting by insertion

  put_from : (k : ℤ) (x : A) (ys : List A) → k ≤ℤ key x → AllFrom k ys → AllFrom k (put_before key x ys)
  put_from k x [] h all = (h, tt)
  put_from k x (y ∷ ys) h all = go (int_le (key x) (key y)) (put_from k x ys h all.1)
    where
      go : (c : Bool) → AllFrom k (put_before key x ys) → AllFrom k (if c then x ∷ y ∷ ys else y ∷ put_before key x ys)
      go true lower = (h, (all.0, all.1))
      go false lower = (all.0, lower)

  put_rises : (x : A) (ys : List A) → Rises ys → Rises (put_before key x ys)
  put_rises x [] r = (tt, tt)
  put_rises x (y ∷ ys) r = go (int_le (key x) (key y)) refl (put_rises x ys r.1)
    where
      go : (c : Bool) → int_le (key x) (key y) ≡ c → Rises (put_before key x ys) → Rises (if c then x ∷ y ∷ ys else y ∷ put_before key x ys)
      go true h lower = ((omega (arith, ints), from_lower (key x) (key y) ys (omega (arith, ints)) r.0), r)
      go false h lower = (put_from (key y) x ys (omega (arith, ints)) r.0, lower)

  sorted_rises : (xs : List A) → Rises (sorted_by key xs)
  sorted_rises [] = tt
  sorted_rises (x ∷ xs) = put_rises x (sorted_by key xs) (sorted_rises xs)

  put_tied : (x y : A) (ys : List A) → filter (tied x) (put_before key y ys) ≡ filter (tied x) (y ∷ ys)
  put_tied x y [] = refl
  put_tied x y (z ∷ ys) = go (int_le (key y) (key z)) refl (put_tied x y ys)
    where
      later : (b : Bool) → tied x y ≡ b → int_le (key y) (key z) ≡ false → filter (tied x) (put_before key y ys) ≡ filter (tied x) (y ∷ ys) → filter (tied x) (z ∷ put_before key y ys) ≡ filter (tied x) (y ∷ z ∷ ys)
      later true t h lower =
          let e : key x ≡ key y = tied_keys x y t in
          left_first (tied x) z (put_before key y ys) (tied_over x z (omega (arith, ints, e))) ∙ lower ∙ kept_first (tied x) y ys t ∙ ap (λ l. y ∷ l) (sym (left_first (tied x) z ys (tied_over x z (omega (arith, ints, e))))) ∙ sym (kept_first (tied x) y (z ∷ ys) t)
      later false t h lower = ap (λ l. cond (tied x z) (z ∷ l) l) (lower ∙ left_first (tied x) y ys t) ∙ sym (left_first (tied x) y (z ∷ ys) t)

      go : (c : Bool) → int_le (key y) (key z) ≡ c → filter (tied x) (put_before key y ys) ≡ filter (tied x) (y ∷ ys) → filter (tied x) (if c then y ∷ z ∷ ys else z ∷ put_before key y ys) ≡ filter (tied x) (y ∷ z ∷ ys)
      go true h lower = refl
      go false h lower = later (tied x y) refl h lower

  sorted_tied : (x : A) (xs : List A) → filter (tied x) (sorted_by key xs) ≡ filter (tied x) xs
  sorted_tied x [] = refl
  sorted_tied x (y ∷ xs) = put_tied x y (sorted_by key xs) ∙ ap (λ l. cond (tied x y) (y ∷ l) l) (sorted_tied x xs)

  -- ---- what a sort ensures

  rises_by : (ys : List A) → ((k : ℕ) (d : A) → k + 1 < length ys → by (slice_index_or ys (k + 1) d) (slice_index_or ys k d) ≡ false) → Rises ys
  rises_by [] h = tt
  rises_by (y ∷ []) h = (tt, tt)
  rises_by (y ∷ z ∷ ys) h =
      let rest : Rises (z ∷ ys) = rises_by (z ∷ ys)
      (λ k d l. subst (λ m. by (slice_index_or (y ∷ z ∷ ys) m d) (slice_index_or (y ∷ z ∷ ys) (suc k) d) ≡ false) (add-one (k + 1)) (subst (λ n. by (slice_index_or (y ∷ z ∷ ys) (k + 1 + 1) d) (slice_index_or (y ∷ z ∷ ys) n d) ≡ false) (add-one k) (h (k + 1) d (omega arith)))) in
      let first : key y ≤ℤ key z = not_below (key z) (key y) (h 0 y (omega arith)) in
      ((first, from_lower (key y) (key z) ys first rest.0), rest)

  -- A list that a stable sort by the key makes of another is the sorted one.
  pub sorted_from_sort : (xs ys : List A) → IsSortedByKey key int_cmp ys → IsStableByKey key int_cmp xs ys → ys ≡ sorted_by key xs
  sorted_from_sort xs ys s stable = unique ys (sorted_by key xs) (rises_by ys (λ k d l. s k d (omega arith) l)) (sorted_rises xs) (λ x. stable x ∙ sym (sorted_tied x xs))
