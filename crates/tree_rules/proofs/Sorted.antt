-- Sorting by keys: two sorts after one another, and lists that are sorted alike.
use Rattle.std.specs.Prelude.{◌≡◌, ◌≢◌, refl, ℕ, ◌+◌, ◌<◌, ℤ, pos, ◌≤ℤ◌, ◌<ℤ◌, int_le, Bool, true, false, List, [], ◌∷◌, map, if◌then◌else◌}
use Rattle.std.proofs.Common.{ap, sym, arith, subst, ◌∙◌}
use Rattle.std.proofs.lemmas.Int.{ints}
use Rattle.tree_rules.specs.Orders.{put_before, sorted_by, numbered_from, in_order, in_document_order}

-- ---- one step of a sort

pub put_here : {A : Type 0} (key : A → ℤ) (x y : A) (rest : List A) → int_le (key x) (key y) ≡ true → put_before key x (y ∷ rest) ≡ x ∷ y ∷ rest
put_here {A} key x y rest h = ap (λ (b : Bool). if b then x ∷ y ∷ rest else y ∷ put_before key x rest) h

pub put_later : {A : Type 0} (key : A → ℤ) (x y : A) (rest : List A) → int_le (key x) (key y) ≡ false → put_before key x (y ∷ rest) ≡ y ∷ put_before key x rest
put_later {A} key x y rest h = ap (λ (b : Bool). if b then x ∷ y ∷ rest else y ∷ put_before key x rest) h

pub le_true : (a b : ℤ) → a ≤ℤ b → int_le a b ≡ true
le_true a b h = go (int_le a b) refl
  where
    go : (t : Bool) → int_le a b ≡ t → t ≡ true
    go true e = refl
    go false e = absurd (omega (arith, ints))

pub le_false : (a b : ℤ) → b <ℤ a → int_le a b ≡ false
le_false a b h = go (int_le a b) refl
  where
    go : (t : Bool) → int_le a b ≡ t → t ≡ false
    go true e = absurd (omega (arith, ints))
    go false e = refl

other_way : (a b : ℤ) → int_le a b ≡ false → int_le b a ≡ true
other_way a b h = le_true b a (omega (arith, ints))

not_both : (a b : ℤ) → a ≢ b → int_le a b ≡ true → int_le b a ≡ false
not_both a b other h = le_false b a (omega (arith, ints))

not_under : (x y z : ℤ) → int_le x z ≡ true → int_le y z ≡ false → int_le y x ≡ false
not_under x y z h k = le_false y x (omega (arith, ints))

-- ---- two items of different keys may be put in either order

module _ {A : Type 0} (key : A → ℤ) (x y : A) (other : key x ≢ key y) where
  swap_none : (c : Bool) → int_le (key x) (key y) ≡ c → put_before key x (y ∷ []) ≡ put_before key y (x ∷ [])
  swap_none true h = put_here key x y [] h ∙ sym (put_later key y x [] (not_both (key x) (key y) other h))
  swap_none false h = put_later key x y [] h ∙ sym (put_here key y x [] (other_way (key x) (key y) h))

  swap_front : (z : A) (rest : List A) (c : Bool) → int_le (key x) (key y) ≡ c → int_le (key x) (key z) ≡ true → int_le (key y) (key z) ≡ true → put_before key x (y ∷ z ∷ rest) ≡ put_before key y (x ∷ z ∷ rest)
  swap_front z rest true h p q = put_here key x y (z ∷ rest) h ∙ ap (λ l. x ∷ l) (sym (put_here key y z rest q)) ∙ sym (put_later key y x (z ∷ rest) (not_both (key x) (key y) other h))
  swap_front z rest false h p q = put_later key x y (z ∷ rest) h ∙ ap (λ l. y ∷ l) (put_here key x z rest p) ∙ sym (put_here key y x (z ∷ rest) (other_way (key x) (key y) h))

  swap_at : (z : A) (rest : List A) (a b : Bool) → int_le (key x) (key z) ≡ a → int_le (key y) (key z) ≡ b → put_before key x (put_before key y rest) ≡ put_before key y (put_before key x rest)
      → put_before key x (put_before key y (z ∷ rest)) ≡ put_before key y (put_before key x (z ∷ rest))
  swap_at z rest true true p q lower = ap (put_before key x) (put_here key y z rest q) ∙ swap_front z rest (int_le (key x) (key y)) refl p q ∙ ap (put_before key y) (sym (put_here key x z rest p))
  swap_at z rest true false p q lower =
      ap (put_before key x) (put_later key y z rest q) ∙ put_here key x z (put_before key y rest) p ∙ ap (λ l. x ∷ l) (sym (put_later key y z rest q)) ∙ sym (put_later key y x (z ∷ rest) (not_under (key x) (key y) (key z) p q)) ∙ ap (put_before key y) (sym (put_here key x z rest p))
  swap_at z rest false true p q lower =
      ap (put_before key x) (put_here key y z rest q) ∙ put_later key x y (z ∷ rest) (not_under (key y) (key x) (key z) q p) ∙ ap (λ l. y ∷ l) (put_later key x z rest p) ∙ sym (put_here key y z (put_before key x rest) q) ∙ ap (put_before key y) (sym (put_later key x z rest p))
  swap_at z rest false false p q lower = ap (put_before key x) (put_later key y z rest q) ∙ put_later key x z (put_before key y rest) p ∙ ap (λ l. z ∷ l) lower ∙ sym (put_later key y z (put_before key x rest) q) ∙ ap (put_before key y) (sym (put_later key x z rest p))

  swap : (rest : List A) → put_before key x (put_before key y rest) ≡ put_before key y (put_before key x rest)
  swap [] = swap_none (int_le (key x) (key y)) refl
  swap (z ∷ rest) = swap_at z rest (int_le (key x) (key z)) (int_le (key y) (key z)) refl refl (swap rest)

-- ---- a sort by keys that all differ forgets a sort before it

abbrev Apart : {A : Type 0} → (A → ℤ) → A → List A → Type 0
Apart key x [] = Unit {0}
Apart key x (y ∷ rest) = (key x ≢ key y) × Apart key x rest

abbrev AllApart : {A : Type 0} → (A → ℤ) → List A → Type 0
AllApart key [] = Unit {0}
AllApart key (x ∷ rest) = Apart key x rest × AllApart key rest

sort_put_at : {A : Type 0} (n o : A → ℤ) (x y : A) (rest : List A) (c : Bool) → int_le (o x) (o y) ≡ c → n x ≢ n y → sorted_by n (put_before o x rest) ≡ put_before n x (sorted_by n rest) → sorted_by n (put_before o x (y ∷ rest)) ≡ put_before n x (put_before n y (sorted_by n rest))
sort_put_at n o x y rest true h other lower = ap (sorted_by n) (put_here o x y rest h)
sort_put_at n o x y rest false h other lower = ap (sorted_by n) (put_later o x y rest h) ∙ ap (put_before n y) lower ∙ sym (swap n x y other (sorted_by n rest))

sort_put : {A : Type 0} (n o : A → ℤ) (x : A) (rest : List A) → Apart n x rest → sorted_by n (put_before o x rest) ≡ put_before n x (sorted_by n rest)
sort_put n o x [] h = refl
sort_put n o x (y ∷ rest) h = sort_put_at n o x y rest (int_le (o x) (o y)) refl h.0 (sort_put n o x rest h.1)

apart_put_at : {A : Type 0} (n o : A → ℤ) (x y z : A) (rest : List A) (c : Bool) → int_le (o y) (o z) ≡ c → n x ≢ n y → n x ≢ n z → Apart n x rest → Apart n x (put_before o y rest) → Apart n x (put_before o y (z ∷ rest))
apart_put_at n o x y z rest true h a b c lower = subst (Apart n x) (sym (put_here o y z rest h)) (a, (b, c))
apart_put_at n o x y z rest false h a b c lower = subst (Apart n x) (sym (put_later o y z rest h)) (b, lower)

apart_put : {A : Type 0} (n o : A → ℤ) (x y : A) (rest : List A) → n x ≢ n y → Apart n x rest → Apart n x (put_before o y rest)
apart_put n o x y [] a h = (a, tt)
apart_put n o x y (z ∷ rest) a h = apart_put_at n o x y z rest (int_le (o y) (o z)) refl a h.0 h.1 (apart_put n o x y rest a h.1)

apart_sorted : {A : Type 0} (n o : A → ℤ) (x : A) (xs : List A) → Apart n x xs → Apart n x (sorted_by o xs)
apart_sorted n o x [] h = tt
apart_sorted n o x (y ∷ rest) h = apart_put n o x y (sorted_by o rest) h.0 (apart_sorted n o x rest h.1)

pub sort_sort : {A : Type 0} (n o : A → ℤ) (xs : List A) → AllApart n xs → sorted_by n (sorted_by o xs) ≡ sorted_by n xs
sort_sort n o [] h = refl
sort_sort n o (x ∷ rest) h = sort_put n o x (sorted_by o rest) (apart_sorted n o x rest h.0) ∙ ap (put_before n x) (sort_sort n o rest h.1)

-- ---- by their numbers

abbrev pub number_of : {A : Type 0} → ℕ × A → ℤ
number_of e = pos e.0

other_number : (a b : ℕ) → a < b → pos a ≢ pos b
other_number a b h same = omega (arith, ints)

numbers_apart : {A : Type 0} (n m : ℕ) (x : A) (xs : List A) → n < m → Apart (number_of {A = A}) (n, x) (numbered_from m xs)
numbers_apart n m x [] h = tt
numbers_apart n m x (y ∷ rest) h = (other_number n m h, numbers_apart n (m + 1) x rest (omega arith))

all_numbers_apart : {A : Type 0} (n : ℕ) (xs : List A) → AllApart (number_of {A = A}) (numbered_from n xs)
all_numbers_apart n [] = tt
all_numbers_apart n (x ∷ rest) = (numbers_apart n (n + 1) x rest (omega arith), all_numbers_apart (n + 1) rest)

next_number : (n : ℕ) → int_le (pos n) (pos (n + 1)) ≡ true
next_number n = le_true (pos n) (pos (n + 1)) (omega (arith, ints))

put_first : {A : Type 0} (n : ℕ) (x : A) (rest : List A) → put_before (number_of {A = A}) (n, x) (numbered_from (n + 1) rest) ≡ (n, x) ∷ numbered_from (n + 1) rest
put_first n x [] = refl
put_first {A} n x (y ∷ rest) = put_here (number_of {A = A}) (n, x) (n + 1, y) (numbered_from (n + 1 + 1) rest) (next_number n)

sort_numbered : {A : Type 0} (n : ℕ) (xs : List A) → sorted_by (number_of {A = A}) (numbered_from n xs) ≡ numbered_from n xs
sort_numbered n [] = refl
sort_numbered {A} n (x ∷ rest) = ap (put_before (number_of {A = A}) (n, x)) (sort_numbered (n + 1) rest) ∙ put_first n x rest

-- items in order-modified document order, sorted back by their numbers
pub back_in_order : {A : Type 0} (order : A → ℤ) (xs : List A) → sorted_by (number_of {A = A}) (in_order order xs) ≡ numbered_from 0 xs
back_in_order {A} order xs = sort_sort (number_of {A = A}) (λ (e : ℕ × A). order e.1) (numbered_from 0 xs) (all_numbers_apart 0 xs) ∙ sort_numbered 0 xs

numbers_off : {A : Type 0} (n : ℕ) (xs : List A) → map (λ (e : ℕ × A). e.1) (numbered_from n xs) ≡ xs
numbers_off n [] = refl
numbers_off n (x ∷ rest) = ap (λ l. x ∷ l) (numbers_off (n + 1) rest)

pub order_undone : {A : Type 0} (order : A → ℤ) (xs : List A) → in_document_order (in_order order xs) ≡ xs
order_undone {A} order xs = ap (map (λ (e : ℕ × A). e.1)) (back_in_order order xs) ∙ numbers_off 0 xs

-- ---- lists whose items belong together one by one

abbrev pub EachTwo : {A B : Type 0} → (A → B → Type 0) → List A → List B → Type 0
EachTwo R [] [] = Unit {0}
EachTwo R [] (y ∷ ys) = ⊥
EachTwo R (x ∷ xs) [] = ⊥
EachTwo R (x ∷ xs) (y ∷ ys) = R x y × EachTwo R xs ys

module _ {A B : Type 0} (R : A → B → Type 0) (k : A → ℤ) (j : B → ℤ) (same : (a : A) (b : B) → R a b → k a ≡ j b) where
  put_alike_at : (x z : A) (y w : B) (xs : List A) (ys : List B) (c : Bool) → int_le (k x) (k z) ≡ c → R x y → R z w → EachTwo R xs ys → EachTwo R (put_before k x xs) (put_before j y ys) → EachTwo R (put_before k x (z ∷ xs)) (put_before j y (w ∷ ys))
  put_alike_at x z y w xs ys true h r s t lower = subst (λ l. EachTwo R l (put_before j y (w ∷ ys))) (sym (put_here k x z xs h)) (subst (EachTwo R (x ∷ z ∷ xs)) (sym (put_here j y w ys (ap (λ b. int_le b (j w)) (sym (same x y r)) ∙ ap (int_le (k x)) (sym (same z w s)) ∙ h))) (r, (s, t)))
  put_alike_at x z y w xs ys false h r s t lower =
      subst (λ l. EachTwo R l (put_before j y (w ∷ ys))) (sym (put_later k x z xs h)) (subst (EachTwo R (z ∷ put_before k x xs)) (sym (put_later j y w ys (ap (λ b. int_le b (j w)) (sym (same x y r)) ∙ ap (int_le (k x)) (sym (same z w s)) ∙ h))) (s, lower))

  put_alike : (x : A) (y : B) (xs : List A) (ys : List B) → R x y → EachTwo R xs ys → EachTwo R (put_before k x xs) (put_before j y ys)
  put_alike x y [] [] r t = (r, tt)
  put_alike x y [] (w ∷ ys) r t = absurd t
  put_alike x y (z ∷ xs) [] r t = absurd t
  put_alike x y (z ∷ xs) (w ∷ ys) r t = put_alike_at x z y w xs ys (int_le (k x) (k z)) refl r t.0 t.1 (put_alike x y xs ys r t.1)

  pub sort_alike : (xs : List A) (ys : List B) → EachTwo R xs ys → EachTwo R (sorted_by k xs) (sorted_by j ys)
  sort_alike [] [] t = tt
  sort_alike [] (w ∷ ys) t = absurd t
  sort_alike (z ∷ xs) [] t = absurd t
  sort_alike (z ∷ xs) (w ∷ ys) t = put_alike z w (sorted_by k xs) (sorted_by j ys) t.0 (sort_alike xs ys t.1)

-- numbered items that belong together, without their numbers
pub without_numbers : {A B : Type 0} (S : A → B → Type 0) (n : ℕ) (xs : List A) (ys : List (ℕ × B)) → EachTwo (λ (e : ℕ × A) (f : ℕ × B). S e.1 f.1) (numbered_from n xs) ys → EachTwo S xs (map (λ (f : ℕ × B). f.1) ys)
without_numbers S n [] [] t = tt
without_numbers S n [] (y ∷ ys) t = absurd t
without_numbers S n (x ∷ xs) [] t = absurd t
without_numbers S n (x ∷ xs) (y ∷ ys) t = (t.0, without_numbers S (n + 1) xs ys t.1)
