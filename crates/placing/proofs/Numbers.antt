-- Numbered items sorted by their values of `order`.
use Rattle.std.proofs.Common.{◌≡◌, ◌≢◌, refl, sym, ap, ◌∙◌, arith, subst, ℕ, zero, suc, ◌+◌, ◌<◌, ◌≤◌, ℤ, int_le, Bool, true, false, List, [], ◌∷◌, ◌++◌, take, drop, length, map, if◌then◌else◌, add-one}
use Rattle.std.specs.List.{range_with_len}
use Rattle.std.specs.Prelude.{All, get_or, ◌==◌, ◌&&◌}
use Rattle.placing.proofs.Each.{Each, all_each, each_map}
use Rattle.std.proofs.lemmas.Bool.{and_parts, eqb-false, eqb-true}
use Rattle.std.proofs.lemmas.List.{length-map, length-take-le, take_more}
use Rattle.part_rules.specs.Lists.{zipped}
use Rattle.tree_rules.specs.Orders.{put_before, sorted_by, numbered_from, in_order, of_number}
use Rattle.placing.specs.Order.{are_ascending, numbers_in_order, item_of, items_of}

-- ---- a fact of each item stays when they are sorted

module _ {A : Type 0} (key : A → ℤ) (P : A → Type 0) where
  each_put : (x : A) (ys : List A) → P x → Each P ys → Each P (put_before key x ys)
  each_put x [] p h = (p, tt)
  each_put x (y ∷ rest) p h = go (int_le (key x) (key y)) (each_put x rest p h.1)
    where
      go : (b : Bool) → Each P (put_before key x rest) → Each P (if b then x ∷ y ∷ rest else y ∷ put_before key x rest)
      go true lower = (p, h)
      go false lower = (h.0, lower)

  pub each_sorted : (xs : List A) → Each P xs → Each P (sorted_by key xs)
  each_sorted [] h = tt
  each_sorted (x ∷ rest) h = each_put x (sorted_by key rest) h.0 (each_sorted rest h.1)

-- ---- sorting goes with a function that keeps the keys

module _ {A B : Type 0} (f : A → B) (key : A → ℤ) (other : B → ℤ) (same : (x : A) → other (f x) ≡ key x) where
  map_put : (x : A) (ys : List A) → put_before other (f x) (map f ys) ≡ map f (put_before key x ys)
  map_put x [] = refl
  map_put x (y ∷ rest) = ap (λ (b : Bool). if b then f x ∷ f y ∷ map f rest else f y ∷ put_before other (f x) (map f rest)) (ap (λ z. int_le z (other (f y))) (same x) ∙ ap (int_le (key x)) (same y)) ∙ go (int_le (key x) (key y)) (map_put x rest)
    where
      go : (b : Bool) → put_before other (f x) (map f rest) ≡ map f (put_before key x rest) → (if b then f x ∷ f y ∷ map f rest else f y ∷ put_before other (f x) (map f rest)) ≡ map f (if b then x ∷ y ∷ rest else y ∷ put_before key x rest)
      go true lower = refl
      go false lower = ap (λ l. f y ∷ l) lower

  pub map_sorted : (xs : List A) → sorted_by other (map f xs) ≡ map f (sorted_by key xs)
  map_sorted [] = refl
  map_sorted (x ∷ rest) = ap (put_before other (f x)) (map_sorted rest) ∙ map_put x (sorted_by key rest)

-- ---- numbered items

pub numbered_map : {A B : Type 0} (f : A → B) (n : ℕ) (xs : List A) → numbered_from n (map f xs) ≡ map (λ (e : ℕ × A). (e.0, f e.1)) (numbered_from n xs)
numbered_map f n [] = refl
numbered_map f n (x ∷ rest) = ap (λ l. (n, f x) ∷ l) (numbered_map f (n + 1) rest)

pub numbered_length : {A : Type 0} (n : ℕ) (xs : List A) → length (numbered_from n xs) ≡ length xs
numbered_length n [] = refl
numbered_length n (x ∷ rest) = ap suc (numbered_length (n + 1) rest)

pub numbered_push : {A : Type 0} (n : ℕ) (xs : List A) (x : A) → numbered_from n (xs ++ x ∷ []) ≡ numbered_from n xs ++ (n + length xs, x) ∷ []
numbered_push n [] x = ap (λ m. (m, x) ∷ []) (omega arith)
numbered_push n (y ∷ rest) x = ap (λ l. (n, y) ∷ l) (numbered_push (n + 1) rest x ∙ ap (λ m. numbered_from (n + 1) rest ++ (m, x) ∷ []) (omega arith))

-- the order of the values has the numbers of the order of the items
pub numbers_of_items : {A : Type 0} (order : A → ℤ) (xs : List A) → numbers_in_order (map order xs) ≡ map (λ (e : ℕ × A). e.0) (in_order order xs)
numbers_of_items {A} order xs =
    ap (λ l. map (λ (e : ℕ × ℤ). e.0) (sorted_by (λ (e : ℕ × ℤ). e.1) l)) (numbered_map order 0 xs)
    ∙ ap (map (λ (e : ℕ × ℤ). e.0)) (map_sorted (λ (e : ℕ × A). (e.0, order e.1)) (λ (e : ℕ × A). order e.1) (λ (e : ℕ × ℤ). e.1) (λ e. refl) (numbered_from 0 xs))
    ∙ map_twice (in_order order xs)
  where
    map_twice : (es : List (ℕ × A)) → map (λ (e : ℕ × ℤ). e.0) (map (λ (e : ℕ × A). (e.0, order e.1)) es) ≡ map (λ (e : ℕ × A). e.0) es
    map_twice [] = refl
    map_twice (e ∷ es) = ap (λ l. e.0 ∷ l) (map_twice es)

-- ---- each numbered item is the one of its number

pub head_is : {A : Type 0} (other : A) (xs ys : List A) (n : ℕ) (y : A) → drop n xs ≡ y ∷ ys → get_or xs n other ≡ y
head_is other [] ys zero y e = absurd cc
head_is other [] ys (suc n) y e = absurd cc
head_is other (x ∷ xs) ys zero y e = cc
head_is other (x ∷ xs) ys (suc n) y e = head_is other xs ys n y e

tail_is : {A : Type 0} (xs ys : List A) (n : ℕ) (y : A) → drop n xs ≡ y ∷ ys → drop (suc n) xs ≡ ys
tail_is [] ys zero y e = absurd cc
tail_is [] ys (suc n) y e = absurd cc
tail_is (x ∷ xs) ys zero y e = cc
tail_is (x ∷ xs) ys (suc n) y e = tail_is xs ys n y e

pub drop_within : {A : Type 0} (xs ys : List A) (n : ℕ) (y : A) → drop n xs ≡ y ∷ ys → n < length xs
drop_within [] ys zero y e = absurd cc
drop_within [] ys (suc n) y e = absurd cc
drop_within (x ∷ xs) ys zero y e = omega arith
drop_within (x ∷ xs) ys (suc n) y e = omega (arith, drop_within xs ys n y e)

numbered_fit : {A : Type 0} (other : A) (xs : List A) (n : ℕ) (ys : List A) → drop n xs ≡ ys → Each (λ e. e ≡ item_of other xs e.0) (numbered_from n ys)
numbered_fit other xs n [] h = tt
numbered_fit other xs n (y ∷ ys) h = (ap (λ z. (n, z)) (sym (head_is other xs ys n y h)), numbered_fit other xs (n + 1) ys (ap (λ m. drop m xs) (add-one n) ∙ tail_is xs ys n y h))

back : {A : Type 0} (other : A) (xs : List A) (es : List (ℕ × A)) → Each (λ e. e ≡ item_of other xs e.0) es → es ≡ items_of other xs (map (λ (e : ℕ × A). e.0) es)
back other xs [] h = refl
back other xs (e ∷ es) h = ap (λ x. x ∷ es) h.0 ∙ ap (λ l. item_of other xs e.0 ∷ l) (back other xs es h.1)

-- items in order-modified document order are those of the numbers
pub items_in_order : {A : Type 0} (order : A → ℤ) (other : A) (xs : List A) → in_order order xs ≡ items_of other xs (numbers_in_order (map order xs))
items_in_order {A} order other xs =
    back other xs (in_order order xs) (each_sorted (λ (e : ℕ × A). order e.1) (λ e. e ≡ item_of other xs e.0) (numbered_from 0 xs) (numbered_fit other xs 0 xs refl))
    ∙ ap (items_of other xs) (sym (numbers_of_items order xs))

-- ---- each number is one of the items'

numbers_less : {A : Type 0} (most n : ℕ) (xs : List A) → n + length xs ≡ most → Each (λ (e : ℕ × A). e.0 < most) (numbered_from n xs)
numbers_less most n [] h = tt
numbers_less most n (x ∷ rest) h = (omega arith, numbers_less most (n + 1) rest (omega arith))

pub numbers_below : (orders : List ℤ) → All (λ n. n < length orders) (numbers_in_order orders)
numbers_below orders =
    all_each (λ n. n < length orders) (numbers_in_order orders)
    (each_map (λ (e : ℕ × ℤ). e.0) (λ n. n < length orders) (in_order (λ (x : ℤ). x) orders) (each_sorted (λ (e : ℕ × ℤ). e.1) (λ (e : ℕ × ℤ). e.0 < length orders) (numbered_from 0 orders) (numbers_less (length orders) 0 orders (omega arith))))

put_length : {A : Type 0} (key : A → ℤ) (x : A) (ys : List A) → length (put_before key x ys) ≡ suc (length ys)
put_length key x [] = refl
put_length key x (y ∷ rest) = go (int_le (key x) (key y)) (put_length key x rest)
  where
    go : (b : Bool) → length (put_before key x rest) ≡ suc (length rest) → length (if b then x ∷ y ∷ rest else y ∷ put_before key x rest) ≡ suc (suc (length rest))
    go true lower = refl
    go false lower = ap suc lower

sorted_length : {A : Type 0} (key : A → ℤ) (xs : List A) → length (sorted_by key xs) ≡ length xs
sorted_length key [] = refl
sorted_length key (x ∷ rest) = put_length key x (sorted_by key rest) ∙ ap suc (sorted_length key rest)

pub numbers_length : (orders : List ℤ) → length (numbers_in_order orders) ≡ length orders
numbers_length orders = length-map (in_order (λ (x : ℤ). x) orders) (λ (e : ℕ × ℤ). e.0) ∙ sorted_length (λ (e : ℕ × ℤ). e.1) (numbered_from 0 orders) ∙ numbered_length 0 orders

pub numbered_step : (orders : List ℤ) (i : ℕ) (d : ℤ) → i < length orders → numbered_from 0 (take (i + 1) orders) ≡ numbered_from 0 (take i orders) ++ (i, get_or orders i d) ∷ []
numbered_step orders i d h =
    ap (numbered_from 0) (take_more orders i d h)
    ∙ numbered_push 0 (take i orders) (get_or orders i d)
    ∙ ap (λ n. numbered_from 0 (take i orders) ++ (n, get_or orders i d) ∷ []) (omega (arith, length-take-le i orders (omega (arith, h))))

pub within_order : (orders : List ℤ) (numbers : List ℕ) → numbers ≡ numbers_in_order orders → All (λ n. n < length orders) numbers
within_order orders numbers e = subst (All (λ n. n < length orders)) (sym e) (numbers_below orders)

-- ---- and each number less than their count is among them

abbrev pub has : ℕ → List ℕ → Bool
has k [] = false
has k (m ∷ ms) = if m == k then true else has k ms

swapped : (a b c : Bool) → (if a then true else (if b then true else c)) ≡ (if b then true else (if a then true else c))
swapped true true c = refl
swapped true false c = refl
swapped false true c = refl
swapped false false c = refl

module _ {A : Type 0} (key : ℕ × A → ℤ) (k : ℕ) where
  has_put : (x : ℕ × A) (ys : List (ℕ × A)) → has k (map (λ (e : ℕ × A). e.0) (put_before key x ys)) ≡ has k (x.0 ∷ map (λ (e : ℕ × A). e.0) ys)
  has_put x [] = refl
  has_put x (y ∷ rest) = go (int_le (key x) (key y)) (has_put x rest)
    where
      go : (b : Bool) → has k (map (λ (e : ℕ × A). e.0) (put_before key x rest)) ≡ has k (x.0 ∷ map (λ (e : ℕ × A). e.0) rest)
          → has k (map (λ (e : ℕ × A). e.0) (if b then x ∷ y ∷ rest else y ∷ put_before key x rest)) ≡ has k (x.0 ∷ y.0 ∷ map (λ (e : ℕ × A). e.0) rest)
      go true lower = refl
      go false lower = ap (λ t. if y.0 == k then true else t) lower ∙ swapped (y.0 == k) (x.0 == k) (has k (map (λ (e : ℕ × A). e.0) rest))

  has_sorted : (xs : List (ℕ × A)) → has k (map (λ (e : ℕ × A). e.0) (sorted_by key xs)) ≡ has k (map (λ (e : ℕ × A). e.0) xs)
  has_sorted [] = refl
  has_sorted (x ∷ rest) = has_put x (sorted_by key rest) ∙ ap (λ t. if x.0 == k then true else t) (has_sorted rest)

has_numbered : {A : Type 0} (k n : ℕ) (xs : List A) → n ≤ k → k < n + length xs → has k (map (λ (e : ℕ × A). e.0) (numbered_from n xs)) ≡ true
has_numbered k n [] low high = absurd (omega arith)
has_numbered {A} k n (x ∷ rest) low high = go (n == k) refl (λ more less. has_numbered k (n + 1) rest more less)
  where
    go : (b : Bool) → (n == k) ≡ b → (n + 1 ≤ k → k < n + 1 + length rest → has k (map (λ (e : ℕ × A). e.0) (numbered_from (n + 1) rest)) ≡ true)
        → (if b then true else has k (map (λ (e : ℕ × A). e.0) (numbered_from (n + 1) rest))) ≡ true
    go true e later = refl
    go false e later = let other : n ≢ k = eqb-false n k e in later (omega (arith, other)) (omega arith)

pub has_all : (k : ℕ) (orders : List ℤ) → k < length orders → has k (numbers_in_order orders) ≡ true
has_all k orders h = has_sorted (λ (e : ℕ × ℤ). e.1) k (numbered_from 0 orders) ∙ has_numbered k 0 orders (omega arith) (omega arith)

-- ---- no two have one number

abbrev pub Differ : {A : Type 0} → List (ℕ × A) → Type 0
Differ [] = Unit {0}
Differ (x ∷ rest) = Each (λ y. y.0 ≢ x.0) rest × Differ rest

module _ {A : Type 0} (key : ℕ × A → ℤ) where
  differ_put : (x : ℕ × A) (ys : List (ℕ × A)) → Each (λ y. y.0 ≢ x.0) ys → Differ ys → Differ (put_before key x ys)
  differ_put x [] h d = (tt, tt)
  differ_put x (y ∷ rest) h d = go (int_le (key x) (key y)) (differ_put x rest h.1 d.1)
    where
      go : (b : Bool) → Differ (put_before key x rest) → Differ (if b then x ∷ y ∷ rest else y ∷ put_before key x rest)
      go true lower = (h, d)
      go false lower = (each_put key (λ z. z.0 ≢ y.0) x rest (λ e. h.0 (sym e)) d.0, lower)

  differ_sorted : (xs : List (ℕ × A)) → Differ xs → Differ (sorted_by key xs)
  differ_sorted [] d = tt
  differ_sorted (x ∷ rest) d = differ_put x (sorted_by key rest) (each_sorted key (λ y. y.0 ≢ x.0) rest d.0) (differ_sorted rest d.1)

later_numbers : {A : Type 0} (n m : ℕ) (xs : List A) → n < m → Each (λ (y : ℕ × A). y.0 ≢ n) (numbered_from m xs)
later_numbers n m [] h = tt
later_numbers n m (x ∷ rest) h = (λ e. omega (arith, e), later_numbers n (m + 1) rest (omega arith))

differ_numbered : {A : Type 0} (n : ℕ) (xs : List A) → Differ (numbered_from n xs)
differ_numbered n [] = tt
differ_numbered n (x ∷ rest) = (later_numbers n (n + 1) rest (omega arith), differ_numbered (n + 1) rest)

-- items in order-modified document order with others in their places
differ_zipped : {A B C : Type 0} (f : ℕ × A → B → ℕ × C) → ((x : ℕ × A) (y : B) → (f x y).0 ≡ x.0) → (xs : List (ℕ × A)) (ys : List B) → Differ xs → Differ (zipped f xs ys)
differ_zipped f same [] ys d = tt
differ_zipped f same (x ∷ xs) [] d = tt
differ_zipped {A} {B} {C} f same (x ∷ xs) (y ∷ ys) d = (others xs ys d.0, differ_zipped f same xs ys d.1)
  where
    others : (us : List (ℕ × A)) (vs : List B) → Each (λ u. u.0 ≢ x.0) us → Each (λ (e : ℕ × C). e.0 ≢ (f x y).0) (zipped f us vs)
    others [] vs h = tt
    others (u ∷ us) [] h = tt
    others (u ∷ us) (v ∷ vs) h = (λ e. h.0 (sym (same u v) ∙ e ∙ same x y), others us vs h.1)

pub differ_in_order : {A B C : Type 0} (order : A → ℤ) (xs : List A) (f : ℕ × A → B → ℕ × C) → ((x : ℕ × A) (y : B) → (f x y).0 ≡ x.0) → (ys : List B) → Differ (zipped f (in_order order xs) ys)
differ_in_order {A} order xs f same ys = differ_zipped f same (in_order order xs) ys (differ_sorted (λ (e : ℕ × A). order e.1) (numbered_from 0 xs) (differ_numbered 0 xs))

each_dropped : {A : Type 0} (P : A → Type 0) (xs rest : List A) (i : ℕ) (x : A) → Each P xs → drop i xs ≡ x ∷ rest → P x
each_dropped P [] rest zero x h e = absurd cc
each_dropped P [] rest (suc i) x h e = absurd cc
each_dropped P (y ∷ ys) rest zero x h e = let same : y ≡ x = cc in subst P same h.0
each_dropped P (y ∷ ys) rest (suc i) x h e = each_dropped P ys rest i x h.1 e

-- the item of a number that stands at an index
pub of_number_at : {A : Type 0} (other : A) (es rest : List (ℕ × A)) (i n : ℕ) (a : A) → Differ es → drop i es ≡ (n, a) ∷ rest → of_number n other es ≡ a
of_number_at other [] rest zero n a d e = absurd cc
of_number_at other [] rest (suc i) n a d e = absurd cc
of_number_at other (x ∷ xs) rest zero n a d e = go (x.0 == n) refl
  where
    first : x ≡ (n, a)
    first = cc

    go : (b : Bool) → (x.0 == n) ≡ b → (if b then x.1 else of_number n other xs) ≡ a
    go true h = ap (λ z. z.1) first
    go false h = absurd (eqb-false x.0 n h (ap (λ z. z.0) first))
of_number_at other (x ∷ xs) rest (suc i) n a d e = go (x.0 == n) refl (of_number_at other xs rest i n a d.1 e)
  where
    go : (b : Bool) → (x.0 == n) ≡ b → of_number n other xs ≡ a → (if b then x.1 else of_number n other xs) ≡ a
    go true h lower = absurd (each_dropped (λ y. y.0 ≢ x.0) xs rest i (n, a) d.0 e (sym (eqb-true x.0 n h)))
    go false h lower = lower

pub count_order : (orders : List ℤ) (numbers : List ℕ) → numbers ≡ numbers_in_order orders → length numbers ≡ length orders
count_order orders numbers e = ap length e ∙ numbers_length orders

-- ---- values that ascend stay where they are

unmoved_from : (least : ℤ) (n : ℕ) (orders : List ℤ) → are_ascending least orders ≡ true → sorted_by (λ (e : ℕ × ℤ). e.1) (numbered_from n orders) ≡ numbered_from n orders
unmoved_from least n [] h = refl
unmoved_from least n (x ∷ []) h = refl
unmoved_from least n (x ∷ y ∷ rest) h =
    let first = and_parts (int_le least x) (int_le x y && are_ascending y rest) h in
    let next = and_parts (int_le x y) (are_ascending y rest) first.1 in
    ap (put_before (λ (e : ℕ × ℤ). e.1) (n, x)) (unmoved_from x (n + 1) (y ∷ rest) first.1)
    ∙ ap (λ (b : Bool). if b then (n, x) ∷ (n + 1, y) ∷ numbered_from (n + 1 + 1) rest else (n + 1, y) ∷ put_before (λ (e : ℕ × ℤ). e.1) (n, x) (numbered_from (n + 1 + 1) rest)) next.0

range_next : (a n : ℕ) → range_with_len a (suc n) ≡ range_with_len a n ++ (a + n) ∷ []
range_next a zero = (let e : a ≡ a + 0 = omega arith in ap (λ x. x ∷ []) e)
range_next a (suc n) = (let e : a + 1 + n ≡ a + suc n = omega arith in ap (λ l. a ∷ l) (range_next (a + 1) n ∙ ap (λ x. range_with_len (a + 1) n ++ x ∷ []) e))

pub range_more : (n : ℕ) → range_with_len 0 (n + 1) ≡ range_with_len 0 n ++ n ∷ []
range_more n = (let e : 0 + n ≡ n = omega arith in ap (range_with_len 0) (add-one n) ∙ range_next 0 n ∙ ap (λ x. range_with_len 0 n ++ x ∷ []) e)

numbered_range : (n : ℕ) (orders : List ℤ) → map (λ (e : ℕ × ℤ). e.0) (numbered_from n orders) ≡ range_with_len n (length orders)
numbered_range n [] = refl
numbered_range n (x ∷ rest) = ap (λ l. n ∷ l) (numbered_range (n + 1) rest)

pub unmoved : (least : ℤ) (orders : List ℤ) (count : ℕ) → are_ascending least orders ≡ true → count ≡ length orders → range_with_len 0 count ≡ numbers_in_order orders
unmoved least orders count h e = ap (range_with_len 0) e ∙ sym (numbered_range 0 orders) ∙ ap (map (λ (e : ℕ × ℤ). e.0)) (sym (unmoved_from least 0 orders h))
