-- Items back in document order are read by the places of their numbers.
use Rattle.std.proofs.Common.{arith, refl, sym, ap, ◌∙◌, ◌≡◌, ℕ, ◌+◌, ◌<◌, ℤ, pos, int_le, Bool, true, false, List, [], ◌∷◌, ◌++◌, take, length, map, get_or, if◌then◌else◌, length-append}
use Rattle.std.proofs.lemmas.List.{append_assoc, length-take-le, take_more}
use Rattle.part_rules.specs.Lists.{above_zero}
use Rattle.placing.proofs.Each.{Each}
use Rattle.placing.proofs.Numbers.{each_sorted}
use Rattle.tree_rules.specs.Orders.{in_document_order, put_before, sorted_by}
use Rattle.placing.specs.Turns.{pairs_from, turns}

-- ---- numbers with their places

pairs_push : (at : ℕ) (xs : List ℕ) (n : ℕ) → pairs_from at (xs ++ n ∷ []) ≡ pairs_from at xs ++ (at + length xs, pos n) ∷ []
pairs_push at [] n = ap (λ (m : ℕ). (m, pos n) ∷ []) (omega arith)
pairs_push at (x ∷ xs) n = ap (λ (l : List (ℕ × ℤ)). (at, pos x) ∷ l) (pairs_push (at + 1) xs n ∙ ap (λ (m : ℕ). pairs_from (at + 1) xs ++ (m, pos n) ∷ []) (omega arith))

pub pairs_next : (xs : List ℕ) (i d : ℕ) → i < length xs → pairs_from 0 (take (i + 1) xs) ≡ pairs_from 0 (take i xs) ++ (i, pos (get_or xs i d)) ∷ []
pairs_next xs i d h =
    ap (pairs_from 0) (take_more xs i d h)
    ∙ pairs_push 0 (take i xs) (get_or xs i d)
    ∙ ap (λ (m : ℕ). pairs_from 0 (take i xs) ++ (m, pos (get_or xs i d)) ∷ []) (omega (arith, length-take-le i xs (omega (arith, h))))

-- ---- sorting goes with a function that keeps the keys of these items

module _ {A B : Type 0} (f : A → B) (key : A → ℤ) (other : B → ℤ) where
  abbrev KeepsKey : A → Type 0
  KeepsKey x = other (f x) ≡ key x

  map_put : (x : A) (ys : List A) → KeepsKey x → Each KeepsKey ys → put_before other (f x) (map f ys) ≡ map f (put_before key x ys)
  map_put x [] h k = refl
  map_put x (y ∷ rest) h k =
      ap (λ (b : Bool). if b then f x ∷ f y ∷ map f rest else f y ∷ put_before other (f x) (map f rest)) (ap (λ z. int_le z (other (f y))) h ∙ ap (int_le (key x)) k.0)
      ∙ go (int_le (key x) (key y)) (map_put x rest h k.1)
    where
      go : (b : Bool) → put_before other (f x) (map f rest) ≡ map f (put_before key x rest) → (if b then f x ∷ f y ∷ map f rest else f y ∷ put_before other (f x) (map f rest)) ≡ map f (if b then x ∷ y ∷ rest else y ∷ put_before key x rest)
      go true lower = refl
      go false lower = ap (λ l. f y ∷ l) lower

  map_sorted_each : (xs : List A) → Each KeepsKey xs → sorted_by other (map f xs) ≡ map f (sorted_by key xs)
  map_sorted_each [] h = refl
  map_sorted_each (x ∷ rest) h = ap (put_before other (f x)) (map_sorted_each rest h.1) ∙ map_put x (sorted_by key rest) h.0 (each_sorted key KeepsKey rest h.1)

map_twice : {A B C : Type 0} (f : A → B) (g : B → C) (xs : List A) → map g (map f xs) ≡ map (λ x. g (f x)) xs
map_twice f g [] = refl
map_twice f g (x ∷ xs) = ap (λ l. g (f x) ∷ l) (map_twice f g xs)

-- ---- items with their numbers

module _ {W X : Type 0} (num : W → ℕ) (made : W → X) (other : X) where
  abbrev read : List X → ℕ × ℤ → ℕ × X
  read xs e = (above_zero e.1, get_or xs e.0 other)

  get_past : (before xs : List X) (x : X) → get_or (before ++ x ∷ xs) (length before) other ≡ x
  get_past [] xs x = refl
  get_past (b ∷ before) xs x = get_past before xs x

  all_read : (before : List X) (ws : List W) → map (λ w. (num w, made w)) ws ≡ map (read (before ++ map made ws)) (pairs_from (length before) (map num ws))
  all_read before [] = refl
  all_read before (w ∷ ws) =
      (λ i. (num w, sym (get_past before (map made ws) (made w)) i) ∷ all_read (before ++ made w ∷ []) ws i)
      ∙ ap (λ (l : List (ℕ × X)). read (before ++ made w ∷ map made ws) (length before, pos (num w)) ∷ l)
      ((λ i. map (read (append_assoc before (made w ∷ []) (map made ws) i)) (pairs_from (length (before ++ made w ∷ [])) (map num ws)))
      ∙ ap (λ (n : ℕ). map (read (before ++ made w ∷ map made ws)) (pairs_from n (map num ws))) (length-append before (made w ∷ [])))

  keeps : (xs : List X) (at : ℕ) (ns : List ℕ) → Each (KeepsKey (read xs) (λ (e : ℕ × ℤ). e.1) (λ (e : ℕ × X). pos e.0)) (pairs_from at ns)
  keeps xs at [] = tt
  keeps xs at (n ∷ ns) = (refl, keeps xs (at + 1) ns)

  -- what stands in document order is read where its number has its place
  pub read_in_order : (ws : List W) → in_document_order (map (λ w. (num w, made w)) ws) ≡ map (λ (e : ℕ × ℤ). get_or (map made ws) e.0 other) (turns (map num ws))
  read_in_order ws =
      ap in_document_order (all_read [] ws)
      ∙ ap (map (λ (e : ℕ × X). e.1)) (map_sorted_each (read (map made ws)) (λ (e : ℕ × ℤ). e.1) (λ (e : ℕ × X). pos e.0) (pairs_from 0 (map num ws)) (keeps (map made ws) 0 (map num ws)))
      ∙ map_twice (read (map made ws)) (λ (e : ℕ × X). e.1) (turns (map num ws))
