-- Order-modified document order (CSS Grid 2, 6.3; CSS Flexbox 1, 5.4).
use Rattle.std.specs.Prelude.{◌≡◌, refl, ℕ, ◌+◌, ◌==◌, ℤ, pos, negsuc, int_le, List, [], ◌∷◌, map, if◌then◌else◌}

-- an item put before the first one whose key is not less
abbrev pub put_before : {A : Type 0} → (A → ℤ) → A → List A → List A
put_before key x [] = x ∷ []
put_before key x (y ∷ rest) =
    let later = y ∷ put_before key x rest in
    if int_le (key x) (key y) then x ∷ y ∷ rest else later

-- items by their keys; of equal keys in their order
abbrev pub sorted_by : {A : Type 0} → (A → ℤ) → List A → List A
sorted_by key [] = []
sorted_by key (x ∷ rest) = put_before key x (sorted_by key rest)

-- items with their numbers, from this one on
abbrev pub numbered_from : {A : Type 0} → ℕ → List A → List (ℕ × A)
numbered_from n [] = []
numbered_from n (x ∷ rest) = (n, x) ∷ numbered_from (n + 1) rest

-- Items in order-modified document order, each with its number in document order: by `order`, then in document order.
abbrev pub in_order : {A : Type 0} → (A → ℤ) → List A → List (ℕ × A)
in_order {A} order xs = sorted_by (λ (e : ℕ × A). order e.1) (numbered_from 0 xs)

-- numbered items back in document order, without their numbers
abbrev pub in_document_order : {A : Type 0} → List (ℕ × A) → List A
in_document_order {A} xs = map (λ (e : ℕ × A). e.1) (sorted_by (λ (e : ℕ × A). pos e.0) xs)

-- the item of this number, or another
abbrev pub of_number : {A : Type 0} → ℕ → A → List (ℕ × A) → A
of_number n other [] = other
of_number n other (e ∷ rest) =
    let later = of_number n other rest in
    if e.0 == n then e.1 else later

-- ---- worked rows

-- Orders 1, 0, -1 and 0: the third, the second, the fourth and the first.
modified : in_order {A = ℤ} (λ x. x) (pos 1 ∷ pos 0 ∷ negsuc 0 ∷ pos 0 ∷ []) ≡ (2, negsuc 0) ∷ (1, pos 0) ∷ (3, pos 0) ∷ (0, pos 1) ∷ []
modified = refl

back : in_document_order (in_order {A = ℤ} (λ x. x) (pos 1 ∷ pos 0 ∷ negsuc 0 ∷ pos 0 ∷ [])) ≡ pos 1 ∷ pos 0 ∷ negsuc 0 ∷ pos 0 ∷ []
back = refl

third : of_number {A = ℤ} 2 (pos 9) ((2, negsuc 0) ∷ (1, pos 0) ∷ []) ≡ negsuc 0
third = refl
