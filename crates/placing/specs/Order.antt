-- Children by their numbers in document order, from 0, in order-modified document order (CSS Grid 2, 6.3).
use Rattle.std.specs.Prelude.{ℕ, ℤ, int_le, Bool, true, ◌&&◌, List, [], ◌∷◌, map, get_or}
use Rattle.tree_rules.specs.Orders.{in_order}

-- the numbers of these values of `order`, by the values and then in document order
abbrev pub numbers_in_order : List ℤ → List ℕ
numbers_in_order orders = map (λ (e : ℕ × ℤ). e.0) (in_order (λ (x : ℤ). x) orders)

-- the item of a number, with its number
abbrev pub item_of : {A : Type 0} → A → List A → ℕ → ℕ × A
item_of other xs n = (n, get_or xs n other)

-- the items of these numbers
abbrev pub items_of : {A : Type 0} → A → List A → List ℕ → List (ℕ × A)
items_of other xs numbers = map (item_of other xs) numbers

-- Each value is at least the one before it, and the first at least this one.
abbrev pub are_ascending : ℤ → List ℤ → Bool
are_ascending least [] = true
are_ascending least (x ∷ rest) = int_le least x && are_ascending x rest
