-- Sums, and items filled into lines.
use Rattle.std.specs.Prelude.{ℕ, ◌+◌, ℤ, pos, negsuc, ◌+ℤ◌, Bool, List, [], ◌∷◌, ◌++◌, Option, Some, None, option_map, if◌then◌else◌}
use Rattle.std.specs.Int.{int_max, int_min}

-- the sum of lengths
abbrev pub sum_of : List ℤ → ℤ
sum_of [] = pos 0
sum_of (x ∷ xs) = x +ℤ sum_of xs

-- the sum of weights
abbrev pub total_of : List ℕ → ℕ
total_of [] = 0
total_of (x ∷ xs) = x + total_of xs

-- lists one after another
abbrev pub joined : {A : Type 0} → List (List A) → List A
joined [] = []
joined (x ∷ xs) = x ++ joined xs

-- The line that stands, and the lines after it: an item joins the line where the line with it fits, else it begins a new one.
abbrev pub filled_from : {A : Type 0} → (List A → Bool) → List A → List A → List (List A)
filled_from fits line [] = line ∷ []
filled_from fits line (x ∷ rest) =
    if fits (line ++ x ∷ [])
    then filled_from fits (line ++ x ∷ []) rest
    else line ∷ filled_from fits (x ∷ []) rest

-- Items filled greedily into lines: the first item of a line always stands on it, and no items make no line.
abbrev pub filled : {A : Type 0} → (List A → Bool) → List A → List (List A)
filled fits [] = []
filled fits (x ∷ rest) = filled_from fits (x ∷ []) rest

-- the two lists joined item by item, as far as both go
abbrev pub zipped : {A B C : Type 0} → (A → B → C) → List A → List B → List C
zipped f [] ys = []
zipped f (x ∷ xs) [] = []
zipped f (x ∷ xs) (y ∷ ys) = f x y ∷ zipped f xs ys

-- the number, but at most a limit; None is no limit
abbrev pub at_most : Option ℤ → ℤ → ℤ
at_most None x = x
at_most (Some limit) x = int_min limit x

-- the number, but at least a limit; None is no limit
abbrev pub at_least : Option ℤ → ℤ → ℤ
at_least None x = x
at_least (Some limit) x = int_max limit x

-- the sum of some lengths, which has no end where one of them has none
abbrev pub sum_of_known : List (Option ℤ) → Option ℤ
sum_of_known [] = Some (pos 0)
sum_of_known (None ∷ xs) = None
sum_of_known (Some x ∷ xs) = option_map (λ s. x +ℤ s) (sum_of_known xs)

-- the greatest of a number and some others
abbrev pub greatest_with : ℤ → List ℤ → ℤ
greatest_with x [] = x
greatest_with x (y ∷ ys) = int_max y (greatest_with x ys)

-- a number of at least 0, and 0 for one below
abbrev pub above_zero : ℤ → ℕ
above_zero (pos n) = n
above_zero (negsuc n) = 0
