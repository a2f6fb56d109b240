-- Where a node stands in a list of trees: which tree, which of its children, and so on down.
use Rattle.std.specs.Prelude.{ℕ, zero, suc, List, [], ◌∷◌, Option, Some, None}
use Rattle.plain_tree.specs.Trees.{Trees, leafless, tree, map_trees, size_of, height_of}

-- a node's label and its children
abbrev pub Subtree : Type 0 → Type 0
Subtree A = A × Trees A

-- the trees of a list
abbrev pub subtrees : {A : Type 0} → Trees A → List (Subtree A)
subtrees leafless = []
subtrees (tree label below after) = (label, below) ∷ subtrees after

-- the subtree at a path; the empty path names none
abbrev pub subtree_at : {A : Type 0} → Trees A → List ℕ → Option (Subtree A)
subtree_at leafless path = None
subtree_at (tree label below after) [] = None
subtree_at (tree label below after) (zero ∷ []) = Some (label, below)
subtree_at (tree label below after) (zero ∷ index ∷ path) = subtree_at below (index ∷ path)
subtree_at (tree label below after) (suc place ∷ path) = subtree_at after (place ∷ path)

-- the labels on the way to a path, the topmost first, its own last
abbrev pub labels_to : {A : Type 0} → Trees A → List ℕ → List A
labels_to leafless path = []
labels_to (tree label below after) [] = []
labels_to (tree label below after) (zero ∷ path) = label ∷ labels_to below path
labels_to (tree label below after) (suc place ∷ path) = labels_to after (place ∷ path)

-- a subtree with each label by a function
abbrev pub map_subtree : {A B : Type 0} → (A → B) → Option (Subtree A) → Option (Subtree B)
map_subtree f None = None
map_subtree f (Some part) = Some (f part.0, map_trees f part.1)

-- the number of nodes below it
abbrev pub below_size : {A : Type 0} → Option (Subtree A) → ℕ
below_size None = 0
below_size (Some part) = size_of part.1

-- the number of levels below it
abbrev pub below_height : {A : Type 0} → Option (Subtree A) → ℕ
below_height None = 0
below_height (Some part) = height_of part.1
