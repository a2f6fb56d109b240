-- Laws of paths.
use Rattle.std.proofs.Common.{◌≡◌, ℕ, zero, suc, ◌≤◌, List, [], ◌∷◌, map, length, refl, ap, arith}
use Rattle.plain_tree.specs.Trees.{Trees, leafless, tree, size_of, height_of, count_of, map_trees}
use Rattle.plain_tree.specs.Paths.{subtrees, subtree_at, labels_to, map_subtree, below_size, below_height}

-- what is below a node is smaller and lower than the whole
pub below_smaller : {A : Type 0} (t : Trees A) (path : List ℕ) → below_size (subtree_at t path) ≤ size_of t
below_smaller leafless path = omega arith
below_smaller (tree label below after) [] = omega arith
below_smaller (tree label below after) (zero ∷ []) = omega arith
below_smaller (tree label below after) (zero ∷ index ∷ path) = omega (arith, below_smaller below (index ∷ path))
below_smaller (tree label below after) (suc place ∷ path) = omega (arith, below_smaller after (place ∷ path))

module _ {A B : Type 0} (f : A → B) where
  pub subtree_at-map : (t : Trees A) (path : List ℕ) → subtree_at (map_trees f t) path ≡ map_subtree f (subtree_at t path)
  subtree_at-map leafless path = refl
  subtree_at-map (tree label below after) [] = refl
  subtree_at-map (tree label below after) (zero ∷ []) = refl
  subtree_at-map (tree label below after) (zero ∷ index ∷ path) = subtree_at-map below (index ∷ path)
  subtree_at-map (tree label below after) (suc place ∷ path) = subtree_at-map after (place ∷ path)

  pub labels_to-map : (t : Trees A) (path : List ℕ) → labels_to (map_trees f t) path ≡ map f (labels_to t path)
  labels_to-map leafless path = refl
  labels_to-map (tree label below after) [] = refl
  labels_to-map (tree label below after) (zero ∷ path) = ap (λ l. f label ∷ l) (labels_to-map below path)
  labels_to-map (tree label below after) (suc place ∷ path) = labels_to-map after (place ∷ path)

  pub subtrees-map : (t : Trees A) → subtrees (map_trees f t) ≡ map (λ part. (f part.0, map_trees f part.1)) (subtrees t)
  subtrees-map leafless = refl
  subtrees-map (tree label below after) = ap (λ l. (f label, map_trees f below) ∷ l) (subtrees-map after)
