-- Laws of lists of trees.
use Rattle.std.proofs.Common.{◌≡◌, ◌+◌, ◌≤◌, List, [], ◌∷◌, ◌++◌, map, length, refl, sym, ap, ◌∙◌, arith, length-append, max}
use Rattle.plain_tree.specs.Trees.{Trees, leafless, tree, size_of, height_of, joined, top_labels, count_of, labels_of, fold_trees, map_trees, EachLabel}

append_assoc : {X : Type 0} (xs ys zs : List X) → (xs ++ ys) ++ zs ≡ xs ++ (ys ++ zs)
append_assoc [] ys zs = refl
append_assoc (x ∷ xs) ys zs = ap (λ l. x ∷ l) (append_assoc xs ys zs)

map_append : {X Y : Type 0} (f : X → Y) (xs ys : List X) → map f (xs ++ ys) ≡ map f xs ++ map f ys
map_append f [] ys = refl
map_append f (x ∷ xs) ys = ap (λ l. f x ∷ l) (map_append f xs ys)

module _ {A : Type 0} where
  -- ---- the one list, then the other
  pub joined_assoc : (r s t : Trees A) → joined (joined r s) t ≡ joined r (joined s t)
  joined_assoc leafless s t = refl
  joined_assoc (tree label below after) s t = ap (tree label below) (joined_assoc after s t)

  pub joined-leafless : (t : Trees A) → joined t leafless ≡ t
  joined-leafless leafless = refl
  joined-leafless (tree label below after) = ap (tree label below) (joined-leafless after)

  pub size_of-joined : (s t : Trees A) → size_of (joined s t) ≡ size_of s + size_of t
  size_of-joined leafless t = omega arith
  size_of-joined (tree label below after) t = omega (arith, size_of-joined after t)

  pub count_of-joined : (s t : Trees A) → count_of (joined s t) ≡ count_of s + count_of t
  count_of-joined leafless t = omega arith
  count_of-joined (tree label below after) t = omega (arith, count_of-joined after t)

  pub height_of-joined : (s t : Trees A) → height_of (joined s t) ≡ max (height_of s) (height_of t)
  height_of-joined leafless t = omega arith
  height_of-joined (tree label below after) t = omega (arith, height_of-joined after t)

  pub top_labels-joined : (s t : Trees A) → top_labels (joined s t) ≡ top_labels s ++ top_labels t
  top_labels-joined leafless t = refl
  top_labels-joined (tree label below after) t = ap (λ l. label ∷ l) (top_labels-joined after t)

  pub labels_of-joined : (s t : Trees A) → labels_of (joined s t) ≡ labels_of s ++ labels_of t
  labels_of-joined leafless t = refl
  labels_of-joined (tree label below after) t = ap (λ l. label ∷ l) (ap (λ l. labels_of below ++ l) (labels_of-joined after t) ∙ sym (append_assoc (labels_of below) (labels_of after) (labels_of t)))

  -- ---- numbers
  pub length-labels_of : (t : Trees A) → length (labels_of t) ≡ size_of t
  length-labels_of leafless = refl
  length-labels_of (tree label below after) = omega (arith, length-append (labels_of below) (labels_of after), length-labels_of below, length-labels_of after)

  pub length-top_labels : (t : Trees A) → length (top_labels t) ≡ count_of t
  length-top_labels leafless = refl
  length-top_labels (tree label below after) = omega (arith, length-top_labels after)

  pub height_within : (t : Trees A) → height_of t ≤ size_of t
  height_within leafless = omega arith
  height_within (tree label below after) = omega (arith, height_within below, height_within after)

  pub count_within : (t : Trees A) → count_of t ≤ size_of t
  count_within leafless = omega arith
  count_within (tree label below after) = omega (arith, count_within after)

  -- ---- a fact of each label
  pub each_joined : (P : A → Type 0) (s t : Trees A) → EachLabel P s → EachLabel P t → EachLabel P (joined s t)
  each_joined P leafless t p q = q
  each_joined P (tree label below after) t p q = (p.0, (p.1.0, each_joined P after t p.1.1 q))

  pub each_weaker : (P Q : A → Type 0) (t : Trees A) → ((label : A) → P label → Q label) → EachLabel P t → EachLabel Q t
  each_weaker P Q leafless h p = tt
  each_weaker P Q (tree label below after) h p = (h label p.0, (each_weaker P Q below h p.1.0, each_weaker P Q after h p.1.1))

  pub map_trees-same : (t : Trees A) → map_trees (λ label. label) t ≡ t
  map_trees-same leafless = refl
  map_trees-same (tree label below after) = λ i. tree label (map_trees-same below i) (map_trees-same after i)

-- ---- each label by a function
module _ {A B : Type 0} (f : A → B) where
  pub size_of-map : (t : Trees A) → size_of (map_trees f t) ≡ size_of t
  size_of-map leafless = refl
  size_of-map (tree label below after) = omega (arith, size_of-map below, size_of-map after)

  pub height_of-map : (t : Trees A) → height_of (map_trees f t) ≡ height_of t
  height_of-map leafless = refl
  height_of-map (tree label below after) = omega (arith, height_of-map below, height_of-map after)

  pub count_of-map : (t : Trees A) → count_of (map_trees f t) ≡ count_of t
  count_of-map leafless = refl
  count_of-map (tree label below after) = omega (arith, count_of-map after)

  pub top_labels-map : (t : Trees A) → top_labels (map_trees f t) ≡ map f (top_labels t)
  top_labels-map leafless = refl
  top_labels-map (tree label below after) = ap (λ l. f label ∷ l) (top_labels-map after)

  pub labels_of-map : (t : Trees A) → labels_of (map_trees f t) ≡ map f (labels_of t)
  labels_of-map leafless = refl
  labels_of-map (tree label below after) = ap (λ l. f label ∷ l) ((λ i. labels_of-map below i ++ labels_of-map after i) ∙ sym (map_append f (labels_of below) (labels_of after)))

  pub map_trees-joined : (s t : Trees A) → map_trees f (joined s t) ≡ joined (map_trees f s) (map_trees f t)
  map_trees-joined leafless t = refl
  map_trees-joined (tree label below after) t = ap (tree (f label) (map_trees f below)) (map_trees-joined after t)

  pub each_map : (P : B → Type 0) (t : Trees A) → EachLabel (λ label. P (f label)) t → EachLabel P (map_trees f t)
  each_map P leafless p = tt
  each_map P (tree label below after) p = (p.0, (each_map P below p.1.0, each_map P after p.1.1))

-- ---- folds
