-- Lists of trees: nothing, or a tree's label, its children and the trees after it.
use Rattle.std.specs.Prelude.{◌≡◌, refl, ℕ, ◌+◌, max, List, [], ◌∷◌, ◌++◌}
use Rattle.std.proofs.Common.{ap, subst, sym}
use Rattle.std.specs.Coded.{Coded}
use base.Stored.{Gv, gnil, gnum, gcons}

pub data Trees (A : Type 0) : Type 0 where
  leafless : Trees A
  tree : A → Trees A → Trees A → Trees A

-- ---- words

-- the number of nodes
abbrev pub size_of : {A : Type 0} → Trees A → ℕ
size_of leafless = 0
size_of (tree label below after) = 1 + size_of below + size_of after

-- the number of levels
abbrev pub height_of : {A : Type 0} → Trees A → ℕ
height_of leafless = 0
height_of (tree label below after) = max (1 + height_of below) (height_of after)

-- the one list of trees, then the other
abbrev pub joined : {A : Type 0} → Trees A → Trees A → Trees A
joined leafless others = others
joined (tree label below after) others = tree label below (joined after others)

-- the labels of the trees of a list, without those below them
abbrev pub top_labels : {A : Type 0} → Trees A → List A
top_labels leafless = []
top_labels (tree label below after) = label ∷ top_labels after

-- the number of trees of a list
abbrev pub count_of : {A : Type 0} → Trees A → ℕ
count_of leafless = 0
count_of (tree label below after) = 1 + count_of after

-- the labels in document order: each node before what is below it
abbrev pub labels_of : {A : Type 0} → Trees A → List A
labels_of leafless = []
labels_of (tree label below after) = label ∷ labels_of below ++ labels_of after

-- what each tree gives, from its label and what its children give
abbrev pub fold_trees : {A B : Type 0} → (A → List B → B) → Trees A → List B
fold_trees step leafless = []
fold_trees step (tree label below after) = step label (fold_trees step below) ∷ fold_trees step after

-- each label by a function
abbrev pub map_trees : {A B : Type 0} → (A → B) → Trees A → Trees B
map_trees f leafless = leafless
map_trees f (tree label below after) = tree (f label) (map_trees f below) (map_trees f after)

-- a fact of each label
abbrev pub EachLabel : {A : Type 0} → (A → Type 0) → Trees A → Type 0
EachLabel P leafless = Unit {0}
EachLabel P (tree label below after) = P label × (EachLabel P below × EachLabel P after)

-- ---- a code, so that trees can be a model's value
abbrev left : Gv → Gv
left gnil = gnil
left (gnum n) = gnil
left (gcons a b) = a

abbrev right : Gv → Gv
right gnil = gnil
right (gnum n) = gnil
right (gcons a b) = b

abbrev IsCons : Gv → Type 0
IsCons gnil = ⊥
IsCons (gnum n) = ⊥
IsCons (gcons a b) = Unit {0}

module _ {A : Type 0} (c : Coded A) where
  pub code_trees : Trees A → Gv
  code_trees leafless = gnil
  code_trees (tree label below after) = gcons (c.code label) (gcons (code_trees below) (code_trees after))

  pub inj_trees : (s t : Trees A) → code_trees s ≡ code_trees t → s ≡ t
  unfolding code_trees
  inj_trees leafless leafless e = refl
  inj_trees leafless (tree x b a) e = absurd (subst IsCons (sym e) tt)
  inj_trees (tree x b a) leafless e = absurd (subst IsCons e tt)
  inj_trees (tree x b a) (tree y d f) e =
      λ i. tree (c.inj x y (ap left e) i) (inj_trees b d (ap (λ g. left (right g)) e) i) (inj_trees a f (ap (λ g. right (right g)) e) i)

  abbrev pub coded_trees : Coded (Trees A)
  coded_trees = record { code = code_trees; inj = inj_trees }
