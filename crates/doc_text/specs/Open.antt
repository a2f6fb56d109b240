-- A tree that grows, kept as its last node on each level.
use Rattle.std.specs.Prelude.{◌≡◌, ℕ, ◌||◌, List, [], ◌∷◌}
use Rattle.std.specs.Str.{bytes_eq}
use Rattle.std.specs.BTreeSet.{BTreeSet, contains}
use Rattle.std.specs.Ordering.{nat_cmp}
use Rattle.std.specs.Cmp.Lexicographic.{slice_cmp}
use Rattle.plain_tree.specs.Trees.{Trees, leafless, tree, joined, size_of}
use Rattle.doc_text.specs.declared.document.Plain.{Plain}
use Rattle.doc_text.specs.Label.{Label}
use Rattle.doc_text.specs.View.{label_of}
use Rattle.doc_text.specs.Growth.{holds}
use Rattle.doc_text.specs.Texts.{Word}

-- each node is the last child of the one before
abbrev pub assembled : List Plain → Trees Label
assembled [] = leafless
assembled (node ∷ nodes) = tree (label_of node) (joined node.children (assembled nodes)) leafless

-- the last of them has no children
abbrev pub EndsBare : List Plain → Type 0
EndsBare [] = Unit {0}
EndsBare (node ∷ []) = node.children ≡ leafless
EndsBare (node ∷ next ∷ nodes) = EndsBare (next ∷ nodes)

pub record IsKept (path : List Plain) (names : BTreeSet Word) (count : ℕ) : Type 0 where
  pub bare : EndsBare path
  pub named : (name : Word) → contains (slice_cmp nat_cmp) names name ≡ holds (assembled path) name
  pub counted : count ≡ size_of (assembled path)

-- the one has all names of the other, and this one
abbrev pub HasMore : List Plain → List Plain → Word → Type 0
HasMore more path new = (name : Word) → holds (assembled more) name ≡ (holds (assembled path) name || bytes_eq new name)
