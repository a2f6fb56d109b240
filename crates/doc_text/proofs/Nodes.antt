-- The trees of a list of nodes, at a push and at a place.
use Rattle.std.proofs.Common.{◌≡◌, ℕ, zero, suc, ◌+◌, ◌<◌, ◌≤◌, List, [], ◌∷◌, ◌++◌, ap, refl, arith, get_or, length, drop, drop-cons, add-one, sym, ◌∙◌}
use Rattle.std.proofs.lemmas.List.{drop_all}
use Rattle.plain_tree.specs.Trees.{Trees, tree, joined, size_of, count_of}
use Rattle.plain_tree.proofs.Laws.{joined_assoc, joined-leafless}
use Rattle.doc_text.specs.declared.document.Plain.{Plain}
use Rattle.doc_text.specs.declared.document.Children.TheDeep.{deep-Plain}
use Rattle.doc_text.specs.Label.{Label}
use Rattle.doc_text.specs.View.{trees_of, label_of}

pub trees_of-push : (nodes : List Plain) (node : Plain) → trees_of (nodes ++ node ∷ []) ≡ joined (trees_of nodes) (trees_of (node ∷ []))
trees_of-push [] node = refl
trees_of-push (x ∷ nodes) node = ap (tree (label_of x) x.children) (trees_of-push nodes node)

pub count_trees_of : (nodes : List Plain) → count_of (trees_of nodes) ≡ length nodes
count_trees_of [] = refl
count_trees_of (node ∷ nodes) = omega (arith, count_trees_of nodes)

-- a child is smaller than the list that it stands in
pub child_falls : (nodes : List Plain) (i : ℕ) (node : Plain) → i < length nodes → deep-Plain (get_or nodes i node) ≤ size_of (trees_of nodes)
child_falls [] i node h = absurd (omega arith)
child_falls (x ∷ nodes) zero node h = omega arith
child_falls (x ∷ nodes) (suc i) node h = omega (arith, child_falls nodes i node (omega arith))

-- what is left at a place: the child there, and what is left after it
pub trees_of-drop : (nodes : List Plain) (i : ℕ) (node : Plain) → i < length nodes → trees_of (drop i nodes) ≡ tree (label_of (get_or nodes i node)) (get_or nodes i node).children (trees_of (drop (i + 1) nodes))
trees_of-drop nodes i node h = rw add-one (ap trees_of (drop-cons nodes i node h))

pub joined-drop : (s : Trees Label) (nodes : List Plain) (i : ℕ) (node : Plain) → i < length nodes → joined s (trees_of (drop i nodes)) ≡ joined (joined s (trees_of (get_or nodes i node ∷ []))) (trees_of (drop (i + 1) nodes))
joined-drop s nodes i node h = ap (joined s) (trees_of-drop nodes i node h) ∙ sym (joined_assoc s (trees_of (get_or nodes i node ∷ [])) _)

pub joined-all : (s : Trees Label) (nodes : List Plain) (i : ℕ) → length nodes ≤ i → joined s (trees_of (drop i nodes)) ≡ s
joined-all s nodes i h = rw (drop_all i nodes h) (joined-leafless s)

pub ruleset child_laws = (child_falls, joined-drop, joined-all)
