-- A change that is applied to a copy of the nodes, child by child.
use Rattle.std.proofs.Common.{◌≡◌, ℕ, zero, suc, ◌+◌, ◌<◌, ◌≤◌, min, Bool, true, false, cond, List, [], ◌∷◌, None, take, drop, get_or, length, refl, sym, ap, subst, ◌∙◌, arith}
use Rattle.std.specs.Str.{bytes_eq}
use Rattle.std.proofs.lemmas.List.{drop_all}
use Rattle.plain_tree.specs.Trees.{Trees, leafless, tree, joined}
use Rattle.plain_tree.proofs.Laws.{joined_assoc, joined-leafless}
use Rattle.doc_text.specs.declared.document.Plain.{Plain}
use Rattle.doc_text.specs.Label.{Label}
use Rattle.doc_text.specs.View.{label_of, trees_of}
use Rattle.doc_text.specs.Texts.{Word}
use Rattle.doc_text.specs.Growth.{holds}
use Rattle.doc_text.specs.Named.{IsDistinct, put_at, replaced}
use Rattle.doc_text.proofs.Grown.{same_name}
use Rattle.doc_text.proofs.Standing.{unchanged}
use Rattle.doc_text.proofs.Nodes.{trees_of-drop}
use Rattle.edit_journal.specs.Changes.{tree_of_node}
use Rattle.edit_journal.specs.Turning.{trees_of_option}

-- ---- a child more

pub put_split : (index : ℕ) (new : Trees Label) (nodes : List Plain)
    → joined (joined (trees_of (take (min index (length nodes)) nodes)) new) (trees_of (drop (min index (length nodes)) nodes)) ≡ put_at index new (trees_of nodes)
put_split index new nodes = split index (min index (length nodes)) nodes refl
  where
    split : (i n : ℕ) (nodes : List Plain) → n ≡ min i (length nodes) → joined (joined (trees_of (take n nodes)) new) (trees_of (drop n nodes)) ≡ put_at i new (trees_of nodes)
    split i zero [] e = joined-leafless new
    split i (suc n) [] e = absurd (omega (arith, e))
    split zero zero (node ∷ nodes) e = refl
    split zero (suc n) (node ∷ nodes) e = absurd (omega (arith, e))
    split (suc i) zero (node ∷ nodes) e = absurd (omega (arith, e))
    split (suc i) (suc n) (node ∷ nodes) e = ap (tree (label_of node) node.children) (split i n nodes (omega (arith, e)))

pub push_none : (t : Trees Label) → joined t (trees_of_option None) ≡ t
push_none t = joined-leafless t

-- ---- names of the nodes that are left

distinct_drop : (nodes : List Plain) (i : ℕ) → IsDistinct (trees_of nodes) → IsDistinct (trees_of (drop i nodes))
distinct_drop nodes zero d = d
distinct_drop [] (suc i) d = tt
distinct_drop (node ∷ nodes) (suc i) d = distinct_drop nodes i d.1.1.1.1

-- the names of what stands below each node of a list differ
pub distinct_child : (nodes : List Plain) (i : ℕ) (node : Plain) → IsDistinct (trees_of nodes) → i < length nodes → IsDistinct (tree_of_node (get_or nodes i node))
distinct_child nodes i node d h =
    let e : IsDistinct (tree (label_of (get_or nodes i node)) (get_or nodes i node).children (trees_of (drop (i + 1) nodes))) = subst IsDistinct (trees_of-drop nodes i node h) (distinct_drop nodes i d) in
    (e.0, (refl, ((λ _ _. refl), (e.1.1.1.0, tt))))

-- ---- a change of the node of a name
module _ (name : Word) (change : Label → Trees Label → Trees Label) where
  pub own_replaced : (node : Plain) → bytes_eq node.name name ≡ true → replaced name change (tree_of_node node) ≡ change (label_of node) node.children
  own_replaced node e = rw e (joined-leafless (change (label_of node) node.children))

  pub below_replaced : (node : Plain) → bytes_eq node.name name ≡ false → replaced name change (tree_of_node node) ≡ tree (label_of node) (replaced name change node.children) leafless
  below_replaced node e = rw e refl

  first_replaced : (x : Label) (below after : Trees Label) → IsDistinct (tree x below after) → replaced name change (tree x below after) ≡ joined (replaced name change (tree x below leafless)) (replaced name change after)
  first_replaced x below after d = by_name (bytes_eq x.name name) refl
    where
      by_name : (e : Bool) → bytes_eq x.name name ≡ e → cond e (joined (change x below) after) (tree x (replaced name change below) (replaced name change after))
          ≡ joined (cond e (joined (change x below) leafless) (tree x (replaced name change below) leafless)) (replaced name change after)
      by_name true e =
          let gone = unchanged name change after (ap (λ n. holds after n) (sym (same_name x.name name e)) ∙ d.1.0) in
          λ i. joined (sym (joined-leafless (change x below)) i) (sym gone i)
      by_name false e = refl

  pub next_replaced : (nodes : List Plain) (i : ℕ) (node : Plain) → IsDistinct (trees_of nodes) → i < length nodes
      → replaced name change (trees_of (drop i nodes)) ≡ joined (replaced name change (tree_of_node (get_or nodes i node))) (replaced name change (trees_of (drop (i + 1) nodes)))
  next_replaced nodes i node d h =
      let at = trees_of-drop nodes i node h in
      ap (replaced name change) at
      ∙ first_replaced (label_of (get_or nodes i node)) (get_or nodes i node).children (trees_of (drop (i + 1) nodes)) (subst IsDistinct at (distinct_drop nodes i d))

  -- the children so far, and what became of one more
  pub one_turned : (so_far more made : Trees Label) (nodes : List Plain) (i : ℕ) (child : Plain) → IsDistinct (trees_of nodes) → i < length nodes → get_or nodes i child ≡ child
      → made ≡ replaced name change (tree_of_node child) → more ≡ joined so_far made → joined so_far (replaced name change (trees_of (drop i nodes))) ≡ replaced name change (trees_of nodes)
      → joined more (replaced name change (trees_of (drop (i + 1) nodes))) ≡ replaced name change (trees_of nodes)
  one_turned so_far more made nodes i child d h at is grown left =
      let rest = replaced name change (trees_of (drop (i + 1) nodes)) in
      ap (λ t. joined t rest) grown ∙ joined_assoc so_far made rest ∙ ap (λ t. joined so_far (joined t rest)) (is ∙ ap (λ (n : Plain). replaced name change (tree_of_node n)) (sym at))
      ∙ ap (joined so_far) (sym (next_replaced nodes i child d h)) ∙ left

  pub all_turned : (so_far : Trees Label) (nodes : List Plain) (i : ℕ) → length nodes ≤ i → joined so_far (replaced name change (trees_of (drop i nodes))) ≡ so_far
  all_turned so_far nodes i h = rw (drop_all i nodes h) (joined-leafless so_far)

pub ruleset applying = (own_replaced, below_replaced, all_turned)
