-- A change of the numbered tree is the change of the document.
use Rattle.std.proofs.Common.{◌≡◌, ℕ, zero, suc, ◌≤◌, Bool, true, false, List, [], cond, length, refl, sym, ap, subst, ◌∙◌, arith, inl, inr}
use Rattle.std.specs.Prelude.{◌⊎◌}
use Rattle.std.proofs.lemmas.Bool.{cases_Bool}
use Rattle.std.specs.Str.{bytes_eq}
use Rattle.plain_tree.specs.Trees.{Trees, leafless, tree, joined, size_of, count_of, height_of}
use Rattle.node_arena.specs.declared.number.NodeId.{NodeId}
use Rattle.node_arena.specs.Numbers.{EachNode, replaced, same, times, top_numbers}
use Rattle.node_arena.specs.Edits as arena
use Rattle.node_arena.proofs.Same.{cond_no, cond_yes, one_no, one_yes}
use Rattle.node_arena.proofs.Edited.{edited_here, edited_not, tops_grafted}
use Rattle.doc_text.specs.Label.{Label}
use Rattle.doc_text.specs.Named as doc
use Rattle.placing.specs.declared.node.Node.{Node}
use Rattle.placing.specs.Nodes.{NodeTrees}
use Rattle.node_arena.proofs.Parts.{each_weaker}
use Rattle.doc_text.proofs.Grown.{same_name}
use Rattle.style_types.specs.Computed.{DeclaredMap}
use Rattle.doc_text.specs.declared.kind.Kind.{Kind}
use Rattle.tree_rules.specs.declared.kind.NodeKind.{NodeKind}
use Rattle.page_tree.proofs.Fonts.{Declares}
use Rattle.page_tree.specs.Documents.{Becomes, kind_of, label_of, plain_trees}
use Rattle.page_tree.specs.Registers.{HasName, Tells}

pub plain_joined : (s t : NodeTrees) → plain_trees (joined s t) ≡ joined (plain_trees s) (plain_trees t)
plain_joined leafless t = refl
plain_joined (tree x below after) t = ap (tree (label_of x.1) (plain_trees below)) (plain_joined after t)

pub plain_put : (index : ℕ) (new t : NodeTrees) → plain_trees (arena.put_at index new t) ≡ doc.put_at index (plain_trees new) (plain_trees t)
plain_put index new leafless = refl
plain_put zero new (tree x below after) = plain_joined new (tree x below after)
plain_put (suc index) new (tree x below after) = ap (tree (label_of x.1) (plain_trees below)) (plain_put index new after)

-- the tree of a number becomes others as the tree of its name does
pub plain_edited : (id : NodeId) (name : List ℕ) (f : NodeId × Node → NodeTrees → NodeTrees) (g : Label → Trees Label → Trees Label) (t : NodeTrees) → ((x : NodeId × Node) (below : NodeTrees) → plain_trees (f x below) ≡ g (label_of x.1) (plain_trees below)) →
    Tells id name t → plain_trees (arena.edited id f t) ≡ doc.replaced name g (plain_trees t)
plain_edited id name f g leafless h k = refl
plain_edited id name f g (tree x below after) h k = at (cases_Bool (same x.0 id)) (plain_edited id name f g below h k.1.0) (plain_edited id name f g after h k.1.1)
  where
    at : (same x.0 id ≡ true) ⊎ (same x.0 id ≡ false) → plain_trees (arena.edited id f below) ≡ doc.replaced name g (plain_trees below) → plain_trees (arena.edited id f after) ≡ doc.replaced name g (plain_trees after) →
        plain_trees (arena.edited id f (tree x below after)) ≡ doc.replaced name g (plain_trees (tree x below after))
    at (inl e) b a =
        ap plain_trees (edited_here id f x below after e) ∙ plain_joined (f x below) after ∙ ap (λ u. joined u (plain_trees after)) (h x below)
        ∙ sym (cond_yes (bytes_eq x.1.name name) _ _ (sym k.0 ∙ e))
    at (inr e) b a =
        ap plain_trees (edited_not id f x below after e) ∙ (λ i. tree (label_of x.1) (b i) (a i))
        ∙ sym (cond_no (bytes_eq x.1.name name) _ _ (sym k.0 ∙ e))

pub plain_grafted : (id : NodeId) (name : List ℕ) (index : ℕ) (new t : NodeTrees) → Tells id name t → plain_trees (arena.grafted id index new t) ≡ doc.grafted name index (plain_trees new) (plain_trees t)
plain_grafted id name index new t k = plain_edited id name (arena.graft index new) (doc.graft index (plain_trees new)) t (λ x below. ap (λ u. tree (label_of x.1) u leafless) (plain_put index new below)) k

pub plain_removed : (id : NodeId) (name : List ℕ) (t : NodeTrees) → Tells id name t → plain_trees (arena.removed id t) ≡ doc.removed name (plain_trees t)
plain_removed id name t k = plain_edited id name arena.nothing doc.nothing t (λ x below. refl) k

pub plain_tree_at : (id : NodeId) (name : List ℕ) (t : NodeTrees) → Tells id name t → plain_trees (arena.tree_at id t) ≡ doc.tree_at name (plain_trees t)
plain_tree_at id name leafless k = refl
plain_tree_at id name (tree x below after) k = at (cases_Bool (same x.0 id)) (plain_tree_at id name below k.1.0) (plain_tree_at id name after k.1.1)
  where
    at : (same x.0 id ≡ true) ⊎ (same x.0 id ≡ false) → plain_trees (arena.tree_at id below) ≡ doc.tree_at name (plain_trees below) → plain_trees (arena.tree_at id after) ≡ doc.tree_at name (plain_trees after) →
        plain_trees (arena.tree_at id (tree x below after)) ≡ doc.tree_at name (plain_trees (tree x below after))
    at (inl e) b a = ap plain_trees (cond_yes (same x.0 id) _ _ e) ∙ sym (cond_yes (bytes_eq x.1.name name) _ _ (sym k.0 ∙ e))
    at (inr e) b a =
        ap plain_trees (cond_no (same x.0 id) _ _ e) ∙ plain_joined (arena.tree_at id below) (arena.tree_at id after)
        ∙ (λ i. joined (b i) (a i))
        ∙ sym (cond_no (bytes_eq x.1.name name) _ _ (sym k.0 ∙ e))

pub mapped_none : (id : NodeId) (w : Node) (t : NodeTrees) → times id t ≡ 0 → replaced id w t ≡ t
mapped_none id w leafless e = refl
mapped_none id w (tree x below after) e = at (cases_Bool (same x.0 id)) (mapped_none id w below) (mapped_none id w after)
  where
    at : (same x.0 id ≡ true) ⊎ (same x.0 id ≡ false) → (times id below ≡ 0 → replaced id w below ≡ below) → (times id after ≡ 0 → replaced id w after ≡ after) → replaced id w (tree x below after) ≡ tree x below after
    at (inl q) b a = absurd (omega (arith, one_yes (same x.0 id) q))
    at (inr q) b a = let no = one_no (same x.0 id) q in λ i. tree (x.0, cond_no (same x.0 id) w x.1 q i) (b (omega arith) i) (a (omega arith) i)

-- another value under a number is another label under its name
pub plain_replaced : (id : NodeId) (name : List ℕ) (w : Node) (change : Label → Label) (t : NodeTrees) → EachNode (λ x. same x.0 id ≡ true → change (label_of x.1) ≡ label_of w) t → times id t ≤ 1 → Tells id name t →
    plain_trees (replaced id w t) ≡ doc.relabelled name change (plain_trees t)
plain_replaced id name w change leafless h few k = refl
plain_replaced id name w change (tree x below after) h few k = at (cases_Bool (same x.0 id)) (plain_replaced id name w change below h.1.0 (omega (arith, few)) k.1.0) (plain_replaced id name w change after h.1.1 (omega (arith, few)) k.1.1)
  where
    at : (same x.0 id ≡ true) ⊎ (same x.0 id ≡ false) → plain_trees (replaced id w below) ≡ doc.relabelled name change (plain_trees below) → plain_trees (replaced id w after) ≡ doc.relabelled name change (plain_trees after) →
        plain_trees (replaced id w (tree x below after)) ≡ doc.relabelled name change (plain_trees (tree x below after))
    at (inl e) b a =
        (λ i. tree (label_of (cond_yes (same x.0 id) w x.1 e i)) (plain_trees (mapped_none id w below (omega (arith, few, one_yes (same x.0 id) e)) i)) (plain_trees (mapped_none id w after (omega (arith, few, one_yes (same x.0 id) e)) i)))
        ∙ ap (λ l. tree l (plain_trees below) (plain_trees after)) (sym (h.0 e))
        ∙ sym (cond_yes (bytes_eq x.1.name name) _ _ (sym k.0 ∙ e))
    at (inr e) b a =
        (λ i. tree (label_of (cond_no (same x.0 id) w x.1 e i)) (b i) (a i))
        ∙ sym (cond_no (bytes_eq x.1.name name) _ _ (sym k.0 ∙ e))

-- ---- numbers of nodes
pub plain_size : (t : NodeTrees) → size_of (plain_trees t) ≡ size_of t
plain_size leafless = refl
plain_size (tree x below after) = omega (arith, plain_size below, plain_size after)

pub plain_count : (t : NodeTrees) → count_of (plain_trees t) ≡ count_of t
plain_count leafless = refl
plain_count (tree x below after) = omega (arith, plain_count after)

pub plain_height : (t : NodeTrees) → height_of (plain_trees t) ≡ height_of t
plain_height leafless = refl
plain_height (tree x below after) = omega (arith, plain_height below, plain_height after)

-- ---- one node more
tops_count : (t : NodeTrees) → length (top_numbers t) ≡ count_of t
tops_count leafless = refl
tops_count (tree x below after) = omega (arith, tops_count after)

pub grafted_count : (id : NodeId) (index : ℕ) (new t : NodeTrees) → count_of (arena.grafted id index new t) ≡ count_of t
grafted_count id index new t = sym (tops_count (arena.grafted id index new t)) ∙ ap length (tops_grafted id index new t) ∙ tops_count t

-- ---- another value
pub tells_name : (id : NodeId) (name : List ℕ) (t : NodeTrees) → Tells id name t → HasName id name t
tells_name id name t k = each_weaker (λ x. same x.0 id ≡ bytes_eq x.1.name name) (λ x. same x.0 id ≡ true → x.1.name ≡ name) t (λ x h q. same_name x.1.name name (sym h ∙ q)) k

pub becomes_made : (id : NodeId) (change : Label → Label) (a b : Label) (t : NodeTrees) → a ≡ b → Becomes id change a t → Becomes id change b t
becomes_made id change a b t e k = subst (λ l. Becomes id change l t) e k

pub made_label : (v : Node) (name : List ℕ) (kind : NodeKind) (declared : DeclaredMap) → v.name ≡ name → v.kind ≡ kind → v.declared ≡ declared → ◌≡◌ {A = Label} (record { name = name; kind = kind_of kind; style = declared }) (label_of v)
made_label v name kind declared n k d = λ i. record { name = sym n i; kind = kind_of (sym k i); style = sym d i }

-- a change of the label of the one node that the number has
pub becomes_from : (id : NodeId) (v : Node) (name : List ℕ) (change : Label → Label) (label : Label) (t : NodeTrees) → Declares id v t → HasName id name t → (v.name ≡ name → change (label_of v) ≡ label) → Becomes id change label t
becomes_from id v name change label leafless d h f = tt
becomes_from id v name change label (tree x below after) d h f = (
  λ q. ap (λ (y : Node). change (label_of y)) (d.0 q) ∙ f (sym (ap (λ (y : Node). y.name) (d.0 q)) ∙ h.0 q),
  (becomes_from id v name change label below d.1.0 h.1.0 f, becomes_from id v name change label after d.1.1 h.1.1 f),
)

pub label_by : (v : Node) (name : List ℕ) (kind : NodeKind) (declared style : DeclaredMap) → kind ≡ v.kind → declared ≡ style → v.name ≡ name → ◌≡◌ {A = Label} (record { name = v.name; kind = kind_of v.kind; style = style }) (record { name = name; kind = kind_of kind; style = declared })
label_by v name kind declared style k d n = λ i. record { name = n i; kind = kind_of (sym k i); style = sym d i }

pub content_by : (v : Node) (name : List ℕ) (kind : NodeKind) (plain : Kind) (declared : DeclaredMap) → kind_of kind ≡ plain → declared ≡ v.declared → v.name ≡ name →
    ◌≡◌ {A = Label} (record { name = v.name; kind = plain; style = v.declared }) (record { name = name; kind = kind_of kind; style = declared })
content_by v name kind plain declared k d n = λ i. record { name = n i; kind = sym k i; style = sym d i }
