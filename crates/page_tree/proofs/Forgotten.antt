-- What is forgotten of the boxes that were found last.
use Rattle.std.proofs.Common.{◌≡◌, ℕ, suc, ◌+◌, ◌<◌, ◌≤◌, false, List, Option, Some, None, drop, take, drop-cons, get_or, length, add-one, refl, sym, ap, ◌∙◌}
use Rattle.std.specs.Prelude.{◌||◌}
use Rattle.std.specs.Str.{bytes_eq}
use Rattle.std.proofs.lemmas.List.{drop_all, take_all, take_more}
use Rattle.plain_tree.specs.Trees.{leafless, tree}
use Rattle.doc_text.specs.declared.document.Plain.{Plain}
use Rattle.doc_text.specs.Growth.{holds}
use Rattle.doc_text.specs.Label.{Label}
use Rattle.doc_text.specs.Texts.{Word}
use Rattle.doc_text.specs.View.{label_of, trees_of}
use Rattle.doc_text.proofs.Grown.{or_join, or_split, same_either_way}
use Rattle.doc_text.proofs.Nodes.{trees_of-push}
use Rattle.doc_text.proofs.Opening.{holds-joined}
use Rattle.edit_journal.specs.Changes.{tree_of_node}
use Rattle.node_arena.specs.declared.number.NodeId.{NodeId}
use Rattle.node_arena.specs.Numbers.{is_among, same, value_at}
use Rattle.node_arena.proofs.Same.{not_same, same_not}
use Rattle.placing.specs.declared.node.Node.{Node}
use Rattle.placing.specs.Nodes.{NodeTrees}
use Rattle.page_tree.specs.Forgotten.{has_name, has_name_in}
use Rattle.page_tree.specs.Registers.{Finds}
use Rattle.page_tree.proofs.Marking.{no_name}
use Rattle.page_tree.proofs.Reaching.{each_at}

-- a number that is not the next one is among the rest or not at all
pub next_not : (n d : NodeId) (list : List NodeId) (i : ℕ) → i < length list → same n (get_or list i d) ≡ false → is_among n (drop i list) ≡ is_among n (drop (i + 1) list)
next_not n d list i h e =
    rw add-one
    (ap (is_among n) (drop-cons list i d h) ∙ ap (λ b. b || is_among n (drop (suc i) list)) (same_not (get_or list i d) n (λ q. not_same n (get_or list i d) e (sym q))))

pub none_after : (n : NodeId) (list : List NodeId) (i : ℕ) → length list ≤ i → is_among n (drop i list) ≡ false
none_after n list i h = ap (is_among n) (drop_all i list h)

-- a number that is not the one of a name has no node of it
pub other_name : (t : NodeTrees) (name : Word) (id n : NodeId) → Finds t name (Some id) → same n id ≡ false → has_name name (value_at t n) ≡ false
other_name t name id n f e = at (value_at t n) refl
  where
    at : (o : Option Node) → value_at t n ≡ o → has_name name o ≡ false
    at None h = refl
    at (Some v) h = sym (each_at (λ x. same x.0 id ≡ bytes_eq x.1.name name) t n v f.tells h) ∙ e

pub without_name : (t : NodeTrees) (name : Word) (n : NodeId) → Finds t name None → has_name name (value_at t n) ≡ false
without_name t name n f = at (value_at t n) refl
  where
    at : (o : Option Node) → value_at t n ≡ o → has_name name o ≡ false
    at None h = refl
    at (Some v) h = each_at (λ x. bytes_eq x.1.name name ≡ false) t n v (no_name t name (sym f.there)) h

-- ---- the nodes that a change brought
pub first_forgotten : (node : Plain) (o : Option Node) → has_name node.name o ≡ false → has_name_in (tree (label_of node) leafless leafless) o ≡ false
first_forgotten node None e = refl
first_forgotten node (Some v) e = or_join (bytes_eq node.name v.name) false false (same_either_way node.name v.name ∙ e) refl refl

pub next_forgotten : (label : Label) (nodes : List Plain) (i : ℕ) (d : Plain) (o : Option Node) → i < length nodes → has_name_in (tree label (trees_of (take i nodes)) leafless) o ≡ false → has_name_in (tree_of_node (get_or nodes i d)) o ≡ false →
    has_name_in (tree label (trees_of (take (i + 1) nodes)) leafless) o ≡ false
next_forgotten label nodes i d None l e f = refl
next_forgotten label nodes i d (Some v) l e f =
    let p = or_split (bytes_eq label.name v.name) (holds (trees_of (take i nodes)) v.name) false e in
    or_join (bytes_eq label.name v.name) (holds (trees_of (take (i + 1) nodes)) v.name) false p.0
    (ap (λ ns. holds (trees_of ns) v.name) (take_more nodes i d l) ∙ ap (λ s. holds s v.name) (trees_of-push (take i nodes) (get_or nodes i d)) ∙ holds-joined (trees_of (take i nodes)) (tree_of_node (get_or nodes i d)) v.name ∙ (λ j. p.1.0 j || f j)) refl

pub all_forgotten : (label : Label) (nodes : List Plain) (i : ℕ) (o : Option Node) → length nodes ≤ i → has_name_in (tree label (trees_of (take i nodes)) leafless) o ≡ false → has_name_in (tree label (trees_of nodes) leafless) o ≡ false
all_forgotten label nodes i o l e = ap (λ ns. has_name_in (tree label (trees_of ns) leafless) o) (sym (take_all i nodes l)) ∙ e
