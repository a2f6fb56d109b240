-- A page that is changed stands for the changed document.
use Rattle.std.proofs.Common.{◌≡◌, ◌≤◌, ℕ, Bool, true, false, refl, sym, ap, subst, ◌∙◌, arith}
use Rattle.std.specs.Prelude.{Err, None, Ok, OnErr, OnOk, Result, Some, ◌||◌}
use Rattle.std.specs.Str.{bytes_eq}
use Rattle.plain_tree.specs.Trees.{leafless, tree, count_of}
use Rattle.node_arena.specs.declared.number.NodeId.{NodeId}
use Rattle.node_arena.specs.Edits.{moved}
use Rattle.node_arena.specs.Faults.{is_top}
use Rattle.node_arena.specs.Numbers.{is_among, replaced, same, way_up}
use Rattle.doc_text.specs.declared.edit.Edit.{Edit}
use Rattle.doc_text.specs.declared.edit.Edit.TheVariants as edit
use Rattle.doc_text.specs.Edits.{edited, tree_of, with_kind, with_root}
use Rattle.doc_text.specs.Growth.{holds}
use Rattle.doc_text.specs.Label.{Label}
use Rattle.doc_text.specs.Named as doc
use Rattle.doc_text.specs.Texts.{Word}
use Rattle.std.proofs.lemmas.Bool.{or_left, or_right}
use Rattle.doc_text.specs.declared.document.Plain.{Plain}
use Rattle.doc_text.proofs.Grown.{not_both, own_name}
use Rattle.page_tree.specs.Filled.{AreNew}
use Rattle.page_tree.specs.Fits.{AreNamedAnew}
use Rattle.edit_journal.specs.declared.change.Change.{Change}
use Rattle.edit_journal.specs.declared.change.Change.TheVariants as change
use Rattle.edit_journal.specs.Changes.{CanShift, IsBelowRoot, IsThere, tree_of_node, turned, turned_size, turned_trees, with_style}
use Rattle.edit_journal.specs.Steps.{forward_of}
use Rattle.placing.specs.Nodes.{NodeTrees}
use Rattle.page_tree.specs.Answered.{Applies, BringsAtMostOne, HasSize, IsTurnedAround, IsUndone, Judges}
use Rattle.page_tree.specs.declared.error.EditError.{EditError}
use Rattle.page_tree.specs.declared.error.EditError.TheVariants as fault
use Rattle.page_tree.specs.Documents.{plain_trees}
use Rattle.page_tree.specs.Moves.{AreApart}
use Rattle.page_tree.specs.Pages.{Held, IsAround, document_of, plain_root, trees_in}
use Rattle.page_tree.specs.Registers.{Finds}
use Rattle.page_tree.specs.Shapes.{IsChanged, Relabels}
use Rattle.page_tree.proofs.Changes.{plain_grafted, plain_removed, plain_replaced}
use Rattle.page_tree.proofs.Moves.{cycle_is, plain_moved}
use Rattle.page_tree.proofs.Refusals.{whole, with_root_is}
use Rattle.page_tree.proofs.Restyled.{restyled_plain}

-- ---- the trees
plain_relabelled : (name : Word) (f : Label → Label) (t u : NodeTrees) → Relabels name f t u → plain_trees u ≡ doc.relabelled name f (plain_trees t)
plain_relabelled name f t u h =
    ap plain_trees h.is ∙ restyled_plain h.styles (replaced h.id h.value t) ∙ plain_replaced h.id name h.value f t h.label (omega (arith, h.found.once)) h.found.tells

pub plain_changed : (e : Change) (t u : NodeTrees) → IsChanged e t u → plain_trees u ≡ turned_trees e (plain_trees t)
plain_changed (change.Style name values) t u h = plain_relabelled name (with_style values) t u h
plain_changed (change.Take name) t u h = ap plain_trees h.is ∙ plain_removed h.id name t h.found.tells
plain_changed (change.Bring parent index node) t u h = ap plain_trees h.is ∙ plain_grafted h.upper parent index h.new t h.found.tells ∙ ap (λ s. doc.grafted parent index s (plain_trees t)) h.plain
plain_changed (change.Shift name parent index) t u h = ap plain_trees h.is ∙ restyled_plain h.styles (moved h.id h.to index t) ∙ plain_moved t name parent h.id h.to h.apart index
plain_changed (change.Kind name kind) t u h = plain_relabelled name (with_kind kind) t u h
plain_changed (change.View width height) t u h = ap plain_trees h

-- ---- the document
sized : (e : Change) (old new : Held) → IsTurnedAround e old new → HasSize (turned_size e (old.width, old.height)).0 (turned_size e (old.width, old.height)).1 old new
sized (change.Style name values) old new a = record { version = a.version; width = a.width; height = a.height }
sized (change.Take name) old new a = record { version = a.version; width = a.width; height = a.height }
sized (change.Bring parent index node) old new a = record { version = a.version; width = a.width; height = a.height }
sized (change.Shift name parent index) old new a = record { version = a.version; width = a.width; height = a.height }
sized (change.Kind name kind) old new a = record { version = a.version; width = a.width; height = a.height }
sized (change.View width height) old new a = a

pub turned_is : (e : Change) (old new : Held) → count_of old.nodes.tree ≡ 1 → count_of new.nodes.tree ≡ 1 → IsChanged e old.nodes.tree new.nodes.tree → IsTurnedAround e old new → document_of new ≡ turned e (document_of old)
turned_is e old new one still h a =
    let size = sized e old new a in
    sym
    ((λ i. with_root (document_of old) (turned_size e (old.width, old.height)) ((ap (turned_trees e) (whole old one) ∙ sym (plain_changed e old.nodes.tree new.nodes.tree h)) i))
    ∙ with_root_is (document_of old) (turned_size e (old.width, old.height)) new.nodes.tree still
    ∙ (λ i. record { version = sym size.version i; width = sym size.width i; height = sym size.height i; root = plain_root (trees_in new) }))

-- ---- what a change finds
-- a node that is not the root
pub low_of : (h : Held) (id : NodeId) (name : Word) → count_of h.nodes.tree ≡ 1 → Finds h.nodes.tree name (Some id) → bytes_eq (document_of h).root.name name ≡ false → is_top h.nodes.tree id ≡ false
low_of h id name one f e = at h.nodes.tree one f e
  where
    at : (t : NodeTrees) → count_of t ≡ 1 → Finds t name (Some id) → bytes_eq (plain_root (plain_trees t)).name name ≡ false → is_top t id ≡ false
    at leafless one f e = absurd (omega (arith, one))
    at (tree x below leafless) one f e = ap (λ b. b || false) (f.tells.0 ∙ e)
    at (tree x below (tree y c d)) one f e = absurd (omega (arith, one))

-- two nodes, of which the first is not the root and does not stand above the second
pub apart_of : (h : Held) (id to : NodeId) (name parent : Word) (index : ℕ) → count_of h.nodes.tree ≡ 1 → Finds h.nodes.tree name (Some id) → Finds h.nodes.tree parent (Some to) → CanShift name parent index (document_of h) →
    AreApart h.nodes.tree name parent id to
apart_of h id to name parent index one f g can =
    record { found = f; onto = g; low = low_of h id name one f can.node.no_root; apart = at (is_among id (way_up h.nodes.tree to)) refl }
  where
    at : (b : Bool) → is_among id (way_up h.nodes.tree to) ≡ b → is_among id (way_up h.nodes.tree to) ≡ false
    at false e = e
    at true e =
        absurd (not_both (holds (doc.tree_at name (trees_in h)) parent) (cycle_is h.nodes.tree name parent id to true f g e) (ap (λ s. holds (doc.tree_at name s) parent) (sym (whole h one)) ∙ can.outside))

-- a node that is there is found
pub not_missing : (h : Held) (name : Word) → count_of h.nodes.tree ≡ 1 → IsThere name (document_of h) → Finds h.nodes.tree name None → ⊥
not_missing h name one there f = not_both (holds (trees_in h) name) (ap (λ t. holds t name) (sym (whole h one)) ∙ there) (sym f.there)

-- what is said of a tree that is brought: its root is new, and so are those below it
pub record AreAnew (h : Held) (node : Plain) : Type 0 where
  pub own : holds (trees_in h) node.name ≡ false
  pub apart : holds node.children node.name ≡ false
  pub distinct : doc.IsDistinct node.children
  pub below : AreNew node.children (trees_in h)

pub anew : (h : Held) (node : Plain) → count_of h.nodes.tree ≡ 1 → AreNamedAnew (tree_of_node node) (tree_of (document_of h)) → AreAnew h node
anew h node one n =
    let new : AreNew (tree_of_node node) (trees_in h) = subst (AreNew (tree_of_node node)) (whole h one) n.new in
    record {
      own = new node.name (or_left _ _ (own_name node.name));
      apart = n.distinct.0;
      distinct = n.distinct.1.1.1.0;
      below = λ m e. new m (or_right (bytes_eq node.name m) _ (or_left _ _ e));
    }

-- ---- an answer that is told by another
pub on_ok : {A E P Q : Type 0} (r : Result A E) → (P → Q) → OnOk r P → OnOk r Q
on_ok (Ok x) f h = f h
on_ok (Err e) f h = h

-- ---- a change that wanted memory
pub undone_whole : (c : Change) (old new : Held) → new ≡ old → IsUndone c old new
undone_whole c old new e = record { before = record { document = ap document_of e; tree = ap (λ (h : Held). h.nodes.tree) e }; same = λ _. e }

-- trees that were brought are gone again
pub undone_brought : (parent : Word) (index : ℕ) (node : Plain) (old new : Held) → IsAround old new → new.nodes.tree ≡ old.nodes.tree → (node.children ≡ leafless → new ≡ old) → IsUndone (change.Bring parent index node) old new
undone_brought parent index node old new a t alone =
    record { before = record { document = λ i. record { version = a.version i; width = a.width i; height = a.height i; root = plain_root (plain_trees (t i)) }; tree = t }; same = alone }

pub undone_err : {A E : Type 0} (r : Result A E) (c : Change) (old new : Held) → OnErr r (new ≡ old) → OnErr r (IsUndone c old new)
undone_err (Ok x) c old new e = e
undone_err (Err error) c old new e = undone_whole c old new e

pub ruleset undoing = (undone_whole, undone_err)

-- an edit brings one node at most
pub edit_brings : (e : Edit) → BringsAtMostOne (forward_of e)
edit_brings (edit.Set named settings) = tt
edit_brings (edit.Unset named props) = tt
edit_brings (edit.Insert parent index at named node) = refl
edit_brings (edit.Remove named) = tt
edit_brings (edit.Move named parent index at) = tt
edit_brings (edit.Content named kind) = tt
edit_brings (edit.Viewport width height) = tt
edit_brings (edit.Undo times at) = tt
edit_brings (edit.Redo times at) = tt
edit_brings (edit.Hit x y) = tt

-- ---- an edit that is not made
pub judged_not : (error : EditError) (e : Edit) (h : Held) → Judges (Err error) e (document_of h) → Applies (Err error) (edited e (document_of h)) h h
judged_not (fault.Refused told) e h j = (j, refl)
judged_not fault.NoMemory e h j = refl

pub turned_not : (e : Edit) (c : Change) (old new : Held) → c ≡ forward_of e → IsUndone c old new → new ≡ old
turned_not e c old new is u = u.same (subst BringsAtMostOne (sym is) (edit_brings e))

pub ruleset applying = (judged_not, turned_not)
