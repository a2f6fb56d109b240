-- The refusals of an edit, one after another.
use Rattle.std.proofs.Common.{◌≡◌, ℕ, ◌+◌, ℤ, Bool, true, false, not, ◌||◌, List, [], ◌∷◌, length, Option, None, Some, Result, Ok, Err, refl, sym, ap, ◌∙◌, arith, add-one}
use Rattle.std.specs.Prelude.{nat_le, nat_lt}
use Rattle.std.proofs.Math.Dec.{leb-suc-suc}
use Rattle.text_scan.specs.declared.line.Fault.{Fault}
use Rattle.text_scan.specs.declared.line.Place.{Place}
use Rattle.style_types.specs.declared.prop.Prop.{Prop}
use Rattle.value_text.specs.ValueText.{Settings}
use Rattle.plain_tree.specs.Trees.{Trees, leafless, tree, count_of, size_of}
use Rattle.placing.specs.Nodes.{NodeTrees}
use Rattle.doc_text.specs.declared.document.Plain.{Plain}
use Rattle.doc_text.specs.declared.edit.Edit.TheVariants as edit
use Rattle.doc_text.specs.declared.edit.Named.{Named}
use Rattle.doc_text.specs.Documents.{node_limit}
use Rattle.doc_text.specs.declared.document.Doc.{Doc}
use Rattle.doc_text.specs.declared.edit.Edit.{Edit}
use Rattle.doc_text.specs.declared.kind.Kind.{Kind}
use Rattle.doc_text.specs.Edits.{applied, child_count, edited, first_refusal, is_leaf_top, passes_children, passes_levels, refusals, tree_of, with_root}
use Rattle.doc_text.specs.Growth.{holds}
use Rattle.doc_text.specs.Label.{Label}
use Rattle.doc_text.specs.Named.{tree_at}
use Rattle.track_text.specs.Gives.{fault_at}
use Rattle.std.specs.Str.{bytes_eq}
use Rattle.node_arena.specs.declared.number.NodeId.{NodeId}
use Rattle.node_arena.specs.Numbers.{same, top_numbers}
use Rattle.page_tree.specs.Registers.{Finds, Tells}
use Rattle.page_tree.specs.Rows.{or_later}
use Rattle.page_tree.specs.Documents.{plain_trees}
use Rattle.page_tree.specs.Pages.{Held, document_of, plain_root, trees_in}

-- at least so many is more than one less
pub at_least : (a b : ℕ) → nat_le a b ≡ nat_lt a (b + 1)
at_least a b = rw add-one (sym (leb-suc-suc a b))

-- the tree of the document that a page with one root stands for
pub whole : (h : Held) → count_of h.nodes.tree ≡ 1 → tree_of (document_of h) ≡ trees_in h
whole h e = at h.nodes.tree e
  where
    at : (t : NodeTrees) → count_of t ≡ 1 → tree_of (document_of (record h { nodes = record h.nodes { tree = t } })) ≡ plain_trees t
    at leafless e = absurd (omega (arith, e))
    at (tree x below leafless) e = refl
    at (tree x below (tree y c d)) e = absurd (omega (arith, e))

abbrev insert_rows : ℕ → Trees Label → Named → ℕ → Place → Named → Option Fault
insert_rows version t parent index at named =
    or_later (not (holds t parent.name)) 21 parent.at (or_later (nat_lt (child_count parent.name t) index) 24 at (or_later (holds t named.name) 6 named.at (or_later (passes_levels t parent 1) 12 named.at
    (or_later (nat_lt (node_limit version) (size_of t + 1) || passes_children version t parent) 13 named.at (or_later (is_leaf_top (tree_at parent.name t)) 14 parent.at None)))))

pub insert_told : (h : Held) → count_of h.nodes.tree ≡ 1 → (parent : Named) (index : ℕ) (at : Place) (named : Named) (node : Plain) (a b c d e f : Bool) →
    a ≡ not (holds (trees_in h) parent.name) → b ≡ nat_lt (child_count parent.name (trees_in h)) index → c ≡ holds (trees_in h) named.name → d ≡ passes_levels (trees_in h) parent 1 →
    e ≡ (nat_lt (node_limit h.version) (size_of (trees_in h) + 1) || passes_children h.version (trees_in h) parent) → f ≡ is_leaf_top (tree_at parent.name (trees_in h)) →
    or_later a 21 parent.at (or_later b 24 at (or_later c 6 named.at (or_later d 12 named.at (or_later e 13 named.at (or_later f 14 parent.at None))))) ≡ first_refusal (refusals (document_of h) (edit.Insert parent index at named node))
insert_told h one parent index at named node a b c d e f p q r s t u =
    (λ i. or_later (p i) 21 parent.at (or_later (q i) 24 at (or_later (r i) 6 named.at (or_later (s i) 12 named.at (or_later (t i) 13 named.at (or_later (u i) 14 parent.at None))))))
    ∙ ap (λ z. insert_rows h.version z parent index at named) (sym (whole h one))

-- ---- a document of one root
pub with_root_is : (doc : Doc) (size : ℤ × ℤ) (t : NodeTrees) → count_of t ≡ 1 → with_root doc size (plain_trees t) ≡ record { version = doc.version; width = size.0; height = size.1; root = plain_root (plain_trees t) }
with_root_is doc size leafless e = absurd (omega (arith, e))
with_root_is doc size (tree x below after) e = refl

abbrev answer : Edit → Doc → Option Fault → Result Doc Fault
answer e doc o = elim o [ Some fault ↦ Err fault | None ↦ Ok (applied e doc) ]

pub not_refused : (e : Edit) (doc made : Doc) → first_refusal (refusals doc e) ≡ None → applied e doc ≡ made → edited e doc ≡ Ok made
not_refused e doc made none is = ap (answer e doc) none ∙ ap Ok is

pub refused : (e : Edit) (doc : Doc) (fault : Fault) → first_refusal (refusals doc e) ≡ Some fault → edited e doc ≡ Err fault
refused e doc fault some = ap (answer e doc) some

-- ---- a name that must name a node
pub unknown : (h : Held) → count_of h.nodes.tree ≡ 1 → (named : Named) (later : Option Fault) → false ≡ holds (trees_in h) named.name → or_later (not (holds (tree_of (document_of h)) named.name)) 21 named.at later ≡ Some (fault_at 21 named.at)
unknown h one named later e = ap (λ b. or_later (not b) 21 named.at later) (ap (λ u. holds u named.name) (whole h one) ∙ sym e)

pub set_told : (h : Held) → count_of h.nodes.tree ≡ 1 → (named : Named) (settings : Settings) (o : Option Fault) → o ≡ or_later (not (holds (trees_in h) named.name)) 21 named.at None → o ≡ first_refusal (refusals (document_of h) (edit.Set named settings))
set_told h one named settings o e = e ∙ ap (λ t. or_later (not (holds t named.name)) 21 named.at None) (sym (whole h one))

pub unset_told : (h : Held) → count_of h.nodes.tree ≡ 1 → (named : Named) (props : List Prop) (o : Option Fault) → o ≡ or_later (not (holds (trees_in h) named.name)) 21 named.at None → o ≡ first_refusal (refusals (document_of h) (edit.Unset named props))
unset_told h one named props o e = e ∙ ap (λ t. or_later (not (holds t named.name)) 21 named.at None) (sym (whole h one))

pub known : (h : Held) → count_of h.nodes.tree ≡ 1 → (named : Named) (later : Option Fault) → true ≡ holds (trees_in h) named.name → or_later (not (holds (tree_of (document_of h)) named.name)) 21 named.at later ≡ later
known h one named later e = ap (λ b. or_later (not b) 21 named.at later) (ap (λ u. holds u named.name) (whole h one) ∙ sym e)

abbrev content_rows : Trees Label → Named → Option Fault
content_rows t named = or_later (not (holds t named.name)) 21 named.at (or_later (nat_lt 0 (child_count named.name t)) 14 named.at None)

pub content_told : (h : Held) → count_of h.nodes.tree ≡ 1 → (named : Named) (kind : Kind) (a b : Bool) → a ≡ not (holds (trees_in h) named.name) → b ≡ nat_lt 0 (child_count named.name (trees_in h)) →
    or_later a 21 named.at (or_later b 14 named.at None) ≡ first_refusal (refusals (document_of h) (edit.Content named kind))
content_told h one named kind a b p q = (λ i. or_later (p i) 21 named.at (or_later (q i) 14 named.at None)) ∙ ap (λ t. content_rows t named) (sym (whole h one))

-- ---- the root
pub root_named : (h : Held) (root id : NodeId) (name : List ℕ) → top_numbers h.nodes.tree ≡ root ∷ [] → Tells id name h.nodes.tree → bytes_eq (document_of h).root.name name ≡ same root id
root_named h root id name w k = at h.nodes.tree w k
  where
    at : (t : NodeTrees) → top_numbers t ≡ root ∷ [] → Tells id name t → bytes_eq (document_of (record h { nodes = record h.nodes { tree = t } })).root.name name ≡ same root id
    at leafless w k = absurd (omega (arith, ap length w))
    at (tree x below after) w k = let first : x.0 ≡ root = cc in sym k.0 ∙ ap (λ n. same n id) first

pub root_removed : (h : Held) → count_of h.nodes.tree ≡ 1 → (named : Named) (root id : NodeId) (b : Bool) → Finds h.nodes.tree named.name (Some id) → top_numbers h.nodes.tree ≡ root ∷ [] → same root id ≡ b →
    first_refusal (refusals (document_of h) (edit.Remove named)) ≡ or_later b 22 named.at None
root_removed h one named root id b f w e =
    known h one named (or_later (bytes_eq (document_of h).root.name named.name) 22 named.at None) f.there ∙ ap (λ c. or_later c 22 named.at None) (root_named h root id named.name w f.tells ∙ e)
