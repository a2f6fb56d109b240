-- An edit of a generated document is never refused, and leaves all nodes where they are.
use Rattle.std.proofs.Common.{◌≡◌, refl, sym, ap, subst, ◌∙◌, ℕ, ℤ, pos, zero, suc, ◌+◌, ◌<◌, ◌≤◌, inl, inr, Bool, true, false, [], ◌∷◌, Option, Some, None, Result, Ok, Err, if◌then◌else◌, cond, arith}
use Rattle.std.specs.Prelude.{nat_lt, not}
use Rattle.std.specs.Str.{bytes_eq}
use Rattle.std.proofs.lemmas.Bool.{true≢false}
use Rattle.text_scan.specs.declared.line.Fault.{Fault}
use Rattle.plain_tree.specs.Trees.{Trees, leafless, tree, joined, count_of}
use Rattle.style_types.specs.declared.declared.DeclaredValue.{DeclaredValue}
use Rattle.style_types.specs.declared.prop.Prop.{Prop}
use Rattle.style_types.specs.declared.prop.Prop.TheVariants as prop
use Rattle.style_types.specs.declared.value.Value.TheVariants as value
use Rattle.part_rules.specs.declared.content.Content.TheVariants as content
use Rattle.value_text.specs.ValueText.{Settings}
use Rattle.doc_text.specs.declared.document.Doc.{Doc}
use Rattle.doc_text.specs.declared.edit.Edit.{Edit}
use Rattle.doc_text.specs.declared.edit.Edit.TheVariants as edit
use Rattle.doc_text.specs.declared.edit.Named.{Named}
use Rattle.doc_text.specs.declared.kind.Kind.{Kind}
use Rattle.doc_text.specs.declared.kind.Kind.TheVariants as kind
use Rattle.doc_text.specs.Label.{Label}
use Rattle.doc_text.specs.Texts.{Word}
use Rattle.doc_text.specs.Growth.{holds}
use Rattle.doc_text.specs.Named.{relabelled, tree_at, below_of}
use Rattle.doc_text.specs.Valid.{IsDeclared}
use Rattle.doc_text.specs.Edits.{tree_of, where_, child_count, first_refusal, refusals, with_set, with_kind, with_root, applied, edited}
use Rattle.doc_text.proofs.Shapes.{relabel_holds}
use Rattle.page_maker.specs.Draws.{stepped, drawn}
use Rattle.page_maker.specs.Choices.{is_container}
use Rattle.page_maker.specs.Nodes.{px, name_of, setting}
use Rattle.page_maker.specs.Scripts.{named, order_edit, content_edit, content_with, edit_of_node, edit_from}
use Rattle.page_maker.specs.Standing.{IsBare, IsMade, StaysMade, IsToldChange}
use Rattle.page_maker.proofs.Chosen.{drawn_less}
use Rattle.page_maker.proofs.Told.{px_told, order_told}

-- ---- what an edit of a node's own values leaves

module _ (name : Word) (u : Label → Label) (same : (x : Label) → (u x).name ≡ x.name) where
  relabel_bare : (word : Word) (t : Trees Label) → IsBare word t → IsBare word (relabelled name u t)
  relabel_bare word leafless b = tt
  relabel_bare word (tree x below after) b = by_name (bytes_eq x.name name) (relabel_bare word below b.1.0) (relabel_bare word after b.1.1)
    where
      stays : bytes_eq x.name word ≡ true → relabelled name u below ≡ leafless
      stays e = ap (relabelled name u) (b.0 e)

      by_name : (e : Bool) → IsBare word (relabelled name u below) → IsBare word (relabelled name u after) → IsBare word (cond e (tree (u x) below after) (tree x (relabelled name u below) (relabelled name u after)))
      by_name true p q = ((λ e. b.0 (ap (λ (w : Word). bytes_eq w word) (sym (same x)) ∙ e)), b.1)
      by_name false p q = (stays, (p, q))

  -- the root stays
  relabel_tree : (doc : Doc) (size : ℤ × ℤ) → tree_of (with_root doc size (relabelled name u (tree_of doc))) ≡ relabelled name u (tree_of doc)
  relabel_tree doc size = by_name (bytes_eq doc.root.name name)
    where
      by_name : (e : Bool) →
          tree_of
          (with_root doc size
          (cond e (tree (u (record { name = doc.root.name; kind = doc.root.kind; style = doc.root.style })) doc.root.children leafless) (tree (record { name = doc.root.name; kind = doc.root.kind; style = doc.root.style }) (relabelled name u doc.root.children) leafless)))
          ≡ cond e (tree (u (record { name = doc.root.name; kind = doc.root.kind; style = doc.root.style })) doc.root.children leafless) (tree (record { name = doc.root.name; kind = doc.root.kind; style = doc.root.style }) (relabelled name u doc.root.children) leafless)
      by_name true = refl
      by_name false = refl

  root_version : (doc : Doc) (size : ℤ × ℤ) (t : Trees Label) → (with_root doc size t).version ≡ doc.version
  root_version doc size leafless = refl
  root_version doc size (tree x below after) = refl

  relabel_made : (nodes : ℕ) (doc : Doc) (size : ℤ × ℤ) → IsMade nodes doc → IsMade nodes (with_root doc size (relabelled name u (tree_of doc)))
  relabel_made nodes doc size m = record {
    version = root_version doc size (relabelled name u (tree_of doc)) ∙ m.version;
    there = λ i h. ap (λ (t : Trees Label). holds t (name_of i)) (relabel_tree doc size) ∙ relabel_holds name u same (tree_of doc) (name_of i) ∙ m.there i h;
    bare = λ i h c. subst (IsBare (name_of i)) (sym (relabel_tree doc size)) (relabel_bare (name_of i) (tree_of doc) (m.bare i h c));
  }

-- ---- no edit is refused

-- nothing stands below the node
below_bare : (word : Word) (t : Trees Label) → IsBare word t → below_of (tree_at word t) ≡ leafless
below_bare word leafless b = refl
below_bare word (tree x below after) b = by_name (bytes_eq x.name word) refl (below_bare word below b.1.0) (below_bare word after b.1.1)
  where
    first_below : (s r : Trees Label) → below_of s ≡ leafless → below_of r ≡ leafless → below_of (joined s r) ≡ leafless
    first_below leafless r p q = q
    first_below (tree y d a) r p q = p

    by_name : (e : Bool) → bytes_eq x.name word ≡ e → below_of (tree_at word below) ≡ leafless → below_of (tree_at word after) ≡ leafless → below_of (cond e (tree x below leafless) (joined (tree_at word below) (tree_at word after))) ≡ leafless
    by_name true e p q = b.0 e
    by_name false e p q = first_below (tree_at word below) (tree_at word after) p q

accepted : (e : Edit) (doc : Doc) → first_refusal (refusals doc e) ≡ None → edited e doc ≡ Ok (applied e doc)
accepted e doc h = by_refusal (first_refusal (refusals doc e)) h
  where
    by_refusal : (o : Option Fault) → o ≡ None → ◌≡◌ {A = Result Doc Fault} (elim o [ Some fault ↦ Err fault | None ↦ Ok (applied e doc) ]) (Ok (applied e doc))
    by_refusal None h = refl
    by_refusal (Some fault) h = absurd (true≢false (ap is_some h))
      where
        is_some : Option Fault → Bool
        is_some None = false
        is_some (Some fault) = true

set_accepted : (doc : Doc) (to : Named) (settings : Settings) → holds (tree_of doc) to.name ≡ true → first_refusal (refusals doc (edit.Set to settings)) ≡ None
set_accepted doc to settings h = by_name (holds (tree_of doc) to.name) h
  where
    by_name : (b : Bool) → b ≡ true → first_refusal ((21, where_ (not b) to.at) ∷ (22, None) ∷ (23, None) ∷ (24, None) ∷ (6, None) ∷ (12, None) ∷ (13, None) ∷ (14, None) ∷ []) ≡ None
    by_name true h = refl
    by_name false h = absurd (true≢false (sym h))

content_accepted : (doc : Doc) (to : Named) (made : Kind) → holds (tree_of doc) to.name ≡ true → child_count to.name (tree_of doc) ≡ 0 → first_refusal (refusals doc (edit.Content to made)) ≡ None
content_accepted doc to made h k = by_name (holds (tree_of doc) to.name) (child_count to.name (tree_of doc)) h k
  where
    by_name : (b : Bool) (count : ℕ) → b ≡ true → count ≡ 0 → first_refusal ((21, where_ (not b) to.at) ∷ (22, None) ∷ (23, None) ∷ (24, None) ∷ (6, None) ∷ (12, None) ∷ (13, None) ∷ (14, where_ (nat_lt 0 count) to.at) ∷ []) ≡ None
    by_name true zero h k = refl
    by_name true (suc count) h k = absurd (omega (arith, k))
    by_name false count h k = absurd (true≢false (sym h))

-- ---- the edits that are drawn

abbrev order_settings : ℕ → Settings
order_settings o = setting prop.Order (value.Order (pos o)) [] ∷ []

order_stays : (nodes j o : ℕ) (doc : Doc) → IsMade nodes doc → j < nodes → StaysMade nodes (order_edit j o) doc
order_stays nodes j o doc m h = record {
  accepts = accepted (order_edit j o) doc (set_accepted doc (named j) (order_settings o) (m.there j h));
  made = relabel_made (name_of j) (with_set (order_settings o)) (λ x. refl) nodes doc (doc.width, doc.height) m;
}

abbrev leaf_of : ℕ → ℕ → Kind
leaf_of w h = kind.Leaf (content.Fixed (px w) (px h))

content_stays : (nodes j w h : ℕ) (doc : Doc) → IsMade nodes doc → j < nodes → is_container nodes j ≡ false → StaysMade nodes (content_edit j w h) doc
content_stays nodes j w h doc m l c = record {
  accepts = accepted (content_edit j w h) doc (content_accepted doc (named j) (leaf_of w h) (m.there j l) (ap count_of (below_bare (name_of j) (tree_of doc) (m.bare j l c))));
  made = relabel_made (name_of j) (with_kind (leaf_of w h)) (λ x. refl) nodes doc (doc.width, doc.height) m;
}

node_stays : (nodes j x : ℕ) (doc : Doc) → IsMade nodes doc → j < nodes → StaysMade nodes (edit_of_node nodes j x).0 doc
unfolding edit_of_node
node_stays nodes j x doc m h = by_kind (is_container nodes j) refl
  where
    by_kind : (b : Bool) → is_container nodes j ≡ b → StaysMade nodes (if b then (order_edit j (drawn 5 (stepped x)), stepped x) else content_with j (stepped x) (stepped (stepped x))).0 doc
    by_kind true e = order_stays nodes j (drawn 5 (stepped x)) doc m h
    by_kind false e = content_stays nodes j _ _ doc m h e

pub edit_stays : (nodes x : ℕ) (doc : Doc) → 0 < nodes → IsMade nodes doc → StaysMade nodes (edit_from nodes x).0 doc
unfolding edit_from
edit_stays nodes x doc some m = node_stays nodes (drawn nodes (stepped x)) (stepped x) doc m (drawn_less nodes (stepped x) some)

-- ---- their values

order_change : (j o : ℕ) → o < 5 → IsToldChange (order_edit j o)
order_change j o h setting (inl e) = subst (λ (s : Prop × DeclaredValue). IsDeclared 1 s.0 s.1) e (order_told o h)
order_change j o h setting (inr a) = absurd a

content_change : (j w h : ℕ) → w ≤ 50 → h ≤ 50 → IsToldChange (content_edit j w h)
content_change j w h p q = (px_told w p, px_told h q)

node_change : (nodes j x : ℕ) → IsToldChange (edit_of_node nodes j x).0
unfolding edit_of_node
node_change nodes j x = by_kind (is_container nodes j)
  where
    by_kind : (b : Bool) → IsToldChange (if b then (order_edit j (drawn 5 (stepped x)), stepped x) else content_with j (stepped x) (stepped (stepped x))).0
    by_kind true = order_change j (drawn 5 (stepped x)) (drawn_less 5 (stepped x) (omega arith))
    by_kind false =
        let w : drawn 50 (stepped x) < 50 = drawn_less 50 (stepped x) (omega arith) in
        let h : drawn 30 (stepped (stepped x)) < 30 = drawn_less 30 (stepped (stepped x)) (omega arith) in
        content_change j (1 + drawn 50 (stepped x)) (1 + drawn 30 (stepped (stepped x))) (omega (arith, w)) (omega (arith, h))

pub edit_told : (nodes x : ℕ) → IsToldChange (edit_from nodes x).0
unfolding edit_from
edit_told nodes x = node_change nodes (drawn nodes (stepped x)) (stepped x)
