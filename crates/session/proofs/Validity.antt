-- An edit whose values a text tells leaves a document valid.
use Rattle.std.proofs.Common.{◌≡◌, sym, subst, ◌∙◌, ℕ, ℤ, zero, suc, Bool, true, false, inl, inr, List, [], ◌∷◌, Option, Some, None, Result, Ok, Err, if◌then◌else◌, cond}
use Rattle.std.specs.Str.{bytes_eq}
use Rattle.std.specs.FinMap as map
use Rattle.std.specs.Ordering.{eq_by_cmp}
use Rattle.std.proofs.lemmas.Option.{none-some}
use Rattle.text_scan.specs.declared.line.Fault.{Fault}
use Rattle.style_types.specs.Order.{prop_cmp, prop_cmp_total}
use Rattle.style_types.specs.declared.prop.Prop.{Prop}
use Rattle.style_types.specs.declared.declared.DeclaredValue.{DeclaredValue}
use Rattle.value_text.specs.ValueText.{Settings}
use Rattle.plain_tree.specs.Trees.{Trees, leafless, tree, joined, EachLabel}
use Rattle.doc_text.specs.declared.document.Doc.{Doc}
use Rattle.doc_text.specs.declared.edit.Edit.{Edit}
use Rattle.doc_text.specs.declared.edit.Edit.TheVariants as edit
use Rattle.doc_text.specs.Label.{Label, DeclaredMap}
use Rattle.doc_text.specs.Laws.{NamesItsNode}
use Rattle.doc_text.specs.Texts.{Word}
use Rattle.doc_text.specs.Growth.{alone}
use Rattle.doc_text.specs.Named.{replaced, relabel, relabelled, graft, grafted, nothing, removed, put_at, tree_at}
use Rattle.doc_text.specs.Edits.{tree_of, first_refusal, refusals, without_props, with_set, with_unset, with_kind, edited_trees, size_after, with_root, applied, edited}
use Rattle.doc_text.specs.View.{label_of}
use Rattle.doc_text.specs.Valid.{IsShaped, IsTold, IsToldStyle, IsToldLabel, IsDeclared, IsValid}
use Rattle.doc_text.proofs.Kept.{edited_shaped}
use Rattle.doc_text.proofs.Told.{AllDeclared, settings_told, ok-not-err, same-ok}
use Rattle.session.specs.Engine.{AreDeclared, IsToldEdit}

-- ---- a fact of each label

module _ (P : Label → Type 0) where
  each_joined : (t u : Trees Label) → EachLabel P t → EachLabel P u → EachLabel P (joined t u)
  each_joined leafless u p q = q
  each_joined (tree x below after) u p q = (p.0, (p.1.0, each_joined after u p.1.1 q))

  each_replaced : (name : Word) (change : Label → Trees Label → Trees Label) → ((x : Label) (below : Trees Label) → P x → EachLabel P below → EachLabel P (change x below))
      → (t : Trees Label) → EachLabel P t → EachLabel P (replaced name change t)
  each_replaced name change h leafless p = tt
  each_replaced name change h (tree x below after) p = by_name (bytes_eq x.name name) (each_replaced name change h below p.1.0) (each_replaced name change h after p.1.1)
    where
      by_name : (b : Bool) → EachLabel P (replaced name change below) → EachLabel P (replaced name change after)
          → EachLabel P (if b then joined (change x below) after else tree x (replaced name change below) (replaced name change after))
      by_name true q r = each_joined (change x below) after (h x below p.0 p.1.0) p.1.1
      by_name false q r = (p.0, (q, r))

  each_put : (index : ℕ) (new t : Trees Label) → EachLabel P new → EachLabel P t → EachLabel P (put_at index new t)
  each_put index new leafless n p = n
  each_put zero new (tree x below after) n p = each_joined new (tree x below after) n p
  each_put (suc index) new (tree x below after) n p = (p.0, (p.1.0, each_put index new after n p.1.1))

  each_at : (name : Word) (t : Trees Label) → EachLabel P t → EachLabel P (tree_at name t)
  each_at name leafless p = tt
  each_at name (tree x below after) p = by_name (bytes_eq x.name name) (each_at name below p.1.0) (each_at name after p.1.1)
    where
      by_name : (b : Bool) → EachLabel P (tree_at name below) → EachLabel P (tree_at name after) → EachLabel P (if b then tree x below leafless else joined (tree_at name below) (tree_at name after))
      by_name true q r = (p.0, (p.1.0, tt))
      by_name false q r = each_joined (tree_at name below) (tree_at name after) q r

  each_relabelled : (name : Word) (change : Label → Label) → ((x : Label) → P x → P (change x)) → (t : Trees Label) → EachLabel P t → EachLabel P (relabelled name change t)
  each_relabelled name change h t p = each_replaced name (relabel change) (λ x below q r. (h x q, (r, tt))) t p

  each_grafted : (name : Word) (index : ℕ) (new t : Trees Label) → EachLabel P new → EachLabel P t → EachLabel P (grafted name index new t)
  each_grafted name index new t n p = each_replaced name (graft index new) (λ x below q r. (q, (each_put index new below n r, tt))) t p

  each_removed : (name : Word) (t : Trees Label) → EachLabel P t → EachLabel P (removed name t)
  each_removed name t p = each_replaced name nothing (λ x below q r. tt) t p

-- ---- declared values

all_among : (version : ℕ) (settings : Settings) → AreDeclared version settings → AllDeclared version settings
all_among version [] p setting a = absurd a
all_among version (first ∷ settings) p setting (inl e) = subst (λ (s : Prop × DeclaredValue). IsDeclared version s.0 s.1) e p.0
all_among version (first ∷ settings) p setting (inr a) = all_among version settings p.1 setting a

unset_told : (version : ℕ) (q : Prop) (style : DeclaredMap) → IsToldStyle version style → IsToldStyle version (map.remove style q)
unset_told version q style h p value e = by_test (eq_by_cmp prop_cmp p q) (sym (map.get-remove prop_cmp_total style q p) ∙ e)
  where
    by_test : (b : Bool) → cond b None (map.get style p) ≡ Some value → IsDeclared version p value
    by_test true e = absurd (none-some value e)
    by_test false e = h p value e

all_unset_told : (version : ℕ) (props : List Prop) (style : DeclaredMap) → IsToldStyle version style → IsToldStyle version (without_props props style)
all_unset_told version [] style h = h
all_unset_told version (q ∷ props) style h = all_unset_told version props (map.remove style q) (unset_told version q style h)

-- ---- the labels and the size after an edit

labels_told : (version : ℕ) (e : Edit) (t : Trees Label) → IsToldEdit version e → EachLabel (IsToldLabel version) t → EachLabel (IsToldLabel version) (edited_trees e t)
labels_told version (edit.Set named settings) t h p =
    each_relabelled (IsToldLabel version) named.name (with_set settings) (λ x q. record { named = q.named; kind = q.kind; style = settings_told version settings x.style (all_among version settings h) q.style }) t p
labels_told version (edit.Unset named props) t h p =
    each_relabelled (IsToldLabel version) named.name (with_unset props) (λ x q. record { named = q.named; kind = q.kind; style = all_unset_told version props x.style q.style }) t p
labels_told version (edit.Insert parent index at named node) t h p = each_grafted (IsToldLabel version) parent.name index (alone (label_of node)) t (h, (tt, tt)) p
labels_told version (edit.Remove named) t h p = each_removed (IsToldLabel version) named.name t p
labels_told version (edit.Move named parent index at) t h p =
    each_grafted (IsToldLabel version) parent.name index (tree_at named.name t) (removed named.name t) (each_at (IsToldLabel version) named.name t p) (each_removed (IsToldLabel version) named.name t p)
labels_told version (edit.Content named kind) t h p = each_relabelled (IsToldLabel version) named.name (with_kind kind) (λ x q. record { named = q.named; kind = h; style = q.style }) t p
labels_told version (edit.Viewport width height) t h p = p
labels_told version (edit.Undo n at) t h p = p
labels_told version (edit.Redo n at) t h p = p
labels_told version (edit.Hit x y) t h p = p

AreTwo : ℤ × ℤ → Type 0
AreTwo size = IsTold size.0 × IsTold size.1

size_told : (version : ℕ) (e : Edit) (size : ℤ × ℤ) → IsToldEdit version e → AreTwo size → AreTwo (size_after e size)
unfolding AreTwo
size_told version (edit.Set named settings) size h p = p
size_told version (edit.Unset named props) size h p = p
size_told version (edit.Insert parent index at named node) size h p = p
size_told version (edit.Remove named) size h p = p
size_told version (edit.Move named parent index at) size h p = p
size_told version (edit.Content named kind) size h p = p
size_told version (edit.Viewport width height) size h p = h
size_told version (edit.Undo n at) size h p = p
size_told version (edit.Redo n at) size h p = p
size_told version (edit.Hit x y) size h p = p

-- ---- the document after an edit

root_valid : (doc : Doc) (size : ℤ × ℤ) (t : Trees Label) → IsValid doc → AreTwo size → EachLabel (IsToldLabel doc.version) t → IsShaped (with_root doc size t).version (tree_of (with_root doc size t)) → IsValid (with_root doc size t)
unfolding AreTwo
root_valid doc size leafless v s l h = v
root_valid doc size (tree x below after) v s l h = record { version = v.version; width = s.0; height = s.1; shaped = h; labels = (l.0, (l.1.0, tt)) }

applied_valid : (doc : Doc) (e : Edit) → IsValid doc → IsToldEdit doc.version e → IsShaped (applied e doc).version (tree_of (applied e doc)) → IsValid (applied e doc)
unfolding AreTwo
applied_valid doc e v h s =
    root_valid doc (size_after e (doc.width, doc.height)) (edited_trees e (tree_of doc)) v (size_told doc.version e (doc.width, doc.height) h (v.width, v.height)) (labels_told doc.version e (tree_of doc) h v.labels) s

is_applied : (doc made : Doc) (e : Edit) → edited e doc ≡ Ok made → made ≡ applied e doc
is_applied doc made e h = by_refusal (first_refusal (refusals doc e)) h
  where
    by_refusal : (o : Option Fault) → ◌≡◌ {A = Result Doc Fault} (elim o [ Some fault ↦ Err fault | None ↦ Ok (applied e doc) ]) (Ok made) → made ≡ applied e doc
    by_refusal (Some fault) h = absurd (ok-not-err made fault h)
    by_refusal None h = sym (same-ok (applied e doc) made h)

pub edited_valid : (doc made : Doc) (e : Edit) → IsValid doc → NamesItsNode e → IsToldEdit doc.version e → edited e doc ≡ Ok made → IsValid made
edited_valid doc made e v n h m =
    let same : made ≡ applied e doc = is_applied doc made e m in
    let shaped : IsShaped made.version (tree_of made) = edited_shaped e doc made v.shaped n m in
    subst IsValid (sym same) (applied_valid doc e v h (subst (λ (d : Doc). IsShaped d.version (tree_of d)) same shaped))
