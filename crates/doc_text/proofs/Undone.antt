-- Documents: what was inserted and is removed, and what was moved and is moved back.
use Rattle.std.proofs.Common.{◌≡◌, ℕ, zero, suc, Bool, true, false, cond, not, ◌||◌, [], ◌∷◌, Option, Some, None, Result, Ok, Err, refl, sym, ap, ◌∙◌, subst}
use Rattle.std.specs.Str.{bytes_eq}
use Rattle.std.proofs.lemmas.Bool.{or_left, or_right}
use Rattle.std.proofs.lemmas.Option.{none-some}
use Rattle.text_scan.specs.declared.line.Fault.{Fault}
use Rattle.text_scan.specs.declared.line.Place.{Place}
use Rattle.plain_tree.specs.Trees.{Trees, leafless, tree, joined}
use Rattle.doc_text.specs.declared.document.Doc.{Doc}
use Rattle.doc_text.specs.declared.document.Plain.{Plain}
use Rattle.doc_text.specs.declared.edit.Edit.{Edit}
use Rattle.doc_text.specs.declared.edit.Edit.TheVariants as edit
use Rattle.doc_text.specs.declared.edit.Named.{Named}
use Rattle.doc_text.specs.Label.{Label}
use Rattle.doc_text.specs.View.{label_of}
use Rattle.doc_text.specs.Texts.{Word}
use Rattle.doc_text.specs.Growth.{holds, alone}
use Rattle.doc_text.specs.Named.{IsDistinct, StandsAt, put_at, grafted, inserted, removed, moved, tree_at}
use Rattle.doc_text.specs.Edits.{tree_of, where_, or_where, no_node, refusals, first_refusal, with_root, applied, edited}
use Rattle.doc_text.specs.Laws.{NoneComes}
use Rattle.doc_text.proofs.Opening.{holds-joined}
use Rattle.doc_text.proofs.Grown.{or_parts, own_name, not_both}
use Rattle.doc_text.proofs.Back.{insert_back, move_back}
use Rattle.doc_text.proofs.Told.{ok-not-err, same-ok}
use Rattle.doc_text.proofs.Kept.{none_comes, not_there}

-- ---- the root of an edited document is that of the document

-- one tree, with this label at its root
pub record IsOne (x : Label) (trees : Trees Label) : Type 0 where
  pub below : Trees Label
  pub is : trees ≡ tree x below leafless

pub one_graft : (parent : Word) (i : ℕ) (new : Trees Label) (x : Label) (below : Trees Label) → IsOne x (grafted parent i new (tree x below leafless))
one_graft parent i new x below = by_name (bytes_eq x.name parent)
  where
    by_name : (e : Bool) → IsOne x (cond e (tree x (put_at i new below) leafless) (tree x (grafted parent i new below) leafless))
    by_name true = record { below = put_at i new below; is = refl }
    by_name false = record { below = grafted parent i new below; is = refl }

pub tree_with : (doc : Doc) (x : Label) (trees : Trees Label) → IsOne x trees → tree_of (with_root doc (doc.width, doc.height) trees) ≡ trees
tree_with doc x trees one = subst (λ (t : Trees Label). tree_of (with_root doc (doc.width, doc.height) t) ≡ t) (sym one.is) refl

-- the document whose tree is put back
pub with_own : (doc : Doc) (trees : Trees Label) (x : Label) → IsOne x trees → with_root (with_root doc (doc.width, doc.height) trees) ((with_root doc (doc.width, doc.height) trees).width, (with_root doc (doc.width, doc.height) trees).height) (tree_of doc) ≡ doc
with_own doc trees x one =
    subst (λ (t : Trees Label). with_root (with_root doc (doc.width, doc.height) t) ((with_root doc (doc.width, doc.height) t).width, (with_root doc (doc.width, doc.height) t).height) (tree_of doc) ≡ doc) (sym one.is) refl

pub root_name : (doc : Doc) (x : Label) (trees : Trees Label) → IsOne x trees → (with_root doc (doc.width, doc.height) trees).root.name ≡ x.name
root_name doc x trees one = subst (λ (t : Trees Label). (with_root doc (doc.width, doc.height) t).root.name ≡ x.name) (sym one.is) refl

-- ---- what was put is there
put_held : (i : ℕ) (new t : Trees Label) (m : Word) → holds new m ≡ true → holds (put_at i new t) m ≡ true
put_held i new leafless m h = h
put_held zero new (tree x below after) m h = holds-joined new (tree x below after) m ∙ or_left _ _ h
put_held (suc i) new (tree x below after) m h = or_right (bytes_eq x.name m) _ (or_right (holds below m) _ (put_held i new after m h))

graft_held : (parent : Word) (i : ℕ) (new t : Trees Label) (m : Word) → holds new m ≡ true → holds t parent ≡ true → holds (grafted parent i new t) m ≡ true
graft_held parent i new leafless m h k = absurd (not_both false k refl)
graft_held parent i new (tree x below after) m h k = by_name (bytes_eq x.name parent) k (graft_held parent i new below m h) (graft_held parent i new after m h)
  where
    by_part : (b : Bool) → holds below parent ≡ b → (b || holds after parent) ≡ true → (holds below parent ≡ true → holds (grafted parent i new below) m ≡ true) → (holds after parent ≡ true → holds (grafted parent i new after) m ≡ true)
        → holds (tree x (grafted parent i new below) (grafted parent i new after)) m ≡ true
    by_part true e k b a = or_right (bytes_eq x.name m) _ (or_left _ _ (b e))
    by_part false e k b a = or_right (bytes_eq x.name m) _ (or_right (holds (grafted parent i new below) m) _ (a k))

    by_name : (e : Bool) → (e || (holds below parent || holds after parent)) ≡ true → (holds below parent ≡ true → holds (grafted parent i new below) m ≡ true) → (holds after parent ≡ true → holds (grafted parent i new after) m ≡ true)
        → holds (cond e (tree x (put_at i new below) after) (tree x (grafted parent i new below) (grafted parent i new after))) m ≡ true
    by_name true k b a = or_right (bytes_eq x.name m) _ (or_left _ _ (put_held i new below m h))
    by_name false k b a = by_part (holds below parent) refl k b a

pub there : (b : Bool) (at : Place) → where_ (not b) at ≡ None → b ≡ true
there true at e = refl
there false at e = absurd (not_both true refl (not_there true at e))

-- ---- an edit that is not refused
pub record Accepts (e : Edit) (doc made : Doc) : Type 0 where
  pub none : NoneComes (refusals doc e)
  pub is : applied e doc ≡ made

pub accepts : (e : Edit) (doc made : Doc) → edited e doc ≡ Ok made → Accepts e doc made
accepts e doc made h = by_refusal (first_refusal (refusals doc e)) refl h
  where
    by_refusal : (o : Option Fault) → first_refusal (refusals doc e) ≡ o → ◌≡◌ {A = Result Doc Fault} (elim o [ Some fault ↦ Err fault | None ↦ Ok (applied e doc) ]) (Ok made) → Accepts e doc made
    by_refusal (Some fault) f h = absurd (ok-not-err _ _ h)
    by_refusal None f h = record { none = none_comes (refusals doc e) f; is = same-ok _ _ h }

-- a removal that is not refused
remove_is : (named : Named) (doc : Doc) → holds (tree_of doc) named.name ≡ true → bytes_eq doc.root.name named.name ≡ false → edited (edit.Remove named) doc ≡ Ok (applied (edit.Remove named) doc)
remove_is named doc h r = by_tests (holds (tree_of doc) named.name) (bytes_eq doc.root.name named.name) h r
  where
    by_tests : (b c : Bool) → b ≡ true → c ≡ false →
        ◌≡◌ {A = Result Doc Fault} (elim (first_refusal ((21, where_ (not b) named.at) ∷ (22, where_ c named.at) ∷ (23, None) ∷ (24, None) ∷ (6, None) ∷ (12, None) ∷ (13, None) ∷ (14, None) ∷ [])) [ Some fault ↦ Err fault | None ↦ Ok (applied (edit.Remove named) doc) ])
        (Ok (applied (edit.Remove named) doc))
    by_tests true false h r = refl
    by_tests true true h r = absurd (not_both true refl r)
    by_tests false c h r = absurd (not_both false h refl)

pub insert_undone : (parent named other : Named) (index : ℕ) (at : Place) (node : Plain) (doc made : Doc) → node.name ≡ named.name → other.name ≡ named.name
    → edited (edit.Insert parent index at named node) doc ≡ Ok made → edited (edit.Remove other) made ≡ Ok doc
insert_undone parent named other index at node doc made same again h =
    let a = accepts (edit.Insert parent index at named node) doc made h in
    let known = there (holds (tree_of doc) parent.name) parent.at a.none.0 in
    let new = not_there (holds (tree_of doc) named.name) named.at a.none.1.1.1.1.0 in
    let trees : Trees Label = inserted parent.name index (label_of node) (tree_of doc) in
    let one = one_graft parent.name index (alone (label_of node)) (label_of doc.root) doc.root.children in
    let whole : tree_of made ≡ trees = ap tree_of (sym a.is) ∙ tree_with doc (label_of doc.root) trees one in
    let own : holds (alone (label_of node)) other.name ≡ true = or_left _ _ (ap (λ (n : Word). bytes_eq n other.name) (same ∙ sym again) ∙ own_name other.name) in
    let held : holds (tree_of made) other.name ≡ true = ap (λ (t : Trees Label). holds t other.name) whole ∙ graft_held parent.name index (alone (label_of node)) (tree_of doc) other.name own known in
    let apart : bytes_eq made.root.name other.name ≡ false =
    ap (λ (d : Doc). bytes_eq d.root.name other.name) (sym a.is) ∙ ap (λ (n : Word). bytes_eq n other.name) (root_name doc (label_of doc.root) trees one)
    ∙ ap (bytes_eq doc.root.name) again ∙ (or_parts (bytes_eq doc.root.name named.name) _ new).0 in
    let gone : removed other.name (tree_of made) ≡ tree_of doc =
    ap (λ (t : Trees Label). removed other.name t) whole ∙ ap (λ (n : Word). removed n trees) (again ∙ sym same)
    ∙ insert_back parent.name index (label_of node) (tree_of doc) (ap (holds (tree_of doc)) same ∙ new) in
    remove_is other made held apart
    ∙ ap Ok (ap (with_root made (made.width, made.height)) gone ∙ ap (λ (d : Doc). with_root d (d.width, d.height) (tree_of doc)) (sym a.is) ∙ with_own doc trees (label_of doc.root) one)

-- ---- a node that is moved

-- what is there and not in the tree that goes is left
pub still_left : (name : Word) (t : Trees Label) (m : Word) → holds t m ≡ true → holds (tree_at name t) m ≡ false → holds (removed name t) m ≡ true
still_left name leafless m h k = absurd (not_both false h refl)
still_left name (tree x below after) m h k = by_name (bytes_eq x.name name) k (still_left name below m) (still_left name after m)
  where
    in_after : (a b c : Bool) → (a || (b || c)) ≡ true → (a || (b || false)) ≡ false → c ≡ true
    in_after true b c h k = absurd (not_both true refl k)
    in_after false true c h k = absurd (not_both true refl k)
    in_after false false c h k = h

    by_part : (a b c p q : Bool) → (a || (b || c)) ≡ true → (b ≡ true → p ≡ true) → (c ≡ true → q ≡ true) → (a || (p || q)) ≡ true
    by_part true b c p q h f g = refl
    by_part false true c p q h f g = or_left p q (f refl)
    by_part false false c p q h f g = or_right p q (g h)

    by_name : (e : Bool) → holds (cond e (tree x below leafless) (joined (tree_at name below) (tree_at name after))) m ≡ false
        → (holds below m ≡ true → holds (tree_at name below) m ≡ false → holds (removed name below) m ≡ true) → (holds after m ≡ true → holds (tree_at name after) m ≡ false → holds (removed name after) m ≡ true)
        → holds (cond e after (tree x (removed name below) (removed name after))) m ≡ true
    by_name true k b a = in_after (bytes_eq x.name m) (holds below m) (holds after m) h k
    by_name false k b a =
        let parts = or_parts (holds (tree_at name below) m) (holds (tree_at name after) m) (sym (holds-joined (tree_at name below) (tree_at name after) m) ∙ k) in
        by_part (bytes_eq x.name m) (holds below m) (holds after m) (holds (removed name below) m) (holds (removed name after) m) h (λ f. b f parts.0) (λ f. a f parts.1)

pub neither : (one other : Option Place) → or_where one other ≡ None → (one ≡ None) × (other ≡ None)
neither None other e = (refl, e)
neither (Some at) other e = absurd (none-some at (sym e))

pub one_moved : (name parent : Word) (i : ℕ) (x : Label) (below : Trees Label) → bytes_eq x.name name ≡ false → IsOne x (moved name parent i (tree x below leafless))
one_moved name parent i x below e =
    subst (λ (b : Bool). IsOne x (grafted parent i (tree_at name (tree x below leafless)) (cond b leafless (tree x (removed name below) leafless)))) (sym e)
    (one_graft parent i (tree_at name (tree x below leafless)) x (removed name below))

pub move_undone : (named parent old : Named) (i index : ℕ) (at back : Place) (doc made : Doc) → IsDistinct (tree_of doc) → StandsAt named.name old.name index (tree_of doc)
    → edited (edit.Move named parent i at) doc ≡ Ok made → applied (edit.Move named old index back) made ≡ doc
move_undone named parent old i index at back doc made d s h =
    let a = accepts (edit.Move named parent i at) doc made h in
    let known = neither (no_node (tree_of doc) named) (no_node (tree_of doc) parent) a.none.0 in
    let apart = not_there (bytes_eq doc.root.name named.name) named.at a.none.1.0 in
    let out = not_there (holds (tree_at named.name (tree_of doc)) parent.name) parent.at a.none.1.1.0 in
    let left = still_left named.name (tree_of doc) parent.name (there (holds (tree_of doc) parent.name) parent.at known.1) out in
    let trees : Trees Label = moved named.name parent.name i (tree_of doc) in
    let one = one_moved named.name parent.name i (label_of doc.root) doc.root.children apart in
    let whole : tree_of made ≡ trees = ap tree_of (sym a.is) ∙ tree_with doc (label_of doc.root) trees one in
    let again : moved named.name old.name index (tree_of made) ≡ tree_of doc = ap (λ (t : Trees Label). moved named.name old.name index t) whole ∙ move_back named.name parent.name old.name i index (tree_of doc) d left s in
    ap (with_root made (made.width, made.height)) again ∙ ap (λ (e : Doc). with_root e (e.width, e.height) (tree_of doc)) (sym a.is) ∙ with_own doc trees (label_of doc.root) one
