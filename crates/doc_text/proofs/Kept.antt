-- An edit that is not refused leaves a document valid, and the first row that comes tells the fault.
use Rattle.std.proofs.Common.{◌≡◌, ℕ, ℤ, ◌+◌, ◌≤◌, Bool, true, false, ◌||◌, List, [], ◌∷◌, Option, Some, None, Result, Ok, Err, refl, ap, sym, subst, ◌∙◌, arith}
use Rattle.std.specs.Prelude.{nat_lt}
use Rattle.std.specs.Str.{bytes_eq}
use Rattle.std.proofs.lemmas.Bool.{ltb-false}
use Rattle.std.proofs.lemmas.Option.{none-some, same_Some}
use Rattle.text_scan.specs.declared.line.Fault.{Fault}
use Rattle.text_scan.specs.declared.line.Place.{Place}
use Rattle.track_text.specs.Gives.{fault_at}
use Rattle.plain_tree.specs.Trees.{Trees, leafless, tree, size_of, height_of, count_of}
use Rattle.doc_text.specs.declared.document.Doc.{Doc}
use Rattle.doc_text.specs.declared.document.Plain.{Plain}
use Rattle.doc_text.specs.declared.edit.Edit.{Edit}
use Rattle.doc_text.specs.declared.edit.Edit.TheVariants as edit
use Rattle.doc_text.specs.declared.edit.Named.{Named}
use Rattle.doc_text.specs.declared.kind.Kind.{Kind}
use Rattle.doc_text.specs.Label.{Label}
use Rattle.doc_text.specs.View.{label_of}
use Rattle.doc_text.specs.Texts.{Word}
use Rattle.doc_text.specs.Growth.{holds, alone}
use Rattle.doc_text.specs.Documents.{node_limit, is_leaf}
use Rattle.doc_text.specs.Named.{IsDistinct, tree_at, below_of, level_of}
use Rattle.doc_text.specs.Edits.{tree_of, where_, left_of, child_count, Row, first_refusal, refusals, with_set, with_unset, with_kind, edited_trees, size_after, with_root, applied, edited}
use Rattle.doc_text.specs.Valid.{HasContainers, IsShaped}
use Rattle.doc_text.specs.Laws.{NoneComes, IsFirst, NamesItsNode}
use Rattle.doc_text.proofs.Grown.{or_parts, not_both, few_none, same_name}
use Rattle.doc_text.proofs.Standing.{left_outside, IsTreeOf, is_tree_at}
use Rattle.doc_text.proofs.Shapes.{EachNamed, OfTop, each_named, fewer, relabel_shaped}
use Rattle.doc_text.proofs.Grafts.{removed_shaped, removed_size, tree_distinct, tree_few, tree_containers}
use Rattle.doc_text.proofs.Apart.{MayStand, graft_shaped}
use Rattle.doc_text.proofs.Told.{ok-not-err, same-ok, same-err}

-- ---- the first row that comes
with_before : (row : Row) (rows : List Row) (fault : Fault) → row.1 ≡ None → IsFirst rows fault → IsFirst (row ∷ rows) fault
with_before row rows fault n f = record {
  before = row ∷ f.before;
  after = f.after;
  at = f.at;
  number = f.number;
  all = ap (λ (l : List Row). row ∷ l) f.all;
  none = (n, f.none);
  told = f.told;
}

pub first_is : (rows : List Row) (fault : Fault) → first_refusal rows ≡ Some fault → IsFirst rows fault
first_is [] fault e = absurd (none-some fault e)
first_is (row ∷ rows) fault e = by_place row.1 refl e (first_is rows fault)
  where
    by_place : (o : Option Place) → row.1 ≡ o → ◌≡◌ {A = Option Fault} (elim o [ Some at ↦ Some (fault_at row.0 at) | None ↦ first_refusal rows ]) (Some fault) → (first_refusal rows ≡ Some fault → IsFirst rows fault) → IsFirst (row ∷ rows) fault
    by_place None h e rest = with_before row rows fault h (rest e)
    by_place (Some at) h e rest = record {
      before = [];
      after = rows;
      at = at;
      number = row.0;
      all = ap (λ (o : Option Place). (row.0, o) ∷ rows) h;
      none = tt;
      told = sym (same_Some (fault_at row.0 at) fault e);
    }

pub none_comes : (rows : List Row) → first_refusal rows ≡ None → NoneComes rows
none_comes [] e = tt
none_comes (row ∷ rows) e = by_place row.1 refl e (none_comes rows)
  where
    by_place : (o : Option Place) → row.1 ≡ o → ◌≡◌ {A = Option Fault} (elim o [ Some at ↦ Some (fault_at row.0 at) | None ↦ first_refusal rows ]) None → (first_refusal rows ≡ None → NoneComes rows) → NoneComes (row ∷ rows)
    by_place None h e rest = (h, rest e)
    by_place (Some at) h e rest = absurd (none-some (fault_at row.0 at) (sym e))

pub not_there : (b : Bool) (at : Place) → where_ b at ≡ None → b ≡ false
not_there true at e = absurd (none-some at (sym e))
not_there false at e = refl

-- ---- the trees
with_root_shaped : (doc : Doc) (size : ℤ × ℤ) (trees : Trees Label) → IsShaped doc.version (tree_of doc) → IsShaped doc.version trees → IsShaped (with_root doc size trees).version (tree_of (with_root doc size trees))
with_root_shaped doc size leafless s t = s
with_root_shaped doc size (tree x below after) s t = record {
  distinct = (t.distinct.0, (refl, ((λ _ _. refl), (t.distinct.1.1.1.0, tt))));
  containers = (t.containers.0, (t.containers.1.0, tt));
  levels = omega (arith, t.levels);
  nodes = omega (arith, t.nodes);
  children = (t.children.0, (t.children.1.0, tt));
}

-- what keeps the kinds may be set anywhere
same_kind : (u : Label → Label) → ((x : Label) → (u x).kind ≡ x.kind) → (name : Word) (t : Trees Label) → HasContainers t → EachNamed name (λ x below. is_leaf (u x).kind ≡ true → below ≡ leafless) t
same_kind u k name leafless h = tt
same_kind u k name (tree x below after) h = ((λ _ e. h.0 (ap is_leaf (sym (k x)) ∙ e)), (same_kind u k name below h.1.0, same_kind u k name after h.1.1))

no_count : (t : Trees Label) → nat_lt 0 (count_of t) ≡ false → t ≡ leafless
no_count leafless h = refl
no_count (tree x below after) h = absurd (let f : 1 + count_of after ≤ 0 = ltb-false 0 (1 + count_of after) h in omega (arith, f))

may_be : (kind : Kind) (u : Trees Label) → nat_lt 0 (count_of (below_of u)) ≡ false → OfTop (λ x below. is_leaf (with_kind kind x).kind ≡ true → below ≡ leafless) u
may_be kind leafless h = tt
may_be kind (tree x below after) h = λ _. no_count below h

abbrev Accepted : Doc → Edit → Type 0
Accepted doc e = NoneComes (refusals doc e)

insert_stands : (doc : Doc) (parent : Named) (index : ℕ) (at : Place) (named : Named) (node : Plain) → node.name ≡ named.name → Accepted doc (edit.Insert parent index at named node)
    → MayStand doc.version parent.name (alone (label_of node)) (tree_of doc)
insert_stands doc parent index at named node same a =
    let new = not_there _ _ a.1.1.1.1.0 in
    let deep = not_there _ _ a.1.1.1.1.1.0 in
    let many = or_parts _ _ (not_there _ _ a.1.1.1.1.1.1.0) in
    let leaf = not_there _ _ a.1.1.1.1.1.1.1.0 in
    let deep_is : level_of parent.name (tree_of doc) + 1 ≤ 64 = ltb-false 64 _ deep in
    let many_is : size_of (tree_of doc) + 1 ≤ node_limit doc.version = ltb-false _ _ many.0 in
    record {
      distinct = (refl, (refl, ((λ _ _. refl), (tt, tt))));
      containers = ((λ _. refl), (tt, tt));
      children = (few_none doc.version, (tt, tt));
      apart = λ m h. not_same m h (bytes_eq node.name m) refl new;
      levels = omega (arith, deep_is);
      nodes = omega (arith, many_is);
      few = many.1;
      free = leaf;
    }
  where
    not_same : (m : Word) → holds (tree_of doc) m ≡ true → (b : Bool) → bytes_eq node.name m ≡ b → holds (tree_of doc) named.name ≡ false → (b || (false || false)) ≡ false
    not_same m h false e n = refl
    not_same m h true e n = absurd (not_both _ (ap (holds (tree_of doc)) (sym same ∙ same_name node.name m e) ∙ h) n)

move_stands : (doc : Doc) (named parent : Named) (index : ℕ) (at : Place) → IsShaped doc.version (tree_of doc) → Accepted doc (edit.Move named parent index at)
    → (count_of (tree_at named.name (tree_of doc)) ≤ 1) → MayStand doc.version parent.name (tree_at named.name (tree_of doc)) (left_of named doc)
move_stands doc named parent index at s a one =
    let deep = not_there _ _ a.1.1.1.1.1.0 in
    let many = not_there _ _ a.1.1.1.1.1.1.0 in
    let leaf = not_there _ _ a.1.1.1.1.1.1.1.0 in
    let deep_is : level_of parent.name (left_of named doc) + height_of (tree_at named.name (tree_of doc)) ≤ 64 = ltb-false 64 _ deep in
    record {
      distinct = tree_distinct named.name (tree_of doc) s.distinct;
      containers = tree_containers named.name (tree_of doc) s.containers;
      children = tree_few named.name doc.version (tree_of doc) s.children;
      apart = λ m h. left_outside named.name (tree_of doc) m s.distinct h;
      levels = deep_is;
      nodes = omega (arith, removed_size named.name (tree_of doc) s.distinct, s.nodes);
      few = fewer doc.version (child_count parent.name (left_of named doc) + count_of (tree_at named.name (tree_of doc))) (child_count parent.name (left_of named doc) + 1) (omega (arith, one)) many;
      free = leaf;
    }

one_count : (name : Word) (t : Trees Label) → IsTreeOf name t → count_of t ≤ 1
one_count name leafless h = omega arith
one_count name (tree x below leafless) h = omega arith
one_count name (tree x below (tree y b a)) h = absurd h

one_tree : (name : Word) (t : Trees Label) → IsDistinct t → count_of (tree_at name t) ≤ 1
one_tree name t d = one_count name (tree_at name t) (is_tree_at name t d)

trees_shaped : (e : Edit) (doc : Doc) → IsShaped doc.version (tree_of doc) → NamesItsNode e → Accepted doc e → IsShaped doc.version (edited_trees e (tree_of doc))
trees_shaped (edit.Set named settings) doc s n a = relabel_shaped named.name (with_set settings) (λ _. refl) doc.version (tree_of doc) s (same_kind (with_set settings) (λ _. refl) named.name (tree_of doc) s.containers)
trees_shaped (edit.Unset named props) doc s n a = relabel_shaped named.name (with_unset props) (λ _. refl) doc.version (tree_of doc) s (same_kind (with_unset props) (λ _. refl) named.name (tree_of doc) s.containers)
trees_shaped (edit.Insert parent index at named node) doc s n a = graft_shaped doc.version parent.name index (alone (label_of node)) (tree_of doc) s (insert_stands doc parent index at named node n a)
trees_shaped (edit.Remove named) doc s n a = removed_shaped named.name doc.version (tree_of doc) s
trees_shaped (edit.Move named parent index at) doc s n a =
    graft_shaped doc.version parent.name index (tree_at named.name (tree_of doc)) (left_of named doc) (removed_shaped named.name doc.version (tree_of doc) s)
    (move_stands doc named parent index at s a (one_tree named.name (tree_of doc) s.distinct))
trees_shaped (edit.Content named kind) doc s n a =
    relabel_shaped named.name (with_kind kind) (λ _. refl) doc.version (tree_of doc) s
    (each_named named.name _ (tree_of doc) s.distinct (may_be kind (tree_at named.name (tree_of doc)) (not_there _ _ a.1.1.1.1.1.1.1.0)))
trees_shaped (edit.Viewport width height) doc s n a = s
trees_shaped (edit.Undo times at) doc s n a = s
trees_shaped (edit.Redo times at) doc s n a = s
trees_shaped (edit.Hit x y) doc s n a = s

pub edited_shaped : (e : Edit) (doc made : Doc) → IsShaped doc.version (tree_of doc) → NamesItsNode e → edited e doc ≡ Ok made → IsShaped made.version (tree_of made)
edited_shaped e doc made s n h = by_refusal (first_refusal (refusals doc e)) refl h
  where
    by_refusal : (o : Option Fault) → first_refusal (refusals doc e) ≡ o → ◌≡◌ {A = Result Doc Fault} (elim o [ Some fault ↦ Err fault | None ↦ Ok (applied e doc) ]) (Ok made) → IsShaped made.version (tree_of made)
    by_refusal (Some fault) f h = absurd (ok-not-err _ _ h)
    by_refusal None f h =
        subst (λ (d : Doc). IsShaped d.version (tree_of d)) (same-ok _ _ h)
        (with_root_shaped doc (size_after e (doc.width, doc.height)) (edited_trees e (tree_of doc)) s (trees_shaped e doc s n (none_comes (refusals doc e) f)))

pub refused_first : (e : Edit) (doc : Doc) (fault : Fault) → edited e doc ≡ Err fault → IsFirst (refusals doc e) fault
refused_first e doc fault h = by_refusal (first_refusal (refusals doc e)) refl h
  where
    by_refusal : (o : Option Fault) → first_refusal (refusals doc e) ≡ o → ◌≡◌ {A = Result Doc Fault} (elim o [ Some fault ↦ Err fault | None ↦ Ok (applied e doc) ]) (Err fault) → IsFirst (refusals doc e) fault
    by_refusal None f h = absurd (ok-not-err _ _ (sym h))
    by_refusal (Some other) f h = first_is (refusals doc e) fault (f ∙ ap Some (same-err other fault h))
