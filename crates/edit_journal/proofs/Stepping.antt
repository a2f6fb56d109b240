-- The step of an edit that is not refused leads to the edited document, and back.
use Rattle.std.proofs.Common.{◌≡◌, ℕ, ℤ, ◌≤◌, Bool, true, false, cond, [], Option, Some, None, Ok, refl, sym, ap, subst, ◌∙◌}
use Rattle.std.specs.Prelude.{nat_lt}
use Rattle.std.specs.Str.{bytes_eq}
use Rattle.std.specs.Option.{unwrap_or}
use Rattle.std.proofs.lemmas.Bool.{ltb-false}
use Rattle.text_scan.specs.declared.line.Place.{Place}
use Rattle.plain_tree.specs.Trees.{Trees, leafless, tree}
use Rattle.doc_text.specs.declared.document.Doc.{Doc}
use Rattle.doc_text.specs.declared.document.Plain.{Plain}
use Rattle.doc_text.specs.declared.edit.Edit.{Edit}
use Rattle.doc_text.specs.declared.edit.Edit.TheVariants as edit
use Rattle.doc_text.specs.declared.edit.Named.{Named}
use Rattle.doc_text.specs.Label.{Label, DeclaredMap}
use Rattle.doc_text.specs.View.{label_of}
use Rattle.doc_text.specs.Texts.{Word}
use Rattle.doc_text.specs.Growth.{holds}
use Rattle.doc_text.specs.Documents.{plain_of}
use Rattle.doc_text.specs.Named.{IsDistinct, StandsAt, relabelled, grafted, removed, moved, tree_at}
use Rattle.doc_text.specs.Edits.{tree_of, where_, no_node, refusals, with_set, with_unset, with_kind, with_root, applied, edited, child_count}
use Rattle.doc_text.specs.Laws.{NoneComes, IsChange, NamesItsNode}
use Rattle.doc_text.proofs.Grown.{not_both}
use Rattle.doc_text.proofs.Standing.{not_false, less_inside, less_left, left_less, left_graft, tree_graft, is_tree_at, removed_distinct}
use Rattle.doc_text.proofs.Shapes.{OfTop, each_named, relabel_holds}
use Rattle.doc_text.proofs.Back.{graft_back}
use Rattle.doc_text.proofs.Undone.{IsOne, tree_with, with_own, root_name, there, Accepts, accepts, still_left, neither, one_moved, insert_undone, move_undone}
use Rattle.doc_text.proofs.Kept.{not_there, edited_shaped}
use Rattle.edit_journal.specs.declared.change.Change.{Change}
use Rattle.edit_journal.specs.Changes.{with_style, turned_trees, turned_size, turned, IsSound, IsThere, IsBelowRoot, HasIndex, CanShift, IsFound, tree_of_node}
use Rattle.edit_journal.specs.Steps.{no_change, forward_of, top_of, node_at, Position, position_in, position_of, values_in, props_of, back_of, step_for}
use Rattle.edit_journal.specs.Laws.{Leads}
use Rattle.edit_journal.proofs.Restored.{set_values, unset_values, set_back, unset_back}
use Rattle.edit_journal.proofs.Relabels.{IsUndone, relabel_back, relabel_none}
use Rattle.edit_journal.proofs.Positions.{Stands, position_stands, parent_outside, parent_left, index_within, tree_held, node_tree}

-- ---- forward

-- a change that changes nothing
nothing_is : (doc : Doc) → turned no_change doc ≡ with_root doc (doc.width, doc.height) (tree_of doc)
nothing_is doc = ap (with_root doc (doc.width, doc.height)) (relabel_none [] (tree_of doc))

-- the change that an edit makes
pub forward_is : (e : Edit) (doc : Doc) → turned (forward_of e) doc ≡ applied e doc
forward_is (edit.Set named settings) doc = λ i. with_root doc (doc.width, doc.height) (relabelled named.name (λ x. record x { style = set_values settings x.style i }) (tree_of doc))
forward_is (edit.Unset named props) doc = λ i. with_root doc (doc.width, doc.height) (relabelled named.name (λ x. record x { style = unset_values props x.style i }) (tree_of doc))
forward_is (edit.Insert parent index at named node) doc = refl
forward_is (edit.Remove named) doc = refl
forward_is (edit.Move named parent index at) doc = refl
forward_is (edit.Content named kind) doc = refl
forward_is (edit.Viewport width height) doc = refl
forward_is (edit.Undo times at) doc = nothing_is doc
forward_is (edit.Redo times at) doc = nothing_is doc
forward_is (edit.Hit x y) doc = nothing_is doc

is_there : (doc : Doc) (named : Named) → no_node (tree_of doc) named ≡ None → IsThere named.name doc
is_there doc named h = there (holds (tree_of doc) named.name) named.at h

within : (i n : ℕ) (at : Place) → where_ (nat_lt n i) at ≡ None → i ≤ n
within i n at h = ltb-false n i (not_there (nat_lt n i) at h)

-- where no row of refusals comes, all that the change names is found
pub forward_found : (e : Edit) (doc : Doc) → IsChange e → NoneComes (refusals doc e) → IsFound (forward_of e) doc
forward_found (edit.Set named settings) doc c a = is_there doc named a.0
forward_found (edit.Unset named props) doc c a = is_there doc named a.0
forward_found (edit.Insert parent index at named node) doc c a = record { there = is_there doc parent a.0; within = within index (child_count parent.name (tree_of doc)) at a.1.1.1.0 }
forward_found (edit.Remove named) doc c a = record { there = is_there doc named a.0; no_root = not_there (bytes_eq doc.root.name named.name) named.at a.1.0 }
forward_found (edit.Move named parent index at) doc c a =
    let known = neither (no_node (tree_of doc) named) (no_node (tree_of doc) parent) a.0 in
    record {
      node = record { there = is_there doc named known.0; no_root = not_there (bytes_eq doc.root.name named.name) named.at a.1.0 };
      parent_there = is_there doc parent known.1;
      outside = not_there (holds (tree_at named.name (tree_of doc)) parent.name) parent.at a.1.1.0;
      within = within index (child_count parent.name (removed named.name (tree_of doc))) at a.1.1.1.0;
    }
forward_found (edit.Content named kind) doc c a = is_there doc named a.0
forward_found (edit.Viewport width height) doc c a = tt
forward_found (edit.Undo times at) doc c a = absurd c
forward_found (edit.Redo times at) doc c a = absurd c
forward_found (edit.Hit x y) doc c a = absurd c

-- ---- back, in the edited document

-- the document with other trees
abbrev changed : Doc → Trees Label → Doc
changed doc trees = with_root doc (doc.width, doc.height) trees

-- a change that takes a document back to an earlier one
record Returns (back : Change) (doc made : Doc) : Type 0 where
  pub is : turned back made ≡ doc
  pub found : IsFound back made

-- a change that keeps the viewport, and gives the trees that were there, gives the document
given_back : (back : Change) (doc : Doc) (x : Label) (trees : Trees Label) → IsOne x trees → ((size : ℤ × ℤ) → turned_size back size ≡ size) → turned_trees back trees ≡ tree_of doc → turned back (changed doc trees) ≡ doc
given_back back doc x trees one keeps e =
    let made : Doc = changed doc trees in
    ap (λ (size : ℤ × ℤ). with_root made size (turned_trees back (tree_of made))) (keeps (made.width, made.height)) ∙ ap (λ (t : Trees Label). changed made (turned_trees back t)) (tree_with doc x trees one)
    ∙ ap (changed made) e ∙ with_own doc trees x one

-- one tree, with some label at its root
record HasOne (trees : Trees Label) : Type 0 where
  pub label : Label
  pub one : IsOne label trees

one_relabelled : (name : Word) (u : Label → Label) (x : Label) (below : Trees Label) → HasOne (relabelled name u (tree x below leafless))
one_relabelled name u x below = by_name (bytes_eq x.name name)
  where
    by_name : (e : Bool) → HasOne (cond e (tree (u x) below leafless) (tree x (relabelled name u below) leafless))
    by_name true = record { label = u x; one = record { below = below; is = refl } }
    by_name false = record { label = x; one = record { below = relabelled name u below; is = refl } }

-- the values of a node are changed, and then are as the node has them in the document
values_back : (back : Change) (doc : Doc) (name : Word) (first : Label → Label) (second : Plain → Label → Label) → ((x : Label) → (first x).name ≡ x.name)
    → ((x : Label) (below : Trees Label) → second (plain_of x below) (first x) ≡ x) → ((size : ℤ × ℤ) → turned_size back size ≡ size)
    → ((t : Trees Label) → turned_trees back t ≡ relabelled name (second (node_at name doc)) t) → IsDistinct (tree_of doc)
    → turned back (changed doc (relabelled name first (tree_of doc))) ≡ doc
values_back back doc name first second same undone keeps is d =
    let one = one_relabelled name first (label_of doc.root) doc.root.children in
    given_back back doc one.label (relabelled name first (tree_of doc)) one.one keeps
    (is (relabelled name first (tree_of doc))
    ∙ relabel_back name first (second (node_at name doc)) same (tree_of doc) (each_named name (IsUndone first (second (node_at name doc))) (tree_of doc) d (at_top (tree_at name (tree_of doc)))))
  where
    at_top : (u : Trees Label) → OfTop (IsUndone first (second (unwrap_or (top_of u) doc.root))) u
    at_top leafless = tt
    at_top (tree x below after) = undone x below

-- the node is there after a change of its values
still_there : (doc : Doc) (name : Word) (u : Label → Label) → ((x : Label) → (u x).name ≡ x.name) → IsThere name doc → IsThere name (changed doc (relabelled name u (tree_of doc)))
still_there doc name u same h =
    let one = one_relabelled name u (label_of doc.root) doc.root.children in
    ap (λ (t : Trees Label). holds t name) (tree_with doc one.label (relabelled name u (tree_of doc)) one.one) ∙ relabel_holds name u same (tree_of doc) name ∙ h

-- where a node below the root stands
below_root : (doc : Doc) (name : Word) → IsBelowRoot name doc → StandsAt name (position_of name doc).0 (position_of name doc).1 (tree_of doc)
below_root doc name b = by_position (position_in name (tree_of doc)) (position_stands name (tree_of doc) b.there (rw b.no_root refl))
  where
    by_position : (o : Option Position) → Stands name o (tree_of doc) → StandsAt name (unwrap_or o (doc.root.name, 0)).0 (unwrap_or o (doc.root.name, 0)).1 (tree_of doc)
    by_position None s = absurd s
    by_position (Some position) s = s

-- ---- a node that was taken out
one_removed : (name : Word) (x : Label) (below : Trees Label) → bytes_eq x.name name ≡ false → IsOne x (removed name (tree x below leafless))
one_removed name x below e = rw e (record { below = removed name below; is = refl })

remove_returns : (named : Named) (doc : Doc) → IsDistinct (tree_of doc) → IsBelowRoot named.name doc → Returns (back_of doc (edit.Remove named)) doc (applied (edit.Remove named) doc)
remove_returns named doc d b =
    let name = named.name in
    let position = position_of name doc in
    let stands = below_root doc name b in
    let left : Trees Label = removed name (tree_of doc) in
    let one = one_removed name (label_of doc.root) doc.root.children b.no_root in
    let node : tree_of_node (node_at name doc) ≡ tree_at name (tree_of doc) = node_tree doc.root name (tree_at name (tree_of doc)) (is_tree_at name (tree_of doc) d) (tree_held name (tree_of doc) b.there) in
    record {
      is = given_back (back_of doc (edit.Remove named)) doc (label_of doc.root) left one (λ _. refl) (ap (λ (t : Trees Label). grafted position.0 position.1 t left) node ∙ graft_back name position.0 position.1 (tree_of doc) d stands);
      found = subst (HasIndex position.0 position.1) (sym (tree_with doc (label_of doc.root) left one)) (record {
        there = parent_left name position.0 position.1 (tree_of doc) d stands;
        within = index_within name position.0 position.1 (tree_of doc) d stands;
      });
    }

-- ---- a node that was moved
move_returns : (named parent : Named) (i : ℕ) (at : Place) (doc made : Doc) → IsDistinct (tree_of doc) → edited (edit.Move named parent i at) doc ≡ Ok made → Returns (back_of doc (edit.Move named parent i at)) doc made
move_returns named parent i at doc made d h =
    let a = accepts (edit.Move named parent i at) doc made h in
    let can : CanShift named.name parent.name i doc = forward_found (edit.Move named parent i at) doc tt a.none in
    let name = named.name in
    let position = position_of name doc in
    let stands = below_root doc name can.node in
    let under : Trees Label = tree_at name (tree_of doc) in
    let left : Trees Label = removed name (tree_of doc) in
    let trees : Trees Label = moved name parent.name i (tree_of doc) in
    let one = one_moved name parent.name i (label_of doc.root) doc.root.children can.node.no_root in
    let whole : tree_of made ≡ trees = ap tree_of (sym a.is) ∙ tree_with doc (label_of doc.root) trees one in
    let parent_stays = still_left name (tree_of doc) parent.name can.parent_there can.outside in
    let is_one = is_tree_at name (tree_of doc) d in
    let gone = left_less name (tree_of doc) d in
    let same_tree : tree_at name (tree_of made) ≡ under = ap (tree_at name) whole ∙ tree_graft parent.name i name under left is_one (removed_distinct name (tree_of doc) d) gone parent_stays in
    let same_left : removed name (tree_of made) ≡ left = ap (removed name) whole ∙ left_graft parent.name i name under left is_one gone in
    record {
      is = move_undone named parent (record { name = position.0; at = at }) i position.1 at at doc made d stands h;
      found = record {
        node = record {
          there = not_false _ (λ e. not_both _ (ap (λ (t : Trees Label). holds t name) same_tree ∙ tree_held name (tree_of doc) can.node.there) (less_inside name (tree_of made) name e));
          no_root = ap (λ (e : Doc). bytes_eq e.root.name name) (sym a.is) ∙ ap (λ (n : Word). bytes_eq n name) (root_name doc (label_of doc.root) trees one) ∙ can.node.no_root;
        };
        parent_there = not_false _ (λ e. not_both _ (ap (λ (t : Trees Label). holds t position.0) same_left ∙ parent_left name position.0 position.1 (tree_of doc) d stands) (less_left name (tree_of made) position.0 e));
        outside = ap (λ (t : Trees Label). holds t position.0) same_tree ∙ parent_outside name position.0 position.1 (tree_of doc) d stands;
        within = subst (λ (t : Trees Label). position.1 ≤ child_count position.0 t) (sym same_left) (index_within name position.0 position.1 (tree_of doc) d stands);
      };
    }

-- ---- a node that was inserted
insert_returns : (parent named : Named) (i : ℕ) (at : Place) (node : Plain) (doc made : Doc) → node.name ≡ named.name → edited (edit.Insert parent i at named node) doc ≡ Ok made
    → Returns (back_of doc (edit.Insert parent i at named node)) doc made
insert_returns parent named i at node doc made same h =
    let a = accepts (edit.Remove named) made doc (insert_undone parent named named i at node doc made same refl h) in
    record { is = a.is; found = forward_found (edit.Remove named) made tt a.none }

-- ---- each edit
returns : (e : Edit) (doc made : Doc) → IsSound doc → IsChange e → NamesItsNode e → edited e doc ≡ Ok made → Accepts e doc made → Returns (back_of doc e) doc made
returns (edit.Set named settings) doc made s c n h a = subst (Returns (back_of doc (edit.Set named settings)) doc) a.is (record {
  is = values_back (back_of doc (edit.Set named settings)) doc named.name (with_set settings) (λ node. with_style (values_in node.style (props_of settings))) (λ _. refl)
      (λ x below. ap (λ (style : DeclaredMap). record x { style = style }) (set_back settings x.style)) (λ _. refl) (λ _. refl) s.distinct;
  found = still_there doc named.name (with_set settings) (λ _. refl) (is_there doc named a.none.0);
})
returns (edit.Unset named props) doc made s c n h a = subst (Returns (back_of doc (edit.Unset named props)) doc) a.is (record {
  is = values_back (back_of doc (edit.Unset named props)) doc named.name (with_unset props) (λ node. with_style (values_in node.style props)) (λ _. refl)
      (λ x below. ap (λ (style : DeclaredMap). record x { style = style }) (unset_back props x.style)) (λ _. refl) (λ _. refl) s.distinct;
  found = still_there doc named.name (with_unset props) (λ _. refl) (is_there doc named a.none.0);
})
returns (edit.Insert parent index at named node) doc made s c n h a = insert_returns parent named index at node doc made n h
returns (edit.Remove named) doc made s c n h a = subst (Returns (back_of doc (edit.Remove named)) doc) a.is (remove_returns named doc s.distinct (forward_found (edit.Remove named) doc tt a.none))
returns (edit.Move named parent index at) doc made s c n h a = move_returns named parent index at doc made s.distinct h
returns (edit.Content named kind) doc made s c n h a = subst (Returns (back_of doc (edit.Content named kind)) doc) a.is (record {
  is = values_back (back_of doc (edit.Content named kind)) doc named.name (with_kind kind) (λ node. with_kind node.kind) (λ _. refl) (λ _ _. refl) (λ _. refl) (λ _. refl) s.distinct;
  found = still_there doc named.name (with_kind kind) (λ _. refl) (is_there doc named a.none.0);
})
returns (edit.Viewport width height) doc made s c n h a = subst (Returns (back_of doc (edit.Viewport width height)) doc) a.is (record { is = refl; found = tt })
returns (edit.Undo times at) doc made s c n h a = absurd c
returns (edit.Redo times at) doc made s c n h a = absurd c
returns (edit.Hit x y) doc made s c n h a = absurd c

pub step_leads : (e : Edit) (doc made : Doc) → IsSound doc → IsChange e → NamesItsNode e → edited e doc ≡ Ok made → Leads (step_for doc e) doc made
step_leads e doc made s c n h =
    let a = accepts e doc made h in
    let forth : turned (forward_of e) doc ≡ made = forward_is e doc ∙ a.is in
    let back = returns e doc made s c n h a in
    record {
      goes = record { found = forward_found e doc c a.none; sound = subst IsSound (sym forth) (edited_shaped e doc made s n h) };
      made = forth;
      returns = record { found = back.found; sound = subst IsSound (sym back.is) s };
      back = back.is;
    }
