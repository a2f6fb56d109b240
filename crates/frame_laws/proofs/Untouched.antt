-- The documents before and after a change agree at each node that it does not touch.
use Rattle.std.proofs.Common.{◌≡◌, refl, ap, sym, subst, ◌∙◌, ℤ, ◌||◌, if◌then◌else◌, Bool, true, false, List, [], ◌∷◌, ◌++◌, Option, Some, None, Ok, arith, inl, inr}
use Rattle.std.proofs.lemmas.Bool.{or_parts}
use Rattle.plain_tree.specs.Trees.{count_of, leafless, map_trees, tree}
use Rattle.node_arena.specs.declared.number.NodeId.{NodeId}
use Rattle.node_arena.specs.Edits.{moved, nothing, removed, tree_at}
use Rattle.node_arena.specs.Faults.{is_top}
use Rattle.node_arena.specs.Numbers.{EachNode, Part, is_among, mapped, part_at, replaced, same, top_numbers, value_at, value_of}
use Rattle.node_arena.proofs.Changed.{tops_mapped}
use Rattle.node_arena.proofs.Edited.{edited_not, tops_grafted}
use Rattle.layout_cache.specs.Reach.{reached_by}
use Rattle.doc_text.specs.declared.document.Doc.{Doc}
use Rattle.doc_text.specs.declared.edit.Edit.{Edit}
use Rattle.doc_text.specs.Edits.{edited, tree_of, with_kind}
use Rattle.doc_text.specs.Growth.{holds}
use Rattle.doc_text.specs.Label.{Label}
use Rattle.doc_text.specs.Laws.{IsChange, NamesItsNode}
use Rattle.doc_text.specs.Named.{IsDistinct as NamesDiffer}
use Rattle.doc_text.specs.Texts.{Word}
use Rattle.doc_text.proofs.Grown.{not_both}
use Rattle.edit_journal.specs.declared.change.Change.{Change}
use Rattle.edit_journal.specs.declared.change.Change.TheVariants as change
use Rattle.edit_journal.specs.Changes.{CanTurn, IsSound, tree_of_node, turned, with_style}
use Rattle.edit_journal.specs.Steps.{forward_of}
use Rattle.edit_journal.proofs.Stepping.{step_leads}
use Rattle.placing.specs.declared.node.Node.{Node}
use Rattle.placing.specs.Nodes.{BareTrees, NodeTrees, bare, bare_of, label_in, sight_at}
use Rattle.reach_frame.specs.Local.{IsLocal}
use Rattle.reach_frame.proofs.Frame.{child_live}
use Rattle.reach_frame.proofs.Marked.{all_found}
use Rattle.reach_frame.proofs.Unreached.{node_sub, same_sight}
use Rattle.page_tree.specs.Documents.{plain_trees}
use Rattle.page_tree.specs.Fonts.{IsStyled, root_font}
use Rattle.page_tree.specs.Pages.{Held, Stands, document_of, plain_root}
use Rattle.page_tree.specs.Reach.{is_felt, is_marked, is_touched, reaches, touches}
use Rattle.page_tree.specs.Registers.{Tells}
use Rattle.page_tree.specs.Restyled.{Styles, restyled, styled_from}
use Rattle.page_tree.specs.Shapes.{IsChanged, Relabels}
use Rattle.page_tree.proofs.Locals.{bring_change, found_value, numbers_of, own_nodes, take_change}
use Rattle.page_tree.proofs.Properties.{kind_change, style_change}
use Rattle.page_tree.proofs.Reaching.{IsChange as IsLocalChange, IsFrom, each_at, marked_reached, plain_reached, there_in}
use Rattle.page_tree.proofs.Shifted.{shift_change}
use Rattle.page_tree.proofs.Subgrids.{subgrids}
use Rattle.asked_pages.specs.AskedOf.{labels_of}
use Rattle.page_tree.proofs.Laying.{label_computed, trees_computed}
use Rattle.frame_laws.specs.Agreement.{AgreeAt}
use Rattle.frame_laws.proofs.Agreeing.{agree_by}
use Rattle.frame_laws.proofs.Marked.{all_marked, marked_in}
use Rattle.frame_laws.proofs.Named.{named_seen}
use Rattle.frame_laws.proofs.Pages.{find_there, held_by, turn_exists}

-- ---- the root stays

tops_removed : (id : NodeId) (t : NodeTrees) → count_of t ≡ 1 → is_top t id ≡ false → top_numbers (removed id t) ≡ top_numbers t
tops_removed id leafless one low = refl
tops_removed id (tree x below (tree y under later)) one low = absurd (omega (arith, one))
tops_removed id (tree x below leafless) one low = ap top_numbers (edited_not id nothing x below leafless (or_parts (same x.0 id) false low).0)

tops_restyled : (styles : Styles) (t : NodeTrees) → top_numbers (restyled styles t) ≡ top_numbers t
tops_restyled styles t = tops_mapped (λ k (v : Node). record v { style = styled_from styles k v.style }) t

tops_relabelled : (name : Word) (f : Label → Label) (t u : NodeTrees) → Relabels name f t u → top_numbers u ≡ top_numbers t
tops_relabelled name f t u h = ap top_numbers h.is ∙ tops_restyled h.styles (replaced h.id h.value t) ∙ tops_mapped (λ k (v : Node). if same k h.id then h.value else v) t

tops_changed : (e : Change) (t u : NodeTrees) → count_of t ≡ 1 → IsChanged e t u → top_numbers u ≡ top_numbers t
tops_changed (change.Style name values) t u one h = tops_relabelled name (with_style values) t u h
tops_changed (change.Take name) t u one h = ap top_numbers h.is ∙ tops_removed h.id t one h.low
tops_changed (change.Bring parent index node) t u one h = ap top_numbers h.is ∙ tops_grafted h.upper index h.new t
tops_changed (change.Shift name parent index) t u one h =
    ap top_numbers h.is ∙ tops_restyled h.styles (moved h.id h.to index t) ∙ tops_grafted h.to index (tree_at h.id t) (removed h.id t) ∙ tops_removed h.id t one h.apart.low
tops_changed (change.Kind name kind) t u one h = tops_relabelled name (with_kind kind) t u h
tops_changed (change.View width height) t u one h = ap top_numbers h

one_root : (t : NodeTrees) → count_of t ≡ 1 → (root : NodeId) × (top_numbers t ≡ root ∷ [])
one_root leafless one = absurd (omega (arith, one))
one_root (tree x below (tree y under later)) one = absurd (omega (arith, one))
one_root (tree x below leafless) one = (x.0, refl)

-- ---- a change as each node sees it

still_local : (touched : NodeId → Bool) (b : BareTrees) → IsLocal touched false b b
still_local touched b =
    record {
      own = λ n live calm. refl;
      shows = λ n live calm. record { live = live; own = refl; children = refl; siblings = refl };
      stays = λ q n i e live calm. child_live b q n i e;
    }

record Local (c : Change) (t u : NodeTrees) : Type 0 where
  numbers : List NodeId
  is : IsLocalChange numbers (is_felt c (plain_trees t)) (is_marked c (plain_trees t)) t u

module _ (t u : NodeTrees) (st : Stands t) (su : Stands u) where
  local : (c : Change) → IsChanged c t u → Local c t u
  local (change.Style name values) h =
      let ts = marked_in (is_marked (change.Style name values) (plain_trees t)) t in
      let marked = all_marked (is_marked (change.Style name values) (plain_trees t)) t st.distinct in
      record { numbers = ts; is = style_change t u st.distinct st.rooted st.styled su.styled name values ts h marked }
  local (change.Take name) h =
      let ts = marked_in (is_marked (change.Take name) (plain_trees t)) t in
      let marked = all_marked (is_marked (change.Take name) (plain_trees t)) t st.distinct in
      record { numbers = ts; is = take_change t u st.distinct name ts h marked }
  local (change.Bring parent index node) h =
      let ts = marked_in (is_marked (change.Bring parent index node) (plain_trees t)) t in
      let marked = all_marked (is_marked (change.Bring parent index node) (plain_trees t)) t st.distinct in
      record { numbers = numbers_of h.new ++ ts; is = bring_change t u st.distinct parent index (tree_of_node node) ts h marked }
  local (change.Shift name parent index) h =
      let ts = marked_in (is_marked (change.Shift name parent index) (plain_trees t)) t in
      let marked = all_marked (is_marked (change.Shift name parent index) (plain_trees t)) t st.distinct in
      record { numbers = ts; is = shift_change t u st.distinct st.rooted st.styled name parent index ts h marked }
  local (change.Kind name kind) h =
      let ts = marked_in (is_marked (change.Kind name kind) (plain_trees t)) t in
      let marked = all_marked (is_marked (change.Kind name kind) (plain_trees t)) t st.distinct in
      record { numbers = ts; is = kind_change t u st.distinct st.rooted st.styled su.styled name kind ts h marked }
  local (change.View width height) h =
      let ts = marked_in (is_marked (change.View width height) (plain_trees t)) t in
      let marked = all_marked (is_marked (change.View width height) (plain_trees t)) t st.distinct in
      record {
        numbers = ts;
        is = record {
          local = subst (λ s. IsLocal (λ n. is_among n ts) false (bare t) (bare s)) (sym h) (still_local (λ n. is_among n ts) (bare t));
          before = marked;
          after = subst (EachNode (λ x. is_among x.0 ts ≡ false)) (sym h) marked;
          nodes = subst (EachNode (IsFrom ts false t)) (sym h) (own_nodes ts false t st.distinct);
        };
      }

  -- ---- a name that the change does not reach

  module _ (c : Change) (h : IsChanged c t u) (name : Word) where
    abbrev Agree : Type 0
    Agree = AgreeAt name (map_trees label_in (bare t)) (map_trees label_in (bare u))

    -- its node in the new trees, which stood in the old ones
    stood : (ts : List NodeId) → IsLocalChange ts (is_felt c (plain_trees t)) (is_marked c (plain_trees t)) t u → (k : NodeId) (v w : Node) → value_at t k ≡ Some v → v.name ≡ name → value_at u k ≡ Some w → Tells k name u
        → reaches c (plain_trees t) (plain_trees t) name ≡ false → Agree
    stood ts l k v w old is new tells calm =
        let root = one_root t st.rooted in
        let tells_old : Tells k name t = subst (λ z. Tells k z t) is (each_at (λ x. Tells x.0 x.1.name t) t k v st.named old) in
        let not_found : is_among k (reached_by node_sub t ts (is_felt c (plain_trees t))) ≡ false =
        all_found node_sub t ts (is_felt c (plain_trees t)) k st.distinct
        ∙ sym (plain_reached name k (is_marked c (plain_trees t)) (λ n. is_among n ts) (is_felt c (plain_trees t)) false t tells_old l.before (subgrids t st.rooted st.styled))
        ∙ calm in
        let sight = same_sight t u st.distinct su.distinct root.0 root.1 (tops_changed c t u st.rooted h ∙ root.1) st.low su.low ts (is_felt c (plain_trees t)) l.local k (there_in t k v old) (there_in u k w new) not_found in
        agree_by name (map_trees label_in (bare t)) (map_trees label_in (bare u)) (sight_at (bare t) k) (named_seen name k t tells_old (there_in t k v old)) (named_seen name k u tells (there_in u k w new) ∙ ap Some sight.0)

    -- a node that the change marks is reached
    marked_new : (k : NodeId) (w : Node) → value_at u k ≡ Some w → w.name ≡ name → is_marked c (plain_trees t) name ≡ true → reaches c (plain_trees t) (plain_trees u) name ≡ true
    marked_new k w new is m = at (part_at u k) refl new
      where
        at : (o : Option (Part Node)) → part_at u k ≡ o → value_of o ≡ Some w → reaches c (plain_trees t) (plain_trees u) name ≡ true
        at None e f = absurd cc
        at (Some q) e f = marked_reached name (is_marked c (plain_trees t)) (is_felt c (plain_trees t)) false u k q e (ap (λ (x : Node). x.name) (some_node q.0 w f) ∙ is) m
          where
            some_node : (a b : Node) → Some a ≡ Some b → a ≡ b
            some_node a b e = cc

    pub unreached : NamesDiffer (plain_trees u) → (reaches c (plain_trees t) (plain_trees t) name || reaches c (plain_trees t) (plain_trees u) name) ≡ false → holds (plain_trees u) name ≡ true → Agree
    unreached differ calm there =
        let l = local c h in
        let k = find_there u su.distinct differ name there in
        let w = found_value u name k.0 k.1 in
        let parts = or_parts (reaches c (plain_trees t) (plain_trees t) name) (reaches c (plain_trees t) (plain_trees u) name) calm in
        by_from l.numbers l.is k.0 w.0 w.1.0 w.1.1 k.1.tells parts.0 parts.1 (each_at (IsFrom l.numbers (is_felt c (plain_trees t)) t) u k.0 w.0 l.is.nodes w.1.0)
      where
        by_from : (ts : List NodeId) → IsLocalChange ts (is_felt c (plain_trees t)) (is_marked c (plain_trees t)) t u → (k : NodeId) (w : Node) → value_at u k ≡ Some w → w.name ≡ name → Tells k name u
            → reaches c (plain_trees t) (plain_trees t) name ≡ false → reaches c (plain_trees t) (plain_trees u) name ≡ false → IsFrom ts (is_felt c (plain_trees t)) t (k, w) → Agree
        by_from ts l k w new is tells calm other (inl gone) =
            let marked : is_marked c (plain_trees t) name ≡ true = ap (is_marked c (plain_trees t)) (sym is) ∙ sym (each_at (λ x. is_among x.0 ts ≡ is_marked c (plain_trees t) x.1.name) u k w l.after new) ∙ gone.0 in
            absurd (not_both (reaches c (plain_trees t) (plain_trees u) name) (marked_new k w new is marked) other)
        by_from ts l k w new is tells calm other (inr old) = stood ts l k old.0 w old.1.0 (old.1.1.0 ∙ is) new tells calm

-- ---- documents

page_labels : (h : Held) → count_of h.nodes.tree ≡ 1 → IsStyled h.nodes.tree → map_trees label_in (bare h.nodes.tree) ≡ labels_of (document_of h)
unfolding bare
page_labels h one styled = at h.nodes.tree one styled
  where
    at : (t : NodeTrees) → count_of t ≡ 1 → IsStyled t → map_trees label_in (mapped (λ n v. bare_of v) t) ≡ labels_of (document_of (record h { nodes = record h.nodes { tree = t } }))
    at leafless e s = absurd (omega (arith, e))
    at (tree x below (tree y under after)) e s = absurd (omega (arith, e))
    at (tree x below leafless) e s =
        λ i. tree (label_computed (root_font x.1.declared) (root_font x.1.declared) x.0 x.1 s.0 i) (trees_computed (root_font x.1.declared) (root_font x.1.declared) below s.1 i) leafless

labels_by : (doc : Doc) (size : ℤ × ℤ) (t : NodeTrees) → Stands t → plain_trees t ≡ tree_of doc → map_trees label_in (bare t) ≡ labels_of doc
labels_by doc size t s plain =
    page_labels (held_by doc size t) s.rooted s.styled ∙ ap (λ z. labels_of (record doc { root = plain_root z })) plain

pub changes_agree : (c : Change) (doc : Doc) (name : Word) → IsSound doc → CanTurn c doc → touches c doc (turned c doc) name ≡ false → holds (tree_of doc) name ≡ true → holds (tree_of (turned c doc)) name ≡ true → AgreeAt name (labels_of doc) (labels_of (turned c doc))
changes_agree c doc name sound can calm there still =
    let m = turn_exists doc sound c can in
    let calm_now : (reaches c (plain_trees m.old) (plain_trees m.old) name || reaches c (plain_trees m.old) (plain_trees m.new) name) ≡ false =
    (λ i. reaches c (m.plain i) (m.plain i) name || reaches c (m.plain i) (m.now i) name) ∙ calm in
    let agree = unreached m.old m.new m.before m.after c m.changed name (subst NamesDiffer (sym m.now) can.sound.distinct) calm_now (ap (λ z. holds z name) m.now ∙ still) in
    subst (λ z. AgreeAt name z (labels_of (turned c doc))) (labels_by doc (doc.width, doc.height) m.old m.before m.plain)
    (subst (λ z. AgreeAt name (map_trees label_in (bare m.old)) z) (labels_by (turned c doc) (doc.width, doc.height) m.new m.after m.now) agree)

pub edits_agree : (e : Edit) (doc made : Doc) (name : Word) → IsSound doc → IsChange e → NamesItsNode e → edited e doc ≡ Ok made → is_touched e doc made name ≡ false → holds (tree_of doc) name ≡ true → holds (tree_of made) name ≡ true → AgreeAt name (labels_of doc) (labels_of made)
edits_agree e doc made name sound is named ok calm there still =
    let leads = step_leads e doc made sound is named ok in
    subst (λ (d : Doc). AgreeAt name (labels_of doc) (labels_of d)) leads.made
    (changes_agree (forward_of e) doc name sound leads.goes
    (ap (λ (d : Doc). touches (forward_of e) doc d name) leads.made ∙ calm) there (ap (λ (d : Doc). holds (tree_of d) name) leads.made ∙ still))

pub ruleset untouched = (changes_agree, edits_agree)
