-- What a change leaves in the kept lists.
use Rattle.std.proofs.Common.{◌≡◌, ℕ, zero, suc, ℤ, ◌≤◌, Bool, true, false, ◌&&◌, List, [], ◌∷◌, ◌++◌, map, None, IsSome, refl, sym, ap, subst, ◌∙◌, arith}
use Rattle.std.specs.Prelude.{◌||◌, if◌then◌else◌}
use Rattle.std.proofs.lemmas.Bool.{or_left, or_parts, or_right}
use Rattle.plain_tree.specs.Trees.{leafless, tree, count_of}
use Rattle.node_arena.specs.declared.number.NodeId.{NodeId}
use Rattle.node_arena.specs.Edits.{moved, nothing, removed, tree_at}
use Rattle.node_arena.specs.Faults.{is_top}
use Rattle.node_arena.specs.Numbers.{EachNode, is_among, part_at, replaced, same, times, top_numbers}
use Rattle.node_arena.specs.Plain.{Nodes}
use Rattle.node_arena.proofs.Changed.{tops_mapped}
use Rattle.node_arena.proofs.Edited.{edited_not, tops_grafted}
use Rattle.node_arena.proofs.Parts.{each_weaker}
use Rattle.node_arena.proofs.Same.{one_yes, part_some, same_is, same_refl}
use Rattle.node_arena.proofs.Standing.{way_none}
use Rattle.layout_cache.specs.Reach.{is_above, reached, reached_by}
use Rattle.doc_text.specs.Edits.{tree_of, with_kind}
use Rattle.doc_text.specs.Label.{Label}
use Rattle.doc_text.specs.Texts.{Word}
use Rattle.edit_journal.specs.declared.change.Change.{Change}
use Rattle.edit_journal.specs.declared.change.Change.TheVariants as change
use Rattle.edit_journal.specs.Changes.{tree_of_node, with_style}
use Rattle.placing.specs.declared.node.Node.{Node}
use Rattle.placing.specs.Kept.{IsRight, kept_at}
use Rattle.placing.specs.Nodes.{BareTrees, NodeTrees, bare}
use Rattle.placing.proofs.Bares.{live_bare}
use Rattle.box_layout.specs.LastBoxes.{AreFound, Found, IsFound}
use Rattle.reach_frame.specs.Local.{IsLocal}
use Rattle.reach_frame.proofs.Frame.{child_live}
use Rattle.reach_frame.proofs.Unreached.{node_sub}
use Rattle.page_tree.specs.Documents.{plain_trees}
use Rattle.page_tree.specs.Forgotten.{Forgets, is_brought}
use Rattle.page_tree.specs.Left.{all_left, left_in}
use Rattle.page_tree.specs.Marking.{AreMarked, IsReach, MarksChange}
use Rattle.page_tree.specs.Pages.{Held, Stands, document_of, trees_in}
use Rattle.page_tree.specs.Reach.{KeepsOn, LeavesOthers, is_felt, is_marked, is_placing, reaches, touches}
use Rattle.page_tree.specs.Restyled.{Styles, restyled, styled_from}
use Rattle.page_tree.specs.Shapes.{IsChanged, Relabels}
use Rattle.page_tree.proofs.Bares.{same_count, same_plain}
use Rattle.page_tree.proofs.Locals.{among_times, bring_change, numbers_of, own_nodes, take_change}
use Rattle.page_tree.proofs.Properties.{kind_change, style_change, style_settled}
use Rattle.page_tree.proofs.Reaching.{AreSettled, IsChange, IsFrom, IsWhole, bare_left, kept_after, right_left}
use Rattle.page_tree.proofs.Refusals.{whole}
use Rattle.page_tree.proofs.Shifted.{shift_change}
use Rattle.page_tree.proofs.StillFound.{FindsOn, finds_on, stood_before}
use Rattle.page_tree.proofs.Subgrids.{subgrids}

-- ---- the root stays
tops_removed : (id : NodeId) (t : NodeTrees) → count_of t ≡ 1 → is_top t id ≡ false → top_numbers (removed id t) ≡ top_numbers t
tops_removed id leafless one low = refl
tops_removed id (tree x below (tree y under later)) one low = absurd (omega (arith, one))
tops_removed id (tree x below leafless) one low = ap top_numbers (edited_not id nothing x below leafless (or_parts (same x.0 id) false low).0)

tops_restyled : (styles : Styles) (t : NodeTrees) → top_numbers (restyled styles t) ≡ top_numbers t
tops_restyled styles t = tops_mapped (λ k (v : Node). record v { style = styled_from styles k v.style }) t

tops_relabelled : (name : Word) (f : Label → Label) (t u : NodeTrees) → Relabels name f t u → top_numbers u ≡ top_numbers t
tops_relabelled name f t u h = ap top_numbers h.is ∙ tops_restyled h.styles (replaced h.id h.value t) ∙ tops_mapped (λ k (v : Node). if same k h.id then h.value else v) t

tops_changed : (e : Change) (t u : NodeTrees) → count_of t ≡ 1 → IsChanged e t u → top_numbers u ≡ top_numbers t
tops_changed (change.Style name values) t u one h = tops_relabelled name (with_style values) t u h
tops_changed (change.Take name) t u one h = ap top_numbers h.is ∙ tops_removed h.id t one h.low
tops_changed (change.Bring parent index node) t u one h = ap top_numbers h.is ∙ tops_grafted h.upper index h.new t
tops_changed (change.Shift name parent index) t u one h =
    ap top_numbers h.is ∙ tops_restyled h.styles (moved h.id h.to index t) ∙ tops_grafted h.to index (tree_at h.id t) (removed h.id t) ∙ tops_removed h.id t one h.apart.low
tops_changed (change.Kind name kind) t u one h = tops_relabelled name (with_kind kind) t u h
tops_changed (change.View width height) t u one h = ap top_numbers h

-- ---- a number that is not there reaches nothing
reached_alike : (f g above : NodeId → Bool) (grid felt : Bool) (s : NodeTrees) → ((k : NodeId) → 1 ≤ times k s → f k ≡ g k) → reached node_sub f above grid felt s ≡ reached node_sub g above grid felt s
reached_alike f g above grid felt leafless h = refl
reached_alike f g above grid felt (tree x below after) h =
    let inner =
    ap (λ b. reached node_sub f above grid ((grid && b) || (felt && node_sub x.1)) below) (h x.0 (omega (arith, one_yes (same x.0 x.0) (same_refl x.0))))
    ∙ reached_alike f g above grid ((grid && g x.0) || (felt && node_sub x.1)) below (λ k l. h k (omega arith)) in
    λ i. (if above x.0 || (felt && node_sub x.1) then x.0 ∷ inner i else []) ++ reached_alike f g above grid felt after (λ k l. h k (omega arith)) i

one_more : (c : NodeId) (ts : List NodeId) (grid : Bool) (t : NodeTrees) → times c t ≡ 0 → reached_by node_sub t (c ∷ ts) grid ≡ reached_by node_sub t ts grid
one_more c ts grid t none =
    (λ i. reached node_sub (λ n. is_among n (c ∷ ts)) (λ n. is_among n (way_none t c none i) || is_above t ts n) grid false t)
    ∙ reached_alike (λ n. is_among n (c ∷ ts)) (λ n. is_among n ts) (is_above t ts) grid false t (λ k l. ap (λ b. b || is_among k ts) (other k l))
  where
    other : (k : NodeId) → 1 ≤ times k t → same c k ≡ false
    other k l = at (same c k) refl
      where
        at : (b : Bool) → same c k ≡ b → same c k ≡ false
        at true g = absurd (omega (arith, l, none, ap (λ n. times n t) (same_is c k g)))
        at false g = g

more_reached : (cs ts : List NodeId) (grid : Bool) (t : NodeTrees) → ((n : NodeId) → is_among n cs ≡ true → times n t ≡ 0) → reached_by node_sub t (cs ++ ts) grid ≡ reached_by node_sub t ts grid
more_reached [] ts grid t none = refl
more_reached (c ∷ cs) ts grid t none = one_more c (cs ++ ts) grid t (none c (or_left _ _ (same_refl c))) ∙ more_reached cs ts grid t (λ n m. none n (or_right (same c n) _ m))

-- ---- any change
pub marks_change : (e : Change) (t : NodeTrees) (numbers : List NodeId) → MarksChange e (plain_trees t) t numbers → AreMarked (is_marked e (plain_trees t)) t numbers
marks_change (change.Style name values) t numbers h = h.each
marks_change (change.Take name) t numbers h = h.each
marks_change (change.Bring parent index node) t numbers h = h.each
marks_change (change.Shift name parent index) t numbers h = h.each
marks_change (change.Kind name kind) t numbers h = h.each
marks_change (change.View width height) t numbers h = h.each

still_local : (touched : NodeId → Bool) (b : BareTrees) → IsLocal touched false b b
still_local touched b =
    record {
      own = λ n live calm. refl;
      shows = λ n live calm. record { live = live; own = refl; children = refl; siblings = refl };
      stays = λ q n i e live calm. child_live b q n i e;
    }

-- where the numbers that a change marks reach these
abbrev pub IsLeft : Change → NodeTrees → NodeTrees → List NodeId → Type 0
IsLeft e t u list =
    EachNode (λ x. KeepsOn (reaches e (plain_trees t) (plain_trees t) x.1.name || reaches e (plain_trees t) (plain_trees u) x.1.name) t x) (left_in (is_felt e (plain_trees t)) (is_placing e) list u)
    × (IsRight t → IsRight (left_in (is_felt e (plain_trees t)) (is_placing e) list u))
    × FindsOn t (left_in (is_felt e (plain_trees t)) (is_placing e) list u) list

module _ (t u : NodeTrees) (st : Stands t) (su : Stands u) where
  root_of : (root : NodeId) × (top_numbers t ≡ root ∷ [])
  root_of = at t st.rooted
    where
      at : (s : NodeTrees) → count_of s ≡ 1 → (root : NodeId) × (top_numbers s ≡ root ∷ [])
      at leafless one = absurd (omega (arith, one))
      at (tree x below (tree y under later)) one = absurd (omega (arith, one))
      at (tree x below leafless) one = (x.0, refl)

  by_change : (e : Change) (list ts : List NodeId) → top_numbers u ≡ top_numbers t → IsChange ts (is_felt e (plain_trees t)) (is_marked e (plain_trees t)) t u → (is_placing e ≡ false → AreSettled t u) →
      list ≡ reached_by node_sub t ts (is_felt e (plain_trees t)) → IsLeft e t u list
  by_change e list ts tops c settled is =
      let root = root_of in
      let wt : IsWhole root.0 t = record { distinct = st.distinct; tops = root.1; low = st.low; named = st.named; subgrids = subgrids t st.rooted st.styled } in
      let wu : IsWhole root.0 u = record { distinct = su.distinct; tops = tops ∙ root.1; low = su.low; named = su.named; subgrids = subgrids u su.rooted su.styled } in
      let grid = is_felt e (plain_trees t) in
      let marks = is_marked e (plain_trees t) in
      subst (IsLeft e t u) (sym is) (kept_after ts grid (is_placing e) marks root.0 t u wt wu c, right_left ts grid (is_placing e) marks root.0 t u wt wu c settled, finds_on ts grid (is_placing e) marks root.0 t u wt wu c)

  -- a change that may change areas settles nothing
  placed : true ≡ false → AreSettled t u
  placed e = absurd cc

  pub left_by : (e : Change) (list : List NodeId) → IsChanged e t u → IsReach e (plain_trees t) t list → IsLeft e t u list
  left_by (change.Style name values) list h r =
      by_change (change.Style name values) list r.numbers (tops_changed (change.Style name values) t u st.rooted h) (style_change t u st.distinct st.rooted st.styled su.styled name values r.numbers h r.marked)
      (style_settled t u st.distinct st.rooted st.styled su.styled name values r.numbers h r.marked) r.is
  left_by (change.Take name) list h r =
      by_change (change.Take name) list r.numbers (tops_changed (change.Take name) t u st.rooted h) (take_change t u st.distinct name r.numbers h r.marked) placed r.is
  left_by (change.Bring parent index node) list h r =
      by_change (change.Bring parent index node) list (numbers_of h.new ++ r.numbers) (tops_changed (change.Bring parent index node) t u st.rooted h)
      (bring_change t u st.distinct parent index (tree_of_node node) r.numbers h r.marked) placed
      (r.is ∙ sym (more_reached (numbers_of h.new) r.numbers true t (λ n m. h.begun.fresh n (among_times n h.new m))))
  left_by (change.Shift name parent index) list h r =
      by_change (change.Shift name parent index) list r.numbers (tops_changed (change.Shift name parent index) t u st.rooted h) (shift_change t u st.distinct st.rooted st.styled name parent index r.numbers h r.marked) placed r.is
  left_by (change.Kind name kind) list h r =
      by_change (change.Kind name kind) list r.numbers (tops_changed (change.Kind name kind) t u st.rooted h) (kind_change t u st.distinct st.rooted st.styled su.styled name kind r.numbers h r.marked) placed r.is
  left_by (change.View width height) list h r =
      by_change (change.View width height) list r.numbers (ap top_numbers h)
      (record {
        local = subst (λ s. IsLocal (λ n. is_among n r.numbers) false (bare t) (bare s)) (sym h) (still_local (λ n. is_among n r.numbers) (bare t));
        before = r.marked;
        after = subst (EachNode (λ x. is_among x.0 r.numbers ≡ false)) (sym h) r.marked;
        nodes = subst (EachNode (IsFrom r.numbers false t)) (sym h) (own_nodes r.numbers false t st.distinct);
      }) placed r.is

-- of a page
pub page_left : (e : Change) (old between new : Held) (list : List NodeId) → Stands old.nodes.tree → Stands between.nodes.tree → IsChanged e old.nodes.tree between.nodes.tree → IsReach e (trees_in old) old.nodes.tree list →
    new.nodes ≡ all_left (is_felt e (trees_in old)) (is_placing e) list between.nodes → LeavesOthers e old new × (IsRight old.nodes.tree → IsRight new.nodes.tree)
page_left e old between new list so sb h r is =
    let t = old.nodes.tree in
    let u = between.nodes.tree in
    let felt = is_felt e (plain_trees t) in
    let w = left_in felt (is_placing e) list u in
    let tree_is : new.nodes.tree ≡ w = ap (λ (n : Nodes Node). n.tree) is in
    let left = left_by t u so sb e list h r in
    let one : count_of new.nodes.tree ≡ 1 = ap count_of tree_is ∙ same_count w u (bare_left felt (is_placing e) list u) ∙ sb.rooted in
    let before : tree_of (document_of old) ≡ plain_trees t = whole old so.rooted in
    let after : tree_of (document_of new) ≡ plain_trees u = whole new one ∙ ap plain_trees tree_is ∙ same_plain w u (bare_left felt (is_placing e) list u) in (
      subst (EachNode (λ x. KeepsOn (touches e (document_of old) (document_of new) x.1.name) t x)) (sym tree_is)
          (each_weaker (λ x. KeepsOn (reaches e (plain_trees t) (plain_trees t) x.1.name || reaches e (plain_trees t) (plain_trees u) x.1.name) t x) (λ x. KeepsOn (touches e (document_of old) (document_of new) x.1.name) t x) w
          (λ x k. subst (λ b. KeepsOn b t x) (λ i. reaches e (sym before i) (sym before i) x.1.name || reaches e (sym before i) (sym after i) x.1.name) k) left.0),
      (λ q. subst IsRight (sym tree_is) (left.1 q)),
    )

-- what was found last of the containers that are left when the reached ones are forgotten, and those that the change brought, still holds
pub page_found : (e : Change) (old between new : Held) (list : List NodeId) → Stands old.nodes.tree → Stands between.nodes.tree → IsChanged e old.nodes.tree between.nodes.tree → IsReach e (trees_in old) old.nodes.tree list →
    new.nodes ≡ all_left (is_felt e (trees_in old)) (is_placing e) list between.nodes → (all some rest : List Found) → AreFound (bare old.nodes.tree) (kept_at old.nodes.tree) all →
    Forgets (is_brought e new.nodes.tree) all some → Forgets (λ n. is_among n list) some rest → AreFound (bare new.nodes.tree) (kept_at new.nodes.tree) rest
page_found e old between new list so sb h r is all some rest right made reached f here live =
    let t = old.nodes.tree in
    let u = between.nodes.tree in
    let felt = is_felt e (plain_trees t) in
    let w = left_in felt (is_placing e) list u in
    let tree_is : new.nodes.tree ≡ w = ap (λ (n : Nodes Node). n.tree) is in
    let second = reached f here in
    let first = made f second.0 in
    let new_live : IsSome (part_at new.nodes.tree f.id) = sym (live_bare new.nodes.tree f.id) ∙ live in
    let old_live = stood_before e t u new.nodes.tree so.distinct h (ap bare tree_is ∙ bare_left felt (is_placing e) list u) f.id new_live first.1 in
    subst (λ (s : NodeTrees). IsFound (bare s) (kept_at s) f) (sym tree_is)
    ((left_by t u so sb e list h r).2 f (right f first.0 (live_bare t f.id ∙ old_live)) old_live (subst (λ (s : NodeTrees). IsSome (part_at s f.id)) tree_is new_live) second.1)
