-- Each change that a document can take is one of numbered trees, of which the old ones stand for
-- the document and the new ones for the changed one.
use Rattle.std.proofs.Common.{◌≡◌, refl, ap, sym, subst, ◌∙◌, ℕ, ℤ, ◌+◌, ◌<◌, ◌≤◌, true, false, [], ◌∷◌, Option, Some, None, IsSome, if◌then◌else◌, arith, ◌⊎◌, inl, inr}
use Rattle.std.proofs.lemmas.Bool.{cases_lt}
use Rattle.plain_tree.specs.Trees.{height_of, leafless, size_of, tree}
use Rattle.node_arena.specs.declared.number.NodeId.{NodeId}
use Rattle.node_arena.specs.Edits.{grafted, moved, removed, tree_at}
use Rattle.node_arena.specs.Faults.{is_top}
use Rattle.node_arena.specs.Numbers.{IsDistinct, Part, below_at, mapped, one, part_at, replaced, same, times}
use Rattle.node_arena.proofs.Changed.{times_mapped}
use Rattle.node_arena.proofs.Edited.{graft_summed, times_summed}
use Rattle.node_arena.proofs.Parts.{each_weaker, numbered}
use Rattle.style_types.specs.Computed.{DeclaredMap, computed_style, font_of}
use Rattle.doc_text.specs.declared.document.Doc.{Doc}
use Rattle.doc_text.specs.declared.document.Plain.{Plain}
use Rattle.doc_text.specs.declared.kind.Kind.{Kind}
use Rattle.doc_text.specs.Edits.{tree_of, with_kind, with_root}
use Rattle.doc_text.specs.Growth.{holds}
use Rattle.doc_text.specs.Label.{Label}
use Rattle.doc_text.specs.Named.{IsDistinct as NamesDiffer}
use Rattle.doc_text.specs.Texts.{Word}
use Rattle.doc_text.specs.View.{label_of as plain_label}
use Rattle.doc_text.proofs.Grown.{not_both}
use Rattle.edit_journal.specs.declared.change.Change.{Change}
use Rattle.edit_journal.specs.declared.change.Change.TheVariants as change
use Rattle.edit_journal.specs.Changes.{CanShift, CanTurn, IsSound, tree_of_node, turned, turned_size, turned_trees, with_style, with_values, Values}
use Rattle.tree_rules.specs.declared.kind.NodeKind.{NodeKind}
use Rattle.placing.specs.declared.node.Node.{Node}
use Rattle.placing.specs.Kept.{turn_at}
use Rattle.placing.specs.Nodes.{NodeTrees}
use Rattle.placing.specs.Told.{no_past}
use Rattle.page_tree.specs.Boxes.{node_kind_of}
use Rattle.page_tree.specs.Documents.{kind_of, label_of, plain_trees}
use Rattle.page_tree.specs.Fonts.{root_font, root_font_of}
use Rattle.page_tree.specs.Pages.{Held, IsPage, Stands, document_of, plain_root}
use Rattle.page_tree.specs.Registers.{Finds}
use Rattle.page_tree.specs.Restyled.{Styles, restyled, styled_from, styles_of}
use Rattle.page_tree.specs.Shapes.{IsChanged, Relabels}
use Rattle.page_tree.proofs.Changes.{grafted_count, plain_height}
use Rattle.page_tree.proofs.Fonts.{declares, grafted_styled}
use Rattle.page_tree.proofs.Locals.{found_value}
use Rattle.page_tree.proofs.Moves.{live_left}
use Rattle.page_tree.proofs.Refusals.{whole, with_root_is}
use Rattle.page_tree.proofs.Registers.{all_named, finds, not_found}
use Rattle.page_tree.proofs.Removals.{parts_times, removed_count, removed_styled}
use Rattle.page_tree.proofs.Restyled.{font_changes, fonts_change, put_at_number}
use Rattle.page_tree.proofs.Shifts.{moved_page}
use Rattle.page_tree.proofs.Turned.{apart_of, low_of, plain_changed}
use Rattle.frame_laws.proofs.Fonts.{gets_fonts, has_font}
use Rattle.frame_laws.proofs.Numbering.{at_most_one, new_node, none_before, none_behind, number, numbers, numbers_begun, numbers_distinct, numbers_plain, numbers_styled, new_label, other_number, same_kind}
use Rattle.frame_laws.proofs.Registered.{find_in, register_of}

-- ---- trees that stand

stands : (t : NodeTrees) → IsPage t → IsDistinct t → NamesDiffer (plain_trees t) → height_of (plain_trees t) ≤ 64 → Stands t
stands t p d n h =
    record {
      rooted = p.rooted;
      styled = p.styled;
      each = (numbered t d).each;
      named = all_named (find_in t) t (register_of t n d);
      distinct = d;
      low = omega (arith, plain_height t, h);
    }

-- the node of a name is found
pub find_there : (t : NodeTrees) → IsDistinct t → NamesDiffer (plain_trees t) → (name : Word) → holds (plain_trees t) name ≡ true → (id : NodeId) × Finds t name (Some id)
find_there t d n name there = at (find_in t name) refl
  where
    at : (o : Option NodeId) → find_in t name ≡ o → (id : NodeId) × Finds t name (Some id)
    at None e = absurd (not_both (holds (plain_trees t) name) there (not_found (find_in t) t name (register_of t n d) e))
    at (Some id) e = (id, finds (find_in t) t name (Some id) (register_of t n d) e)

grafted_distinct : (n : NodeId) (index : ℕ) (new t : NodeTrees) → IsDistinct t → IsSome (part_at t n) → ((m : NodeId) → times m t + times m new ≤ 1) → IsDistinct (grafted n index new t)
grafted_distinct n index new t d live few m = at (part_at t n) refl live
  where
    at : (o : Option (Part Node)) → part_at t n ≡ o → IsSome o → times m (grafted n index new t) ≤ 1
    at None e l = absurd cc
    at (Some p) e l =
        omega (arith, few m, times_summed m (grafted n index new t), times_summed m t, times_summed m new, graft_summed n index new t p (d n) e (λ (x : NodeId × Node). one (same x.0 m)))

mapped_distinct : (f : NodeId → Node → Node) (t : NodeTrees) → IsDistinct t → IsDistinct (mapped f t)
mapped_distinct f t d n = omega (arith, d n, times_mapped f n t)

-- ---- a change of numbered trees

pub record Turns (c : Change) (doc : Doc) : Type 0 where
  pub old : NodeTrees
  pub new : NodeTrees
  pub before : Stands old
  pub after : Stands new
  pub plain : plain_trees old ≡ tree_of doc
  pub now : plain_trees new ≡ tree_of (turned c doc)
  pub changed : IsChanged c old new

-- the numbered trees of a document
abbrev pub first_tree : Doc → NodeTrees
first_tree doc =
    tree (number 0, new_node (plain_label doc.root) (computed_style (root_font doc.root.style) (root_font doc.root.style) doc.root.style))
    (numbers 1 (root_font doc.root.style) (root_font doc.root.style) doc.root.children) leafless

abbrev pub held_by : Doc → ℤ × ℤ → NodeTrees → Held
held_by doc size t = record { version = doc.version; width = size.0; height = size.1; nodes = record { tree = t; made = 0; most_nodes = 0; most_children = 0 } }

module _ (doc : Doc) (sound : IsSound doc) where
  abbrev first : NodeTrees
  first = first_tree doc

  abbrev font : ℤ
  font = root_font doc.root.style

  abbrev page : Held
  page = held_by doc (doc.width, doc.height) first

  first_plain : plain_trees first ≡ tree_of doc
  first_plain = λ i. tree (new_label (plain_label doc.root) (computed_style font font doc.root.style) i) (numbers_plain 1 font font doc.root.children i) leafless

  page_is : document_of page ≡ doc
  page_is = ap (λ t. record { version = doc.version; width = doc.width; height = doc.height; root = plain_root t }) first_plain

  first_page : IsPage first
  first_page = record { rooted = omega arith; styled = (refl, numbers_styled 1 font font doc.root.children) }

  first_behind : (n : NodeId) → 1 + size_of doc.root.children ≤ n.slot → times n first ≡ 0
  first_behind n l = omega (arith, other_number 0 n (λ e. absurd (omega (arith, l, e))), none_behind 1 font font doc.root.children n l)

  first_distinct : IsDistinct first
  first_distinct n = at (cases_lt n.slot 1)
    where
      at : (n.slot < 1) ⊎ (1 ≤ n.slot) → times n first ≤ 1
      at (inl l) = omega (arith, at_most_one (same (number 0) n), none_before 1 font font doc.root.children n l)
      at (inr l) = omega (arith, other_number 0 n (λ e. absurd (omega (arith, l, e))), numbers_distinct 1 font font doc.root.children n)

  first_differ : NamesDiffer (plain_trees first)
  first_differ = subst NamesDiffer (sym first_plain) sound.distinct

  first_stands : Stands first
  first_stands = stands first first_page first_distinct first_differ (omega (arith, sound.levels, ap height_of first_plain))

  find_first : (name : Word) → holds (tree_of doc) name ≡ true → (id : NodeId) × Finds first name (Some id)
  find_first name there = find_there first first_distinct first_differ name (ap (λ t. holds t name) first_plain ∙ there)

  -- the changed trees stand for the changed document
  made : (c : Change) → CanTurn c doc → (u : NodeTrees) → IsChanged c first u → IsPage u → IsDistinct u → Turns c doc
  made c can u h p d =
      record {
        old = first;
        new = u;
        before = first_stands;
        after = stands u p d (subst NamesDiffer (sym now) can.sound.distinct) (omega (arith, can.sound.levels, ap height_of now));
        plain = first_plain;
        now = now;
        changed = h;
      }
    where
      trees : plain_trees u ≡ turned_trees c (tree_of doc)
      trees = plain_changed c first u h ∙ ap (turned_trees c) first_plain

      now : plain_trees u ≡ tree_of (turned c doc)
      now =
          sym (whole (held_by doc (turned_size c (doc.width, doc.height)) u) p.rooted)
          ∙ ap tree_of (sym (with_root_is doc (turned_size c (doc.width, doc.height)) u p.rooted))
          ∙ ap (λ t. tree_of (with_root doc (turned_size c (doc.width, doc.height)) t)) trees

  -- ---- other values

  record Relabelled (name : Word) (f : Label → Label) : Type 0 where
    tree_now : NodeTrees
    is : Relabels name f first tree_now
    page_now : IsPage tree_now
    distinct : IsDistinct tree_now

  relabel : (name : Word) (f : Label → Label) (values : Node → DeclaredMap) (kind : Node → NodeKind) → ((v : Node) → f (label_of v) ≡ record { name = v.name; kind = kind_of (kind v); style = values v }) → holds (tree_of doc) name ≡ true → Relabelled name f
  relabel name f values kind same_label there =
      let id = find_first name there in
      let v = found_value first name id.0 id.1 in
      let g = gets_fonts (values v.0) id.0 first first_distinct in
      let value : Node = record { turn = turn_at first id.0; kept = []; kind = kind v.0; name = v.0.name; style = computed_style g.0 g.1.0 (values v.0); past = no_past; declared = values v.0 } in
      let styles : Styles = styles_of g.0 g.1.0 (below_at first id.0) in
      record {
        tree_now = restyled styles (replaced id.0 value first);
        is = record {
          id = id.0;
          found = id.1;
          value = value;
          kept = refl;
          past = refl;
          turn = refl;
          label = each_weaker (λ (x : NodeId × Node). same x.0 id.0 ≡ true → x.1 ≡ v.0) (λ (x : NodeId × Node). same x.0 id.0 ≡ true → f (label_of x.1) ≡ label_of value) first
              (λ x d e. ap (λ (w : Node). f (label_of w)) (d e) ∙ same_label v.0) (declares first id.0 v.0 v.1.0 first_stands.each);
          styles = styles;
          is = refl;
        };
        page_now = put_at_number g.0 g.1.0 id.0 value styles first first_page id.1.live g.1.1 refl (fonts_change g.0 g.1.0 id.0 first first_distinct styles refl) first_distinct;
        distinct = mapped_distinct (λ k (w : Node). record w { style = styled_from styles k w.style }) (replaced id.0 value first) (mapped_distinct (λ k (w : Node). if same k id.0 then value else w) first first_distinct);
      }

  turn_style : (name : Word) (values : Values) → CanTurn (change.Style name values) doc → Turns (change.Style name values) doc
  turn_style name values can =
      let r = relabel name (with_style values) (λ v. with_values values v.declared) (λ v. v.kind) (λ v. refl) can.found in
      made (change.Style name values) can r.tree_now r.is r.page_now r.distinct

  turn_kind : (name : Word) (kind : Kind) → CanTurn (change.Kind name kind) doc → Turns (change.Kind name kind) doc
  turn_kind name kind can =
      let r = relabel name (with_kind kind) (λ v. v.declared) (λ v. node_kind_of kind) (λ v. λ i. record { name = v.name; kind = sym (same_kind kind) i; style = v.declared }) can.found in
      made (change.Kind name kind) can r.tree_now r.is r.page_now r.distinct

  -- ---- a tree less, and one more

  turn_take : (name : Word) → CanTurn (change.Take name) doc → Turns (change.Take name) doc
  turn_take name can =
      let id = find_first name can.found.there in
      let low : is_top first id.0 ≡ false = low_of page id.0 name first_page.rooted id.1 can.found.no_root in
      made (change.Take name) can (removed id.0 first) (record { id = id.0; found = id.1; low = low; is = refl })
      (record { rooted = removed_count id.0 first low ∙ first_page.rooted; styled = removed_styled id.0 first low first_page.styled })
      (λ n. omega (arith, parts_times n id.0 first, first_distinct n))

  turn_bring : (parent : Word) (index : ℕ) (node : Plain) → CanTurn (change.Bring parent index node) doc → Turns (change.Bring parent index node) doc
  turn_bring parent index node can =
      let upper = find_first parent can.found.there in
      let has = has_font upper.0 first first_distinct in
      let most : ℕ = 1 + size_of doc.root.children in
      let new : NodeTrees = numbers most has.0 (root_font_of first) (tree_of_node node) in
      made (change.Bring parent index node) can (grafted upper.0 index new first)
      (record { upper = upper.0; found = upper.1; new = new; begun = record { fresh = fresh has.0; begun = numbers_begun most has.0 (root_font_of first) (tree_of_node node) }; plain = numbers_plain most has.0 (root_font_of first) (tree_of_node node); is = refl })
      (record {
        rooted = grafted_count upper.0 index new first ∙ first_page.rooted;
        styled = grafted_styled has.0 upper.0 index new first has.1 (numbers_styled most has.0 (root_font_of first) (tree_of_node node)) first_page.styled;
      })
      (grafted_distinct upper.0 index new first first_distinct upper.1.live (few has.0))
    where
      fresh : (f : ℤ) (n : NodeId) → 1 ≤ times n (numbers (1 + size_of doc.root.children) f (root_font_of first) (tree_of_node node)) → times n first ≡ 0
      fresh f n l = at (cases_lt n.slot (1 + size_of doc.root.children))
        where
          at : (n.slot < 1 + size_of doc.root.children) ⊎ (1 + size_of doc.root.children ≤ n.slot) → times n first ≡ 0
          at (inl m) = absurd (omega (arith, l, none_before (1 + size_of doc.root.children) f (root_font_of first) (tree_of_node node) n m))
          at (inr m) = first_behind n m

      few : (f : ℤ) (n : NodeId) → times n first + times n (numbers (1 + size_of doc.root.children) f (root_font_of first) (tree_of_node node)) ≤ 1
      few f n = at (cases_lt n.slot (1 + size_of doc.root.children))
        where
          at : (n.slot < 1 + size_of doc.root.children) ⊎ (1 + size_of doc.root.children ≤ n.slot) → times n first + times n (numbers (1 + size_of doc.root.children) f (root_font_of first) (tree_of_node node)) ≤ 1
          at (inl m) = omega (arith, first_distinct n, none_before (1 + size_of doc.root.children) f (root_font_of first) (tree_of_node node) n m)
          at (inr m) = omega (arith, first_behind n m, numbers_distinct (1 + size_of doc.root.children) f (root_font_of first) (tree_of_node node) n)

  -- ---- a tree elsewhere

  turn_shift : (name parent : Word) (index : ℕ) → CanTurn (change.Shift name parent index) doc → Turns (change.Shift name parent index) doc
  turn_shift name parent index can =
      let id = find_first name can.found.node.there in
      let to = find_first parent can.found.parent_there in
      let a = apart_of page id.0 to.0 name parent index first_page.rooted id.1 to.1 (subst (CanShift name parent index) (sym page_is) can.found) in
      let v = found_value first name id.0 id.1 in
      let has = has_font to.0 first first_distinct in
      let own : ℤ = font_of has.0 (root_font_of first) v.0.declared in
      let style = computed_style own (root_font_of first) v.0.declared in
      let styles : Styles = (id.0, style) ∷ styles_of own (root_font_of first) (below_at first id.0) in
      let under = font_changes has.0 own to.0 id.0 v.0 style first first_distinct (sym v.1.0) has.1 refl refl styles refl in
      made (change.Shift name parent index) can (restyled styles (moved id.0 to.0 index first)) (record { id = id.0; to = to.0; apart = a; styles = styles; under = under; is = refl })
      (moved_page first name parent id.0 to.0 index styles a first_distinct under first_page)
      (mapped_distinct (λ k (w : Node). record w { style = styled_from styles k w.style }) (moved id.0 to.0 index first)
      (grafted_distinct to.0 index (tree_at id.0 first) (removed id.0 first) (λ n. omega (arith, parts_times n id.0 first, first_distinct n)) (live_left first name parent id.0 to.0 a)
      (λ n. omega (arith, parts_times n id.0 first, first_distinct n))))

  -- ---- any change

  pub turn_exists : (c : Change) → CanTurn c doc → Turns c doc
  turn_exists (change.Style name values) can = turn_style name values can
  turn_exists (change.Take name) can = turn_take name can
  turn_exists (change.Bring parent index node) can = turn_bring parent index node can
  turn_exists (change.Shift name parent index) can = turn_shift name parent index can
  turn_exists (change.Kind name kind) can = turn_kind name kind can
  turn_exists (change.View width height) can = made (change.View width height) can first refl first_page first_distinct
