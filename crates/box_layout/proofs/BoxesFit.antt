-- The question for its frames fits each container that is given what its frame gives it.
use Rattle.std.proofs.Common.{arith, ap, ◌≡◌, ◌∙◌, refl, subst, sym, ℕ, zero, suc, ◌+◌, Bool, true, false, ◌&&◌, List, [], ◌∷◌, ◌++◌, drop, length, map, Some, true≢false, if◌then◌else◌, length-append}
use Rattle.node_arena.specs.Numbers.{IsNumbered, child_at}
use Rattle.node_arena.specs.declared.number.NodeId.{NodeId}
use Rattle.part_rules.specs.declared.view.View.{View}
use Rattle.placing.proofs.Each.{Each}
use Rattle.placing.specs.Children.{IsNext, IsTree}
use Rattle.placing.specs.Nodes.{NodeTrees, bare, kid_at, kids_at, sight_at}
use Rattle.placing.specs.Ranges.{AreReadable, IsGridStyle}
use Rattle.tree_rules.proofs.Sorted.{EachTwo}
use Rattle.tree_rules.specs.Answers.{Frame, Kid, Pair}
use Rattle.tree_rules.specs.AskedQueries.{pairs_below}
use Rattle.tree_rules.specs.Chains.{Above, Link, above_of, chain_of, has_chain, has_subgrid, is_grid_kind, is_subgrid, link_to}
use Rattle.tree_rules.specs.FlexSizes.{Flex, column_settled, flex_by, row_lines, row_settled}
use Rattle.tree_rules.specs.Frames.{Framed, column_framed, given_size, grid_child, row_framed}
use Rattle.tree_rules.specs.GridSizes.{Grid, TrackAxis, grid_by, pairs_for, rows_of_grid, shares_columns, shares_rows, view_by, wide_children}
use Rattle.tree_rules.specs.Labels.{Label}
use Rattle.tree_rules.specs.Orders.{in_document_order}
use Rattle.tree_rules.specs.Places.{Seen, answers_of}
use Rattle.tree_rules.specs.Queries.{Fits, IsGivenFor, is_container, outer_context, sees_columns, sees_rows}
use Rattle.tree_rules.specs.Repetitions.{own_pair}
use Rattle.tree_rules.specs.Whole.{answers_by, column_down, kids_of, row_down}
use Rattle.tree_rules.specs.declared.kind.NodeKind.{NodeKind}
use Rattle.tree_rules.specs.declared.kind.NodeKind.TheVariants as kind
use Rattle.tree_rules.specs.declared.query.Given.{Given}
use Rattle.tree_rules.specs.declared.query.Query.{Query}
use Rattle.inline_sizes.proofs.FineSights.{IsFineSeen, items_in, nodes_styled, sight_fine}
use Rattle.inline_sizes.specs.TrackAxes.{track_count}
use Rattle.box_layout.proofs.BoxesNear.{kids_styled}
use Rattle.box_layout.proofs.FlexFits.{IsOpenFrame, column_open, row_open}
use Rattle.box_layout.proofs.GivenTracks.{IsLaid, by_counted, by_gap, laid}
use Rattle.box_layout.proofs.GridFits.{IsGivenRight, context_of_kid, frames_right, given_other, linked}
use Rattle.box_layout.proofs.SharedSpans.{columns_counted, columns_shared, counted_to, rows_counted, rows_shared}
use Rattle.box_layout.specs.Asking.{frames_asked}

-- ---- by index

two_there : {A : Type 0} (P : A → Frame → Type 0) (ks rest : List A) (fs : List Framed) (others : List Frame) (i : ℕ) (k : A) (f : Frame) → EachTwo (λ (a : A) (b : Framed). P a b.frame) ks fs → drop i ks ≡ k ∷ rest → drop i (map (λ (b : Framed). b.frame) fs) ≡ f ∷ others → P k f
two_there P [] rest fs others zero k f h e d = absurd cc
two_there P [] rest fs others (suc i) k f h e d = absurd cc
two_there P (a ∷ ks) rest [] others i k f h e d = absurd h
two_there P (a ∷ ks) rest (b ∷ fs) others zero k f h e d =
    let same : a ≡ k = cc in
    let also : b.frame ≡ f = cc in
    subst (λ z. P z f) same (subst (P a) also h.0)
two_there P (a ∷ ks) rest (b ∷ fs) others (suc i) k f h e d = two_there P ks rest fs others i k f h.1 e d

one_there : (P : Frame → Type 0) (fs : List Framed) (others : List Frame) (i : ℕ) (f : Frame) → Each (λ (b : Framed). P b.frame) fs → drop i (map (λ (b : Framed). b.frame) fs) ≡ f ∷ others → P f
one_there P [] others zero f h d = absurd cc
one_there P [] others (suc i) f h d = absurd cc
one_there P (b ∷ fs) others zero f h d = let also : b.frame ≡ f = cc in subst P also h.0
one_there P (b ∷ fs) others (suc i) f h d = one_there P fs others i f h.1 d

-- ---- a child that is no subgrid

-- it is given sizes of at least 0
record IsOpenGiven (f : Frame) : Type 0 where
  inline : IsGivenFor true false 0 f.inline
  block : IsGivenFor true false 0 f.block

opened : (fs : List Framed) → Each IsOpenFrame fs → Each (λ (b : Framed). IsOpenGiven b.frame) fs
opened [] h = tt
opened (f ∷ fs) h = (record { inline = h.0.inline; block = h.0.block }, opened fs h.1)

alone_fits : (b : Bool) (n : ℕ) (g : Given) → b ≡ false → IsGivenFor true false 0 g → IsGivenFor true b n g
alone_fits b n g e h = subst (λ t. IsGivenFor true t n g) (sym e) (given_other false 0 n g (λ same. absurd (true≢false (sym same))) h)

alone_right : (pairs : List Pair) (k : Kid) (f : Frame) → k.chain ≡ [] → IsOpenGiven f → IsGivenRight pairs k f
alone_right pairs k f none h = record {
  inline = alone_fits (shares_columns k) (context_of_kid k (pairs_for k pairs)).columns.table.tracks f.inline (ap (λ l. has_chain l && is_subgrid k.label.grid.columns.template) none) h.inline;
  block = alone_fits (shares_rows k) (context_of_kid k (pairs_for k pairs)).rows.table.tracks f.block (ap (λ l. has_chain l && is_subgrid k.label.grid.rows.template) none) h.block;
}

-- no subgrid stands under a node that is no grid
chain_none : (above : Above) (n : ℕ) (x : Label) → above.is_grid ≡ false → chain_of above n x ≡ []
chain_none above n x e = ap (λ (t : Bool). if t && (is_grid_kind x.kind && has_subgrid x.grid) then link_to above n ∷ above.chain else []) e

-- ---- the counts of repetitions

counts_right : (pairs : List Pair) (k : Kid) → (has_chain k.chain ≡ true → length pairs ≡ length k.chain) → length (pairs_for k pairs) ≡ length k.chain
counts_right pairs k h = go k.chain refl
  where
    go : (l : List Link) → k.chain ≡ l → length (if has_chain k.chain then pairs else []) ≡ length k.chain
    go [] e = ap (λ (t : Bool). length (if t then pairs else [])) (ap has_chain e) ∙ ap length (sym e)
    go (link ∷ l) e = let some : has_chain k.chain ≡ true = ap has_chain e in ap (λ (t : Bool). length (if t then pairs else [])) some ∙ h some

-- ---- by kind

module _ (s : Seen) (fine : IsFineSeen s) (q : Query) (inline_fits : IsGivenFor true (sees_columns s) (outer_context s q.reps).columns.table.tracks q.inline) (block_fits : IsGivenFor true (sees_rows s) (outer_context s q.reps).rows.table.tracks q.block)
    (counts : length q.reps ≡ length s.chain) where
  abbrev upper : Above
  upper = above_of s.label s.chain s.below

  abbrev kids : List Kid
  kids = kids_of upper 0 s.below

  abbrev g : Grid
  g = grid_by s.label s.chain kids q.reps q.inline

  abbrev columns : View 0
  columns = view_by g.columns q.inline

  abbrev axis : TrackAxis
  axis = rows_of_grid g (wide_children g columns)

  abbrev rows : View 1
  rows = view_by axis q.block

  styled : Each (λ (k : Kid). IsGridStyle k.label.grid) kids
  styled = kids_styled upper 0 s.below fine.lower

  column_given : IsGivenFor true (sees_columns s) (track_count g.placed.columns) q.inline
  column_given =
      given_other (sees_columns s) (outer_context s q.reps).columns.table.tracks (track_count g.placed.columns) q.inline
      (λ shared. ap track_count (columns_shared s fine q.reps q.inline shared) ∙ counted_to (outer_context s q.reps).columns.table.tracks) inline_fits

  row_given : IsGivenFor true (sees_rows s) (track_count g.placed.rows) q.block
  row_given =
      given_other (sees_rows s) (outer_context s q.reps).rows.table.tracks (track_count g.placed.rows) q.block
      (λ shared. ap track_count (rows_shared s fine q.reps q.inline shared) ∙ counted_to (outer_context s q.reps).rows.table.tracks) block_fits

  in_columns : IsLaid g.placed.columns columns
  in_columns = laid g.placed.columns columns (columns_counted s fine q.reps q.inline (length columns.edges) (by_counted 0 g.columns (sees_columns s) q.inline column_given)) (by_gap 0 g.columns (sees_columns s) q.inline fine.grid.columns.gap column_given)

  in_rows : IsLaid g.placed.rows rows
  in_rows = laid g.placed.rows rows (rows_counted s fine q.reps q.inline (length rows.edges) (by_counted 1 axis (sees_rows s) q.block row_given)) (by_gap 1 axis (sees_rows s) q.block fine.grid.rows.gap row_given)

  grid_right : EachTwo (λ (k : Kid) (f : Framed). IsGivenRight g.pairs k f.frame) kids (in_document_order (map (grid_child g columns rows) (wide_children g columns)))
  grid_right = frames_right s.label s.chain s.below q.reps q.inline styled columns rows in_columns in_rows (items_in s fine q.reps q.inline).inside.entries

  flex_all : Each (λ (f : Framed). IsOpenGiven f.frame)
      (if s.label.content.column then column_framed (flex_by s.label kids) (given_size q.inline) (column_settled (flex_by s.label kids) (given_size q.inline)) q.block else row_framed (flex_by s.label kids) (given_size q.inline) (row_lines (flex_by s.label kids) (given_size q.inline))
      (row_settled (flex_by s.label kids) (row_lines (flex_by s.label kids) (given_size q.inline))) q.block)
  flex_all = go s.label.content.column
    where
      go : (b : Bool) →
          Each (λ (f : Framed). IsOpenGiven f.frame)
          (if b then column_framed (flex_by s.label kids) (given_size q.inline) (column_settled (flex_by s.label kids) (given_size q.inline)) q.block else row_framed (flex_by s.label kids) (given_size q.inline) (row_lines (flex_by s.label kids) (given_size q.inline))
          (row_settled (flex_by s.label kids) (row_lines (flex_by s.label kids) (given_size q.inline))) q.block)
      go true = opened (column_framed (flex_by s.label kids) (given_size q.inline) (column_settled (flex_by s.label kids) (given_size q.inline)) q.block) (column_open s.label kids styled (given_size q.inline) q.block)
      go false =
          opened (row_framed (flex_by s.label kids) (given_size q.inline) (row_lines (flex_by s.label kids) (given_size q.inline)) (row_settled (flex_by s.label kids) (row_lines (flex_by s.label kids) (given_size q.inline))) q.block)
          (row_open s.label kids styled (given_size q.inline) q.block)

  abbrev frames_by : NodeKind → List Frame
  frames_by k = ((answers_by k s.label s.chain kids).down q.reps q.inline).frames q.block

  -- whether the frame of an index is right for the child of that index
  right_by : (k : NodeKind) → s.label.kind ≡ k → (i : ℕ) (kid : Kid) (rest : List Kid) (f : Frame) (others : List Frame) → kid.chain ≡ chain_of upper i kid.label → drop i kids ≡ kid ∷ rest → drop i (frames_by k) ≡ f ∷ others → IsGivenRight (pairs_below k s.label s.chain kids q) kid f
  right_by kind.Grid is i kid rest f others chain there next =
      two_there (IsGivenRight g.pairs) kids rest (in_document_order (map (grid_child g columns rows) (wide_children g columns))) others i kid f grid_right there next
  right_by kind.Flex is i kid rest f others chain there next =
      alone_right [] kid f (chain ∙ chain_none upper i kid.label (ap is_grid_kind is)) (flex_right f others i next)
    where
      flex_right : (f : Frame) (others : List Frame) (i : ℕ) → drop i (frames_by kind.Flex) ≡ f ∷ others → IsOpenGiven f
      flex_right f others i next = go s.label.content.column flex_all next
        where
          f_by : Flex
          f_by = flex_by s.label kids

          go : (b : Bool) →
              Each (λ (f : Framed). IsOpenGiven f.frame)
              (if b then column_framed (flex_by s.label kids) (given_size q.inline) (column_settled (flex_by s.label kids) (given_size q.inline)) q.block else row_framed (flex_by s.label kids) (given_size q.inline) (row_lines (flex_by s.label kids) (given_size q.inline))
              (row_settled (flex_by s.label kids) (row_lines (flex_by s.label kids) (given_size q.inline))) q.block)
              → drop i ((if b then column_down (flex_by s.label kids) (given_size q.inline) else row_down (flex_by s.label kids) (given_size q.inline)).frames q.block) ≡ f ∷ others → IsOpenGiven f
          go true all there = one_there IsOpenGiven (column_framed (flex_by s.label kids) (given_size q.inline) (column_settled (flex_by s.label kids) (given_size q.inline)) q.block) others i f all there
          go false all there = one_there IsOpenGiven (row_framed (flex_by s.label kids) (given_size q.inline) (row_lines (flex_by s.label kids) (given_size q.inline)) (row_settled (flex_by s.label kids) (row_lines (flex_by s.label kids) (given_size q.inline))) q.block) others i f all there
  right_by (kind.Leaf content) is zero kid rest f others chain there next = absurd cc
  right_by (kind.Leaf content) is (suc i) kid rest f others chain there next = absurd cc

  counts_by : (k : NodeKind) → s.label.kind ≡ k → (i : ℕ) (kid : Kid) → kid.chain ≡ chain_of upper i kid.label → length (pairs_for kid (pairs_below k s.label s.chain kids q)) ≡ length kid.chain
  counts_by kind.Grid is i kid chain =
      counts_right g.pairs kid
      (λ some.
      let own : List Pair = own_pair s.label q.inline ∷ [] in
      let grown : length (q.reps ++ own) ≡ length q.reps + 1 = length-append q.reps own in
      let links : length kid.chain ≡ suc (length s.chain) = ap length (linked upper i kid.label kid.chain chain some) in
      omega (arith, grown, links, counts))
  counts_by kind.Flex is i kid chain = counts_right [] kid (λ some. absurd (true≢false (sym some ∙ ap has_chain (chain ∙ chain_none upper i kid.label (ap is_grid_kind is)))))
  counts_by (kind.Leaf content) is i kid chain = counts_right [] kid (λ some. absurd (true≢false (sym some ∙ ap has_chain (chain ∙ chain_none upper i kid.label (ap is_grid_kind is)))))

-- ---- of an arena

-- what a child is given by its frame
pub frames_given : (t : NodeTrees) (n : NodeId) → AreReadable (bare t) → IsNumbered t → IsTree (bare t) → (q : Query) → q ≡ frames_asked q.reps q.inline q.block → Fits (sight_at (bare t) n) q
    → (index : ℕ) (c : NodeId) (f : Frame) (rest : List Frame) → child_at (bare t) n index ≡ Some c → drop index (((answers_of (sight_at (bare t) n)).down q.reps q.inline).frames q.block) ≡ f ∷ rest
    → IsGivenRight (pairs_below (sight_at (bare t) n).label.kind (sight_at (bare t) n).label (sight_at (bare t) n).chain (kids_at (bare t) n) q) (kid_at (bare t) c) f
frames_given t n readable numbered is_tree q framed fits index c f rest child next =
    let s : Seen = sight_at (bare t) n in
    let fine : IsFineSeen s = sight_fine (bare t) n (nodes_styled t readable numbered) in
    let below : IsNext (bare t) n index c = is_tree.next n c index child in
    let same : Fits s (frames_asked q.reps q.inline q.block) = subst (Fits s) framed fits in
    right_by s fine q same.inline same.block same.reps s.label.kind refl index (kid_at (bare t) c) (drop (index + 1) (kids_at (bare t) n)) f rest below.chain below.kids next

pub frames_fit : (t : NodeTrees) (n : NodeId) → AreReadable (bare t) → IsNumbered t → IsTree (bare t) → (reps : List Pair) (inline block : Given) → Fits (sight_at (bare t) n) (frames_asked reps inline block)
    → (index : ℕ) (c : NodeId) (f : Frame) (rest : List Frame) → child_at (bare t) n index ≡ Some c → drop index (((answers_of (sight_at (bare t) n)).down reps inline).frames block) ≡ f ∷ rest → is_container (sight_at (bare t) c).label.kind ≡ true
    → Fits (sight_at (bare t) c) (frames_asked (pairs_for (kid_at (bare t) c) (pairs_below (sight_at (bare t) n).label.kind (sight_at (bare t) n).label (sight_at (bare t) n).chain (kids_at (bare t) n) (frames_asked reps inline block))) f.inline f.block)
frames_fit t n readable numbered is_tree reps inline block fits index c f rest child next container =
    let s : Seen = sight_at (bare t) n in
    let q : Query = frames_asked reps inline block in
    let fine : IsFineSeen s = sight_fine (bare t) n (nodes_styled t readable numbered) in
    let below : IsNext (bare t) n index c = is_tree.next n c index child in
    let k : Kid = kid_at (bare t) c in
    let right : IsGivenRight (pairs_below s.label.kind s.label s.chain (kids_at (bare t) n) q) k f = right_by s fine q fits.inline fits.block fits.reps s.label.kind refl index k (drop (index + 1) (kids_at (bare t) n)) f rest below.chain below.kids next in
    record {
      ask = container;
      reps = counts_by s fine q fits.inline fits.block fits.reps s.label.kind refl index k below.chain;
      inline = right.inline;
      block = right.block;
    }
