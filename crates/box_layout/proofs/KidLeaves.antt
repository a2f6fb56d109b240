-- The leaves among the children of a grid: its frames give them the content widths of their rectangles, and it asks their block sizes there.
use Rattle.std.proofs.Common.{arith, ◌≡◌, refl, sym, ap, ◌∙◌, subst, ℕ, zero, suc, ◌+◌, ◌<◌, ℤ, pos, Bool, true, false, List, [], ◌∷◌, length, map, drop, Some, if◌then◌else◌, true≢false}
use Rattle.std.specs.Prelude.{Contains, ◌&&◌, slice_index_or}
use Rattle.std.proofs.lemmas.Bool.{false≢true}
use Rattle.std.proofs.lemmas.List.Elements.{Contains-append_left, Contains-append_right, Contains-push}
use Rattle.node_arena.specs.declared.number.NodeId.{NodeId}
use Rattle.part_rules.specs.Placement.{placed}
use Rattle.part_rules.specs.Views.{area_size, tracks_over}
use Rattle.part_rules.specs.declared.view.View.{View}
use Rattle.placing.specs.Keeping.{is_leaf}
use Rattle.placing.specs.Nodes.{BareTrees, kids_at, sight_at, uses_at}
use Rattle.tree_rules.specs.Answers.{Frame, Kid, Pair}
use Rattle.tree_rules.specs.AskedQueries.{ToChild, block_query, grid_asks_block, grid_asks_inline, grid_uses, uses_by}
use Rattle.tree_rules.specs.Chains.{Above, Link, Sibling, chain_of, has_chain, has_subgrid, is_grid_kind, is_subgrid, link_to, sibling_of}
use Rattle.tree_rules.specs.Contexts.{Context, cut_area, placed_children, shape_of, wish_of, with_area}
use Rattle.tree_rules.specs.Distribution.{given_view, subgrid_box, view_in}
use Rattle.tree_rules.specs.Frames.{Framed, given_box, grid_child}
use Rattle.tree_rules.specs.GridSizes.{Entry, Grid, Wide, entry_of, from_first, grid_by, inline_of_entry, pairs_for, rows_of_grid, shares_columns, shares_rows, view_by, wide_children, wide_of}
use Rattle.tree_rules.specs.Labels.{GridAxis, GridStyle, Label}
use Rattle.tree_rules.specs.NodeSizes.{bounds_of, inline_used, is_stretched, margins, self_align}
use Rattle.tree_rules.specs.Orders.{in_order, numbered_from, sorted_by}
use Rattle.tree_rules.specs.Queries.{needs_inline}
use Rattle.tree_rules.specs.Whole.{answers_by}
use Rattle.tree_rules.specs.declared.kind.NodeKind.{NodeKind}
use Rattle.tree_rules.specs.declared.kind.NodeKind.TheVariants as kind
use Rattle.tree_rules.specs.declared.query.Ask.TheVariants as ask
use Rattle.tree_rules.specs.declared.query.Given.{Given}
use Rattle.tree_rules.specs.declared.query.Query.{Query}
use Rattle.tree_rules.proofs.Lengths.{length_in_order, length_map, length_placed, length_zipped}
use Rattle.tree_rules.proofs.Pairs.{each_through, each_zipped}
use Rattle.tree_rules.proofs.Sorted.{EachTwo, back_in_order, number_of, sort_alike}
use Rattle.box_layout.specs.BoxesSeen.{frames_seen}

-- ---- what stands in a list
module _ {A : Type 0} where
  in_front : (x : A) (xs : List A) → Contains (x ∷ xs) x
  in_front x xs = Contains-append_left (x ∷ []) xs x (Contains-push [] x)

  behind : (y x : A) (xs : List A) → Contains xs x → Contains (y ∷ xs) x
  behind y x xs h = Contains-append_right (y ∷ []) xs x h

-- ---- a leaf is no subgrid

pub leaf_chain : (above : Above) (i : ℕ) (x : Label) → is_leaf x.kind ≡ true → chain_of above i x ≡ []
leaf_chain above i x leaf = at x.kind above.is_grid leaf
  where
    at : (k : NodeKind) (t : Bool) → is_leaf k ≡ true → (if t && (is_grid_kind k && has_subgrid x.grid) then link_to above i ∷ above.chain else []) ≡ []
    at kind.Grid t h = absurd (false≢true h)
    at kind.Flex t h = absurd (false≢true h)
    at (kind.Leaf content) true h = refl
    at (kind.Leaf content) false h = refl

-- ---- the children of a grid one by one

record IsEntry (e : ℕ × Kid) (n : Entry) : Type 0 where
  number : n.number ≡ e.0
  kid : n.kid ≡ e.1

record IsWide (n : Entry) (w : Wide) : Type 0 where
  entry : w.entry ≡ n
  inline : shares_columns n.kid ≡ false → w.inline ≡ given_box n.kid.label.grid.columns w.box

record IsPlaced (g : Grid) (all : List ToChild) (w : Wide) (f : ℕ × Framed) : Type 0 where
  number : f.0 ≡ w.entry.number
  inline : f.1.frame.inline ≡ w.inline
  width : f.1.frame.rect.width ≡ w.box
  asked : Contains all (grid_asks_block g w)

-- a child with its frame, at whose width it is asked
record IsMeasured (g : Grid) (all : List ToChild) (e : ℕ × Kid) (f : ℕ × Framed) : Type 0 where
  number : pos e.0 ≡ pos f.0
  asked : Contains {X = ToChild} all (e.0, block_query (shares_rows e.1) (pairs_for e.1 g.pairs) f.1.frame.inline)
  width : shares_columns e.1 ≡ false → f.1.frame.inline ≡ given_box e.1.label.grid.columns f.1.frame.rect.width

own_width : (t : Bool) (g : GridAxis) (box : ℤ) (shared : ℤ × Given) → t ≡ false → (if t then shared else (box, given_box g box)).1 ≡ given_box g (if t then shared else (box, given_box g box)).0
own_width true g box shared e = absurd (true≢false e)
own_width false g box shared e = refl

wide_is : (g : Grid) (columns : View 0) (n : Entry) (sizes : ℤ × ℤ) → IsWide n (wide_of g columns n sizes)
wide_is g columns n sizes =
    let x = n.kid.label in
    let span = from_first g.placed.columns n.area.columns in
    let size = area_size (tracks_over columns.edges span) in
    let b = bounds_of (Some size) x.content.border_box x.grid.columns x.content.inline in
    let stretched = is_stretched (self_align x.content.inline.own g.label.content.inline.items) x.grid.columns x.content.inline in
    let box = inline_used b stretched (margins x.grid.columns) size sizes in
    record { entry = refl; inline = λ alone. own_width (shares_columns n.kid) x.grid.columns box (subgrid_box x.grid.columns size, given_view (view_in columns span x.grid.columns)) alone }

placed_are : (g : Grid) (all : List ToChild) (columns : View 0) (rows : View 1) (ws : List Wide) → ((w : Wide) → Contains ws w → Contains all (grid_asks_block g w)) → EachTwo (IsPlaced g all) ws (map (grid_child g columns rows) ws)
placed_are g all columns rows [] h = tt
placed_are g all columns rows (w ∷ ws) h = (record { number = refl; inline = refl; width = refl; asked = h w (in_front w ws) }, placed_are g all columns rows ws (λ v there. h v (behind w v ws there)))

measured_is : (g : Grid) (all : List ToChild) (e : ℕ × Kid) (n : Entry) (w : Wide) (f : ℕ × Framed) → IsEntry e n → IsWide n w → IsPlaced g all w f → IsMeasured g all e f
measured_is g all e n w f a b c =
    let number : w.entry.number ≡ e.0 = ap (λ (m : Entry). m.number) b.entry ∙ a.number in
    let kid : w.entry.kid ≡ e.1 = ap (λ (m : Entry). m.kid) b.entry ∙ a.kid in
    record {
      number = ap pos (sym (c.number ∙ number));
      asked = subst (λ (t : ToChild). Contains all t) (λ i. (number i, block_query (shares_rows (kid i)) (pairs_for (kid i) g.pairs) (sym c.inline i))) c.asked;
      width = λ alone. c.inline ∙ b.inline (ap shares_columns a.kid ∙ alone) ∙ (λ i. given_box (a.kid i).label.grid.columns (sym c.width i));
    }

length_areas : (c : Context) (g : GridStyle) (children : List Sibling) → length (placed_children c g children).areas ≡ length children
length_areas c g children =
    let ordered = in_order (λ (s : Sibling). s.grid.order) children in
    let wishes = map (λ (e : ℕ × Sibling). wish_of c e.1) ordered in
    length_zipped with_area ordered (map (cut_area c) (placed wishes (shape_of c g))) (length_map (cut_area c) (placed wishes (shape_of c g)) ∙ length_placed wishes (shape_of c g) ∙ length_map (λ (e : ℕ × Sibling). wish_of c e.1) ordered) ∙ length_in_order (λ (s : Sibling). s.grid.order) children

mapped_in : {A : Type 0} (f : A → ToChild) (xs : List A) (x : A) → Contains xs x → Contains (map f xs) (f x)
mapped_in {A} f xs x h = at xs h.0 h.1 h.2
  where
    at : (ys : List A) (k : ℕ) → k < length ys → slice_index_or ys k x ≡ x → Contains (map f ys) (f x)
    at [] k l e = absurd (omega (arith, l))
    at (y ∷ ys) zero l e = subst (λ (z : A). Contains (f y ∷ map f ys) (f z)) e (in_front (f y) (map f ys))
    at (y ∷ ys) (suc k) l e = behind (f y) (f x) (map f ys) (at ys k (omega (arith, l)) e)

module _ (x : Label) (chain : List Link) (kids : List Kid) (q : Query) (framed : q.ask ≡ ask.Frames) where
  abbrev g : Grid
  g = grid_by x chain kids q.reps q.inline

  abbrev columns : View 0
  columns = view_by g.columns q.inline

  abbrev wides : List Wide
  wides = wide_children g columns

  abbrev rows : View 1
  rows = view_by (rows_of_grid g wides) q.block

  abbrev found : List (ℕ × Framed)
  found = map (grid_child g columns rows) wides

  block_used : (w : Wide) → Contains wides w → Contains (grid_uses g q) (grid_asks_block g w)
  block_used w there =
      Contains-append_right (map (grid_asks_inline g) g.entries) (if needs_inline q.ask then map (grid_asks_block g) wides else []) (grid_asks_block g w)
      (subst (λ (l : List ToChild). Contains l (grid_asks_block g w)) (ap (λ z. if needs_inline z then map (grid_asks_block g) wides else []) (sym framed)) (mapped_in (grid_asks_block g) wides w there))

  all_measured : EachTwo (IsMeasured g (grid_uses g q)) (numbered_from 0 kids) (sorted_by (number_of {A = Framed}) found)
  all_measured =
      let all = grid_uses g q in
      let order : Kid → ℤ = λ k. k.label.grid.order in
      let ordered = in_order order kids in
      let siblings = map (λ (k : Kid). sibling_of k.label) kids in
      let entries_are : EachTwo IsEntry ordered g.entries = each_zipped IsEntry entry_of (λ e a. record { number = refl; kid = refl }) ordered g.placed.areas (length_areas g.context x.grid siblings ∙ length_map (λ (k : Kid). sibling_of k.label) kids ∙ sym (length_in_order order kids)) in
      let wides_are : EachTwo IsWide g.entries wides = each_zipped IsWide (wide_of g columns) (wide_is g columns) g.entries g.inlines (length_map (inline_of_entry g.pairs) g.entries) in
      let frames_are : EachTwo (λ (n : Entry) (f : ℕ × Framed). (w : Wide) × IsWide n w × IsPlaced g all w f) g.entries found = each_through IsWide (IsPlaced g all) (λ (n : Entry) (f : ℕ × Framed). (w : Wide) × IsWide n w × IsPlaced g all w f) (λ n w f a b. (w, a, b)) g.entries wides
      found wides_are (placed_are g all columns rows wides block_used) in
      let these : EachTwo (IsMeasured g all) ordered found = each_through IsEntry (λ (n : Entry) (f : ℕ × Framed). (w : Wide) × IsWide n w × IsPlaced g all w f) (IsMeasured g all) (λ e n f a b. measured_is g all e n b.0 f a b.1 b.2) ordered g.entries found entries_are frames_are in
      subst (λ l. EachTwo (IsMeasured g all) l (sorted_by (number_of {A = Framed}) found)) (back_in_order order kids)
      (sort_alike (IsMeasured g all) (number_of {A = Kid}) (number_of {A = Framed}) (λ e f r. r.number) ordered found these)

-- ---- by index

-- a fact of the child of this number, of which the frame is this one
record IsAt (P : ℕ × Kid → ℕ × Framed → Type 0) (n : ℕ) (k : Kid) (f : Frame) : Type 0 where
  framed : ℕ × Framed
  holds : P (n, k) framed
  frame : framed.1.frame ≡ f

frames_in : List (ℕ × Framed) → List Frame
frames_in fs = map (λ (f : Framed). f.frame) (map (λ (e : ℕ × Framed). e.1) fs)

at_index : (P : ℕ × Kid → ℕ × Framed → Type 0) (n : ℕ) (kids rest : List Kid) (fs : List (ℕ × Framed)) (others : List Frame) (i : ℕ) (k : Kid) (f : Frame) → EachTwo P (numbered_from n kids) fs → drop i kids ≡ k ∷ rest → drop i (frames_in fs) ≡ f ∷ others → IsAt P (n + i) k f
unfolding frames_in
at_index P n [] rest fs others zero k f h e d = absurd cc
at_index P n [] rest fs others (suc i) k f h e d = absurd cc
at_index P n (a ∷ kids) rest [] others i k f h e d = absurd h
at_index P n (a ∷ kids) rest (b ∷ fs) others zero k f h e d =
    let same : a ≡ k = cc in
    let also : b.1.frame ≡ f = cc in
    let number : n ≡ n + 0 = omega arith in
    record { framed = b; holds = subst (λ (m : ℕ). P (m, k) b) number (subst (λ (z : Kid). P (n, z) b) same h.0); frame = also }
at_index P n (a ∷ kids) rest (b ∷ fs) others (suc i) k f h e d =
    let number : (n + 1) + i ≡ n + suc i = omega arith in
    subst (λ (m : ℕ). IsAt P m k f) number (at_index P (n + 1) kids rest fs others i k f h.1 e d)

-- a child that is no subgrid, with its frame
pub record IsLeafMeasured (b : BareTrees) (n : NodeId) (q : Query) (i : ℕ) (k : Kid) (f : Frame) : Type 0 where
  pub asked : Contains (uses_at b n q) (i, block_query false [] f.inline)
  pub width : f.inline ≡ given_box k.label.grid.columns f.rect.width

module _ (b : BareTrees) (n : NodeId) (q : Query) (is : (sight_at b n).label.kind ≡ kind.Grid) (framed : q.ask ≡ ask.Frames) where
  abbrev x : Label
  x = (sight_at b n).label

  abbrev up : List Link
  up = (sight_at b n).chain

  uses_are : grid_uses (grid_by x up (kids_at b n) q.reps q.inline) q ≡ uses_at b n q
  uses_are = ap (λ (z : NodeKind). uses_by z x up (kids_at b n) q) (sym is)

  frames_are : frames_seen b n q ≡ frames_in (sorted_by (number_of {A = Framed}) (found x up (kids_at b n) q framed))
  unfolding frames_seen frames_in
  frames_are = ap (λ (z : NodeKind). ((answers_by z x up (kids_at b n)).down q.reps q.inline).frames q.block) is

  pub leaf_measured : (i : ℕ) (k : Kid) (rest : List Kid) (f : Frame) (others : List Frame) → drop i (kids_at b n) ≡ k ∷ rest → drop i (frames_seen b n q) ≡ f ∷ others → k.chain ≡ [] → IsLeafMeasured b n q i k f
  leaf_measured i k rest f others there next alone =
      let grid : Grid = grid_by x up (kids_at b n) q.reps q.inline in
      let at = at_index (IsMeasured grid (grid_uses grid q)) 0 (kids_at b n) rest (sorted_by (number_of {A = Framed}) (found x up (kids_at b n) q framed)) others i k f (all_measured x up (kids_at b n) q framed) there (ap (drop i) (sym frames_are) ∙ next) in
      let number : 0 + i ≡ i = omega arith in
      let none : List Pair = [] in
      let rows_alone : shares_rows k ≡ false = ap (λ (l : List Link). has_chain l && is_subgrid k.label.grid.rows.template) alone in
      let columns_alone : shares_columns k ≡ false = ap (λ (l : List Link). has_chain l && is_subgrid k.label.grid.columns.template) alone in
      let pairs_none : pairs_for k grid.pairs ≡ none = ap (λ (l : List Link). if has_chain l then grid.pairs else []) alone in
      record {
        asked = subst (λ (l : List ToChild). Contains {X = ToChild} l (i, block_query false [] f.inline)) uses_are
            (subst (λ (t : ToChild). Contains (grid_uses grid q) t) (λ j. (number j, block_query (rows_alone j) (pairs_none j) (at.frame j).inline)) at.holds.asked);
        width = ap (λ (z : Frame). z.inline) (sym at.frame) ∙ at.holds.width columns_alone ∙ ap (λ (z : Frame). given_box k.label.grid.columns z.rect.width) at.frame;
      }
