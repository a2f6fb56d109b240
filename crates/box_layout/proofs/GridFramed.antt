-- The frames of the children of a grid are those of the definitions.
use Rattle.std.proofs.Common.{arith, refl, sym, ap, subst, ◌∙◌, ◌≡◌, ℕ, zero, suc, ◌+◌, ◌≤◌, ℤ, pos, negsuc, ◌+ℤ◌, ◌-ℤ◌, ◌≤ℤ◌, Bool, true, false, List, [], ◌∷◌, drop, map, Some, if◌then◌else◌}
use Rattle.std.specs.Prelude.{get_or, IfOk, Result, Ok, Err}
use Rattle.std.proofs.lemmas.Int.{ints}
use Rattle.lunit.specs.declared.geometry.Span.{Span}
use Rattle.node_arena.specs.declared.number.NodeId.{NodeId}
use Rattle.part_rules.specs.declared.view.View.{View}
use Rattle.part_rules.specs.Lists.{above_zero, zipped}
use Rattle.part_rules.specs.Views.{area_size, first_start, tracks_over}
use Rattle.style_types.specs.Styles.{StyleMap}
use Rattle.style_types.specs.declared.value.Align.{Align}
use Rattle.tree_rules.specs.declared.kind.NodeKind.TheVariants as kind
use Rattle.tree_rules.specs.declared.query.Given.{Given}
use Rattle.tree_rules.specs.declared.query.Given.TheVariants as given
use Rattle.tree_rules.specs.Answers.{Frame, Kid, Pair}
use Rattle.tree_rules.specs.Contexts as rules
use Rattle.tree_rules.specs.Distribution.{aligned_at, given_view, subgrid_box, view_in}
use Rattle.tree_rules.specs.Frames.{Extent, down_of, framed_at, grid_child}
use Rattle.tree_rules.specs.GridSizes.{Entry, Grid, Wide, from_first, shares_columns, shares_rows, wide_of}
use Rattle.tree_rules.specs.Labels.{Label, content_of, grid_of}
use Rattle.tree_rules.specs.NodeSizes.{block_used, bounds_of, content_of_box, is_stretched, margin, margins, self_align}
use Rattle.placing.specs.Areas.{entries_at, entry_by, placed_of}
use Rattle.placing.specs.Nodes.{BareTrees, kid_at, sight_at}
use Rattle.placing.specs.declared.items.ChildArea.{ChildArea}
use Rattle.block_sizes.specs.Children.{block_of_child}
use Rattle.placing.specs.Insides.{IsWithin}
use Rattle.block_sizes.specs.Spans.{LiesIn}
use Rattle.inline_sizes.proofs.AreasIn.{entry_at}
use Rattle.inline_sizes.specs.GridsSeen.{HasItemsInTracks, IsAreaIn, grid_seen}
use Rattle.inline_sizes.specs.TrackAxes.{track_count}
use Rattle.inline_sizes.specs.Styled.{styled}
use Rattle.box_layout.specs.GridFrames.{AreTracks, IsOver, frame_over}
use Rattle.block_sizes.specs.Wides.{IsWide, columns_seen, wides_seen}
use Rattle.placing.specs.Wides.{child_of}
use Rattle.placing.specs.declared.wide.GridWide.{GridWide}
use Rattle.placing.specs.declared.wide.WideChild.{WideChild}

-- ---- one child

-- the frame of a child of a grid, where names and kinds do not count
abbrev frame_by : Label → Label → Bool → Bool → View 0 → Span → View 1 → Span → ℤ → Given → ℤ → Frame
frame_by parent x s t columns span rows row_span box inline content =
    let tracks = tracks_over columns.edges span in
    let row_tracks = tracks_over rows.edges row_span in
    let block : ℤ × Given = block_of_child parent.content.block.items rows row_span x t content in
    let shared = first_start tracks +ℤ margin x.grid.columns.margin_start in
    let own = aligned_at (self_align x.content.inline.own parent.content.inline.items) x.grid.columns (first_start tracks) (area_size tracks) box in
    let row_shared = first_start row_tracks +ℤ margin x.grid.rows.margin_start in
    let row_own = aligned_at (self_align x.content.block.own parent.content.block.items) x.grid.rows (first_start row_tracks) (area_size row_tracks) block.0 in
    let i : Extent = record { at = if s then shared else own; size = box; given = inline } in
    let b : Extent = record { at = if t then row_shared else row_own; size = block.0; given = block.1 } in
    (framed_at parent parent i b (down_of (pos 0) [] (λ height. []))).frame

by_styles : (container style : StyleMap) (s t : Bool) (columns : View 0) (span : Span) (rows : View 1) (row_span : Span) (box : ℤ) (inline : Given) (content : ℤ)
    → frame_over container style s t columns span rows row_span box inline content ≡ frame_by (styled container) (styled style) s t columns span rows row_span box inline content
by_styles container style true true columns span rows row_span box inline content = refl
by_styles container style true false columns span rows row_span box inline content = refl
by_styles container style false true columns span rows row_span box inline content = refl
by_styles container style false false columns span rows row_span box inline content = refl

by_values : (container style : StyleMap) (parent x : Label) (s t : Bool) (columns : View 0) (span : Span) (rows : View 1) (row_span : Span) (box : ℤ) (inline : Given) (content : ℤ)
    → grid_of container ≡ parent.grid → content_of container ≡ parent.content → grid_of style ≡ x.grid → content_of style ≡ x.content
    → frame_by (styled container) (styled style) s t columns span rows row_span box inline content ≡ frame_by parent x s t columns span rows row_span box inline content
by_values container style parent x s t columns span rows row_span box inline content g c xg xc =
    λ i. frame_by (record { name = []; kind = kind.Flex; grid = g i; content = c i }) (record { name = []; kind = kind.Flex; grid = xg i; content = xc i }) s t columns span rows row_span box inline content

module _ (g : Grid) (columns : View 0) (rows : View 1) (w : Wide) where
  abbrev span : Span
  span = from_first g.placed.columns w.entry.area.columns

  abbrev row_span : Span
  row_span = from_first g.placed.rows w.entry.area.rows

  -- of the definitions
  by_definition : (s t : Bool) → shares_columns w.entry.kid ≡ s → shares_rows w.entry.kid ≡ t
      → (grid_child g columns rows w).1.frame ≡ frame_by g.label w.entry.kid.label s t columns span rows row_span w.box w.inline w.down.block
  by_definition s t p q = (λ i. by_tests (p i) (q i)) ∙ by_cases s t
    where
      x : Label
      x = w.entry.kid.label

      tracks : List (ℤ × ℤ)
      tracks = tracks_over columns.edges span

      row_tracks : List (ℤ × ℤ)
      row_tracks = tracks_over rows.edges row_span

      room : ℤ
      room = area_size row_tracks

      align : Align
      align = self_align x.content.block.own g.label.content.block.items

      own_size : ℤ
      own_size = block_used (bounds_of (Some room) x.content.border_box x.grid.rows x.content.block) (is_stretched align x.grid.rows x.content.block) (margins x.grid.rows) room w.down.block

      by_tests : Bool → Bool → Frame
      by_tests a b =
          let own : Extent = record { at = aligned_at align x.grid.rows (first_start row_tracks) room own_size; size = own_size; given = given.Size (content_of_box (bounds_of (Some room) x.content.border_box x.grid.rows x.content.block).inner own_size) } in
          let shared : Extent = record { at = first_start row_tracks +ℤ margin x.grid.rows.margin_start; size = subgrid_box x.grid.rows room; given = given_view (view_in rows row_span x.grid.rows) } in
          let shared_column = first_start tracks +ℤ margin x.grid.columns.margin_start in
          let own_column = aligned_at (self_align x.content.inline.own g.label.content.inline.items) x.grid.columns (first_start tracks) (area_size tracks) w.box in
          let i : Extent = record { at = if a then shared_column else own_column; size = w.box; given = w.inline } in
          (framed_at g.label x i (if b then shared else own) w.down).frame

      by_cases : (a b : Bool) → by_tests a b ≡ frame_by g.label x a b columns span rows row_span w.box w.inline w.down.block
      by_cases true true = refl
      by_cases true false = refl
      by_cases false true = refl
      by_cases false false = refl

-- whatever the content of a subgrid in the rows is
content_read : (parent x : Label) (s t : Bool) (columns : View 0) (span : Span) (rows : View 1) (row_span : Span) (box : ℤ) (inline : Given) (content : ℤ) →
    frame_by parent x s t columns span rows row_span box inline (if t then pos 0 else content) ≡ frame_by parent x s t columns span rows row_span box inline content
content_read parent x s true columns a rows b box inline content = refl
content_read parent x s false columns a rows b box inline content = refl

-- ---- at an index

record Made {A B C : Type 0} (f : A → B → C) (x : A) (w : C) : Type 0 where
  by : B
  is : w ≡ f x by

zipped_first : {A B C : Type 0} (f : A → B → C) (xs rest : List A) (ys : List B) (later : List C) (i : ℕ) (x : A) (w : C) → drop i (zipped f xs ys) ≡ w ∷ later → drop i xs ≡ x ∷ rest → Made f x w
zipped_first f [] rest ys later zero x w h k = absurd cc
zipped_first f [] rest ys later (suc i) x w h k = absurd cc
zipped_first f (u ∷ us) rest [] later zero x w h k = absurd cc
zipped_first f (u ∷ us) rest [] later (suc i) x w h k = absurd cc
zipped_first f (u ∷ us) rest (v ∷ vs) later zero x w h k =
    let first : f u v ≡ w = cc in
    let same : u ≡ x = cc in
    record { by = v; is = sym first ∙ ap (λ z. f z v) same }
zipped_first f (u ∷ us) rest (v ∷ vs) later (suc i) x w h k = zipped_first f us rest vs later i x w h k

map_first : {A B : Type 0} (f : A → B) (xs rest : List A) (i : ℕ) (x : A) (other : B) → drop i xs ≡ x ∷ rest → get_or (map f xs) i other ≡ f x
map_first f [] rest zero x other h = absurd cc
map_first f [] rest (suc i) x other h = absurd cc
map_first f (u ∷ us) rest zero x other h = let same : u ≡ x = cc in ap f same
map_first f (u ∷ us) rest (suc i) x other h = map_first f us rest i x other h

placed_same : (b : BareTrees) (n : NodeId) (outer : List Pair) (width : Given) (wide : GridWide) → IsWide b n outer width wide → placed_of wide.parts.base.placed ≡ (grid_seen b n outer width).placed
unfolding grid_seen
placed_same b n outer width wide is = is.grid.placed.placed

module _ (b : BareTrees) (n : NodeId) (outer : List Pair) (width : Given) (wide : GridWide) (is : IsWide b n outer width wide) (index : ℕ) (e : ChildArea) (rest : List Entry) (w : Wide) (later : List Wide)
    (entries : drop index (entries_at b n wide.parts.base.placed) ≡ entry_by b e ∷ rest) (wides : drop index (wides_seen b n outer width) ≡ w ∷ later) where
  abbrev pub g : Grid
  g = grid_seen b n outer width

  made : Made (wide_of g (columns_seen b n outer width)) (entry_by b e) w
  unfolding wides_seen grid_seen
  made = zipped_first (wide_of g (columns_seen b n outer width)) g.entries rest g.inlines later index (entry_by b e) w wides (ap (drop index) (sym is.grid.entries) ∙ entries)

  -- the child is this one
  pub entry_is : w.entry ≡ entry_by b e
  entry_is = ap (λ (z : Wide). z.entry) made.is

  -- the code holds what is known of the child
  pub child_is : (other : WideChild) → get_or wide.children index other ≡ child_of w
  child_is other = ap (λ (l : List WideChild). get_or l index other) is.wide.children ∙ map_first child_of (wides_seen b n outer width) later index w other wides

  placed_is : placed_of wide.parts.base.placed ≡ g.placed
  unfolding grid_seen
  placed_is = is.grid.placed.placed

  module _ (rows : View 1) (container style : StyleMap) (s t : Bool) (child : WideChild) (cg : grid_of container ≡ (sight_at b n).label.grid) (cc_ : content_of container ≡ (sight_at b n).label.content)
      (xg : grid_of style ≡ (sight_at b e.child).label.grid) (xc : content_of style ≡ (sight_at b e.child).label.content) (p : shares_columns (kid_at b e.child) ≡ s) (q : shares_rows (kid_at b e.child) ≡ t) (held : child ≡ child_of w) where
    columns_span : from_first wide.parts.base.placed.columns e.area.columns ≡ from_first g.placed.columns w.entry.area.columns
    columns_span = λ i. from_first (placed_is i).columns (sym entry_is i).area.columns

    rows_span : from_first wide.parts.base.placed.rows e.area.rows ≡ from_first g.placed.rows w.entry.area.rows
    rows_span = λ i. from_first (placed_is i).rows (sym entry_is i).area.rows

    label_is : g.label ≡ (sight_at b n).label
    unfolding grid_seen sight_at
    label_is = refl

    kid_is : w.entry.kid ≡ kid_at b e.child
    kid_is = ap (λ (z : Entry). z.kid) entry_is

    pub frame_is : frame_over container style s t wide.columns (from_first wide.parts.base.placed.columns e.area.columns) rows (from_first wide.parts.base.placed.rows e.area.rows) child.box_ child.inline child.block ≡ (grid_child g (columns_seen b n outer width) rows w).1.frame
    frame_is =
        by_styles container style s t wide.columns (from_first wide.parts.base.placed.columns e.area.columns) rows (from_first wide.parts.base.placed.rows e.area.rows) child.box_ child.inline child.block
        ∙ by_values container style g.label w.entry.kid.label s t wide.columns (from_first wide.parts.base.placed.columns e.area.columns) rows (from_first wide.parts.base.placed.rows e.area.rows) child.box_ child.inline child.block
        (cg ∙ ap (λ (x : Label). x.grid) (sym label_is)) (cc_ ∙ ap (λ (x : Label). x.content) (sym label_is))
        (xg ∙ ap (λ (k : Kid). k.label.grid) (sym kid_is)) (xc ∙ ap (λ (k : Kid). k.label.content) (sym kid_is))
        ∙ (λ i. frame_by g.label w.entry.kid.label s t (is.columns i) (columns_span i) rows (rows_span i) (held i).box_ (held i).inline (held i).block)
        ∙ (λ i. frame_by g.label w.entry.kid.label s t (columns_seen b n outer width) (from_first g.placed.columns w.entry.area.columns) rows (from_first g.placed.rows w.entry.area.rows) w.box w.inline (if (ap shares_rows kid_is ∙ q) i then pos 0 else w.down.block))
        ∙ content_read g.label w.entry.kid.label s t (columns_seen b n outer width) (from_first g.placed.columns w.entry.area.columns) rows (from_first g.placed.rows w.entry.area.rows) w.box w.inline w.down.block
        ∙ sym (by_definition g (columns_seen b n outer width) rows w s t (ap shares_columns kid_is ∙ p) (ap shares_rows kid_is ∙ q))

above_all : (z : ℤ) → z ≤ℤ pos (above_zero z)
above_all (pos n) = omega (arith, ints)
above_all (negsuc n) = omega (arith, ints)

lies_in : (tracks span : Span) → IsWithin tracks.start tracks.end span → track_count tracks ≤ 131072 → LiesIn tracks span
lies_in tracks span w few =
    let all : (tracks.end -ℤ tracks.start) ≤ℤ pos (track_count tracks) = above_all (tracks.end -ℤ tracks.start) in
    record { start = w.low; order = omega (arith, ints, w.some); end = w.high; few = omega (arith, ints, all, few) }

-- the area of a child lies in the tracks of the grid
pub area_lies : (b : BareTrees) (n : NodeId) (outer : List Pair) (width : Given) (wide : GridWide) (index : ℕ) (e : ChildArea) → IsWide b n outer width wide
    → drop index (entries_at b n wide.parts.base.placed) ≡ entry_by b e ∷ drop (index + 1) (entries_at b n wide.parts.base.placed)
    → ((outer : List Pair) (width : Given) → HasItemsInTracks (sight_at b n) (grid_seen b n outer width))
    → LiesIn wide.parts.base.placed.columns e.area.columns × LiesIn wide.parts.base.placed.rows e.area.rows
area_lies b n outer width wide index e is next law =
    let h = law outer width in
    let here : drop index (grid_seen b n outer width).entries ≡ entry_by b e ∷ drop (index + 1) (entries_at b n wide.parts.base.placed) = ap (drop index) (sym is.grid.entries) ∙ next in
    let a : IsAreaIn (grid_seen b n outer width).placed.columns (grid_seen b n outer width).placed.rows e.area = entry_at (grid_seen b n outer width).placed.columns (grid_seen b n outer width).placed.rows (grid_seen b n outer width).entries
    (drop (index + 1) (entries_at b n wide.parts.base.placed)) index (entry_by b e) h.inside.entries here in
    let same : placed_of wide.parts.base.placed ≡ (grid_seen b n outer width).placed = placed_same b n outer width wide is in (
      subst (λ (p : rules.Placed). LiesIn p.columns e.area.columns) (sym same) (lies_in (grid_seen b n outer width).placed.columns e.area.columns a.columns h.inside.few_columns),
      subst (λ (p : rules.Placed). LiesIn p.rows e.area.rows) (sym same) (lies_in (grid_seen b n outer width).placed.rows e.area.rows a.rows h.inside.few_rows),
    )

pub ok_both : {X Y : Type 0} (r : Result X Y) (P Q R : X → Type 0) → ((x : X) → P x → Q x → R x) → IfOk r P → IfOk r Q → IfOk r R
ok_both (Ok x) P Q R f h k = f x h k
ok_both (Err e) P Q R f h k = tt
