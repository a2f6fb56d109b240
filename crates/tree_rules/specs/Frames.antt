-- The children of a container with their rectangles and what they are given (CSS Grid 2, sections 6, 10 and 11; CSS Flexbox 1, section 9).
use Rattle.std.specs.Prelude.{◌≡◌, refl, ℕ, ◌+◌, ℤ, pos, ◌+ℤ◌, ◌-ℤ◌, int_lt, Bool, true, false, ◌&&◌, ◌||◌, List, [], ◌∷◌, ◌++◌, map, length, slice_range, Option, Some, if◌then◌else◌, None, neg_ℤ}
use Rattle.std.specs.Ordering.{int_eq}
use Rattle.lunit.specs.Units.{clamp}
use Rattle.lunit.specs.declared.geometry.Rect.{Rect}
use Rattle.lunit.specs.declared.item.Item.{Item}
use Rattle.part_rules.specs.declared.view.View.{View}
use Rattle.part_rules.specs.Alignment.{auto_taken, content_moved, self_moved}
use Rattle.part_rules.specs.FlexLines.{gaps, line_margins}
use Rattle.part_rules.specs.Lists.{joined, sum_of, zipped}
use Rattle.part_rules.specs.Views.{area_size, first_start, tracks_over}
use Rattle.tree_rules.specs.declared.query.Given.{Given}
use Rattle.tree_rules.specs.declared.query.Given.TheVariants as given
use Rattle.tree_rules.specs.Answers.{Box, Down, Frame}
use Rattle.tree_rules.specs.Distribution.{aligned_at, given_view, is_safe, mode_of, subgrid_box, view_in}
use Rattle.tree_rules.specs.FlexSizes.{Flex, Lines, Settled, column_item, cross_box, cross_content, cross_grid, crosses_of, is_stretched_across, line_align, lines_by, main_grid, settled_at}
use Rattle.tree_rules.specs.GridSizes.{Grid, TrackAxis, Wide, from_first, shares_columns, shares_rows, view_by}
use Rattle.tree_rules.specs.Labels.{GridAxis, Label, ContentAxis}
use Rattle.tree_rules.specs.NodeSizes.{block_used, bounds_of, content_of_box, fitted, inner, inner_start, is_auto_margin, is_stretched, margin, margins, self_align}
use Rattle.tree_rules.specs.Orders.{in_document_order}
use Rattle.tree_rules.specs.Repetitions.{gap_by}
use Rattle.std.specs.Prelude.{codes}
use Rattle.style_types.specs.declared.value.AlignMode.{AlignMode}
use Rattle.style_types.specs.declared.value.AlignMode.TheVariants as align_mode
use Rattle.tree_rules.specs.declared.kind.NodeKind.TheVariants as kind
use Rattle.tree_rules.specs.Labels.{plain_axis, plain_content, plain_content_axis, plain_grid}

-- ---- frames and boxes

-- A child with its frame, and what is known of it by its inline size.
pub record Framed : Type 0 where
  pub name : List ℕ
  pub frame : Frame
  pub down : Down

-- a rectangle, moved
abbrev pub moved_by : ℤ × ℤ → Rect → Rect
moved_by by r = record { x = by.0 +ℤ r.x; y = by.1 +ℤ r.y; width = r.width; height = r.height }

-- The boxes of children and of all below them, in document order, where the border box of their parent is at this position.
abbrev pub boxes_at : ℤ × ℤ → List Framed → List Box
boxes_at at [] = []
boxes_at at (f ∷ rest) =
    let rect = moved_by at f.frame.rect in
    (f.name, rect) ∷ f.down.boxes f.frame.block (rect.x, rect.y) ++ boxes_at at rest

-- These boxes, moved.
abbrev pub moved_boxes : ℤ × ℤ → List Box → List Box
moved_boxes by [] = []
moved_boxes by (b ∷ rest) = (b.0, moved_by by b.1) ∷ moved_boxes by rest

-- what is known of a container by its inline size, from the frames that it gives its children
abbrev pub down_of : ℤ → List Item → (Given → List Framed) → Down
down_of block lent framed = record {
  block = block;
  lend_rows = lent;
  frames = λ height. map (λ (f : Framed). f.frame) (framed height);
  boxes = λ height at. boxes_at at
      (framed height);
}

-- ---- grids (CSS Grid 2, section 6 and 11)

-- the place and the size of a border box along one axis, and what the child is given there
pub record Extent : Type 0 where
  pub at : ℤ
  pub size : ℤ
  pub given : Given

-- A child along the columns, from the start of the content box.
abbrev pub column_extent : Grid → View 0 → Wide → Extent
column_extent g columns w =
    let x = w.entry.kid.label in
    let tracks = tracks_over columns.edges (from_first g.placed.columns w.entry.area.columns) in
    let own = aligned_at (self_align x.content.inline.own g.label.content.inline.items) x.grid.columns (first_start tracks) (area_size tracks) w.box in
    let shared = first_start tracks +ℤ margin x.grid.columns.margin_start in
    record { at = if shares_columns w.entry.kid then shared else own; size = w.box; given = w.inline }

-- A child along the rows.
abbrev pub row_extent : Grid → View 1 → Wide → Extent
row_extent g rows w =
    let x = w.entry.kid.label in
    let span = from_first g.placed.rows w.entry.area.rows in
    let tracks = tracks_over rows.edges span in
    let size = area_size tracks in
    let b = bounds_of (Some size) x.content.border_box x.grid.rows x.content.block in
    let a = self_align x.content.block.own g.label.content.block.items in
    let box = block_used b (is_stretched a x.grid.rows x.content.block) (margins x.grid.rows) size w.down.block in
    let own : Extent = record { at = aligned_at a x.grid.rows (first_start tracks) size box; size = box; given = given.Size (content_of_box b.inner box) } in
    let shared : Extent = record {
      at = first_start tracks +ℤ margin x.grid.rows.margin_start;
      size = subgrid_box x.grid.rows size;
      given = given_view
          (view_in rows span x.grid.rows);
    } in
    if shares_rows w.entry.kid then shared else own

-- A child with these places, from the content box of its parent, whose borders and paddings lie before it.
abbrev pub framed_at : Label → Label → Extent → Extent → Down → Framed
framed_at parent x i b d = record {
  name = x.name;
  frame = record {
    rect = record { x = inner_start parent.grid.columns +ℤ i.at; y = inner_start parent.grid.rows +ℤ b.at; width = i.size; height = b.size };
    inline = i.given;
    block = b.given;
  };
  down = d;
}

-- a child with its number in document order
abbrev pub grid_child : Grid → View 0 → View 1 → Wide → ℕ × Framed
grid_child g columns rows w = (w.entry.number, framed_at g.label w.entry.kid.label (column_extent g columns w) (row_extent g rows w) w.down)

-- The children of a grid, in document order, in these columns and by what it is given in the block axis.
abbrev pub grid_framed : Grid → View 0 → TrackAxis → List Wide → Given → List Framed
grid_framed g columns axis wides height =
    let rows : View 1 = view_by axis height in
    in_document_order (map (grid_child g columns rows) wides)

-- ---- flex containers (CSS Flexbox 1, 9.4 to 9.6)

-- A child with its main size and its hypothetical cross size, as border-box sizes.
pub record Sitting : Type 0 where
  pub settled : Settled
  pub main : ℤ
  pub cross : ℤ

-- the start and the size of a line across
pub record LineAt : Type 0 where
  pub at : ℤ
  pub size : ℤ

-- the margins along an axis: whether each is `auto`
abbrev pub auto_margins : GridAxis → List Bool
auto_margins g = is_auto_margin g.margin_start ∷ is_auto_margin g.margin_end ∷ []

-- The cross size of a child in its line: stretched to it within its limits, or its hypothetical one.
abbrev pub size_across : Bool → Label → ℤ → LineAt → Sitting → ℤ
size_across column container cross l s =
    let x = s.settled.member.kid.label in
    let b = bounds_of (Some cross) x.content.border_box (cross_grid column x) (cross_content column x) in
    let stretched = clamp (fitted b (l.size -ℤ margins (cross_grid column x))) in
    if is_stretched_across column container x then stretched else s.cross

-- Where its border box starts across: after its `auto` margins have taken what is free, by its self value. With an `auto` margin and a
-- size beyond the line it is placed as start (CSS Flexbox 1, 9.6).
abbrev pub place_across : Bool → Label → LineAt → Label → ℤ → ℤ
place_across column container l x size =
    let g = cross_grid column x in
    let a = line_align container x in
    let free = l.size -ℤ size -ℤ margins g in
    let taken = auto_taken free (is_auto_margin g.margin_start) (is_auto_margin g.margin_end) in
    let by = self_moved (mode_of a.mode) (is_safe a) (free -ℤ taken.0 -ℤ taken.1) in
    let start = if int_lt free (pos 0) && (is_auto_margin g.margin_start || is_auto_margin g.margin_end) then pos 0 else by in
    l.at +ℤ margin g.margin_start +ℤ taken.0 +ℤ start

-- what a child is given that has a border box of this size along an axis
abbrev pub given_box : GridAxis → ℤ → Given
given_box g box = given.Size (content_of_box (inner g) box)

-- In a column a child that is stretched to its line is given that width, and keeps the block size found before (own rule: it could also be
-- sized again); what is below
-- it is laid out in the new width.
abbrev pub settled_across : Settled → ℤ → Settled
settled_across s box =
    let again = settled_at s.member box in
    if int_eq s.box box then s else again

-- a child of a row with its places
abbrev pub row_child : Label → ℤ → ℤ → ℤ → Sitting → ℕ × Framed
row_child container at across size s =
    let x = s.settled.member.kid.label in
    let i : Extent = record { at = at; size = s.main; given = s.settled.inline } in
    let b : Extent = record { at = across; size = size; given = given_box x.grid.rows size } in
    (s.settled.member.number, framed_at container x i b s.settled.down)

-- a child of a column with its places
abbrev pub column_child : Label → ℤ → ℤ → ℤ → Sitting → ℕ × Framed
column_child container at across size s =
    let x = s.settled.member.kid.label in
    let new = settled_across s.settled size in
    let i : Extent = record { at = across; size = size; given = new.inline } in
    let b : Extent = record { at = at; size = s.main; given = given_box x.grid.rows s.main } in
    (s.settled.member.number, framed_at container x i b new.down)

-- a child in its line
abbrev pub flex_child : Bool → Label → ℤ → LineAt → ℤ → Sitting → ℕ × Framed
flex_child column container cross l at s =
    let size = size_across column container cross l s in
    let across = place_across column container l s.settled.member.kid.label size in
    let row = row_child container at across size s in
    let col = column_child container at across size s in
    if column then col else row

-- The children of a line one after another, where the next is number k and would start at this place but for what it is moved by. The
-- margins that are `auto` have these shares.
abbrev pub along_line : Bool → Label → ℤ → LineAt → (ℕ → ℤ) → ℤ → ℕ → ℤ → List ℤ → List Sitting → List (ℕ × Framed)
along_line column container cross l moved gap k at [] rest = []
along_line column container cross l moved gap k at (t ∷ []) rest = []
along_line column container cross l moved gap k at (t ∷ u ∷ taken) [] = []
along_line column container cross l moved gap k at (t ∷ u ∷ taken) (s ∷ rest) =
    let g = main_grid column s.settled.member.kid.label in
    let start = at +ℤ moved k +ℤ margin g.margin_start +ℤ t in
    let next = at +ℤ t +ℤ u +ℤ s.main +ℤ margins g +ℤ gap in
    flex_child column container cross l start s ∷ along_line column container cross l moved gap (k + 1) next taken rest

-- The children of a line: its `auto` margins share what is left of the main size, and the content distribution has the rest (CSS Flexbox 1,
-- 9.5).
abbrev pub line_framed : Bool → Label → ℤ → ℤ → ℤ → LineAt → List Sitting → List (ℕ × Framed)
line_framed column container main cross gap l line =
    let rest = main -ℤ gaps gap (length line) -ℤ sum_of (map (λ (s : Sitting). s.main +ℤ margins (main_grid column s.settled.member.kid.label)) line) in
    let taken = line_margins rest (joined (map (λ (s : Sitting). auto_margins (main_grid column s.settled.member.kid.label)) line)) in
    let free = rest -ℤ sum_of taken in
    let a = container.content.inline.distribution in
    along_line column container cross l (λ k. content_moved (mode_of a.mode) (is_safe a) free k (length line)) gap 0 (pos 0) taken line

-- The lines one after another, where the next is number k and would start at this place but for what it is moved by.
abbrev pub lines_framed : Bool → Label → ℤ → ℤ → ℤ → ℤ → (ℕ → ℤ) → ℕ → ℤ → List ℤ → List (ℕ × ℕ) → List Sitting → List (ℕ × Framed)
lines_framed column container main cross gap between moved k at [] ranges all = []
lines_framed column container main cross gap between moved k at (size ∷ sizes) [] all = []
lines_framed column container main cross gap between moved k at (size ∷ sizes) (range ∷ ranges) all =
    let l : LineAt = record { at = at +ℤ moved k; size = size } in
    line_framed column container main cross gap l (slice_range all range.0 range.1) ++
    lines_framed column container main cross gap between moved (k + 1) (at +ℤ size +ℤ between) sizes ranges all

-- a child with its main size, limited as each box size is
abbrev pub sitting_of : Bool → Option ℤ → Settled → ℤ → Sitting
sitting_of column cross s main = record { settled = s; main = clamp main; cross = cross_box column cross s }

-- The children of a flex container with these sizes of its content box, in document order.
abbrev pub flex_framed : Bool → Flex → ℤ → ℤ → Lines → List Settled → List Framed
flex_framed column f main cross lines settled =
    let x = f.label in
    let gap = gap_by (Some main) (pos 0) (main_grid column x).gap in
    let between = gap_by (Some cross) (pos 0) (cross_grid column x).gap in
    let sizes = crosses_of column x settled lines.ranges (Some cross) in
    let free = cross -ℤ gaps between (length sizes) -ℤ sum_of sizes in
    let a = x.content.block.distribution in
    let all = zipped (sitting_of column (Some cross)) settled lines.mains in
    in_document_order
    (lines_framed column x main cross gap between (λ k. content_moved (mode_of a.mode) (is_safe a) free k (length sizes)) 0 (pos 0) sizes
    lines.ranges all)

-- the size that is given
abbrev pub given_size : Given → ℤ
given_size (given.Size x) = x
given_size given.None = pos 0
given_size (given.Tracks edges gap) = pos 0

-- The children of a row.
abbrev pub row_framed : Flex → ℤ → Lines → List Settled → Given → List Framed
row_framed f width lines settled height = flex_framed false f width (given_size height) lines settled

-- The children of a column: its main size is the height.
abbrev pub column_framed : Flex → ℤ → List Settled → Given → List Framed
column_framed f width settled height =
    let main = given_size height in
    let lines = lines_by f.label main (gap_by (Some main) (pos 0) f.label.grid.rows.gap) (map (column_item (Some main)) settled) in
    flex_framed true f main width lines settled

-- ---- worked rows, in units

abbrev line_at : ℤ → ℤ → LineAt
line_at at size = record { at = at; size = size }

-- a node with these values in the rows
abbrev node_of : GridAxis → ContentAxis → Label
node_of g c = record { name = []; kind = kind.Grid; grid = record plain_grid { rows = g }; content = record plain_content { block = c } }

abbrev by : AlignMode → ContentAxis
by m = record plain_content_axis { own = record { mode = m; safe = None } }

-- A row of 50 from 100 on, in which a node of 20 stands at the end.
ends_line : place_across false (node_of plain_axis plain_content_axis) (line_at (pos 100) (pos 50)) (node_of plain_axis (by align_mode.End)) (pos 20) ≡ pos 130
ends_line = refl

-- Its one `auto` margin after it takes what is free.
margin_takes : place_across false (node_of plain_axis plain_content_axis) (line_at (pos 100) (pos 50))
    (node_of (record plain_axis { margin_end = None }) (by align_mode.End)) (pos 20) ≡ pos 100
margin_takes = refl

-- A node of 70 passes the line by 20: at the end it starts 20 before it, but with an `auto` margin at its start.
passes_line : place_across false (node_of plain_axis plain_content_axis) (line_at (pos 100) (pos 50)) (node_of plain_axis (by align_mode.End)) (pos 70) ≡ pos 80
passes_line = refl

passes_with_margin : place_across false (node_of plain_axis plain_content_axis) (line_at (pos 100) (pos 50))
    (node_of (record plain_axis { margin_end = None }) (by align_mode.End)) (pos 70) ≡ pos 100
passes_with_margin = refl

-- Two boxes below a node at (10, 20): the second has one below it at (1, 2) of its own.
abbrev framed_box : List ℕ → ℤ → ℤ → Down → Framed
framed_box name x y d = record {
  name = name;
  frame = record { rect = record { x = x; y = y; width = pos 5; height = pos 6 }; inline = given.None; block = given.None };
  down
      = d;
}

abbrev leaf_below : Down
leaf_below = down_of (pos 0) [] (λ height. [])

told_in_order : boxes_at (pos 10, pos 20)
    (framed_box (codes "a") (pos 3) (pos 4) leaf_below ∷
    framed_box (codes "b") (pos 5) (pos 7) (down_of (pos 0) [] (λ height. framed_box (codes "c") (pos 1) (pos 2) leaf_below ∷ [])) ∷ [])
    ≡ (codes "a", record { x = pos 13; y = pos 24; width = pos 5; height = pos 6 }) ∷
    (codes "b", record { x = pos 15; y = pos 27; width = pos 5; height = pos 6 }) ∷
    (codes "c", record { x = pos 16; y = pos 29; width = pos 5; height = pos 6 }) ∷ []
told_in_order = refl

-- The two boxes of the row above, moved by 7 to the left and by 5 down.
moved_together : moved_boxes (neg_ℤ (pos 7), pos 5)
    ((codes "a", record { x = pos 13; y = pos 24; width = pos 5; height = pos 6 }) ∷
    (codes "c", record { x = pos 16; y = pos 29; width = pos 5; height = pos 6 }) ∷ [])
    ≡ (codes "a", record { x = pos 6; y = pos 29; width = pos 5; height = pos 6 }) ∷
    (codes "c", record { x = pos 9; y = pos 34; width = pos 5; height = pos 6 }) ∷ []
moved_together = refl
