-- A grid once the counts of its repetitions are known: its items, the sizes of its tracks, and the two intrinsic sizes of its content (CSS Grid
-- 2, section 12).
use Rattle.std.specs.Prelude.{◌≡◌, refl, ℕ, ℤ, pos, ◌-ℤ◌, Bool, ◌&&◌, List, [], ◌∷◌, ◌++◌, map, reverse, Option, Some, None, option_map, if◌then◌else◌, false, length}
use Rattle.std.specs.Int.{int_max}
use Rattle.lunit.specs.Units.{clamp}
use Rattle.lunit.specs.declared.geometry.Area.{Area}
use Rattle.lunit.specs.declared.geometry.Span.{Span}
use Rattle.lunit.specs.declared.item.Item.{Item}
use Rattle.part_rules.specs.declared.track.Fit.{Fit}
use Rattle.part_rules.specs.declared.track.Space.{Space}
use Rattle.part_rules.specs.declared.track.Space.TheVariants.{Definite, MinContent, MaxContent}
use Rattle.part_rules.specs.declared.view.View.{View}
use Rattle.part_rules.specs.Lists.{joined, zipped}
use Rattle.part_rules.specs.Tracks.{track_sizes}
use Rattle.part_rules.specs.Views.{area_size, tracks_over}
use Rattle.tree_rules.specs.declared.query.Given.{Given}
use Rattle.tree_rules.specs.declared.query.Given.TheVariants as given
use Rattle.tree_rules.specs.Answers.{Down, Kid, Pair}
use Rattle.tree_rules.specs.Chains.{Link, has_chain, is_subgrid, sibling_of}
use Rattle.tree_rules.specs.Contexts.{AxisContext, Context, Placed, context_by, placed_children}
use Rattle.tree_rules.specs.Distribution.{Sized, edges_in, given_view, subgrid_box, total_of_tracks, view_in}
use Rattle.tree_rules.specs.Labels.{ContentAxis, GridAxis, Label}
use Rattle.tree_rules.specs.LentItems.{child_item, empty_item}
use Rattle.tree_rules.specs.NodeSizes.{bounds_of, content_of_box, inline_used, is_stretched, margins, self_align, stretches}
use Rattle.tree_rules.specs.Orders.{in_order}
use Rattle.tree_rules.specs.Repetitions.{gap_by, own_pair}
use Rattle.tree_rules.specs.Templates.{Written, written}
use Rattle.tree_rules.specs.TrackRules.{axis_rules, tracks_of}
use Rattle.lunit.specs.declared.item.Floor.TheVariants.{Known}
use Rattle.part_rules.specs.Fractions.{left_flexible}
use Rattle.part_rules.specs.Sharing.{handed_by_level}
use Rattle.part_rules.specs.Tracks.{sized, group_fitted, spans_fitted}
use Rattle.style_types.specs.declared.track.Breadth.TheVariants as breadth
use Rattle.style_types.specs.declared.value.Size.TheVariants as size
use Rattle.tree_rules.specs.Labels.{plain_axis, plain_content_axis}
use Rattle.tree_rules.specs.Templates.{px_track}
use Rattle.style_types.specs.declared.track.TrackFn.{TrackFn}
use Rattle.lunit.specs.Units.{floor_div}
use Rattle.style_types.specs.declared.value.Size.{Size}
use Rattle.style_types.specs.Table.{auto_track}

-- ---- the tracks of one axis (CSS Grid 2, section 12)

-- What the sizes of the tracks of one axis depend on.
pub record TrackAxis : Type 0 where
  pub border_box : Bool
  pub grid : GridAxis
  pub content : ContentAxis
  pub written : Written
  -- the spans of the children, and of all tracks
  pub spans : List Span
  pub tracks : Span
  pub items : List Item

-- What the tracks are sized for: the declared minimum and maximum count where they are lengths, as content sizes.
abbrev pub fit_of_axis : {axis : ℕ} → TrackAxis → Space axis → ℤ → Fit axis
fit_of_axis a space gap =
    let b = bounds_of None a.border_box a.grid a.content in
    record {
      space = space;
      min = option_map (λ v. v -ℤ b.inner) b.least;
      max = option_map (λ v. v -ℤ b.inner) b.most;
      gap = gap;
      stretch = stretches
          a.content.distribution.mode;
    }

-- The tracks of an axis, sized for this space. Percentages are of this size, or of none.
abbrev pub sized_for : {axis : ℕ} → TrackAxis → Space axis → Option ℤ → Sized
sized_for a space base =
    let rules = axis_rules base a.grid a.written a.spans (tracks_of a.tracks) in
    let gap = gap_by base (pos 0) a.grid.gap in
    record { rules = rules; sizes = track_sizes rules a.tracks.start a.items (fit_of_axis a space gap); gap = gap }

-- the total of the tracks for an intrinsic space, where percentages are of nothing
abbrev pub total_for : {axis : ℕ} → TrackAxis → Space axis → ℤ
total_for a space = clamp (total_of_tracks (sized_for a space None))

-- The tracks in a container whose content box has this size: sized for it as a definite space, and distributed in it, also where
-- the block size is asked (the sizes alone could also do there).
abbrev pub view_for : {axis : ℕ} → TrackAxis → ℤ → View axis
view_for {axis} a size =
    let space : Space axis = Definite size in
    let s = sized_for a space (Some size) in
    record { edges = edges_in a.content.distribution size s; gap = s.gap }

-- The tracks of an axis by what the grid is given there.
abbrev pub view_by : {axis : ℕ} → TrackAxis → Given → View axis
view_by a (given.Tracks edges gap) = record { edges = edges; gap = gap }
view_by a (given.Size size) = view_for a size
view_by a given.None = view_for a (pos 0)

-- ---- children (CSS Grid 2, 12.5 and section 9)

-- a child in its area, with its number in document order
pub record Entry : Type 0 where
  pub number : ℕ
  pub kid : Kid
  pub area : Area

-- a child that is a subgrid in the columns
abbrev pub shares_columns : Kid → Bool
shares_columns k = has_chain k.chain && is_subgrid k.label.grid.columns.template

-- a child that is a subgrid in the rows
abbrev pub shares_rows : Kid → Bool
shares_rows k = has_chain k.chain && is_subgrid k.label.grid.rows.template

-- the counts of the repetitions that a child sees above it: all of these where it is a subgrid, else none
abbrev pub pairs_for : Kid → List Pair → List Pair
pairs_for k pairs = if has_chain k.chain then pairs else []

-- the child of this number in this area
abbrev pub entry_of : ℕ × Kid → ℕ × Area → Entry
entry_of k a = record { number = k.0; kid = k.1; area = a.1 }

-- The intrinsic inline sizes of a child; those of a subgrid in the columns are not asked for.
abbrev pub inline_of_entry : List Pair → Entry → ℤ × ℤ
inline_of_entry pairs e =
    let sizes = e.kid.answers.inline (pairs_for e.kid pairs) in
    let none : ℤ × ℤ = (pos 0, pos 0) in
    if shares_columns e.kid then none else sizes

-- The items of a child along the columns: those that a subgrid lends, else the child itself.
abbrev pub column_items_of : AxisContext → List Pair → Entry → ℤ × ℤ → List Item
column_items_of c pairs e sizes =
    let x = e.kid.label in
    let lent = e.kid.answers.lend_columns pairs in
    let own = child_item c.levels x.content.border_box x.content.scrolls x.grid.columns x.content.inline e.area.columns sizes ∷ [] in
    if shares_columns e.kid then lent else own

-- The items of a child along the rows, once its inline size is given.
abbrev pub row_items_of : AxisContext → Entry → Down → List Item
row_items_of c e d =
    let x = e.kid.label in
    let lent = d.lend_rows in
    let own = child_item c.levels x.content.border_box x.content.scrolls x.grid.rows x.content.block e.area.rows (d.block, d.block) ∷ [] in
    if shares_rows e.kid then lent else own

-- ---- a grid (CSS Grid 2, section 5.2)

-- A grid once the counts of its repetitions are known. The children stand in order-modified document order.
pub record Grid : Type 0 where
  pub label : Label
  -- the counts that its subgrids see
  pub pairs : List Pair
  pub context : Context
  pub placed : Placed
  pub entries : List Entry
  pub inlines : List (ℤ × ℤ)
  -- the axis of the columns
  pub columns : TrackAxis

-- the spans of the children along the columns
abbrev pub column_spans : Placed → List Span
column_spans p = map (λ (a : ℕ × Area). a.1.columns) p.areas

-- the spans of the children along the rows
abbrev pub row_spans : Placed → List Span
row_spans p = map (λ (a : ℕ × Area). a.1.rows) p.areas

-- The grid with these links upwards and these children, by the counts of the repetitions that it sees above it and what it is given in the
-- inline axis.
abbrev pub grid_by : Label → List Link → List Kid → List Pair → Given → Grid
grid_by x chain kids outer width =
    let pair : Pair = own_pair x width in
    let pairs : List Pair = outer ++ pair ∷ [] in
    let context = context_by x.grid chain (reverse pairs) in
    let placed = placed_children context x.grid (map (λ (k : Kid). sibling_of k.label) kids) in
    let entries = zipped entry_of (in_order (λ (k : Kid). k.label.grid.order) kids) placed.areas in
    let inlines = map (inline_of_entry pairs) entries in
    let items = joined (zipped (column_items_of context.columns pairs) entries inlines) in
    let columns : TrackAxis = record {
      border_box = x.content.border_box;
      grid = x.grid.columns;
      content = x.content.inline;
      written = written x.grid.columns.template pair.0;
      spans = column_spans placed;
      tracks = placed.columns;
      items = items;
    } in
    record { label = x; pairs = pairs; context = context; placed = placed; entries = entries; inlines = inlines; columns = columns }

-- Inline sizes of the content: the totals of the columns under a min-content and a max-content space, the second at least the first.
abbrev pub grid_inline : Grid → ℤ × ℤ
grid_inline g =
    let low_space : Space 0 = MinContent in
    let high_space : Space 0 = MaxContent in
    let low = total_for g.columns low_space in
    (low, int_max low (total_for g.columns high_space))

-- The items that a subgrid in the columns lends.
abbrev pub grid_lends_columns : Grid → List Item
grid_lends_columns g = empty_item g.context.columns.levels ++ g.columns.items

-- ---- once the columns are known (CSS Grid 2, 12.1)

-- a span counted from the first track
abbrev pub from_first : Span → Span → Span
from_first tracks s = record { start = s.start -ℤ tracks.start; end = s.end -ℤ tracks.start }

-- A child with its inline size.
pub record Wide : Type 0 where
  pub entry : Entry
  -- the size of its border box, and what it is given
  pub box : ℤ
  pub inline : Given
  pub down : Down

-- The border box of a child in its columns, and what it is given there.
abbrev pub child_inline : Grid → View 0 → Entry → ℤ × ℤ → ℤ × Given
child_inline g columns e sizes =
    let x = e.kid.label in
    let span = from_first g.placed.columns e.area.columns in
    let size = area_size (tracks_over columns.edges span) in
    let b = bounds_of (Some size) x.content.border_box x.grid.columns x.content.inline in
    let stretched = is_stretched (self_align x.content.inline.own g.label.content.inline.items) x.grid.columns x.content.inline in
    let box = inline_used b stretched (margins x.grid.columns) size sizes in
    let own : ℤ × Given = (box, given.Size (content_of_box b.inner box)) in
    let shared : ℤ × Given = (subgrid_box x.grid.columns size, given_view (view_in columns span x.grid.columns)) in
    if shares_columns e.kid then shared else own

-- the child with its inline size
abbrev pub wide_of : Grid → View 0 → Entry → ℤ × ℤ → Wide
wide_of g columns e sizes =
    let inline : ℤ × Given = child_inline g columns e sizes in
    record { entry = e; box = inline.0; inline = inline.1; down = e.kid.answers.down (pairs_for e.kid g.pairs) inline.1 }

-- all children with their inline sizes
abbrev pub wide_children : Grid → View 0 → List Wide
wide_children g columns = zipped (wide_of g columns) g.entries g.inlines

-- The axis of the rows.
abbrev pub rows_of_grid : Grid → List Wide → TrackAxis
rows_of_grid g wides =
    let x = g.label in
    let pair : Pair = own_pair x given.None in
    let items = joined (map (λ (w : Wide). row_items_of g.context.rows w.entry w.down) wides) in
    record {
      border_box = x.content.border_box;
      grid = x.grid.rows;
      content = x.content.block;
      written = written x.grid.rows.template pair.1;
      spans =
          row_spans g.placed;
      tracks = g.placed.rows;
      items = items;
    }

-- The block size of the content: the total of the rows under a max-content space. That of a subgrid in the rows is not asked for.
abbrev pub grid_block : Grid → TrackAxis → ℤ
grid_block g rows =
    let space : Space 1 = MaxContent in
    let total = total_for rows space in
    if g.context.rows.subgrid then pos 0 else total

-- The items that a subgrid in the rows lends.
abbrev pub grid_lends_rows : Grid → TrackAxis → List Item
grid_lends_rows g rows = empty_item g.context.rows.levels ++ rows.items

-- ---- worked rows, in units

abbrev an_item : ℤ → ℤ → ℤ → ℤ → Item
an_item start end low high = record { span = record { start = start; end = end }; low = low; high = high; floor = Known low }

-- the columns of these sizes, with a gap, a minimum and a maximum, and these items
abbrev columns_with : List TrackFn → Size → Size → Size → List Item → TrackAxis
columns_with sizes gap least most items = record {
  border_box = false;
  grid = record plain_axis { gap = gap };
  content = record plain_content_axis { least = least; most = most };
  written =
      record { sizes = sizes; names = []; fit = None };
  spans = [];
  tracks = record { start = pos 0; end = pos (length sizes) };
  items = items;
}

abbrev low_space : Space 0
low_space = MinContent

abbrev high_space : Space 0
high_space = MaxContent

-- An `auto` column of an item of 20 to 50 beside a fixed one of 30, with a gap of 5.
low_total : total_for
    (columns_with (auto_track ∷ px_track 30 ∷ []) (size.Length (pos 5)) size.Auto size.Absent (an_item (pos 0) (pos 1) (pos 20) (pos 50) ∷ []))
    low_space ≡ pos 55
unfolding clamp floor_div sized group_fitted spans_fitted handed_by_level left_flexible
low_total = refl

high_total : total_for
    (columns_with (auto_track ∷ px_track 30 ∷ []) (size.Length (pos 5)) size.Auto size.Absent (an_item (pos 0) (pos 1) (pos 20) (pos 50) ∷ []))
    high_space ≡ pos 85
unfolding clamp floor_div sized group_fitted spans_fitted handed_by_level left_flexible
high_total = refl

-- A percentage gap is nothing of an intrinsic space, and a percentage column is `auto`.
percentages_of_nothing : total_for
    (columns_with (record { least = breadth.Percent 50000; most = breadth.Percent 50000; fit = None } ∷ px_track 30 ∷ []) (size.Percent 10000)
    size.Auto size.Absent (an_item (pos 0) (pos 1) (pos 20) (pos 50) ∷ [])) low_space ≡ pos 50
unfolding clamp floor_div sized group_fitted spans_fitted handed_by_level left_flexible
percentages_of_nothing = refl

-- Under a declared maximum of 60 the `auto` column grows by what that leaves of 20 and 30, to 30.
within_maximum : total_for
    (columns_with (auto_track ∷ px_track 30 ∷ []) size.Normal size.Auto (size.Length (pos 60))
    (an_item (pos 0) (pos 1) (pos 20) (pos 50) ∷ [])) high_space ≡ pos 60
unfolding clamp floor_div sized group_fitted spans_fitted handed_by_level left_flexible
within_maximum = refl

-- Up to a declared minimum of 100 an `auto` column is stretched.
up_to_minimum : total_for
    (columns_with (auto_track ∷ px_track 30 ∷ []) size.Normal (size.Length (pos 100)) size.Absent
    (an_item (pos 0) (pos 1) (pos 20) (pos 50) ∷ [])) low_space ≡ pos 100
unfolding clamp floor_div sized group_fitted spans_fitted handed_by_level left_flexible
up_to_minimum = refl

-- In a width of 200 a gap of 10% is 20, and the `auto` column is stretched over what is left.
in_width : view_for {axis = 0}
    (columns_with (auto_track ∷ px_track 30 ∷ []) (size.Percent 10000) size.Auto size.Absent (an_item (pos 0) (pos 1) (pos 20) (pos 50) ∷ []))
    (pos 200) ≡ record { edges = (pos 0, pos 150) ∷ (pos 170, pos 200) ∷ []; gap = pos 20 }
unfolding clamp floor_div sized group_fitted spans_fitted handed_by_level left_flexible
in_width = refl

-- What a subgrid is given is what it sees.
given_tracks : view_by {axis = 0} (columns_with [] size.Normal size.Auto size.Absent []) (given.Tracks ((pos 0, pos 9) ∷ []) (pos 3)) ≡
    record { edges = (pos 0, pos 9) ∷ []; gap = pos 3 }
given_tracks = refl
