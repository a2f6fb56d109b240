-- The children of a grid stand near it, and what they are given is near.
use Rattle.std.proofs.Common.{arith, ℕ, zero, suc, ◌+◌, ◌-◌, ◌^◌, ◌≤◌, ℤ, pos, ◌+ℤ◌, ◌-ℤ◌, ◌≤ℤ◌, Bool, true, false, List, [], ◌∷◌, drop, take, map, Some, if◌then◌else◌}
use Rattle.std.specs.Int.{int_max}
use Rattle.std.specs.Prelude.{unwrap_or}
use Rattle.std.proofs.lemmas.Int.{ints}
use Rattle.inline_sizes.proofs.InRange.{margins_units}
use Rattle.inline_sizes.specs.TrackAxes.{track_count}
use Rattle.lunit.specs.Units.{IsUnits}
use Rattle.lunit.specs.declared.geometry.Area.{Area}
use Rattle.lunit.specs.declared.geometry.Span.{Span}
use Rattle.part_rules.specs.declared.view.View.{View}
use Rattle.part_rules.specs.Alignment.{auto_taken, self_moved}
use Rattle.part_rules.specs.Lists.{above_zero, zipped}
use Rattle.part_rules.specs.Views.{area_size, content_size, first_start, last_end, tracks_over}
use Rattle.placing.proofs.Each.{Each}
use Rattle.placing.proofs.Numbers.{each_sorted}
use Rattle.placing.specs.Ranges.{IsGridAxis, IsGridStyle, IsSize}
use Rattle.style_types.specs.declared.value.Align.{Align}
use Rattle.style_types.specs.declared.value.Size.{Size}
use Rattle.style_types.specs.declared.value.Size.TheVariants as size
use Rattle.tree_rules.specs.Answers.{Kid}
use Rattle.tree_rules.specs.Distribution.{aligned_at, given_view, is_safe, mode_of, subgrid_box, view_in}
use Rattle.tree_rules.specs.Frames.{Extent, Framed, column_extent, grid_child, grid_framed, row_extent}
use Rattle.tree_rules.specs.GridSizes.{Entry, Grid, TrackAxis, Wide, child_inline, entry_of, from_first, shares_columns, shares_rows, view_by, wide_of}
use Rattle.tree_rules.specs.Labels.{GridAxis, Label}
use Rattle.tree_rules.specs.NodeSizes.{Bounds, block_used, bounds_of, content_of_box, fit_to, fitted, inline_used, inner, inner_start, is_auto_margin, is_stretched, margin, margins, outer_end, outer_start, self_align}
use Rattle.tree_rules.specs.Orders.{sorted_by}
use Rattle.tree_rules.specs.Repetitions.{gap_by}
use Rattle.tree_rules.specs.declared.query.Given.{Given}
use Rattle.tree_rules.specs.declared.query.Given.TheVariants as given
use Rattle.block_sizes.proofs.Seen.{spread_grows, view_spread}
use Rattle.placing.specs.Spread.{AreBetween, AreSpread}
use Rattle.box_layout.proofs.Near.{clamped_units, gap_units, margin_units, pair_of}
use Rattle.box_layout.proofs.OwnTracks.{view_gap, view_near}
use Rattle.box_layout.proofs.Rooms.{after_room, before_room, edges_start, moved_rest}
use Rattle.box_layout.proofs.Sums.{rest_is, room_is}
use Rattle.box_layout.specs.Ranges.{IsEdges, IsRest, IsRoom, IsWithin}
use Rattle.box_layout.specs.Stands.{IsGivenNear, StandBelow, StandsBelow, farthest_child, near_by}

abbrev Edges : Type 0
Edges = List (ℤ × ℤ)

-- ---- where the tracks of a span start

take_between : (low high : ℤ) (n : ℕ) (edges : Edges) → AreBetween low high edges → AreBetween low high (take n edges)
take_between low high zero edges h = tt
take_between low high (suc n) [] h = tt
take_between low high (suc n) (e ∷ rest) h = (h.0, take_between low high n rest h.1)

drop_between : (low high : ℤ) (n : ℕ) (edges : Edges) → AreBetween low high edges → AreBetween low high (drop n edges)
drop_between low high zero edges h = h
drop_between low high (suc n) [] h = tt
drop_between low high (suc n) (e ∷ rest) h = drop_between low high n rest h.1

first_between : (low high : ℤ) (by : ℕ) (tracks : Edges) → low ≤ℤ pos 0 → pos 0 ≤ℤ high → (high -ℤ low) ≤ℤ pos by → AreBetween low high tracks → IsWithin by (first_start tracks)
first_between low high by [] l g w h = (omega (arith, ints), omega (arith, ints))
first_between low high by (e ∷ rest) l g w h = (omega (arith, ints, l, g, w, h.0.start_low), omega (arith, ints, l, g, w, h.0.start_high))

first_within : (by : ℕ) (edges : Edges) (span : Span) → AreSpread by edges → IsWithin by (first_start (tracks_over edges span))
first_within by edges span h =
    let from = above_zero span.start in
    let count = above_zero span.end - above_zero span.start in
    first_between h.low h.high by (take count (drop from edges)) h.below h.above h.width (take_between h.low h.high count (drop from edges) (drop_between h.low h.high from edges h.between))

-- ---- an item in its area

at_within : (by : ℕ) (start m t s : ℤ) → IsWithin by start → IsUnits m → IsRoom t → IsRest s → IsWithin (by + 2 ^ 36) (start +ℤ m +ℤ t +ℤ s)
at_within by start m t s h u k l = (omega (arith, ints, h.0, u.0, k.0, l.0), omega (arith, ints, h.1, u.1, k.1, l.1))

aligned_within : (by : ℕ) (a : Align) (g : GridAxis) (start room box : ℤ) → IsGridAxis g → IsWithin by start → IsUnits room → IsUnits box → IsWithin (by + 2 ^ 36) (aligned_at a g start room box)
aligned_within by a g start room box axis h u k =
    let free = room -ℤ box -ℤ margins g in
    let taken : ℤ × ℤ = auto_taken free (is_auto_margin g.margin_start) (is_auto_margin g.margin_end) in
    let rest = free -ℤ taken.0 -ℤ taken.1 in
    let space : IsRoom free = room_is room box (margins g) u k (pair_of (margins g) (margins_units g axis)) in
    let before : IsRoom taken.0 = before_room free (is_auto_margin g.margin_start) (is_auto_margin g.margin_end) space in
    let after : IsRoom taken.1 = after_room free (is_auto_margin g.margin_start) (is_auto_margin g.margin_end) space in
    let by_value : IsRest (self_moved (mode_of a.mode) (is_safe a) rest) = moved_rest (mode_of a.mode) (is_safe a) rest (rest_is free taken.0 taken.1 space before after) in
    at_within by start (margin g.margin_start) taken.0 (self_moved (mode_of a.mode) (is_safe a) rest) h (margin_units g.margin_start axis.margin_start) before by_value

shared_within : (by : ℕ) (start m : ℤ) → IsWithin by start → IsUnits m → IsWithin (by + 2 ^ 36) (start +ℤ m)
shared_within by start m h u = (omega (arith, ints, h.0, u.0), omega (arith, ints, h.1, u.1))

area_units : (tracks : Edges) → IsUnits (area_size tracks)
area_units tracks = clamped_units (int_max (pos 0) (last_end tracks -ℤ first_start tracks))

box_units : (g : GridAxis) (room : ℤ) → IsUnits (subgrid_box g room)
box_units g room = clamped_units (int_max (inner g) (room -ℤ margins g))

pub content_units : (p box : ℤ) → IsUnits (content_of_box p box)
content_units p box = clamped_units (box -ℤ p)

pub inline_units : (b : Bounds) (stretched : Bool) (m room : ℤ) (content : ℤ × ℤ) → IsUnits (inline_used b stretched m room content)
inline_units b stretched m room content = clamped_units (fitted b (unwrap_or b.size (if stretched then room -ℤ m else fit_to b m room content)))

pub block_units : (b : Bounds) (stretched : Bool) (m room content : ℤ) → IsUnits (block_used b stretched m room content)
block_units b stretched m room content = clamped_units (fitted b (unwrap_or b.size (if stretched then room -ℤ m else content +ℤ b.inner)))

-- ---- what a subgrid is given

seen_gap : (content outer : ℤ) (s : Size) → IsUnits outer → IsSize s → IsUnits (gap_by (Some content) outer s)
seen_gap content outer size.Auto k i = gap_units (Some content) size.Auto i
seen_gap content outer size.Absent k i = gap_units (Some content) size.Absent i
seen_gap content outer size.Normal k i = k
seen_gap content outer size.Content k i = gap_units (Some content) size.Content i
seen_gap content outer (size.Length x) k i = gap_units (Some content) (size.Length x) i
seen_gap content outer (size.Percent t) k i = gap_units (Some content) (size.Percent t) i

next_by : (level : ℕ) → near_by level + 2 ^ 33 ≤ near_by (level + 1)
next_by level = omega arith

view_given : {axis : ℕ} (level : ℕ) (outer : View axis) (span : Span) (g : GridAxis) → IsGridAxis g → IsUnits outer.gap → AreSpread (near_by level) outer.edges → IsGivenNear (level + 1) (given_view (view_in outer span g))
view_given level outer span g axis gap_is h = (
  spread_grows (near_by level + 2 ^ 33) (near_by (level + 1)) (view_in outer span g).edges (next_by level) (view_spread outer span g (near_by level) axis gap_is h),
  seen_gap (content_size (tracks_over outer.edges span) (outer_start g) (outer_end g)) outer.gap g.gap gap_is axis.gap,
)

-- ---- a child along an axis

-- where it starts in the content box, its size, and what it is given
record IsExtentNear (level : ℕ) (e : Extent) : Type 0 where
  at : IsWithin (near_by level + 2 ^ 36) e.at
  size : IsUnits e.size
  given : IsGivenNear (level + 1) e.given

chosen : {A : Type 0} (P : A → Type 0) (b : Bool) (x y : A) → P x → P y → P (if b then x else y)
chosen P true x y h k = h
chosen P false x y h k = k

-- a child with its inline size
record IsWideNear (level : ℕ) (w : Wide) : Type 0 where
  box : IsUnits w.box
  inline : IsGivenNear (level + 1) w.inline
  grid : IsGridStyle w.entry.kid.label.grid

column_near : (level : ℕ) (g : Grid) (columns : View 0) (w : Wide) → AreSpread (near_by level) columns.edges → IsWideNear level w → IsExtentNear level (column_extent g columns w)
column_near level g columns w h wide =
    let x : Label = w.entry.kid.label in
    let axis : IsGridAxis x.grid.columns = wide.grid.columns in
    let span : Span = from_first g.placed.columns w.entry.area.columns in
    let tracks : Edges = tracks_over columns.edges span in
    let a : Align = self_align x.content.inline.own g.label.content.inline.items in
    let start : IsWithin (near_by level) (first_start tracks) = first_within (near_by level) columns.edges span h in
    record {
      at = chosen (IsWithin (near_by level + 2 ^ 36)) (shares_columns w.entry.kid) (first_start tracks +ℤ margin x.grid.columns.margin_start) (aligned_at a x.grid.columns (first_start tracks) (area_size tracks) w.box)
          (shared_within (near_by level) (first_start tracks) (margin x.grid.columns.margin_start) start (margin_units x.grid.columns.margin_start axis.margin_start))
          (aligned_within (near_by level) a x.grid.columns (first_start tracks) (area_size tracks) w.box axis start (area_units tracks) wide.box);
      size = wide.box;
      given = wide.inline;
    }

row_near : (level : ℕ) (g : Grid) (rows : View 1) (w : Wide) → AreSpread (near_by level) rows.edges → IsUnits rows.gap → IsGridStyle w.entry.kid.label.grid → IsExtentNear level (row_extent g rows w)
row_near level g rows w h gap_is style =
    let x : Label = w.entry.kid.label in
    let axis : IsGridAxis x.grid.rows = style.rows in
    let span : Span = from_first g.placed.rows w.entry.area.rows in
    let tracks : Edges = tracks_over rows.edges span in
    let room : ℤ = area_size tracks in
    let b : Bounds = bounds_of (Some room) x.content.border_box x.grid.rows x.content.block in
    let a : Align = self_align x.content.block.own g.label.content.block.items in
    let stretched : Bool = is_stretched a x.grid.rows x.content.block in
    let box : ℤ = block_used b stretched (margins x.grid.rows) room w.down.block in
    let own : Extent = record { at = aligned_at a x.grid.rows (first_start tracks) room box; size = box; given = given.Size (content_of_box b.inner box) } in
    let shared : Extent = record { at = first_start tracks +ℤ margin x.grid.rows.margin_start; size = subgrid_box x.grid.rows room; given = given_view (view_in rows span x.grid.rows) } in
    let start : IsWithin (near_by level) (first_start tracks) = first_within (near_by level) rows.edges span h in
    let box_is : IsUnits box = block_units b stretched (margins x.grid.rows) room w.down.block in
    let own_is : IsExtentNear level own = record { at = aligned_within (near_by level) a x.grid.rows (first_start tracks) room box axis start (area_units tracks) box_is; size = box_is; given = content_units b.inner box } in
    let shared_is : IsExtentNear level shared = record
    { at = shared_within (near_by level) (first_start tracks) (margin x.grid.rows.margin_start) start (margin_units x.grid.rows.margin_start axis.margin_start); size = box_units x.grid.rows room; given = view_given level rows span x.grid.rows axis gap_is h } in
    chosen (IsExtentNear level) (shares_rows w.entry.kid) shared own shared_is own_is

offset_near : (level : ℕ) (i z : ℤ) → level ≤ 64 → IsEdges i → IsWithin (near_by level + 2 ^ 36) z → IsWithin farthest_child (i +ℤ z)
offset_near level i z few h k = (omega (arith, ints, few, h.0, h.1, k.0, k.1), omega (arith, ints, few, h.0, h.1, k.0, k.1))

child_stands : (level : ℕ) (g : Grid) (columns : View 0) (rows : View 1) (w : Wide) → level ≤ 64 → IsGridStyle g.label.grid → AreSpread (near_by level) columns.edges → AreSpread (near_by level) rows.edges → IsUnits rows.gap → IsWideNear level w
    → StandsBelow level (grid_child g columns rows w).1.frame
child_stands level g columns rows w few style h k gap_is wide =
    let i : IsExtentNear level (column_extent g columns w) = column_near level g columns w h wide in
    let b : IsExtentNear level (row_extent g rows w) = row_near level g rows w k gap_is wide.grid in
    record {
      x = offset_near level (inner_start g.label.grid.columns) (column_extent g columns w).at few (edges_start g.label.grid.columns style.columns) i.at;
      y = offset_near level (inner_start g.label.grid.rows) (row_extent g rows w).at few (edges_start g.label.grid.rows style.rows) b.at;
      width = i.size;
      height = b.size;
      inline = i.given;
      block = b.given;
    }

-- ---- all children

wide_near : (level : ℕ) (g : Grid) (columns : View 0) (e : Entry) (sizes : ℤ × ℤ) → AreSpread (near_by level) columns.edges → IsUnits columns.gap → IsGridStyle e.kid.label.grid → IsWideNear level (wide_of g columns e sizes)
wide_near level g columns e sizes h gap_is style =
    let x : Label = e.kid.label in
    let axis : IsGridAxis x.grid.columns = style.columns in
    let span : Span = from_first g.placed.columns e.area.columns in
    let room : ℤ = area_size (tracks_over columns.edges span) in
    let b : Bounds = bounds_of (Some room) x.content.border_box x.grid.columns x.content.inline in
    let stretched : Bool = is_stretched (self_align x.content.inline.own g.label.content.inline.items) x.grid.columns x.content.inline in
    let box : ℤ = inline_used b stretched (margins x.grid.columns) room sizes in
    let own : ℤ × Given = (box, given.Size (content_of_box b.inner box)) in
    let shared : ℤ × Given = (subgrid_box x.grid.columns room, given_view (view_in columns span x.grid.columns)) in
    let both : IsUnits (child_inline g columns e sizes).0 × IsGivenNear (level + 1) (child_inline g columns e sizes).1 =
    chosen (λ (p : ℤ × Given). IsUnits p.0 × IsGivenNear (level + 1) p.1) (shares_columns e.kid) shared own
    (box_units x.grid.columns room, view_given level columns span x.grid.columns axis gap_is h)
    (inline_units b stretched (margins x.grid.columns) room sizes, content_units b.inner box) in
    record { box = both.0; inline = both.1; grid = style }

wides_near : (level : ℕ) (g : Grid) (columns : View 0) (entries : List Entry) (inlines : List (ℤ × ℤ)) → AreSpread (near_by level) columns.edges → IsUnits columns.gap → Each (λ (e : Entry). IsGridStyle e.kid.label.grid) entries → Each (IsWideNear level) (zipped (wide_of g columns) entries inlines)
wides_near level g columns [] inlines h gap_is styled = tt
wides_near level g columns (e ∷ entries) [] h gap_is styled = tt
wides_near level g columns (e ∷ entries) (i ∷ inlines) h gap_is styled = (wide_near level g columns e i h gap_is styled.0, wides_near level g columns entries inlines h gap_is styled.1)

children_stand : (level : ℕ) (g : Grid) (columns : View 0) (rows : View 1) (wides : List Wide) → level ≤ 64 → IsGridStyle g.label.grid → AreSpread (near_by level) columns.edges → AreSpread (near_by level) rows.edges → IsUnits rows.gap → Each (IsWideNear level) wides
    → Each (λ (e : ℕ × Framed). StandsBelow level e.1.frame) (map (grid_child g columns rows) wides)
children_stand level g columns rows [] few style h k gap_is near = tt
children_stand level g columns rows (w ∷ wides) few style h k gap_is near = (child_stands level g columns rows w few style h k gap_is near.0, children_stand level g columns rows wides few style h k gap_is near.1)

pub told_stand : (level : ℕ) (xs : List (ℕ × Framed)) → Each (λ (e : ℕ × Framed). StandsBelow level e.1.frame) xs → StandBelow level (map (λ (f : Framed). f.frame) (map (λ (e : ℕ × Framed). e.1) xs))
told_stand level [] h = tt
told_stand level (x ∷ xs) h = (h.0, told_stand level xs h.1)

-- the entries of a grid have the values of its children
pub entries_styled : (kids : List (ℕ × Kid)) (areas : List (ℕ × Area)) → Each (λ (k : ℕ × Kid). IsGridStyle k.1.label.grid) kids → Each (λ (e : Entry). IsGridStyle e.kid.label.grid) (zipped entry_of kids areas)
entries_styled [] areas h = tt
entries_styled (k ∷ kids) [] h = tt
entries_styled (k ∷ kids) (a ∷ areas) h = (h.0, entries_styled kids areas h.1)

-- The children of a grid in document order, in these columns and by what it is given in the block axis.
pub grid_stands : (level : ℕ) (g : Grid) (columns : View 0) (axis : TrackAxis) (height : Given) → level ≤ 64 → IsGridStyle g.label.grid → Each (λ (e : Entry). IsGridStyle e.kid.label.grid) g.entries
    → AreSpread (near_by level) columns.edges → IsUnits columns.gap → IsSize axis.grid.gap → track_count axis.tracks ≤ 131072 → IsGivenNear level height
    → StandBelow level (map (λ (f : Framed). f.frame) (grid_framed g columns axis (zipped (wide_of g columns) g.entries g.inlines) height))
grid_stands level g columns axis height few style styled h gap_is gap_size tracks given_is =
    let rows : View 1 = view_by axis height in
    let wides : List Wide = zipped (wide_of g columns) g.entries g.inlines in
    let made : List (ℕ × Framed) = map (grid_child g columns rows) wides in
    told_stand level (sorted_by (λ (e : ℕ × Framed). pos e.0) made) (each_sorted (λ (e : ℕ × Framed). pos e.0) (λ (e : ℕ × Framed). StandsBelow level e.1.frame) made
    (children_stand level g columns rows wides few style h (view_near 1 axis level height gap_size tracks given_is) (view_gap 1 axis level height gap_size given_is) (wides_near level g columns g.entries g.inlines h gap_is styled)))
