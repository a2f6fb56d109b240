-- The axis of the rows of a grid, as the code holds it.
use Rattle.std.proofs.Common.{ap, subst, sym, ◌∙◌, ◌≡◌, ◌+◌, ◌^◌, ℤ, Bool, false, if◌then◌else◌, pos, List, [], Some, length, map}
use Rattle.std.specs.Prelude.{◌≤ℤ◌, ◌≤◌}
use Rattle.lunit.specs.declared.geometry.Area.{Area}
use Rattle.lunit.specs.declared.geometry.Span.{Span}
use Rattle.lunit.specs.declared.item.Item.{Item}
use Rattle.node_arena.specs.declared.number.NodeId.{NodeId}
use Rattle.part_rules.specs.declared.track.Space.{Space}
use Rattle.part_rules.specs.declared.track.Space.TheVariants.{Definite, MaxContent}
use Rattle.part_rules.specs.declared.view.View.{View}
use Rattle.placing.specs.Covered.{IsNear}
use Rattle.placing.specs.Nodes.{BareTrees, IsLive, sight_at}
use Rattle.placing.specs.Ranges.{AreReadable, IsGridAxis}
use Rattle.placing.specs.declared.contexts.Above.{Above}
use Rattle.placing.specs.declared.contexts.Above.TheVariants as above
use Rattle.style_types.specs.Styles.{StyleMap}
use Rattle.track_sizing.specs.Placed.{AreIn}
use Rattle.tree_rules.specs.Answers.{Pair}
use Rattle.tree_rules.specs.Contexts as rules
use Rattle.tree_rules.specs.Distribution.{edges_in}
use Rattle.tree_rules.specs.GridSizes.{TrackAxis, grid_block, sized_for, total_for, view_for}
use Rattle.tree_rules.specs.Labels.{GridStyle, content_of, grid_of}
use Rattle.tree_rules.specs.Queries.{sees_rows}
use Rattle.tree_rules.specs.Repetitions.{own_pair}
use Rattle.tree_rules.specs.Templates.{written}
use Rattle.tree_rules.specs.declared.kind.NodeKind.TheVariants as kind
use Rattle.tree_rules.specs.declared.query.Given.{Given}
use Rattle.tree_rules.specs.declared.query.Given.TheVariants as given
use Rattle.placing.specs.Spread.{AreSpread}
use Rattle.placing.specs.Wides.{HoldsRows, IsAbove}
use Rattle.placing.specs.declared.wide.RowsAt.{RowsAt}
use Rattle.inline_sizes.specs.GridsSeen.{HasItemsInTracks, grid_seen}
use Rattle.inline_sizes.specs.Styled.{content_at}
use Rattle.inline_sizes.specs.TrackAxes.{CanSize, IsCounted, sized_of, track_axis, track_count}
use Rattle.inline_sizes.specs.declared.tracks.SizedTracks.{SizedTracks}
use Rattle.block_sizes.proofs.KnownRows.{spans_are, tracks_are}
use Rattle.block_sizes.specs.Wides.{IsWide, columns_seen, row_levels, rows_seen, wides_seen}
use Rattle.placing.specs.declared.wide.GridWide.{GridWide}

-- the levels of the rows of a grid with this context
pub levels_of : (c : rules.Context) (made : Above) → IsAbove c made → row_levels made ≡ c.rows.levels
levels_of c above.Nothing h = absurd h
levels_of c (above.Grid made) h = ap (λ (d : rules.Context). d.rows.levels) h

module _ (b : BareTrees) (n : NodeId) (outer : List Pair) (width : Given) (w : GridWide) (wide : IsWide b n outer width w) where
  -- the counts of its repetitions, which in the rows depend on no width
  count_is : (style : StyleMap) (pair : Pair) → grid_of style ≡ (sight_at b n).label.grid → content_of style ≡ (sight_at b n).label.content → pair ≡ own_pair (record { name = []; kind = kind.Grid; grid = grid_of style; content = content_of style }) given.None →
      pair.1 ≡ (own_pair (sight_at b n).label given.None).1
  count_is style pair g c p = ap (λ (q : Pair). q.1) p ∙ (λ i. (own_pair (record { name = []; kind = kind.Grid; grid = g i; content = c i }) given.None).1)

  axis_is : (style : StyleMap) (pair : Pair) (spans : List Span) → grid_of style ≡ (sight_at b n).label.grid → content_of style ≡ (sight_at b n).label.content → pair ≡ own_pair (record { name = []; kind = kind.Grid; grid = grid_of style; content = content_of style }) given.None →
      spans ≡ map (λ (e : NodeId × Area). e.1.rows) w.parts.base.placed.areas
      → track_axis 1 style pair.1 spans w.parts.base.placed.rows w.items ≡ rows_seen b n outer width
  unfolding grid_seen rows_seen
  axis_is style pair spans g c p s =
      λ i. record {
        border_box = (c i).border_box;
        grid = (g i).rows;
        content = (c i).block;
        written = written (g i).rows.template (count_is style pair g c p i);
        spans = (s ∙ spans_are b n outer width w.parts wide.grid) i;
        tracks = tracks_are b n outer width w.parts wide.grid i;
        items = wide.items i;
      }

  -- the rows can be sized
  pub rows_can_size : (style : StyleMap) → AreReadable b → IsLive b n → grid_of style ≡ (sight_at b n).label.grid → sees_rows (sight_at b n) ≡ false → HasItemsInTracks (sight_at b n) (grid_seen b n outer width) → CanSize 1 style w.parts.base.placed.rows w.items
  unfolding rows_seen wides_seen
  rows_can_size style readable live g own h =
      record {
        grid = subst (λ (x : GridStyle). IsGridAxis x.rows) (sym g) (readable.nodes n live).grid.rows;
        near = subst IsNear (sym (tracks_are b n outer width w.parts wide.grid)) h.inside.near_rows;
        inside = subst (λ (items : List Item). AreIn w.parts.base.placed.rows.start (track_count w.parts.base.placed.rows) items) (sym wide.items)
            (subst (λ (s : Span). AreIn s.start (track_count s) (rows_seen b n outer width).items) (sym (tracks_are b n outer width w.parts wide.grid)) (h.inside.rows (columns_seen b n outer width) (h.rows ∙ own)));
      }

  -- the total of the rows is the block size of the grid
  pub rows_total_is : (style : StyleMap) (pair : Pair) (spans : List Span) (items : List Item) (total : ℤ) → grid_of style ≡ (sight_at b n).label.grid → content_of style ≡ (sight_at b n).label.content →
      pair ≡ own_pair (record { name = []; kind = kind.Grid; grid = grid_of style; content = content_of style }) given.None → spans ≡ map (λ (e : NodeId × Area). e.1.rows) w.parts.base.placed.areas
      → items ≡ w.items → sees_rows (sight_at b n) ≡ false → HasItemsInTracks (sight_at b n) (grid_seen b n outer width)
      → total ≡ total_for {axis = 1} (track_axis 1 style pair.1 spans w.parts.base.placed.rows items) MaxContent
      → total ≡ grid_block (grid_seen b n outer width) (rows_seen b n outer width)
  rows_total_is style pair spans items total g c p s same own h e =
      let space : Space 1 = MaxContent in
      let all : TrackAxis → ℤ = λ a. total_for {axis = 1} a space in
      e
      ∙ ap (λ (is : List Item). all (track_axis 1 style pair.1 spans w.parts.base.placed.rows is)) same
      ∙ ap all (axis_is style pair spans g c p s)
      ∙ ap (λ (t : Bool). if t then pos 0 else all (rows_seen b n outer width)) (sym (h.rows ∙ own))

  pub few_rows : HasItemsInTracks (sight_at b n) (grid_seen b n outer width) → track_count w.parts.base.placed.rows ≤ 131072
  few_rows h = subst (λ (s : Span). track_count s ≤ 131072) (sym (tracks_are b n outer width w.parts wide.grid)) h.inside.few_rows

  -- rows that last lie so in a content box of their total
  pub rows_hold : (style : StyleMap) (pair : Pair) (spans : List Span) (items : List Item) (made : SizedTracks) (total : ℤ) (r : RowsAt) → grid_of style ≡ (sight_at b n).label.grid → content_of style ≡ (sight_at b n).label.content →
      pair ≡ own_pair (record { name = []; kind = kind.Grid; grid = grid_of style; content = content_of style }) given.None
      → spans ≡ map (λ (e : NodeId × Area). e.1.rows) w.parts.base.placed.areas → items ≡ w.items → IsCounted w.parts.base.placed.rows made
      → sized_of made ≡ sized_for {axis = 1} (track_axis 1 style pair.1 spans w.parts.base.placed.rows items) (Definite total) (Some total)
      → r.size ≡ total → r.view ≡ record { edges = edges_in (content_at 1 style).distribution total (sized_of made); gap = made.gap } → length r.view.edges ≡ length made.rules → AreSpread (2 ^ 50 + 2 ^ 34) r.view.edges
      → HoldsRows (rows_seen b n outer width) w.parts.base.placed.rows r
  rows_hold style pair spans items made total r g c p s same counted last size view count spread =
      let shown : TrackAxis → View 1 = λ a. view_for {axis = 1} a total in
      record {
        view = view
            ∙ (λ i. record { edges = edges_in (content_at 1 style).distribution total (last i); gap = (last i).gap })
            ∙ ap (λ (is : List Item). shown (track_axis 1 style pair.1 spans w.parts.base.placed.rows is)) same
            ∙ ap shown (axis_is style pair spans g c p s)
            ∙ ap (view_for {axis = 1} (rows_seen b n outer width)) (sym size);
        counted = count ∙ counted.rules;
        gap = subst (λ (v : View 1). pos 0 ≤ℤ v.gap) (sym view) counted.gap;
        spread = spread;
      }

  -- what it lends stands for itself and its children
  pub levels_are : row_levels w.parts.base.above ≡ (grid_seen b n outer width).context.rows.levels
  levels_are = levels_of (grid_seen b n outer width).context w.parts.base.above wide.grid.context
