-- The axis of the columns of a grid, as the code holds it.
use Rattle.std.proofs.Common.{arith, refl, ap, subst, sym, ◌∙◌, ◌≡◌, ℕ, ℤ, false, List, [], ◌∷◌, length, map}
use Rattle.lunit.specs.declared.geometry.Area.{Area}
use Rattle.lunit.specs.declared.geometry.Span.{Span}
use Rattle.lunit.specs.declared.item.Item.{Item}
use Rattle.node_arena.specs.declared.number.NodeId.{NodeId}
use Rattle.part_rules.specs.Lists.{zipped}
use Rattle.style_types.specs.Styles.{StyleMap}
use Rattle.track_sizing.specs.Placed.{AreIn}
use Rattle.tree_rules.specs.declared.query.Given.{Given}
use Rattle.tree_rules.specs.Answers.{Pair}
use Rattle.tree_rules.specs.Contexts as rules
use Rattle.tree_rules.specs.GridSizes.{grid_inline}
use Rattle.tree_rules.specs.Labels.{GridStyle, content_of, grid_of}
use Rattle.tree_rules.specs.Queries.{sees_columns}
use Rattle.tree_rules.specs.Templates.{written}
use Rattle.placing.proofs.Entries.{counts}
use Rattle.placing.specs.Areas.{numbered_area, placed_of}
use Rattle.placing.specs.Nodes.{BareTrees, sight_at, IsLive}
use Rattle.placing.specs.Covered.{IsNear}
use Rattle.placing.specs.Ranges.{AreReadable, IsGridAxis}
use Rattle.inline_sizes.specs.Grids.{IsGrid, IsSomeGrid}
use Rattle.inline_sizes.specs.GridsSeen.{HasItemsInTracks, grid_seen}
use Rattle.inline_sizes.specs.TrackAxes.{CanSize, intrinsic_totals, track_axis, track_count}
use Rattle.placing.specs.declared.wide.GridParts.{GridParts}

-- ---- the spans of the children

spans_zipped : (numbers : List ℕ) (areas : List (NodeId × Area)) → length numbers ≡ length areas → map (λ (a : ℕ × Area). a.1.columns) (zipped numbered_area numbers areas) ≡ map (λ (e : NodeId × Area). e.1.columns) areas
spans_zipped [] [] h = refl
spans_zipped [] (e ∷ es) h = absurd (omega (arith, h))
spans_zipped (n ∷ ns) [] h = absurd (omega (arith, h))
spans_zipped (n ∷ ns) (e ∷ es) h = ap (λ (l : List Span). e.1.columns ∷ l) (spans_zipped ns es (omega (arith, h)))

-- ---- the grid of the code

module _ (b : BareTrees) (n : NodeId) (outer : List Pair) (width : Given) (parts : GridParts) (grid : IsGrid b n outer width parts) where
  placed_is : placed_of parts.base.placed ≡ (grid_seen b n outer width).placed
  unfolding grid_seen
  placed_is = grid.placed.placed

  tracks_are : parts.base.placed.columns ≡ (grid_seen b n outer width).placed.columns
  tracks_are = ap (λ (p : rules.Placed). p.columns) placed_is

  spans_are : map (λ (e : NodeId × Area). e.1.columns) parts.base.placed.areas ≡ map (λ (a : ℕ × Area). a.1.columns) (grid_seen b n outer width).placed.areas
  spans_are = sym (spans_zipped parts.base.placed.numbers parts.base.placed.areas (counts b n parts.base.placed grid.placed.children)) ∙ ap (λ (p : rules.Placed). map (λ (a : ℕ × Area). a.1.columns) p.areas) placed_is

  -- the axis of the columns
  axis_is : (style : StyleMap) (spans : List Span) → grid_of style ≡ (sight_at b n).label.grid → content_of style ≡ (sight_at b n).label.content → spans ≡ map (λ (e : NodeId × Area). e.1.columns) parts.base.placed.areas
      → track_axis 0 style parts.base.pair.0 spans parts.base.placed.columns parts.items ≡ (grid_seen b n outer width).columns
  unfolding grid_seen
  axis_is style spans g c s =
      λ i. record {
        border_box = (c i).border_box;
        grid = (g i).columns;
        content = (c i).inline;
        written = written (g i).columns.template (grid.base.pair i).0;
        spans = (s ∙ spans_are) i;
        tracks = tracks_are i;
        items = grid.items i;
      }

  can_size_by : (style : StyleMap) → AreReadable b → IsLive b n → grid_of style ≡ (sight_at b n).label.grid → sees_columns (sight_at b n) ≡ false → HasItemsInTracks (sight_at b n) (grid_seen b n outer width) → CanSize 0 style parts.base.placed.columns parts.items
  can_size_by style readable live g own h =
      record {
        grid = subst (λ (x : GridStyle). IsGridAxis x.columns) (sym g) (readable.nodes n live).grid.columns;
        near = subst IsNear (sym tracks_are) h.inside.near_columns;
        inside = subst (λ (items : List Item). AreIn parts.base.placed.columns.start (track_count parts.base.placed.columns) items) (sym grid.items)
            (subst (λ (s : Span). AreIn s.start (track_count s) (grid_seen b n outer width).columns.items) (sym tracks_are) (h.inside.columns (h.columns ∙ own)));
      }

-- the columns can be sized
pub can_size : (b : BareTrees) (n : NodeId) (parts : GridParts) (style : StyleMap) → IsSomeGrid b n parts → AreReadable b → IsLive b n → grid_of style ≡ (sight_at b n).label.grid → sees_columns (sight_at b n) ≡ false
    → ((outer : List Pair) (width : Given) → HasItemsInTracks (sight_at b n) (grid_seen b n outer width)) → CanSize 0 style parts.base.placed.columns parts.items
can_size b n parts style some readable live g own h = can_size_by b n some.outer some.width parts some.grid style readable live g own (h some.outer some.width)

-- and their totals are the inline sizes of the grid
pub totals_are : (b : BareTrees) (n : NodeId) (parts : GridParts) (style : StyleMap) (spans : List Span) (sizes : ℤ × ℤ) → grid_of style ≡ (sight_at b n).label.grid → content_of style ≡ (sight_at b n).label.content → spans ≡ map (λ (e : NodeId × Area). e.1.columns) parts.base.placed.areas
    → sizes ≡ intrinsic_totals (track_axis 0 style parts.base.pair.0 spans parts.base.placed.columns parts.items)
    → (outer : List Pair) (width : Given) → IsGrid b n outer width parts → sizes ≡ grid_inline (grid_seen b n outer width)
totals_are b n parts style spans sizes g c s e outer width grid = e ∙ ap intrinsic_totals (axis_is b n outer width parts grid style spans g c s)
