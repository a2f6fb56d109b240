-- A grid of the definitions by its number, and where its items lie (CSS Grid 2, 12.5 and section 9).
use Rattle.std.specs.Prelude.{◌≡◌, ◌≤◌, ℕ, false, List, [], ◌∷◌}
use Rattle.lunit.specs.declared.geometry.Area.{Area}
use Rattle.lunit.specs.declared.geometry.Span.{Span}
use Rattle.node_arena.specs.declared.number.NodeId.{NodeId}
use Rattle.part_rules.specs.declared.view.View.{View}
use Rattle.placing.specs.Covered.{IsNear}
use Rattle.placing.specs.Insides.{IsInside, IsWithin}
use Rattle.placing.specs.Nodes.{BareTrees, kids_at, sight_at}
use Rattle.track_sizing.specs.Placed.{AreIn}
use Rattle.tree_rules.specs.Answers.{Pair}
use Rattle.tree_rules.specs.Contexts.{Context}
use Rattle.tree_rules.specs.GridSizes.{Entry, Grid, grid_by, rows_of_grid, wide_children}
use Rattle.tree_rules.specs.Places.{Seen}
use Rattle.tree_rules.specs.Queries.{sees_columns, sees_rows}
use Rattle.tree_rules.specs.declared.query.Given.{Given}
use Rattle.inline_sizes.specs.Lifted.{IsLifted, IsSelfLifted}
use Rattle.inline_sizes.specs.TrackAxes.{track_count}

-- the grid of a number, by the counts of the repetitions above it and what it is given in the inline axis
unfoldable pub grid_seen : BareTrees → NodeId → List Pair → Given → Grid
grid_seen b n outer width =
    let s = sight_at b n in
    grid_by s.label s.chain (kids_at b n) outer width

-- The lines of areas within a context, and of the grid itself where it is a subgrid, have numbers in the grid that sizes the tracks.
pub record HasLines (c : Context) : Type 0 where
  pub column_self : IsSelfLifted c.columns.levels
  pub row_self : IsSelfLifted c.rows.levels
  pub column_area : (a : Area) → IsInside c a → IsLifted c.columns.levels a.columns
  pub row_area : (a : Area) → IsInside c a → IsLifted c.rows.levels a.rows

-- an area of at least one cell that lies in these tracks
pub record IsAreaIn (column_tracks row_tracks : Span) (a : Area) : Type 0 where
  pub columns : IsWithin column_tracks.start column_tracks.end a.columns
  pub rows : IsWithin row_tracks.start row_tracks.end a.rows

-- each of these areas
abbrev pub AreAreasIn : Span → Span → List (ℕ × Area) → Type 0
AreAreasIn columns rows [] = Unit {0}
AreAreasIn columns rows (a ∷ rest) = IsAreaIn columns rows a.1 × AreAreasIn columns rows rest

-- the area of each of these children
abbrev pub AreEntriesIn : Span → Span → List Entry → Type 0
AreEntriesIn columns rows [] = Unit {0}
AreEntriesIn columns rows (e ∷ rest) = IsAreaIn columns rows e.area × AreEntriesIn columns rows rest

-- The tracks of a grid are near and not many, and the areas of its children lie in them. Where it sizes them itself, each item, lent ones too, spans some of
-- them and no others; for the rows whatever
-- the columns are.
pub record IsInTracks (g : Grid) : Type 0 where
  pub near_columns : IsNear g.placed.columns
  pub near_rows : IsNear g.placed.rows
  pub few_columns : track_count g.placed.columns ≤ 131072
  pub few_rows : track_count g.placed.rows ≤ 131072
  pub areas : AreAreasIn g.placed.columns g.placed.rows g.placed.areas
  pub entries : AreEntriesIn g.placed.columns g.placed.rows g.entries
  pub columns : g.context.columns.subgrid ≡ false → AreIn g.placed.columns.start (track_count g.placed.columns) g.columns.items
  pub rows : (columns : View 0) → g.context.rows.subgrid ≡ false →
      AreIn g.placed.rows.start (track_count g.placed.rows) (rows_of_grid g (wide_children g columns)).items

-- So it is with the grid of a node, which is a subgrid in each axis as the node is.
pub record HasItemsInTracks (s : Seen) (g : Grid) : Type 0 where
  pub inside : IsInTracks g
  pub lines : HasLines g.context
  pub columns : g.context.columns.subgrid ≡ sees_columns s
  pub rows : g.context.rows.subgrid ≡ sees_rows s
