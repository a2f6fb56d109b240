-- A grid whose tracks lie where they lie, as the code holds it, and the frames of its children (CSS Grid 2, sections 6 and 11).
use Rattle.std.specs.Prelude.{◌≡◌, ℕ, ◌≤ℤ◌, pos, List, map}
use Rattle.placing.specs.Nodes.{BareTrees, IsLive, bare, sight_at}
use Rattle.placing.specs.Ranges.{AreReadable}
use Rattle.tree_rules.specs.Frames.{Framed, grid_child}
use Rattle.tree_rules.specs.declared.kind.NodeKind.TheVariants as kind
use Rattle.inline_sizes.specs.GridsSeen.{grid_seen}
use Rattle.block_sizes.specs.Wides.{IsWide, columns_seen, wides_seen}
use Rattle.box_layout.specs.GridFrames.{AreTracks}
use Rattle.box_layout.specs.declared.gridded.TrackedGrid.{TrackedGrid}

-- the bare tree in which it stands
abbrev pub nodes_in : TrackedGrid → BareTrees
nodes_in g = bare g.tree.now.tree

-- the frames of its children, each with the number of its child, in the order of their areas
abbrev pub frames_by : TrackedGrid → List (ℕ × Framed)
frames_by g =
    map (grid_child (grid_seen (nodes_in g) g.id g.reps.now g.width.now) (columns_seen (nodes_in g) g.id g.reps.now g.width.now) g.rows.now)
    (wides_seen (nodes_in g) g.id g.reps.now g.width.now)

-- It is a grid of a tree whose values a text reads as, its children are as wide as they are in its columns, and its tracks are as many as it has.
pub record IsTracked (g : TrackedGrid) : Type 0 where
  pub live : IsLive (nodes_in g) g.id
  pub readable : AreReadable (nodes_in g)
  pub grid : (sight_at (nodes_in g) g.id).label.kind ≡ kind.Grid
  pub wide : IsWide (nodes_in g) g.id g.reps.now g.width.now g.wide.now
  pub columns : AreTracks g.wide.now.parts.base.placed.columns g.wide.now.columns.edges
  pub rows : AreTracks g.wide.now.parts.base.placed.rows g.rows.now.edges
  pub gap : pos 0 ≤ℤ g.rows.now.gap
