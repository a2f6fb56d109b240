-- What the children of a grid told in its columns, and which of them must be asked again (own rule).
use Rattle.std.specs.Prelude.{◌≡◌, ◌<◌, ◌≤◌, ◌^◌, ◌≤ℤ◌, ◌-ℤ◌, ℕ, List, length, pos, IfSome}
use Rattle.std.specs.List.{All}
use Rattle.lunit.specs.Units.{IsUnits}
use Rattle.node_arena.specs.declared.number.NodeId.{NodeId}
use Rattle.part_rules.specs.declared.view.View.{View}
use Rattle.placing.specs.Nodes.{BareTrees, kid_at, level_at, sight_at}
use Rattle.placing.specs.Spread.{AreSpread, IsSpread}
use Rattle.placing.specs.Told.{AllBut, AreColumns, AreRows, AreRowsFor, Each}
use Rattle.placing.specs.declared.told.PastRows.{PastRows}
use Rattle.placing.specs.declared.told.ToldRows.{ToldRows}
use Rattle.placing.specs.declared.wide.GridBase.{GridBase}
use Rattle.tree_rules.specs.Answers.{Pair}
use Rattle.tree_rules.specs.declared.query.Given.{Given}
use Rattle.block_sizes.specs.Wides.{IsWide, columns_seen, farthest}
use Rattle.inline_sizes.specs.Grids.{IsGrid}
use Rattle.block_sizes.specs.declared.again.ToldWide.{ToldWide}
use Rattle.block_sizes.specs.declared.begun.BegunWide.{BegunWide}

-- The columns of a grid: as many as it has tracks, not far from each other, and with a length of at least 0 as their gap.
pub record AreLaid (b : BareTrees) (n : NodeId) (outer : List Pair) (width : Given) (base : GridBase) (columns : View 0) : Type 0 where
  pub seen : columns ≡ columns_seen b n outer width
  pub counted : pos (length columns.edges) ≡ (base.placed.columns.end -ℤ base.placed.columns.start)
  pub gap : pos 0 ≤ℤ columns.gap
  pub range : IsUnits columns.gap
  pub spread : AreSpread (farthest (level_at b n)) columns.edges

-- The children in these columns, of which these count.
pub record AreIn (b : BareTrees) (n : NodeId) (base : GridBase) (columns : View 0) (Counts : ℕ → Type 0) (t : ToldRows) : Type 0 where
  pub over : t.columns ≡ columns
  pub aligned : t.align ≡ (sight_at b n).label.content.inline.items
  pub told : AreRows (sight_at b n) (kid_at b) base Counts t

-- The children in these columns, without those that must be asked again.
pub record ArePastIn (b : BareTrees) (n : NodeId) (base : GridBase) (columns : View 0) (p : PastRows) : Type 0 where
  pub stale : All (λ k. k < length base.placed.areas) p.stale
  pub told : AreIn b n base columns (AllBut p.stale) p.told
  pub laid : IfSome p.rows (AreRowsFor (sight_at b n) base p.told.items)

-- A grid with its columns placed, and what its children told in them last, if that is known.
pub record IsBegun (b : BareTrees) (n : NodeId) (outer : List Pair) (width : Given) (w : BegunWide) : Type 0 where
  pub grid : IsGrid b n outer width w.told.parts
  pub told : AreColumns (sight_at b n) (kid_at b) Each w.told
  pub laid : AreLaid b n outer width w.told.parts.base w.columns
  pub far : (by : ℕ) → 2 ^ 51 ≤ by → IsSpread by width → AreSpread by w.columns.edges
  pub past : IfSome w.past (ArePastIn b n w.told.parts.base w.columns)

-- A grid in its columns with its children in them, where the items of each end, and its rows in a content box as great as its content, if they are known.
pub record IsToldWide (b : BareTrees) (n : NodeId) (outer : List Pair) (width : Given) (t : ToldWide) : Type 0 where
  pub wide : IsWide b n outer width t.wide
  pub columns : AreColumns (sight_at b n) (kid_at b) Each (record { parts = t.wide.parts; ends = t.column_ends })
  pub rows : AreRows (sight_at b n) (kid_at b) t.wide.parts.base Each
      (record {
        columns = t.wide.columns;
        align = (sight_at b n).label.content.inline.items;
        children = t.wide.children;
        items = t.wide.items;
        ends =
            t.row_ends;
      })
  pub laid : IfSome t.wide.rows (AreRowsFor (sight_at b n) t.wide.parts.base t.wide.items)
