-- What the boxes of a page have beside their rectangles.
use Rattle.std.specs.Prelude.{◌<◌, ◌^◌, length}
use Rattle.std.specs.List.{All}
use Rattle.hit_index.specs.Hits.{IsSmallRect}
use Rattle.hit_index.specs.Columns.{AreRanges}
use Rattle.hit_index.specs.declared.boxes.Boxes.TheInside.{Inside}

-- the columns that each of the boxes reaches
pub record AreBoxes (a : Inside) : Type 0 where
  pub few : length a.rects.items < 2 ^ 32
  pub small : All IsSmallRect a.rects.items
  pub shift : a.grid.shift < 64
  pub ranges : AreRanges a.grid a.rects.items (length a.rects.items) a.ranges.items
