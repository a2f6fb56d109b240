-- What an index keeps beside its boxes.
use Rattle.hit_index.specs.Strips.{AreEdges, AreStrips}
use Rattle.hit_index.specs.Extents.{AreRuns}
use Rattle.hit_index.specs.declared.index.HitIndex.TheInside.{Inside}

-- the strips of the boxes, and the edges around the runs of each strip
pub record IsIndex (a : Inside) : Type 0 where
  pub edges : AreEdges a.boxes 65 a.edges.items
  pub strips : AreStrips a.edges.items a.boxes a.strips
  pub runs : AreRuns a.boxes a.strips 64 a.extents
