-- The measures of the walk, and what holds in its loop.
use Rattle.std.proofs.Common.{◌≡◌, ◌+◌, ◌*◌, drop}
use Rattle.placing.specs.Nodes.{kids_at, size_at}
use Rattle.std.specs.Prelude.{IsSome}
use Rattle.layout_cache.specs.Kept.{answer_to}
use Rattle.placing.specs.Walks.{kept_in}
use Rattle.walker.specs.Walkers.{SameParts, Stands, nodes, seen}
use Rattle.box_layout.specs.Boxed.{IsQuietBelow, SameSinks, StillFound, asked_in, boxes_in}
use Rattle.box_layout.specs.BoxesSeen.{frames_seen, pairs_seen}
use Rattle.box_layout.specs.KidBoxes.{boxes_from}
use Rattle.box_layout.specs.LeafHeights.{MeasuresLeaves}
use Rattle.box_layout.specs.Paths.{IsLaidOut}
use Rattle.box_layout.proofs.BelowSteps.{HasTaken, IsBelow}
use Rattle.box_layout.proofs.KeptPaths.{AreDone}
use Rattle.box_layout.proofs.LeafSteps.{AreAbsentFrom, AreMeasuredTo}
use Rattle.box_layout.proofs.walk.+boxes.Given as goal

abbrev pub decreases-child_boxes : goal.decreases-child_boxes
decreases-child_boxes g l = 2 * size_at (nodes l.walk.now) l.id + 1

abbrev pub decreases-boxes_below : goal.decreases-boxes_below
decreases-boxes_below g l = 2 * size_at (nodes l.walk.now) l.id

abbrev pub invariant-boxes_below-loop-index : goal.invariant-boxes_below-loop-index
invariant-boxes_below-loop-index g l =
    record {
      stands : Stands l.walk;
      parts : SameParts l.fn.walk l.walk;
      sinks : SameSinks l.fn.out l.out;
      same : nodes l.walk ≡ nodes l.fn.walk;
      laid : IsLaidOut l.id (asked_in l.seat l.spot.frame.now) (seen g.R.Ruler.log l.fn.walk) (seen g.R.Ruler.log l.walk);
      value : HasTaken g.T.BoxSink.adds l.fn.out.told.now l.out.told.now l.fn.few l.few
          (boxes_from (pairs_seen (nodes l.fn.walk) l.id (asked_in l.seat l.spot.frame.now)) (l.spot.x, l.spot.y) (drop l.index (kids_at (nodes l.fn.walk) l.id)) (drop l.index (frames_seen (nodes l.fn.walk) l.id (asked_in l.seat l.spot.frame.now))))
          (boxes_in (nodes l.fn.walk) l.id l.seat l.spot);
      below : IsBelow (nodes l.fn.walk) l.id (asked_in l.seat l.spot.frame.now) l.listed l.seats l.spot.x l.spot.y;
      own : IsSome (answer_to (asked_in l.seat l.spot.frame.now) (kept_in (seen g.R.Ruler.log l.walk) l.id));
      done : AreDone (nodes l.fn.walk) l.id (asked_in l.seat l.spot.frame.now) l.index (seen g.R.Ruler.log l.walk);
      leaves : MeasuresLeaves (nodes l.fn.walk) l.id (asked_in l.seat l.spot.frame.now) (seen g.R.Ruler.log l.fn.walk) (seen g.R.Ruler.log l.walk);
      measured : AreMeasuredTo (nodes l.fn.walk) l.id (asked_in l.seat l.spot.frame.now) l.index (seen g.R.Ruler.log l.fn.walk) (seen g.R.Ruler.log l.walk);
      absent : AreAbsentFrom (nodes l.fn.walk) l.id (asked_in l.seat l.spot.frame.now) l.index (seen g.R.Ruler.log l.fn.walk) (seen g.R.Ruler.log l.walk);
      last : StillFound (nodes l.fn.walk) l.walk l.out;
      quiet : IsQuietBelow (nodes l.fn.walk) l.id (asked_in l.seat l.spot.frame.now) (seen g.R.Ruler.log l.fn.walk) (seen g.R.Ruler.log l.walk);
    }
