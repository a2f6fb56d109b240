use Rattle.std.proofs.Common.{length, pos}
use Rattle.std.specs.Prelude.{get_or}
use Rattle.box_layout.proofs.InPlaces.{frames_next, index_at, read_again}
use Rattle.box_layout.specs.Tracked.{frames_by, nodes_in}
use Rattle.box_layout.proofs.gridded.framed_children.Goals as goal

pub framed_child-requires-clause-index : goal.framed_child-requires-clause-index
framed_child-requires-clause-index c =
    index_at (length c.args.grid.now.wide.now.parts.base.placed.areas) c.args.places.now c.loop-place.place-index (get_or c.args.places.now c.loop-place.place-index (0, pos 0)) c.requires.places c.loop-place-test.true
    (read_again c.args.places.now c.loop-place.place-index (0, pos 0) (get_or c.args.places.now c.loop-place.place-index (0, pos 0)) c.loop-place-test.true)

pub loop-place-preserved : goal.loop-place-preserved
loop-place-preserved c = (
  frames_next (nodes_in c.args.grid.now) c.args.grid.now.id
      (frames_by c.args.grid.now)
      c.args.places.now c.loop-place.place-index (get_or c.args.places.now c.loop-place.place-index (0, pos 0)) c.in_ok-frame.frame _ _ c.loop-place-test.true
      (read_again c.args.places.now c.loop-place.place-index (0, pos 0) (get_or c.args.places.now c.loop-place.place-index (0, pos 0)) c.loop-place-test.true) c.in_ok-push.ensures.ok c.in_ok-frame.ensures.frame c.loop-place.invariant.0,
  c.in_ok-frame.ensures.last,
)
