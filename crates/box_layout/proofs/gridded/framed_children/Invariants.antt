use Rattle.std.proofs.Common.{take}
use Rattle.box_layout.specs.GridFrames.{AreFramesAt}
use Rattle.block_sizes.specs.Sharing.{IsLastIn}
use Rattle.box_layout.specs.Tracked.{frames_by, nodes_in}
use Rattle.box_layout.proofs.gridded.framed_children.Given as goal

abbrev pub invariant-loop-place : goal.invariant-loop-place
invariant-loop-place l =
    AreFramesAt (nodes_in l.grid) l.grid.id (frames_by l.grid) (take l.place-index l.places) l.frames
    × IsLastIn l.grid.rows.now l.last
