use Rattle.block_sizes.specs.Sharing.{IsLastIn}
use Rattle.box_layout.specs.GridFrames.{AreAgain}
use Rattle.box_layout.specs.Tracked.{frames_by, nodes_in}
use Rattle.box_layout.proofs.gridded.framed_again.Given as goal

abbrev pub invariant-loop-at : goal.invariant-loop-at
invariant-loop-at l =
    AreAgain (nodes_in l.grid) l.grid.id (frames_by l.grid) l.places l.fresh l.at l.frames
    × IsLastIn l.grid.rows.now l.last
