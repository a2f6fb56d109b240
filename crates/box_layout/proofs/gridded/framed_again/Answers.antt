use Rattle.std.proofs.Common.{arith, sym, subst, length}
use Rattle.placing.proofs.Entries.{counts}
use Rattle.box_layout.specs.GridFrames.{AreIndices}
use Rattle.box_layout.proofs.InPlaces.{turns_within}
use Rattle.box_layout.proofs.LastFrames.{again_end, again_start}
use Rattle.box_layout.specs.Tracked.{frames_by, nodes_in}
use Rattle.box_layout.proofs.gridded.framed_again.Goals as goal

pub loop-at-init : goal.loop-at-init
loop-at-init c = (
  again_start (nodes_in c.args.grid.now) c.args.grid.now.id c.args.grid.now.reps.now c.args.grid.now.width.now c.args.grid.now.wide.now c.requires.grid.wide
      c.args.grid.now.rows.now c.root.ensures.tree c.args.fresh.now c.args.frames c.args.places.now c.requires.places c.requires.fresh c.requires.frames,
  tt,
)

pub frame_again-requires-clause-places : goal.frame_again-requires-clause-places
frame_again-requires-clause-places c =
    subst (AreIndices (length c.args.grid.now.wide.now.parts.base.placed.areas)) (sym c.requires.places)
    (turns_within (length c.args.grid.now.wide.now.parts.base.placed.areas) c.args.grid.now.wide.now.parts.base.placed.numbers (omega (arith, counts (nodes_in c.args.grid.now) c.args.grid.now.id c.args.grid.now.wide.now.parts.base.placed c.requires.grid.wide.grid.placed.children)))

pub loop-at-preserved : goal.loop-at-preserved
loop-at-preserved c = (c.in_ok-frame_again.ensures.frames, c.in_ok-frame_again.ensures.last)

pub returns : goal.returns
returns c =
    again_end (nodes_in c.args.grid.now) c.args.grid.now.id
    (frames_by c.args.grid.now) c.args.places.now c.args.fresh.now c.loop-at.at c.loop-at.frames c.loop-at.invariant.0 (omega (arith, c.loop-at-test.false))
