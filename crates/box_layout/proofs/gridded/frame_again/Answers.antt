use Rattle.std.proofs.Common.{arith, sym, subst, ◌+◌, length, pos}
use Rattle.std.specs.Prelude.{get_or}
use Rattle.std.proofs.lemmas.Option.{slice_get-get_or}
use Rattle.box_layout.specs.GridFrames.{AreAgain}
use Rattle.box_layout.proofs.InPlaces.{index_at, read_again}
use Rattle.box_layout.proofs.LastFrames.{again_kept, again_made}
use Rattle.box_layout.specs.Tracked.{frames_by, nodes_in}
use Rattle.box_layout.proofs.gridded.frame_again.Goals as goal

pub is_marked-requires : goal.is_marked-requires
is_marked-requires c =
    omega (
      arith,
      index_at (length c.args.grid.now.wide.now.parts.base.placed.areas) c.args.places.now c.args.at (get_or c.args.places.now c.args.at (0, pos 0)) c.requires.places c.requires.at
          (read_again c.args.places.now c.args.at (0, pos 0) (get_or c.args.places.now c.args.at (0, pos 0)) c.requires.at),
      c.requires.fresh,
    )

pub framed_child-requires-clause-index : goal.framed_child-requires-clause-index
framed_child-requires-clause-index c =
    index_at (length c.args.grid.now.wide.now.parts.base.placed.areas) c.args.places.now c.args.at (get_or c.args.places.now c.args.at (0, pos 0)) c.requires.places c.requires.at (read_again c.args.places.now c.args.at (0, pos 0) (get_or c.args.places.now c.args.at (0, pos 0)) c.requires.at)

pub set-requires : goal.set-requires
set-requires c = omega (arith, c.requires.at, c.requires.frames.counted)

pub returns-then-is_marked-clause-frames : goal.returns-then-is_marked-clause-frames
returns-then-is_marked-clause-frames c =
    again_kept (nodes_in c.args.grid.now) c.args.grid.now.id
    (frames_by c.args.grid.now) c.args.places.now c.args.fresh.now c.args.at c.args.frames.now c.requires.frames (get_or c.args.places.now c.args.at (0, pos 0))
    (slice_get-get_or c.args.places.now c.args.at (0, pos 0) c.requires.at)
    (c.is_marked.ensures c.if-is_marked.true)

pub returns-clause-frames : goal.returns-clause-frames
returns-clause-frames c =
    subst
    (AreAgain (nodes_in c.args.grid.now) c.args.grid.now.id
    (frames_by c.args.grid.now) c.args.places.now c.args.fresh.now (c.args.at + 1)) (sym c.set.ensures)
    (again_made (nodes_in c.args.grid.now) c.args.grid.now.id
    (frames_by c.args.grid.now) c.args.places.now c.args.fresh.now c.args.at c.args.frames.now c.requires.frames (get_or c.args.places.now c.args.at (0, pos 0))
    (slice_get-get_or c.args.places.now c.args.at (0, pos 0) c.requires.at)
    c.in_ok-frame.frame c.in_ok-frame.ensures.frame)
