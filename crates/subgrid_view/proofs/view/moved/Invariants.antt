use Rattle.std.proofs.Common.{◌≡◌, ◌++◌, drop}
use Rattle.subgrid_view.specs.Moves.{moved_from}
use Rattle.subgrid_view.proofs.view.moved.Given as goal

abbrev pub invariant-loop-place : goal.invariant-loop-place
invariant-loop-place l = l.edges ++ moved_from l.moves l.place (drop l.place l.tracks) ≡ moved_from l.moves 0 l.tracks
