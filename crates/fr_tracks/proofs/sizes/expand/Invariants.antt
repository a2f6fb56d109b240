use Rattle.fr_tracks.proofs.Expanded.{AreExpanded}
use Rattle.fr_tracks.proofs.sizes.expand.Given as goal

abbrev pub invariant-loop-row : goal.invariant-loop-row
invariant-loop-row l = AreExpanded l.fraction l.fn.rows l.rows l.row-index l.product l.lower
