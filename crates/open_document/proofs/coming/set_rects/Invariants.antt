use Rattle.std.proofs.Common.{◌≡◌, drop}
use Rattle.open_document.specs.Coming.{with_rects}
use Rattle.open_document.proofs.coming.set_rects.Given as goal

abbrev pub invariant-loop-index : goal.invariant-loop-index
invariant-loop-index l = with_rects l.boxes (drop l.index-index l.changes) ≡ with_rects l.fn.boxes l.changes
