use Rattle.std.proofs.Common.{◌≡◌, length}
use Rattle.track_text.specs.Unsupported.{outside, is_unsupported}
use Rattle.track_text.proofs.Scans.{found}
use Rattle.track_text.proofs.read.is_unsupported_template.Given as goal

abbrev pub invariant-loop-word : goal.invariant-loop-word
invariant-loop-word l = found l.relative l.after_subgrid (outside l.within l.words) ≡ is_unsupported l.relative l.fn.words

abbrev pub decreases-loop-word : goal.decreases-loop-word
decreases-loop-word l = length l.words
