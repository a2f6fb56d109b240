use Rattle.std.proofs.Common.{◌≡◌, false, length}
use Rattle.value_text.specs.Refusals.{holds_refused}
use Rattle.value_text.proofs.refusal.holds_refused.Given as goal

-- what the words that are left hold decides
abbrev pub invariant-loop-word : goal.invariant-loop-word
invariant-loop-word l = holds_refused l.within l.relative l.refused l.words ≡ holds_refused false l.relative l.refused l.fn.words

abbrev pub decreases-loop-word : goal.decreases-loop-word
decreases-loop-word l = length l.words
