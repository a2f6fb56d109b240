use Rattle.std.proofs.Common.{◌≡◌, length}
use Rattle.value_text.specs.AreaText.{steps}
use Rattle.value_text.proofs.area.steps.Given as goal

-- the words that are left lead to what all lead to
abbrev pub invariant-loop-word : goal.invariant-loop-word
invariant-loop-word l = steps l.reading l.words ≡ steps l.fn.reading l.fn.words

abbrev pub decreases-loop-word : goal.decreases-loop-word
decreases-loop-word l = length l.words
