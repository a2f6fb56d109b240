use Rattle.std.proofs.Common.{◌≡◌, length}
use Rattle.doc_text.specs.Texts.{trimmed}
use Rattle.doc_text.proofs.text.trimmed.Given as goal

-- what is left is the same without the spaces at its end
abbrev pub invariant-loop-last : goal.invariant-loop-last
invariant-loop-last l = trimmed l.left ≡ trimmed l.bytes

abbrev pub decreases-loop-last : goal.decreases-loop-last
decreases-loop-last l = length l.left
