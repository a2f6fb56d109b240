use Rattle.std.proofs.Common.{◌≡◌, length}
use Rattle.doc_text.specs.Documents.{from_counted}
use Rattle.doc_text.proofs.read.first_counted.Given as goal

-- what is left has the same lines that count
abbrev pub invariant-loop-line : goal.invariant-loop-line
invariant-loop-line l = from_counted l.left ≡ from_counted l.lines

abbrev pub decreases-loop-line : goal.decreases-loop-line
decreases-loop-line l = length l.left
