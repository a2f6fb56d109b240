use Rattle.std.proofs.Common.{◌≡◌, true, ℕ, List, [], ◌++◌, length}
use Rattle.text_scan.specs.Stream.{lines_ahead}
use Rattle.text_scan.proofs.pieces.take_lines.Given as goal

abbrev pub invariant-loop-line : goal.invariant-loop-line
invariant-loop-line l =
    (l.lines.fed ≡ l.fn.lines.fed)
    × ((more : List ℕ) → (l.ended ≡ true → more ≡ []) → l.taken ++ lines_ahead l.lines more ≡ l.fn.taken ++ lines_ahead l.fn.lines more)

abbrev pub decreases-loop-line : goal.decreases-loop-line
decreases-loop-line l = length l.lines.held
