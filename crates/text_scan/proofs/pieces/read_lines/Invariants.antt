use Rattle.std.proofs.Common.{◌≡◌, ℕ, List, ◌++◌, length, take, drop, flat_map}
use Rattle.text_scan.specs.Lines.{lines_of}
use Rattle.text_scan.specs.Stream.{lines_ahead}
use Rattle.text_scan.proofs.pieces.read_lines.Given as goal

abbrev pub invariant-loop-piece : goal.invariant-loop-piece
invariant-loop-piece l =
    (l.lines.fed ≡ length (flat_map (λ (piece : List ℕ). piece) (take l.piece-index l.pieces)))
    × (l.taken ++ lines_ahead l.lines (flat_map (λ (piece : List ℕ). piece) (drop l.piece-index l.pieces)) ≡ lines_of (flat_map (λ (piece : List ℕ). piece) l.pieces))
