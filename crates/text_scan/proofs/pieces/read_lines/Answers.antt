use Rattle.std.proofs.Common.{◌≡◌, refl, ap, sym, ◌∙◌, ℕ, List, [], ◌++◌, length, flat_map, get_or, arith, append-nil}
use Rattle.std.proofs.lemmas.List.{drop_all}
use Rattle.std.proofs.lemmas.List.Folds.{length-flat_map-take}
use Rattle.text_scan.specs.Lines.{lines_from}
use Rattle.text_scan.specs.Stream.{lines_ahead}
use Rattle.text_scan.proofs.pieces.read_lines.Goals as goal

pub feed-requires : goal.feed-requires
feed-requires c =
    let piece : length c.as_slice.result.now ≡ length (get_or c.args.pieces.now c.loop-piece.piece-index c.piece-item.result) =
    ap (λ (xs : List ℕ). length xs) (c.as_slice.ensures ∙ c.piece-item.is) in
    omega (arith, c.requires, c.loop-piece.invariant.0, piece, length-flat_map-take (λ (piece : List ℕ). piece) c.args.pieces.now c.loop-piece.piece-index c.piece-item.result c.loop-piece-test.true)

pub returns : goal.returns
returns c =
    let taken = c.take_lines-2.new.taken in
    let ahead = c.in_ok-take_lines-2.ensures.ahead [] (λ _. refl) in
    let held = c.in_ok-take_lines-2.ensures.drained refl in
    sym (append-nil taken)
    ∙ ap (λ (bytes : List ℕ). taken ++ lines_from c.take_lines-2.new.lines.number (bytes ++ [])) (sym held)
    ∙ ahead
    ∙ ap (λ (pieces : List (List ℕ)). c.loop-piece.taken ++ lines_ahead c.loop-piece.lines (flat_map (λ (piece : List ℕ). piece) pieces))
    (sym (drop_all c.loop-piece.piece-index c.args.pieces.now (omega (arith, c.loop-piece-test.false))))
    ∙ c.loop-piece.invariant.1
