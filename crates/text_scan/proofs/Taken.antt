-- What a reader of lines holds after a line is taken.
use Rattle.std.proofs.Common.{◌≡◌, ap, sym, subst, ◌∙◌, ℕ, ◌+◌, ◌≤◌, Bool, true, List, ◌++◌, length, drop, min, arith}
use Rattle.std.specs.List.{after_first, position_or_len}
use Rattle.std.proofs.lemmas.Bool.{cond-true}
use Rattle.std.proofs.lemmas.List.{drop_min, drop-drop, drop-append-le}
use Rattle.text_scan.specs.Lines.{is_line_feed}
use Rattle.text_scan.specs.Stream.{Stream, is_line_due, after_next}
use Rattle.text_scan.proofs.Front.{position_or_len-append}
use Rattle.text_scan.proofs.Due.{LineIsDue}

after_due : (ended : Bool) (s : Stream) (rest : List ℕ) → is_line_due ended s.held ≡ true → rest ≡ after_first is_line_feed s.held → record { number = s.number + 1; fed = s.fed; held = rest } ≡ after_next ended s
after_due ended s rest due e = (λ i. record { number = s.number + 1; fed = s.fed; held = e i }) ∙ sym (cond-true (is_line_due ended s.held) _ _ due)

pub took : (ended : Bool) (number fed start end : ℕ) (items held : List ℕ) → held ≡ drop start items → LineIsDue ended held end →
    record { number = number + 1; fed = fed; held = drop (min (start + end + 1) (length items)) items } ≡ after_next ended (record { number = number; fed = fed; held = drop start items })
took ended number fed start end items held e d =
    let line = subst (λ (xs : List ℕ). LineIsDue ended xs end) e d in
    after_due ended (record { number = number; fed = fed; held = drop start items }) _ line.due (drop_min (start + end + 1) items ∙ ap (λ (n : ℕ). drop n items) (omega (arith, line.at_feed)) ∙ sym (drop-drop (position_or_len is_line_feed (drop start items) + 1) start items))

pub still_searched : (items piece new : List ℕ) (start searched : ℕ) → new ≡ items ++ piece → start ≤ length items → searched ≤ position_or_len is_line_feed (drop start items) → searched ≤ position_or_len is_line_feed (drop start new)
still_searched items piece new start searched e h s =
    let same : drop start new ≡ drop start items ++ piece = ap (λ (xs : List ℕ). drop start xs) e ∙ drop-append-le start items piece h in
    omega (arith, s, position_or_len-append is_line_feed (drop start items) piece, ap (λ (xs : List ℕ). position_or_len is_line_feed xs) same)
