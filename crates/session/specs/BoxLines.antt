-- The lines of boxes that come one after the other (own rule).
use Rattle.std.proofs.Common.{refl, sym, ap, ◌≡◌, ◌∙◌, ℕ, List, [], ◌∷◌, ◌++◌, append-nil}
use Rattle.std.proofs.lemmas.List.{append_assoc}
use Rattle.session.specs.Printing.{Box, box_line, box_lines}

pub lines_none : (a : List ℕ) → a ≡ a ++ box_lines []
lines_none a = sym (append-nil a)

lines_of_both : (x y : List Box) → box_lines (x ++ y) ≡ box_lines x ++ box_lines y
lines_of_both [] y = refl
lines_of_both (b ∷ x) y = ap (λ l. box_line b ++ l) (lines_of_both x y) ∙ sym (append_assoc (box_line b) (box_lines x) (box_lines y))

pub lines_join : (a b c : List ℕ) (x y : List Box) → b ≡ a ++ box_lines x → c ≡ b ++ box_lines y → c ≡ a ++ box_lines (x ++ y)
lines_join a b c x y first second =
    second ∙ ap (λ l. l ++ box_lines y) first ∙ append_assoc a (box_lines x) (box_lines y) ∙ ap (λ l. a ++ l) (sym (lines_of_both x y))
