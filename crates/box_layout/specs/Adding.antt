-- Boxes that are taken one after the other (own rule).
use Rattle.std.proofs.Common.{sym, ap, ◌≡◌, ◌∙◌, List, [], ◌++◌, append-nil}
use Rattle.std.proofs.lemmas.List.{append_assoc}
use Rattle.tree_rules.specs.Answers.{Box}

pub boxes_none : (a : List Box) → a ≡ a ++ []
boxes_none a = sym (append-nil a)

pub boxes_join : (a b c x y : List Box) → b ≡ a ++ x → c ≡ b ++ y → c ≡ a ++ (x ++ y)
boxes_join a b c x y first second = second ∙ ap (λ l. l ++ y) first ∙ append_assoc a x y
