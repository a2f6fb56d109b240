use Rattle.std.proofs.Common.{true, false, refl, sym, ◌∙◌}
use Rattle.page_tree.proofs.Moves.{move_told}
use Rattle.page_tree.proofs.refusal.of_move.Goals as goal

pub returns-in_default : goal.returns-in_default
returns-in_default c =
    c.told.ensures ∙ sym (move_told c.args.page.now c.stands.ensures.rooted c.args.named.now c.args.parent.now c.args.index c.args.at false _ _ _ (sym c.in_default.ensures.there) refl refl refl)

pub returns-in_default-find : goal.returns-in_default-find
returns-in_default-find c =
    c.told-in_default-find.ensures
    ∙ sym (move_told c.args.page.now c.stands.ensures.rooted c.args.named.now c.args.parent.now c.args.index c.args.at true false _ _ (sym c.in-Some.ensures.there) (sym c.in_default-find.ensures.there) refl refl)
