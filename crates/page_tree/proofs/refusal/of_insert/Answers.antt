use Rattle.std.proofs.Common.{not, ap, ◌∙◌}
use Rattle.page_tree.specs.Rows.{or_later}
use Rattle.page_tree.proofs.Refusals.{insert_told}
use Rattle.page_tree.proofs.refusal.of_insert.Goals as goal

pub returns : goal.returns
returns c node =
    let parent = c.args.parent.now in
    let named = c.args.named.now in
    c.or_later.ensures
    ∙ ap (or_later (not c.has.result) 21 parent.at) (c.or_later-later-5.ensures
    ∙ ap (or_later c.is_past_last-past.result 24 c.args.at) (c.or_later-later-4.ensures
    ∙ ap (or_later c.has-there.result 6 named.at) (c.or_later-later-3.ensures
    ∙ ap (or_later c.is_too_deep-deep.result 12 named.at) (c.or_later-later-2.ensures
    ∙ ap (or_later c.is_too_many-many.result 13 named.at) c.or_later-later.ensures))))
    ∙ insert_told c.args.page.now c.stands.ensures.rooted parent c.args.index c.args.at named node _ _ _ _ _ _ (ap not c.has.ensures) c.is_past_last-past.ensures c.has-there.ensures c.is_too_deep-deep.ensures c.is_too_many-many.ensures c.is_leaf_at-leaf.ensures
