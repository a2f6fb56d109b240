use Rattle.std.proofs.Common.{not, ap, ◌∙◌}
use Rattle.std.specs.Prelude.{nat_lt}
use Rattle.page_tree.specs.Rows.{or_later}
use Rattle.page_tree.proofs.Refusals.{content_told}
use Rattle.page_tree.proofs.refusal.of_content.Goals as goal

pub returns : goal.returns
returns c kind =
    let named = c.args.named.now in
    c.or_later.ensures ∙ ap (or_later (not c.has.result) 21 named.at) c.or_later-later.ensures
    ∙ content_told c.args.page.now c.stands.ensures.rooted named kind _ _ (ap not c.has.ensures) (ap (nat_lt 0) c.count-parent.ensures)
