use Rattle.std.proofs.Common.{None, not, ap, ◌∙◌}
use Rattle.page_tree.specs.Rows.{or_later}
use Rattle.page_tree.proofs.refusal.of_named.Goals as goal

pub returns : goal.returns
returns c = c.or_later.ensures ∙ ap (λ b. or_later (not b) 21 c.args.named.now.at None) c.has.ensures
