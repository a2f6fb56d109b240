use Rattle.std.proofs.Common.{ap, ◌∙◌}
use Rattle.edit_journal.specs.declared.change.Change.{Change}
use Rattle.page_tree.specs.Forgotten.{is_brought}
use Rattle.page_tree.proofs.page.Page.forget_new.Goals as goal

pub returns-in-Bring : goal.returns-in-Bring
returns-in-Bring c =
    λ f here.
    let now = c.forget_brought.ensures f here in
    (now.0, ap (λ (change : Change). is_brought change c.args.self.now.nodes.tree f.id) c.in-Bring.is ∙ now.1)
