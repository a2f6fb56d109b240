use Rattle.std.proofs.Common.{None, true, false, sym, ap, ◌∙◌}
use Rattle.std.specs.Str.{bytes_eq}
use Rattle.node_arena.specs.Numbers.{top_numbers}
use Rattle.node_arena.specs.Plain.{Nodes}
use Rattle.placing.specs.declared.node.Node.{Node}
use Rattle.page_tree.specs.Pages.{document_of}
use Rattle.page_tree.specs.Rows.{or_later}
use Rattle.page_tree.proofs.Refusals.{root_removed, unknown}
use Rattle.page_tree.proofs.refusal.of_removal.Goals as goal

pub returns-in_default : goal.returns-in_default
returns-in_default c =
    let page = c.args.page.now in
    let named = c.args.named.now in
    c.told.ensures ∙ sym (unknown page c.stands.ensures.rooted named (or_later (bytes_eq (document_of page).root.name named.name) 22 named.at None) c.in_default.ensures.there)

pub returns-then-is : goal.returns-then-is
returns-then-is c =
    let top = sym (ap (λ (n : Nodes Node). top_numbers n.tree) c.tree.ensures) ∙ c.root.ensures.root in
    c.told-then-is.ensures ∙ sym (root_removed c.args.page.now c.stands.ensures.rooted c.args.named.now c.root.result c.in-Some.id true c.in-Some.ensures top (sym c.is.ensures ∙ c.if-is.true))

pub returns : goal.returns
returns c =
    let top = sym (ap (λ (n : Nodes Node). top_numbers n.tree) c.tree.ensures) ∙ c.root.ensures.root in
    sym (root_removed c.args.page.now c.stands.ensures.rooted c.args.named.now c.root.result c.in-Some.id false c.in-Some.ensures top (sym c.is.ensures ∙ c.if-is.false))
