use Rattle.std.proofs.Common.{rules, ◌≡◌, Some}
use Rattle.edit_journal.specs.Changes.{with_style, with_values}
use Rattle.node_arena.specs.Numbers.{value_at}
use Rattle.page_tree.proofs.Changes.{becomes_from, label_by, tells_name}
use Rattle.page_tree.proofs.Fonts.{declares}
use Rattle.page_tree.proofs.Turned.{on_ok}
use Rattle.page_tree.proofs.page.Page.style.Goals as goal

pub returns-clause-changes : goal.returns-clause-changes
returns-clause-changes c =
    let t = c.args.self.now.nodes.tree in
    let name = c.args.name.now in
    let id = c.known-id.result in
    let node = c.node_of-node.result.now in
    let value : value_at t id ≡ Some node = search rules in
    let becomes = becomes_from id node name (with_style c.args.values.now) _ t (declares t id node value c.stands.ensures.each) (tells_name id name t c.known-id.ensures.tells)
    (label_by node name c.in_ok-kind.kind c.in_ok-declared.declared (with_values c.args.values.now node.declared) c.in_ok-kind.ensures c.in_ok-declared.ensures) in
    on_ok c.relabel.result (λ f. f (with_style c.args.values.now) becomes) c.relabel.ensures.changes
