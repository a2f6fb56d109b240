use Rattle.std.proofs.Common.{rules, ◌≡◌, Some}
use Rattle.doc_text.specs.Edits.{with_kind}
use Rattle.node_arena.specs.Numbers.{value_at}
use Rattle.page_tree.proofs.Changes.{becomes_from, content_by, tells_name}
use Rattle.page_tree.proofs.Fonts.{declares}
use Rattle.page_tree.proofs.Turned.{on_ok}
use Rattle.page_tree.proofs.page.Page.replace_kind.Goals as goal

pub returns-clause-changes : goal.returns-clause-changes
returns-clause-changes c =
    let t = c.args.self.now.nodes.tree in
    let name = c.args.name.now in
    let id = c.known-id.result in
    let node = c.node_of-node.result.now in
    let value : value_at t id ≡ Some node = search rules in
    let becomes = becomes_from id node name (with_kind c.args.kind.now) _ t (declares t id node value c.stands.ensures.each) (tells_name id name t c.known-id.ensures.tells)
    (content_by node name c.in_ok-kind.kind c.args.kind.now c.in_ok-declared.declared c.in_ok-kind.ensures c.in_ok-declared.ensures) in
    on_ok c.relabel.result (λ f. f (with_kind c.args.kind.now) becomes) c.relabel.ensures.changes
