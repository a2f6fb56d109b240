use Rattle.std.proofs.Common.{◌≡◌, ap, sym, subst, ◌∙◌, IfOk}
use Rattle.plain_tree.specs.Trees.{Trees}
use Rattle.doc_text.specs.Label.{Label}
use Rattle.doc_text.specs.Named.{IsDistinct, grafted, removed, tree_at}
use Rattle.doc_text.specs.Edits.{tree_of}
use Rattle.doc_text.proofs.Standing.{is_tree_at, removed_distinct}
use Rattle.edit_journal.specs.Changes.{tree_of_node}
use Rattle.edit_journal.specs.Turning.{trees_of_option}
use Rattle.edit_journal.proofs.Positions.{node_tree, tree_held}
use Rattle.edit_journal.proofs.apply.shifted.Goals as goal

pub turned_node-requires-in-Some : goal.turned_node-requires-in-Some
turned_node-requires-in-Some c =
    let left : tree_of_node c.in-Some.left ≡ removed c.args.name.now (tree_of c.args.doc.now) = ap trees_of_option (sym c.in-Some.is) ∙ c.in_ok-left.ensures in
    subst IsDistinct (sym left) (removed_distinct c.args.name.now (tree_of c.args.doc.now) c.requires.distinct)

pub returns-in-Some : goal.returns-in-Some
returns-in-Some c =
    let name = c.args.name.now in
    let doc = c.args.doc.now in
    let left : tree_of_node c.in-Some.left ≡ removed name (tree_of doc) = ap trees_of_option (sym c.in-Some.is) ∙ c.in_ok-left.ensures in
    let node : tree_of_node c.in_ok-node.node ≡ tree_at name (tree_of doc) =
    ap tree_of_node (c.in_ok-node.ensures ∙ c.node_at.ensures) ∙ node_tree doc.root name (tree_at name (tree_of doc)) (is_tree_at name (tree_of doc) c.requires.distinct) (tree_held name (tree_of doc) c.requires.there) in
    subst (λ (t : Trees Label). IfOk c.turned_node-in-Some.result (λ made. trees_of_option made ≡ t)) (λ i. grafted c.args.parent.now c.args.index (node i) (left i)) c.turned_node-in-Some.ensures
