use Rattle.std.proofs.Common.{rules, ◌≡◌, ◌≤◌, Some, arith}
use Rattle.plain_tree.specs.Trees.{size_of}
use Rattle.doc_text.specs.Documents.{node_limit}
use Rattle.doc_text.specs.Edits.{tree_of}
use Rattle.edit_journal.specs.Changes.{tree_of_node}
use Rattle.edit_journal.specs.Steps.{position_in}
use Rattle.edit_journal.proofs.Found.{small_position, few_nodes}
use Rattle.edit_journal.proofs.find.position_of.Goals as goal

pub overflow_cast-result : goal.overflow_cast-result
overflow_cast-result c =
    let told : position_in c.args.name.now (tree_of_node c.args.doc.now.root) ≡ Some c.in-Some.position = search rules in
    let nodes : size_of (tree_of c.args.doc.now) ≤ node_limit c.args.doc.now.version = c.requires.nodes in
    omega (arith, small_position c.args.name.now (tree_of_node c.args.doc.now.root) c.in-Some.position told, nodes, few_nodes c.args.doc.now.version)
