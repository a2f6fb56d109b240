use Rattle.std.proofs.Common.{◌≡◌, drop}
use Rattle.plain_tree.specs.Trees.{joined}
use Rattle.doc_text.specs.View.{trees_of}
use Rattle.doc_text.proofs.document.+copy_node.Given as goal

abbrev pub decreases-copy_node : goal.decreases-copy_node
decreases-copy_node l = goal.size-copy_node l

abbrev pub invariant-loop-child : goal.invariant-loop-child
invariant-loop-child l =
    joined l.children (trees_of (drop l.child-index l.child-items)) ≡ l.node.children
