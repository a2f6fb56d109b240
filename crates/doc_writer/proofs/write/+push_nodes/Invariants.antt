use Rattle.std.proofs.Common.{◌≡◌, ◌+◌, ◌∷◌, [], drop}
use Rattle.doc_text.specs.View.{trees_of}
use Rattle.doc_writer.specs.Documents.{lines_of, with_lines}
use Rattle.doc_writer.proofs.write.+push_nodes.Given as goal

abbrev pub decreases-push_nodes : goal.decreases-push_nodes
decreases-push_nodes l = goal.size-push_nodes l

-- the nodes that are left, after those so far, are all
abbrev pub invariant-loop-child : goal.invariant-loop-child
invariant-loop-child l =
    with_lines l.text.items (lines_of (l.level + 1) (trees_of (drop l.child-index l.child-items))) ≡ with_lines l.fn.text.items (lines_of l.level (trees_of (l.node ∷ [])))
