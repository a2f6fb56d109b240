use Rattle.std.proofs.Common.{◌≡◌, drop}
use Rattle.plain_tree.specs.Trees.{joined, size_of}
use Rattle.doc_text.specs.View.{trees_of}
use Rattle.doc_text.specs.Named.{replaced}
use Rattle.edit_journal.specs.Turning.{becomes}
use Rattle.edit_journal.proofs.apply.+turned_node.Given as goal

abbrev pub decreases-turned_node : goal.decreases-turned_node
decreases-turned_node l = size_of l.node.now.children

-- the children so far, before what becomes of those that are left, are all
abbrev pub invariant-loop-child : goal.invariant-loop-child
invariant-loop-child l =
    joined l.children (replaced l.name (becomes l.change) (trees_of (drop l.child-index l.child-items))) ≡ replaced l.name (becomes l.change) (trees_of l.child-items)
