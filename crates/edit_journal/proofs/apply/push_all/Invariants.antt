use Rattle.std.proofs.Common.{◌≡◌, drop}
use Rattle.plain_tree.specs.Trees.{joined}
use Rattle.doc_text.specs.View.{trees_of}
use Rattle.edit_journal.proofs.apply.push_all.Given as goal

-- the children so far, before those that are left, are all
abbrev pub invariant-loop-node : goal.invariant-loop-node
invariant-loop-node l = joined l.children (trees_of (drop l.node-index l.nodes)) ≡ joined l.fn.children (trees_of l.nodes)
