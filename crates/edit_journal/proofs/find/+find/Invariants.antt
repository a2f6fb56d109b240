use Rattle.std.proofs.Common.{◌≡◌, drop}
use Rattle.plain_tree.specs.Trees.{size_of}
use Rattle.edit_journal.proofs.Found.{found_in}
use Rattle.edit_journal.proofs.find.+find.Given as goal

abbrev pub decreases-find : goal.decreases-find
decreases-find l = size_of l.node.now.children

-- what is found in the children that are left is found in all
abbrev pub invariant-loop-child : goal.invariant-loop-child
invariant-loop-child l = found_in l.name (drop l.child-index l.child-items) ≡ found_in l.name l.child-items
