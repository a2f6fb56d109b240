use Rattle.std.proofs.Common.{◌≡◌, drop}
use Rattle.plain_tree.specs.Trees.{size_of}
use Rattle.edit_journal.proofs.Found.{position_among}
use Rattle.edit_journal.proofs.find.+position_below.Given as goal

abbrev pub decreases-position_below : goal.decreases-position_below
decreases-position_below l = size_of l.node.now.children

-- what is found in the children that are left is found in all
abbrev pub invariant-loop-child : goal.invariant-loop-child
invariant-loop-child l = position_among l.name (drop l.child-index l.children) ≡ position_among l.name l.children
