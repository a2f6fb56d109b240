use Rattle.std.proofs.Common.{◌≡◌, ◌+◌, ◌*◌, ◌-◌, length, min}
use Rattle.plain_tree.specs.Trees.{joined}
use Rattle.page_maker.specs.Growing.{child_count, grown}
use Rattle.page_maker.specs.Making.{label_at}
use Rattle.page_maker.proofs.tree.+children_of.Given as goal

abbrev pub decreases-children_of : goal.decreases-children_of
decreases-children_of l = l.levels

abbrev pub invariant-loop-child : goal.invariant-loop-child
invariant-loop-child l =
    joined l.children (grown (label_at l.begins) (length l.begins) l.levels l.child (min (length l.begins) (8 * l.i + 9) - l.child))
    ≡ grown (label_at l.begins) (length l.begins) l.levels (8 * l.i + 1) (child_count (length l.begins) l.i)
