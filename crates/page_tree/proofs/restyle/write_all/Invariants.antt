use Rattle.std.proofs.Common.{◌≡◌, length}
use Rattle.page_tree.specs.Restyled.{with_styles}
use Rattle.page_tree.proofs.restyle.write_all.Given as goal

-- with the styles that are left it is what all make
abbrev pub invariant-loop-id : goal.invariant-loop-id
invariant-loop-id l = with_styles l.left l.tree ≡ with_styles l.fn.styles l.fn.tree

abbrev pub decreases-loop-id : goal.decreases-loop-id
decreases-loop-id l = length l.left
