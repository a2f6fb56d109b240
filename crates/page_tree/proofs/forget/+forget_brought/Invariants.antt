use Rattle.std.proofs.Common.{take}
use Rattle.plain_tree.specs.Trees.{leafless, size_of, tree}
use Rattle.doc_text.specs.View.{label_of, trees_of}
use Rattle.node_arena.specs.Numbers.{value_at}
use Rattle.page_tree.specs.Forgotten.{Forgets, has_name_in}
use Rattle.page_tree.proofs.forget.+forget_brought.Given as goal

abbrev pub decreases-forget_brought : goal.decreases-forget_brought
decreases-forget_brought l = size_of l.node.now.children

-- the node is forgotten, and the children so far with all below them
abbrev pub invariant-loop-index : goal.invariant-loop-index
invariant-loop-index l = Forgets (λ id. has_name_in (tree (label_of l.node) (trees_of (take l.index l.children)) leafless) (value_at l.page.nodes.tree id)) l.fn.last l.last
