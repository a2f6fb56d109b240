use Rattle.std.proofs.Common.{◌≡◌, ℕ, List, None, cond}
use Rattle.std.specs.BTreeMap.{get}
use Rattle.std.specs.Cmp.Lexicographic.{slice_cmp}
use Rattle.std.specs.Ordering.{nat_cmp}
use Rattle.plain_tree.specs.Trees.{size_of}
use Rattle.node_arena.specs.Numbers.{below_at}
use Rattle.layout_cache.specs.Reach.{from_tree}
use Rattle.doc_text.specs.Growth.{holds}
use Rattle.page_tree.specs.Documents.{plain_trees}
use Rattle.page_tree.proofs.children.+take_names.Given as goal

abbrev pub decreases-take_names : goal.decreases-take_names
decreases-take_names l = size_of (below_at l.tree.now.tree l.id)

abbrev pub invariant-loop-index : goal.invariant-loop-index
invariant-loop-index l =
    (name : List ℕ) → cond (holds (plain_trees (from_tree l.index (below_at l.tree.tree l.id))) name) None (get (slice_cmp nat_cmp) l.numbers name) ≡ cond (holds (plain_trees (below_at l.tree.tree l.id)) name) None (get (slice_cmp nat_cmp) l.fn.numbers name)
