-- A tree of numbered nodes, in which the parent of node i above 0 is node (i - 1) / 8 (own rule).
use Rattle.std.specs.Prelude.{ℕ, zero, suc, ◌+◌, ◌-◌, ◌*◌, min}
use Rattle.plain_tree.specs.Trees.{Trees, leafless, tree}
use Rattle.doc_text.specs.Label.{Label}

-- how many children node i of so many has: those of 8i + 1 to 8i + 8 that are numbers of nodes
abbrev pub child_count : ℕ → ℕ → ℕ
child_count nodes i = min 8 (nodes - (8 * i + 1))

-- the trees of so many siblings from a first one on, with all below them in so many levels
unfoldable pub grown : (ℕ → Label) → ℕ → ℕ → ℕ → ℕ → Trees Label
grown label nodes zero first count = leafless
grown label nodes (suc levels) first zero = leafless
grown label nodes (suc levels) first (suc count) =
    tree (label first) (grown label nodes levels (8 * first + 1) (child_count nodes first)) (grown label nodes (suc levels) (first + 1) count)
