-- Where nodes stand among their siblings, and what stands under a number as a document has it.
use Rattle.std.specs.Prelude.{◌≡◌, ℕ, suc, List, [], ◌∷◌, Some, if◌then◌else◌}
use Rattle.doc_text.specs.declared.document.Plain.{Plain}
use Rattle.doc_text.specs.Documents.{plain_of}
use Rattle.node_arena.specs.declared.number.NodeId.{NodeId}
use Rattle.node_arena.specs.Numbers.{Part, part_at, same}
use Rattle.placing.specs.declared.node.Node.{Node}
use Rattle.placing.specs.Nodes.{NodeTrees}
use Rattle.page_tree.specs.Documents.{label_of, plain_trees}

-- the place of a number in a list, and the length of the list where it is not there
abbrev pub place_of : NodeId → List NodeId → ℕ
place_of n [] = 0
place_of n (m ∷ ms) = if same m n then 0 else suc (place_of n ms)

-- a node of a document is what stands under a number
abbrev pub IsPlainAt : NodeTrees → NodeId → Plain → Type 0
IsPlainAt t id node = (p : Part Node) → part_at t id ≡ Some p → node ≡ plain_of (label_of p.0) (plain_trees p.1)
