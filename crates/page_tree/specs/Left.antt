-- What a change leaves of what nodes keep (own rule).
use Rattle.std.specs.Prelude.{Bool, List, if◌then◌else◌}
use Rattle.layout_cache.specs.Reach.{forgets}
use Rattle.node_arena.specs.declared.number.NodeId.{NodeId}
use Rattle.node_arena.specs.Plain.{Nodes}
use Rattle.placing.specs.declared.node.Node.{Node}
use Rattle.placing.specs.Keeping.{without_answers, without_past_of}
use Rattle.placing.specs.Nodes.{NodeTrees}

-- Trees in which these nodes keep no answers. Where subgrids feel the change they keep nothing longer than these either: none of them where areas may
-- change too, and else only those that may be subgrids.
abbrev pub left_in : Bool → Bool → List NodeId → NodeTrees → NodeTrees
left_in felt placing ns t = if felt then forgets (without_past_of placing) ns (forgets without_answers ns t) else forgets without_answers ns t

-- an arena with such trees
abbrev pub all_left : Bool → Bool → List NodeId → Nodes Node → Nodes Node
all_left felt placing ns arena = record arena { tree = left_in felt placing ns arena.tree }
