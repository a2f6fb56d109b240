-- A node whose children, and all below them, are made one after another.
use Rattle.std.specs.Prelude.{◌≡◌, true, false, List, ℕ, Some}
use Rattle.plain_tree.specs.Trees.{Trees, leafless, tree}
use Rattle.doc_text.specs.Growth.{holds}
use Rattle.doc_text.specs.Label.{Label}
use Rattle.node_arena.specs.declared.number.NodeId.{NodeId}
use Rattle.node_arena.specs.Edits.{edited}
use Rattle.node_arena.specs.Numbers.{part_at}
use Rattle.placing.specs.declared.node.Node.{Node}
use Rattle.placing.specs.Nodes.{NodeTrees}
use Rattle.page_tree.specs.Documents.{plain_trees}
use Rattle.page_tree.specs.Shapes.{AreBegun}

-- no name of the one is in the other
abbrev pub AreNew : Trees Label → Trees Label → Type 0
AreNew new t = (name : List ℕ) → holds new name ≡ true → holds t name ≡ false

-- the node of a number has no children
pub record IsLone (id : NodeId) (t : NodeTrees) : Type 0 where
  pub value : Node
  pub part : part_at t id ≡ Some (value, leafless)

-- a node with these below it
abbrev pub with_below : NodeTrees → NodeId × Node → NodeTrees → NodeTrees
with_below new x below = tree x new leafless

-- the trees with these below the node of a number
abbrev pub filled : NodeId → NodeTrees → NodeTrees → NodeTrees
filled id new = edited id (with_below new)

-- new trees stand below the node of a number, of which a fact holds as trees of a document
pub record Fills (fact : Trees Label → Type 0) (id : NodeId) (t u : NodeTrees) : Type 0 where
  pub new : NodeTrees
  pub begun : AreBegun new t
  pub plain : fact (plain_trees new)
  pub is : u ≡ filled id new t
