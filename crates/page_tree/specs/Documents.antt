-- The document that a tree of numbered nodes stands for: names, kinds and declared styles, without numbers, computed styles and kept answers (own rule).
use Rattle.std.specs.Prelude.{◌≡◌, true}
use Rattle.plain_tree.specs.Trees.{Trees, leafless, tree}
use Rattle.node_arena.specs.declared.number.NodeId.{NodeId}
use Rattle.node_arena.specs.Numbers.{EachNode, same}
use Rattle.doc_text.specs.declared.kind.Kind.{Kind}
use Rattle.doc_text.specs.declared.kind.Kind.TheVariants as plain
use Rattle.doc_text.specs.Label.{Label}
use Rattle.tree_rules.specs.declared.kind.NodeKind.{NodeKind}
use Rattle.tree_rules.specs.declared.kind.NodeKind.TheVariants as kind
use Rattle.placing.specs.declared.node.Node.{Node}
use Rattle.placing.specs.Nodes.{NodeTrees}

abbrev pub kind_of : NodeKind → Kind
kind_of kind.Grid = plain.Grid
kind_of kind.Flex = plain.Flex
kind_of (kind.Leaf content) = plain.Leaf content

abbrev pub label_of : Node → Label
label_of v = record { name = v.name; kind = kind_of v.kind; style = v.declared }

-- the trees of a document
abbrev pub plain_trees : NodeTrees → Trees Label
plain_trees leafless = leafless
plain_trees (tree x below after) = tree (label_of x.1) (plain_trees below) (plain_trees after)

-- a change of labels makes this label of that of the node of the number
abbrev pub Becomes : NodeId → (Label → Label) → Label → NodeTrees → Type 0
Becomes id change label t = EachNode (λ x. same x.0 id ≡ true → change (label_of x.1) ≡ label) t
