-- The boxes of a document (CSS Grid 2; CSS Flexbox 1), from the declared styles of its nodes.
use Rattle.std.specs.Prelude.{List}
use Rattle.plain_tree.specs.Trees.{map_trees}
use Rattle.doc_text.specs.declared.document.Doc.{Doc}
use Rattle.doc_text.specs.declared.kind.Kind.{Kind}
use Rattle.doc_text.specs.declared.kind.Kind.TheVariants as plain
use Rattle.doc_text.specs.Label.{Label}
use Rattle.doc_text.specs.View.{label_of}
use Rattle.tree_rules.specs.declared.kind.NodeKind.{NodeKind}
use Rattle.tree_rules.specs.declared.kind.NodeKind.TheVariants as kind
use Rattle.tree_rules.specs.Answers.{Box}
use Rattle.tree_rules.specs.Documents as rules

abbrev pub node_kind_of : Kind → NodeKind
node_kind_of plain.Grid = kind.Grid
node_kind_of plain.Flex = kind.Flex
node_kind_of (plain.Leaf content) = kind.Leaf content

-- a node of a document as the rules read it
abbrev pub declared_of : Label → rules.DeclaredLabel
declared_of x = record { name = x.name; kind = node_kind_of x.kind; declared = x.style }

-- the boxes of a document in its viewport, each with the name of its node, in document order
abbrev pub boxes_of : Doc → List Box
boxes_of doc = rules.boxes_of doc.width doc.height (declared_of (label_of doc.root)) (map_trees declared_of doc.root.children)
