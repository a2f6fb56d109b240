-- Documents as the engine holds them, and the plain documents that they stand for.
use Rattle.std.specs.Prelude.{◌≡◌, ◌≤◌, refl, ℕ, ℤ, [], Some}
use Rattle.std.specs.FinMap as map
use Rattle.std.specs.Coded.{Coded, code_by, coded×, coded_ℕ}
use Rattle.lunit.specs.contracts.lu.Lu as lu
use Rattle.plain_tree.specs.Trees.{Trees, leafless, tree, count_of, height_of}
use Rattle.node_arena.specs.Plain.{Nodes, nodes_code}
use Rattle.placing.specs.declared.node.Node.{Node}
use Rattle.placing.specs.contracts.node.Node as node
use Rattle.doc_text.specs.declared.document.Doc.{Doc}
use Rattle.doc_text.specs.declared.document.Plain.{Plain}
use Rattle.doc_text.specs.declared.kind.Kind.TheVariants as kind
use Rattle.doc_text.specs.Label.{Label}
use Rattle.doc_text.specs.View.{label_of as plain_label}
use Rattle.style_types.specs.Computed.{font_of}
use Rattle.node_arena.specs.declared.number.NodeId.{NodeId}
use Rattle.node_arena.specs.Numbers.{EachNode, IsDistinct, value_at}
use Rattle.placing.specs.Nodes.{NodeTrees}
use Rattle.page_tree.specs.Documents.{label_of, plain_trees}
use Rattle.page_tree.specs.Fonts.{HasFont, HasStyle, IsStyled, root_font_of}
use Rattle.page_tree.specs.Registers.{AreNamed}
use Rattle.page_tree.specs.Shapes.{IsBegun}

-- the version of the language, the viewport, and the arena of the nodes
pub record Held : Type 0 where
  pub version : ℕ
  pub width : ℤ
  pub height : ℤ
  pub nodes : Nodes Node

abbrev pub held_code : Coded Held
held_code =
    code_by (ℕ × (ℤ × (ℤ × Nodes Node))) (coded× coded_ℕ (coded× lu.the_row.coded (coded× lu.the_row.coded (nodes_code node.the_row.coded))))
    (λ h. (h.version, (h.width, (h.height, h.nodes)))) (λ p. record { version = p.0; width = p.1.0; height = p.1.1.0; nodes = p.1.1.1 }) (λ _. refl)

abbrev pub plain_root : Trees Label → Plain
plain_root leafless = record { name = []; kind = kind.Grid; style = map.empty; children = leafless }
plain_root (tree x below after) = record { name = x.name; kind = x.kind; style = x.style; children = below }

abbrev pub trees_in : Held → Trees Label
trees_in h = plain_trees h.nodes.tree

-- the document that it stands for
abbrev pub document_of : Held → Doc
document_of h = record { version = h.version; width = h.width; height = h.height; root = plain_root (trees_in h) }

-- one root, and each node with its computed style
pub record IsPage (t : NodeTrees) : Type 0 where
  pub rooted : count_of t ≡ 1
  pub styled : IsStyled t

-- what holds of every page: so, and each value is that of its number
pub record Stands (t : NodeTrees) : Type 0 where
  pub rooted : count_of t ≡ 1
  pub styled : IsStyled t
  pub each : EachNode (λ x. value_at t x.0 ≡ Some x.1) t
  pub named : AreNamed t
  pub distinct : IsDistinct t
  pub low : height_of t ≤ 64

-- two pages differ in nothing but the nodes
pub record IsAround (old new : Held) : Type 0 where
  pub version : new.version ≡ old.version
  pub width : new.width ≡ old.width
  pub height : new.height ≡ old.height

-- a root alone, of the number `id`, for the root of a document
pub record IsRoot (doc : Doc) (id : NodeId) (h : Held) : Type 0 where
  pub version : h.version ≡ doc.version
  pub width : h.width ≡ doc.width
  pub height : h.height ≡ doc.height
  pub value : Node
  pub label : label_of value ≡ plain_label doc.root
  pub begun : IsBegun value
  pub nodes : h.nodes.tree ≡ tree (id, value) leafless leafless

-- a node as it stands under another
pub record StandsUnder (parent : NodeId) (t : NodeTrees) (plain : Plain) (v : Node) : Type 0 where
  pub label : label_of v ≡ plain_label plain
  pub begun : IsBegun v
  pub font : ℤ
  pub has : HasFont font parent t
  pub style : HasStyle (font_of font (root_font_of t) v.declared) (root_font_of t) v
