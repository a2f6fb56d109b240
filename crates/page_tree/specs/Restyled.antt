-- The styles of a tree once font sizes have changed.
use Rattle.std.specs.Prelude.{◌≡◌, ℤ, ℕ, true, false, ⊤, List, [], ◌∷◌, ◌++◌, ◌+◌, if◌then◌else◌}
use Rattle.plain_tree.specs.Trees.{leafless, tree}
use Rattle.node_arena.specs.declared.number.NodeId.{NodeId}
use Rattle.node_arena.specs.Edits.{tree_at}
use Rattle.node_arena.specs.Numbers.{below_at, mapped, same, times}
use Rattle.node_arena.specs.Plain.{Nodes}
use Rattle.style_types.specs.Computed.{DeclaredMap, computed_style, font_of}
use Rattle.style_types.specs.Styles.{StyleMap}
use Rattle.layout_cache.specs.Reach.{from_tree}
use Rattle.placing.specs.declared.node.Node.{Node}
use Rattle.placing.specs.Nodes.{NodeTrees}
use Rattle.page_tree.specs.Fonts.{AreStyled, HasFont, root_font, root_font_of}

-- computed styles, each with the number of its node
abbrev pub Styles : Type 0
Styles = List (NodeId × StyleMap)

-- the computed styles of trees below a node of the font size `parent`, in document order
abbrev pub styles_of : ℤ → ℤ → NodeTrees → Styles
styles_of parent root leafless = []
styles_of parent root (tree x below after) =
    (x.0, computed_style (font_of parent root x.1.declared) root x.1.declared) ∷ styles_of (font_of parent root x.1.declared) root below ++
    styles_of parent root after

-- the style of a number after these: the first that it has there, else the one that it had
abbrev pub styled_from : Styles → NodeId → StyleMap → StyleMap
styled_from [] k old = old
styled_from (s ∷ styles) k old = if same s.0 k then s.1 else styled_from styles k old

-- each node with its style after these
abbrev pub restyled : Styles → NodeTrees → NodeTrees
restyled styles = mapped {A = Node} {B = Node} (λ k v. record v { style = styled_from styles k v.style })

abbrev pub with_styles : Styles → Nodes Node → Nodes Node
with_styles styles nodes = record nodes { tree = restyled styles nodes.tree }

-- after these styles each of the trees has its computed style below a node of the font size `parent`, and nothing else has changed
pub record Restyles (parent root : ℤ) (styles : Styles) (t : NodeTrees) : Type 0 where
  pub apart : (k : NodeId) → times k t ≡ 0 → (old : StyleMap) → styled_from styles k old ≡ old
  pub styled : AreStyled parent root (restyled styles t)

-- after these styles the tree of a number has its computed styles where it stands under another parent
pub record RestylesUnder (parent : NodeId) (styles : Styles) (n : NodeId) (t : NodeTrees) : Type 0 where
  pub font : ℤ
  pub has : HasFont font parent t
  pub new : Restyles font (root_font_of t) styles (tree_at n t)

-- the node of the number has this font size with these values, where it stands below a node of the font size `parent`
abbrev pub GetsFontBelow : ℤ → DeclaredMap → ℤ → ℤ → NodeId → NodeTrees → Type 0
GetsFontBelow font declared parent root n leafless = ⊤
GetsFontBelow font declared parent root n (tree x below after) =
    (same x.0 n ≡ true → font_of parent root declared ≡ font)
    × (GetsFontBelow font declared (font_of parent root x.1.declared) root n below × GetsFontBelow font declared parent root n after)

-- the node of the number has this font size with these values, and the root the size `rem` then
abbrev pub GetsFonts : ℤ → ℤ → DeclaredMap → NodeId → NodeTrees → Type 0
GetsFonts em rem declared n leafless = ⊤
GetsFonts em rem declared n (tree x below after) =
    (same x.0 n ≡ true → (em ≡ root_font declared) × (rem ≡ root_font declared))
    × (same x.0 n ≡ false → (rem ≡ root_font x.1.declared) × GetsFontBelow em declared (root_font x.1.declared) (root_font x.1.declared) n below)

-- the child of an index with its font size and its style, before the trees of those after it
pub record IsNextStyled (em rem : ℤ) (t : NodeTrees) (n : NodeId) (index : ℕ) (c : NodeId) (font : ℤ) (style : StyleMap) : Type 0 where
  pub value : Node
  pub next : from_tree index (below_at t n) ≡ tree (c, value) (below_at t c) (from_tree (index + 1) (below_at t n))
  pub font_is : font_of em rem value.declared ≡ font
  pub style_is : computed_style font rem value.declared ≡ style
