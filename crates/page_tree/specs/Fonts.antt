-- Font sizes, and computed styles that are those of the declared ones down from the root (CSS Fonts 4, 2.5; CSS Values 4, section 6.1).
use Rattle.std.specs.Prelude.{◌≡◌, ℤ, true, ⊤}
use Rattle.plain_tree.specs.Trees.{leafless, tree}
use Rattle.node_arena.specs.declared.number.NodeId.{NodeId}
use Rattle.node_arena.specs.Numbers.{same}
use Rattle.style_types.specs.Computed.{DeclaredMap, computed_style, font_of}
use Rattle.tree_rules.specs.Documents.{first_font}
use Rattle.placing.specs.declared.node.Node.{Node}
use Rattle.placing.specs.Nodes.{NodeTrees}

-- the font size of a root with these values: both em and rem of it are of the first font
abbrev pub root_font : DeclaredMap → ℤ
root_font declared = font_of first_font first_font declared

abbrev pub root_font_of : NodeTrees → ℤ
root_font_of leafless = first_font
root_font_of (tree x below after) = root_font x.1.declared

-- a node has the style that its declared values have at this font size, where that of the root is `rem`
abbrev pub HasStyle : ℤ → ℤ → Node → Type 0
HasStyle em rem v = v.style ≡ computed_style em rem v.declared

-- each node below one of the font size `parent` has its computed style
abbrev pub AreStyled : ℤ → ℤ → NodeTrees → Type 0
AreStyled parent root leafless = ⊤
AreStyled parent root (tree x below after) =
    HasStyle (font_of parent root x.1.declared) root x.1 × (AreStyled (font_of parent root x.1.declared) root below × AreStyled parent root after)

-- each node of a document has its computed style
abbrev pub IsStyled : NodeTrees → Type 0
IsStyled leafless = ⊤
IsStyled (tree x below after) =
    HasStyle (root_font x.1.declared) (root_font x.1.declared) x.1 × AreStyled (root_font x.1.declared) (root_font x.1.declared) below

-- the node of the number has this font size, where it stands below a node of the font size `parent`
abbrev pub HasFontBelow : ℤ → ℤ → ℤ → NodeId → NodeTrees → Type 0
HasFontBelow font parent root n leafless = ⊤
HasFontBelow font parent root n (tree x below after) =
    (same x.0 n ≡ true → font_of parent root x.1.declared ≡ font) ×
    (HasFontBelow font (font_of parent root x.1.declared) root n below × HasFontBelow font parent root n after)

-- the node of the number has this font size in a document
abbrev pub HasFont : ℤ → NodeId → NodeTrees → Type 0
HasFont font n leafless = ⊤
HasFont font n (tree x below after) =
    (same x.0 n ≡ true → root_font x.1.declared ≡ font) × HasFontBelow font (root_font x.1.declared) (root_font x.1.declared) n below
