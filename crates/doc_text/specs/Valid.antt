-- Documents that are valid.
use Rattle.std.specs.Prelude.{◌≡◌, ℕ, ℤ, ◌≤◌, ◌⊎◌, true, false, List, [], ◌∷◌, length, Some, Ok, ⊤}
use Rattle.std.specs.FinMap as map
use Rattle.text_scan.specs.declared.line.Line.{Line}
use Rattle.text_scan.specs.declared.line.Place.{Place}
use Rattle.part_rules.specs.declared.content.Content.{Content}
use Rattle.part_rules.specs.declared.content.Content.TheVariants as content
use Rattle.style_types.specs.declared.prop.Prop.{Prop}
use Rattle.style_types.specs.declared.declared.DeclaredValue.{DeclaredValue}
use Rattle.lunit.specs.Names.{is_name}
use Rattle.value_text.specs.Declarations.{declaration}
use Rattle.value_text.specs.ValueText.{Settings}
use Rattle.plain_tree.specs.Trees.{Trees, leafless, tree, size_of, count_of, height_of, EachLabel}
use Rattle.doc_text.specs.declared.document.Doc.{Doc}
use Rattle.doc_text.specs.declared.kind.Kind.{Kind}
use Rattle.doc_text.specs.declared.kind.Kind.TheVariants as kind
use Rattle.doc_text.specs.Label.{Label, DeclaredMap}
use Rattle.doc_text.specs.Texts.{Word}
use Rattle.doc_text.specs.Tokens.{size_of_word}
use Rattle.doc_text.specs.Documents.{node_limit, is_leaf}
use Rattle.doc_text.specs.Named.{IsDistinct}
use Rattle.doc_text.specs.Edits.{tree_of, are_too_many}

-- ---- the tree

-- only containers have children
abbrev pub HasContainers : Trees Label → Type 0
HasContainers leafless = ⊤
HasContainers (tree x below after) = (is_leaf x.kind ≡ true → below ≡ leafless) × (HasContainers below × HasContainers after)

-- no node has more children than the version allows
abbrev pub HasFewChildren : ℕ → Trees Label → Type 0
HasFewChildren version leafless = ⊤
HasFewChildren version (tree x below after) = (are_too_many version (count_of below) ≡ false) × (HasFewChildren version below × HasFewChildren version after)

-- names differ, only containers have children, and levels, nodes and children are within the limits
pub record IsShaped (version : ℕ) (trees : Trees Label) : Type 0 where
  pub distinct : IsDistinct trees
  pub containers : HasContainers trees
  pub levels : height_of trees ≤ 64
  pub nodes : size_of trees ≤ node_limit version
  pub children : HasFewChildren version trees

-- ---- what a text can tell

-- some word reads as the size
pub record IsTold (size : ℤ) : Type 0 where
  pub word : Word
  pub told : size_of_word word ≡ Some size

abbrev pub AreTold : List ℤ → Type 0
AreTold [] = ⊤
AreTold (size ∷ sizes) = IsTold size × AreTold sizes

-- at most 65,536 words: a line has no more bytes
abbrev pub IsToldContent : Content → Type 0
IsToldContent (content.Fixed width height) = IsTold width × IsTold height
IsToldContent (content.Words line space words) = IsTold line × (IsTold space × (AreTold words × length words ≤ 65536))

abbrev pub IsToldKind : Kind → Type 0
IsToldKind kind.Grid = ⊤
IsToldKind kind.Flex = ⊤
IsToldKind (kind.Leaf c) = IsToldContent c

abbrev pub IsAmong : Prop × DeclaredValue → Settings → Type 0
IsAmong setting [] = ⊥
IsAmong setting (other ∷ settings) = (other ≡ setting) ⊎ IsAmong setting settings

-- some declaration of the version that a line can hold sets the property to the value
pub record IsDeclared (version : ℕ) (p : Prop) (value : DeclaredValue) : Type 0 where
  pub at : Place
  pub text : List ℕ
  pub short : length text ≤ 65536
  pub settings : Settings
  pub read : declaration version at text ≡ Ok settings
  pub among : IsAmong (p, value) settings

abbrev pub IsToldStyle : ℕ → DeclaredMap → Type 0
IsToldStyle version style = (p : Prop) (value : DeclaredValue) → map.get style p ≡ Some value → IsDeclared version p value

-- a node with a name of at most 58 bytes, and a content and values that a text tells
pub record IsToldLabel (version : ℕ) (x : Label) : Type 0 where
  pub named : is_name x.name ≡ true
  pub kind : IsToldKind x.kind
  pub style : IsToldStyle version x.style

abbrev pub IsVersion : ℕ → Type 0
IsVersion version = (version ≡ 1) ⊎ (version ≡ 2)

pub record IsValid (doc : Doc) : Type 0 where
  pub version : IsVersion doc.version
  pub width : IsTold doc.width
  pub height : IsTold doc.height
  pub shaped : IsShaped doc.version (tree_of doc)
  pub labels : EachLabel (IsToldLabel doc.version) (tree_of doc)

-- ---- lines

-- a line has at most 65,536 bytes (own rule)
abbrev pub IsShort : Line → Type 0
IsShort line = length line.bytes ≤ 65536

abbrev pub AreShort : List Line → Type 0
AreShort [] = ⊤
AreShort (line ∷ lines) = IsShort line × AreShort lines
