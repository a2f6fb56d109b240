-- The canonical text of a document: the two header lines and one line for each node (own rule).
use Rattle.std.specs.Prelude.{◌≡◌, ℕ, ℤ, pos, ◌+◌, ◌*◌, nat_lt, Bool, true, false, List, [], ◌∷◌, ◌++◌, length, replicate, if◌then◌else◌, Option, Some, None, Result, Ok, Err, codes}
use Rattle.std.specs.FinMap as map
use Rattle.part_rules.specs.declared.content.Content.{Content}
use Rattle.part_rules.specs.declared.content.Content.TheVariants as content
use Rattle.style_types.specs.declared.declared.DeclaredValue.{DeclaredValue}
use Rattle.style_types.specs.declared.prop.Prop.{Prop}
use Rattle.track_text.specs.Words.{Word}
use Rattle.plain_tree.specs.Trees.{Trees, leafless, tree}
use Rattle.doc_text.specs.declared.document.Doc.{Doc}
use Rattle.doc_text.specs.declared.kind.Kind.{Kind}
use Rattle.doc_text.specs.declared.kind.Kind.TheVariants as kind
use Rattle.doc_text.specs.Edits.{tree_of}
use Rattle.doc_text.specs.Label.{Label}
use Rattle.doc_writer.specs.declared.errors.WriteError.{WriteError}
use Rattle.doc_writer.specs.declared.errors.WriteError.TheVariants as error
use Rattle.doc_writer.specs.Numbers.{integer, px_number}
use Rattle.doc_writer.specs.Properties.{property_word, all_properties}
use Rattle.doc_writer.specs.Spaces.{words_text}
use Rattle.doc_writer.specs.Values.{value_words}

-- ---- the words of a node

abbrev pub px_words : List ℤ → List Word
px_words [] = []
px_words (size ∷ sizes) = px_number size ∷ px_words sizes

abbrev pub content_words : Content → List Word
content_words (content.Fixed width height) = codes "leaf" ∷ px_number width ∷ px_number height ∷ []
content_words (content.Words line space words) = codes "words" ∷ px_number line ∷ px_number space ∷ px_words words

abbrev pub kind_words : Kind → List Word
kind_words kind.Grid = codes "grid" ∷ []
kind_words kind.Flex = codes "flex" ∷ []
kind_words (kind.Leaf c) = content_words c

abbrev pub declaration_words : Prop → DeclaredValue → List Word
declaration_words p declared = property_word p ∷ codes ":" ∷ value_words declared

-- ---- the properties that are set

abbrev pub Setting : Type 0
Setting = Prop × DeclaredValue

-- the property with its value, where it has one, before other settings
abbrev pub with_value : Prop → Option DeclaredValue → List Setting → List Setting
with_value p None settings = settings
with_value p (Some declared) settings = (p, declared) ∷ settings

-- of these properties those that have a value
abbrev pub settings_of : (Prop → Option DeclaredValue) → List Prop → List Setting
settings_of value [] = []
settings_of value (p ∷ properties) = with_value p (value p) (settings_of value properties)

-- what stands before a declaration: an opening brace where it is the first, and else what ends the one before it
abbrev pub mark_before : Bool → Word
mark_before false = codes "{"
mark_before true = codes ";"

-- the closing brace, where one was opened
abbrev pub close_after : Bool → List Word
close_after false = []
close_after true = codes "}" ∷ []

-- the declarations in braces, some of which stand before where the first argument says so; nothing where there are none
abbrev pub declarations : Bool → List Setting → List Word
declarations some [] = close_after some
declarations some (setting ∷ settings) = mark_before some ∷ (declaration_words setting.0 setting.1 ++ declarations true settings)

abbrev pub style_words : (Prop → Option DeclaredValue) → List Word
style_words value = declarations false (settings_of value all_properties)

abbrev pub node_words : Word → Kind → (Prop → Option DeclaredValue) → List Word
node_words name kind value = name ∷ (kind_words kind ++ style_words value)

-- ---- lines

-- two spaces for each level, of which the root's is 0
abbrev pub indent : ℕ → List ℕ
indent level = replicate (2 * level) 32

abbrev pub node_line : ℕ → Word → Kind → (Prop → Option DeclaredValue) → List ℕ
node_line level name kind value = indent level ++ words_text (node_words name kind value)

-- a line of a node, and its name
pub record NodeLine : Type 0 where
  pub name : Word
  pub text : List ℕ

abbrev pub line_of : ℕ → Label → NodeLine
line_of level label = record { name = label.name; text = node_line level label.name label.kind (map.get label.style) }

-- the lines of the nodes in document order, of which the first stand on this level
abbrev pub lines_of : ℕ → Trees Label → List NodeLine
lines_of level leafless = []
lines_of level (tree label below after) = line_of level label ∷ (lines_of (level + 1) below ++ lines_of level after)

-- a line may have so many bytes (own rule)
abbrev pub longest : ℕ
longest = 65536

abbrev pub ended : List ℕ → List ℕ
ended line = line ++ codes "\n"

-- the text with these lines behind it, or the name of the first node whose line is too long
abbrev pub with_lines : List ℕ → List NodeLine → Result (List ℕ) Word
with_lines text [] = Ok text
with_lines text (line ∷ lines) = if nat_lt longest (length line.text) then Err line.name else with_lines (text ++ ended line.text) lines

abbrev pub version_words : ℕ → List Word
version_words version = codes "gridlay" ∷ integer (pos version) ∷ []

abbrev pub viewport_words : ℤ → ℤ → List Word
viewport_words width height = codes "viewport" ∷ px_number width ∷ px_number height ∷ []

abbrev pub header : ℕ → ℤ → ℤ → List ℕ
header version width height = ended (words_text (version_words version)) ++ ended (words_text (viewport_words width height))

-- the canonical text of a document, or the name of its first node whose line is too long
abbrev pub canonical : Doc → Result (List ℕ) Word
canonical doc = with_lines (header doc.version doc.width doc.height) (lines_of 0 (tree_of doc))

-- why a document is not written: the line of the node is too long, or memory is wanting, which says nothing
abbrev pub IsDue : WriteError → Result (List ℕ) Word → Type 0
IsDue (error.TooLong name) due = due ≡ Err name
IsDue error.NoMemory due = Unit {0}
