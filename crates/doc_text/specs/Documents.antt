-- The text of a document, line by line (own rule).
use Rattle.std.specs.Prelude.{ℕ, ℤ, ◌/◌, ◌%◌, ◌==◌, Bool, true, false, not, ◌&&◌, ◌||◌, nat_le, nat_lt, List, [], ◌∷◌, if◌then◌else◌, Option, Some, None, Result, Ok, Err, codes}
use Rattle.std.specs.Str.{bytes_eq}
use Rattle.text_scan.specs.declared.line.Fault.{Fault}
use Rattle.text_scan.specs.declared.line.Line.{Line}
use Rattle.text_scan.specs.declared.line.Place.{Place}
use Rattle.text_scan.specs.Tokens.{is_skipped}
use Rattle.track_text.specs.Words.{bind}
use Rattle.track_text.specs.Gives.{fault_at}
use Rattle.plain_tree.specs.Trees.{Trees, leafless, tree, size_of, count_of}
use Rattle.doc_text.specs.declared.document.Doc.{Doc}
use Rattle.doc_text.specs.declared.document.Plain.{Plain}
use Rattle.doc_text.specs.declared.kind.Kind.{Kind}
use Rattle.doc_text.specs.declared.kind.Kind.TheVariants as kind
use Rattle.doc_text.specs.Label.{Label, DeclaredMap}
use Rattle.doc_text.specs.Growth.{holds, open_levels, parent_on, put_last}
use Rattle.doc_text.specs.Texts.{Word, Text, spaces_of, first_word, word_place, after_word, is_word, is_ended, ◌>>=◌, text_of}
use Rattle.doc_text.specs.Tokens.{size_of_word, name_first}
use Rattle.doc_text.specs.NodeText.{node_text}

-- the first line that counts, and those after it
abbrev pub from_counted : List Line → List Line
from_counted [] = []
from_counted (line ∷ lines) = if is_skipped line then from_counted lines else line ∷ lines

-- ---- the two header lines; 3, `bad-header`, at the first byte after the spaces

abbrev pub version_word : Word → Option ℕ
version_word word = if bytes_eq word (codes "1") then Some 1 else if bytes_eq word (codes "2") then Some 2 else None

-- `gridlay 1` or `gridlay 2`: the version of the language
abbrev pub version_in : Text → Option ℕ
version_in text =
    if is_word (codes "gridlay") text && is_ended (after_word (after_word text)) then version_word (first_word (after_word text))
    else None

abbrev pub sizes_in : Text → Option (ℤ × ℤ)
sizes_in text =
    bind (size_of_word (first_word text)) (λ width.
    bind (size_of_word (first_word (after_word text))) (λ height.
    if is_ended (after_word (after_word text)) then Some (width, height) else None))

-- `viewport W H`
abbrev pub viewport_in : Text → Option (ℤ × ℤ)
viewport_in text = if is_word (codes "viewport") text then sizes_in (after_word text) else None

abbrev pub header : {A : Type 0} → (Text → Option A) → Line → Result A Fault
header form line =
    elim line.fault
    [ Some fault ↦ Err fault | None ↦ elim (form (text_of line)) [ Some read ↦ Ok read | None ↦ Err (fault_at 3 (word_place (text_of line))) ] ]

-- ---- the lines of nodes

-- how many nodes a document has at most; version 2 has at most 65,536 children of one node too (own rule)
abbrev pub node_limit : ℕ → ℕ
node_limit version = if version == 2 then 131072 else 32768

abbrev pub child_count : Option (Label × Trees Label) → ℕ
child_count None = 0
child_count (Some parent) = count_of parent.1

abbrev pub has_room_below : ℕ → Option (Label × Trees Label) → Bool
has_room_below version parent = not (version == 2) || nat_lt (child_count parent) 65536

abbrev pub has_room : ℕ → ℕ → Trees Label → Bool
has_room version level trees = nat_lt (size_of trees) (node_limit version) && has_room_below version (parent_on level trees)

abbrev pub is_leaf : Kind → Bool
is_leaf kind.Grid = false
is_leaf kind.Flex = false
is_leaf (kind.Leaf content) = true

abbrev pub is_leaf_node : Option (Label × Trees Label) → Bool
is_leaf_node None = false
is_leaf_node (Some parent) = is_leaf parent.0.kind

abbrev pub has_root : Trees Label → Bool
has_root leafless = false
has_root (tree label below after) = true

abbrev pub is_second_root : ℕ → Trees Label → Bool
is_second_root level trees = level == 0 && has_root trees

-- a node may stand on this level, counted from 0, as the next one: else 12, 13, 14 or 15, the first of them, at its name
abbrev pub standing_on : ℕ → ℕ → Place → Trees Label → Result (Unit {0}) Fault
standing_on version level at trees =
    if nat_le 64 level then Err (fault_at 12 at)
    else if not (has_room version level trees) then Err (fault_at 13 at)
    else if is_leaf_node (parent_on level trees) then Err (fault_at 14 at)
    else if is_second_root level trees then Err (fault_at 15 at)
    else Ok tt

-- so may one of this name, which no other node has: else 6 first
abbrev pub standing : ℕ → ℕ → Word → Place → Trees Label → Result (Unit {0}) Fault
standing version level name at trees = if holds trees name then Err (fault_at 6 at) else standing_on version level at trees

abbrev pub label_with : Word → Kind × DeclaredMap → Label
label_with name node = record { name = name; kind = node.0; style = node.1 }

-- a node of this name at this place, with what stands after the name, on this level
abbrev pub named_on : ℕ → ℕ → Word → Place → Text → Trees Label → Result (Trees Label) Fault
named_on version level name at rest trees =
    standing version level name at trees >>= λ _.
    node_text version rest >>= λ node.
    Ok (put_last level (label_with name node) trees)

-- a node on this level
abbrev pub node_on : ℕ → ℕ → Text → Trees Label → Result (Trees Label) Fault
node_on version level text trees =
    name_first text >>= λ name.
    named_on version level name.0 (word_place text) name.1 trees

-- two spaces for each level, and at most one level more than the node before has
abbrev pub is_indent : ℕ → ℕ → Bool
is_indent levels spaces = spaces % 2 == 0 && nat_le (spaces / 2) levels

-- the nodes so far and that of one line more; 4, `bad-indent`, after the spaces
abbrev pub node_in : ℕ → Text → Trees Label → Result (Trees Label) Fault
node_in version text trees =
    if is_indent (open_levels trees) (spaces_of text.bytes) then node_on version (spaces_of text.bytes / 2) text trees
    else Err (fault_at 4 (word_place text))

abbrev pub node_of : ℕ → Line → Trees Label → Result (Trees Label) Fault
node_of version line trees =
    elim line.fault [
      | Some fault ↦ Err fault
      | None ↦ node_in version (text_of line) trees
    ]

-- the nodes so far and those of these lines
abbrev pub nodes_of : ℕ → List Line → Trees Label → Result (Trees Label) Fault
nodes_of version [] trees = Ok trees
nodes_of version (line ∷ lines) trees = if is_skipped line then nodes_of version lines trees else node_of version line trees >>= nodes_of version lines

-- ---- the document

abbrev pub plain_of : Label → Trees Label → Plain
plain_of label below = record { name = label.name; kind = label.kind; style = label.style; children = below }

abbrev pub document_with : ℕ → ℤ × ℤ → Plain → Doc
document_with version size root = record { version = version; width = size.0; height = size.1; root = root }

-- 16, `no-root`, at the end of the text where no node was there
abbrev pub rooted : ℕ → ℤ × ℤ → Place → Trees Label → Result Doc Fault
rooted version size end leafless = Err (fault_at 16 end)
rooted version size end (tree label below after) = Ok (document_with version size (plain_of label below))

abbrev pub sized : ℕ → Place → List Line → Result Doc Fault
sized version end [] = Err (fault_at 3 end)
sized version end (line ∷ lines) =
    header viewport_in line >>= λ size.
    nodes_of version lines leafless >>= rooted version size end

abbrev pub headed : Place → List Line → Result Doc Fault
headed end [] = Err (fault_at 3 end)
headed end (line ∷ lines) = header version_in line >>= λ version. sized version end (from_counted lines)

-- the document of the lines of a text, which ends at this place, or its fault: that of the first line that has one; where all
-- lines read, 3 at the end where a header line is missing, and else 16 there where no node is there
abbrev pub document_of : List Line → Place → Result Doc Fault
document_of lines end = headed end (from_counted lines)
