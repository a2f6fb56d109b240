-- The lines of edits (own rule).
use Rattle.std.specs.Prelude.{ℕ, List, [], ◌∷◌, if◌then◌else◌, Option, Some, None, Result, Ok, Err, codes}
use Rattle.std.specs.List.{position_or_len}
use Rattle.text_scan.specs.declared.line.Fault.{Fault}
use Rattle.text_scan.specs.declared.line.Line.{Line}
use Rattle.text_scan.specs.declared.line.Place.{Place}
use Rattle.style_types.specs.declared.prop.Prop.{Prop}
use Rattle.track_text.specs.Values.{is_relative}
use Rattle.track_text.specs.Gives.{fault_at}
use Rattle.value_text.specs.Declarations.{declaration}
use Rattle.value_text.specs.declared.property.Property.{Property}
use Rattle.value_text.specs.declared.property.Property.TheVariants as property
use Rattle.value_text.specs.Properties.{property_of, parts_of_shorthand}
use Rattle.plain_tree.specs.Trees.{leafless}
use Rattle.doc_text.specs.declared.document.Plain.{Plain}
use Rattle.doc_text.specs.declared.edit.Edit.{Edit}
use Rattle.doc_text.specs.declared.edit.Edit.TheVariants as edit
use Rattle.doc_text.specs.declared.edit.Named.{Named}
use Rattle.doc_text.specs.declared.kind.Kind.{Kind}
use Rattle.doc_text.specs.Label.{DeclaredMap}
use Rattle.doc_text.specs.Texts.{Word, Text, past, up_to, first_word, word_place, after_word, is_word, ◌>>=◌, end_of, text_of}
use Rattle.doc_text.specs.Tokens.{name_first, size_first, position_first, index_first, times_first}
use Rattle.doc_text.specs.NodeText.{is_semicolon, content_first, node_text}

abbrev named_at : Place → Word × Text → Named × Text
named_at at read = (record { name = read.0; at = at }, read.1)

-- a name with its place
abbrev pub named_first : Text → Result (Named × Text) Fault
named_first text = name_first text >>= λ read. Ok (named_at (word_place text) read)

-- ---- `set NAME property: value`, with a last `;` or without

-- the texts before and after the first `;`; without one, the whole text, and nothing at its end
abbrev pub before_semicolon : Text → Text
before_semicolon text = up_to (position_or_len is_semicolon text.bytes) text

abbrev pub after_semicolon : Text → Text
after_semicolon text = past 1 (past (position_or_len is_semicolon text.bytes) text)

abbrev pub set_edit : ℕ → Text → Result Edit Fault
set_edit version text =
    named_first text >>= λ named.
    declaration version (before_semicolon named.1).at (before_semicolon named.1).bytes >>= λ settings.
    end_of (after_semicolon named.1) >>= λ _.
    Ok (edit.Set named.0 settings)

-- ---- `unset NAME property`

-- the properties that a name stands for; 8, `unknown-property`, where it is in no table, and 11, `unsupported`
abbrev pub props_of : Text → Option Property → Result (List Prop × Text) Fault
props_of text None = Err (fault_at 8 (word_place text))
props_of text (Some (property.Longhand p)) = Ok (p ∷ [], after_word text)
props_of text (Some (property.Shorthand s)) = Ok (parts_of_shorthand s, after_word text)
props_of text (Some property.Unsupported) = Err (fault_at 11 (word_place text))

abbrev pub props_first : ℕ → Text → Result (List Prop × Text) Fault
props_first version text = props_of text (property_of (is_relative version) (first_word text))

abbrev pub unset_edit : ℕ → Text → Result Edit Fault
unset_edit version text =
    named_first text >>= λ named.
    props_first version named.1 >>= λ props.
    end_of props.1 >>= λ _.
    Ok (edit.Unset named.0 props.0)

-- ---- `insert PARENT INDEX` and a node's line

-- a node without children
abbrev pub bare_node : Word → Kind × DeclaredMap → Plain
bare_node name node = record { name = name; kind = node.0; style = node.1; children = leafless }

abbrev pub insert_edit : ℕ → Text → Result Edit Fault
insert_edit version text =
    named_first text >>= λ parent.
    index_first parent.1 >>= λ index.
    named_first index.1 >>= λ named.
    node_text version named.1 >>= λ node.
    Ok (edit.Insert parent.0 index.0 (word_place parent.1) named.0 (bare_node named.0.name node))

-- ---- the others

-- `remove NAME`
abbrev pub remove_edit : Text → Result Edit Fault
remove_edit text =
    named_first text >>= λ named.
    end_of named.1 >>= λ _.
    Ok (edit.Remove named.0)

-- `move NAME PARENT INDEX`
abbrev pub move_edit : Text → Result Edit Fault
move_edit text =
    named_first text >>= λ named.
    named_first named.1 >>= λ parent.
    index_first parent.1 >>= λ index.
    end_of index.1 >>= λ _.
    Ok (edit.Move named.0 parent.0 index.0 (word_place parent.1))

-- `content NAME leaf W H` and `content NAME words ..`
abbrev pub content_edit : Text → Result Edit Fault
content_edit text =
    named_first text >>= λ named.
    content_first named.1 >>= λ kind.
    end_of kind.1 >>= λ _.
    Ok (edit.Content named.0 kind.0)

-- `viewport W H`
abbrev pub viewport_edit : Text → Result Edit Fault
viewport_edit text =
    size_first text >>= λ width.
    size_first width.1 >>= λ height.
    end_of height.1 >>= λ _.
    Ok (edit.Viewport width.0 height.0)

-- `hit X Y`
abbrev pub hit_edit : Text → Result Edit Fault
hit_edit text =
    position_first text >>= λ x.
    position_first x.1 >>= λ y.
    end_of y.1 >>= λ _.
    Ok (edit.Hit x.0 y.0)

-- `undo N`
abbrev pub undo_edit : Text → Result Edit Fault
undo_edit text =
    times_first text >>= λ times.
    end_of times.1 >>= λ _.
    Ok (edit.Undo times.0 (word_place text))

-- `redo N`
abbrev pub redo_edit : Text → Result Edit Fault
redo_edit text =
    times_first text >>= λ times.
    end_of times.1 >>= λ _.
    Ok (edit.Redo times.0 (word_place text))

-- ---- a line

-- what changes no document of itself, by its first word; 20, `unknown-edit`, at another
abbrev pub asked_edit : Text → Result Edit Fault
asked_edit text =
    if is_word (codes "undo") text then undo_edit (after_word text)
    else if is_word (codes "redo") text then redo_edit (after_word text)
    else if is_word (codes "hit") text then hit_edit (after_word text)
    else Err (fault_at 20 (word_place text))

-- the edit by its first word
abbrev pub other_edit : Text → Result Edit Fault
other_edit text =
    if is_word (codes "remove") text then remove_edit (after_word text)
    else if is_word (codes "move") text then move_edit (after_word text)
    else if is_word (codes "content") text then content_edit (after_word text)
    else if is_word (codes "viewport") text then viewport_edit (after_word text)
    else asked_edit text

abbrev pub edit_in : ℕ → Text → Result Edit Fault
edit_in version text =
    if is_word (codes "set") text then set_edit version (after_word text)
    else if is_word (codes "unset") text then unset_edit version (after_word text)
    else if is_word (codes "insert") text then insert_edit version (after_word text)
    else other_edit text

-- the edit that a line is in a version of the language, or its fault: that of the line, or that of its leftmost part that has
-- one
abbrev pub edit_of : ℕ → Line → Result Edit Fault
edit_of version line = elim line.fault [ Some fault ↦ Err fault | None ↦ edit_in version (text_of line) ]
