-- Edit lines, worked by hand. They hold by computation.
use Rattle.std.specs.Prelude.{◌≡◌, refl, ℕ, pos, negsuc, ◌==◌, Bool, true, false, ◌&&◌, List, [], ◌∷◌, Result, Ok, Err, None, codes}
use Rattle.std.specs.FinMap as map
use Rattle.text_scan.specs.declared.line.Fault.{Fault}
use Rattle.text_scan.specs.declared.line.Line.{Line}
use Rattle.text_scan.specs.declared.line.Place.{Place}
use Rattle.part_rules.specs.declared.content.Content.TheVariants as content
use Rattle.style_types.specs.declared.prop.Prop.TheVariants as prop
use Rattle.style_types.specs.declared.value.Value.TheVariants as value
use Rattle.value_text.specs.Properties.{properties as property_rows, properties_2, properties_3, properties_4, properties_5, properties_6, properties_7, properties_8, properties_9, properties_10}
use Rattle.value_text.specs.Lines.{name_of, line_number, span_count}
use Rattle.value_text.specs.Sizes.{size_of}
use Rattle.plain_tree.specs.Trees.{leafless}
use Rattle.doc_text.specs.declared.edit.Edit.{Edit}
use Rattle.doc_text.specs.declared.edit.Edit.TheVariants as edit
use Rattle.doc_text.specs.declared.edit.Named.{Named}
use Rattle.doc_text.specs.declared.kind.Kind.TheVariants as kind
use Rattle.doc_text.specs.Texts.{past, first_word, word_place, after_word, text_of}
use Rattle.doc_text.specs.Tokens.{size_of_word, position_of_word}
use Rattle.doc_text.specs.EditText.{edit_of}

abbrev line : List ℕ → Line
line text = record { number = 7; bytes = text; fault = None }

abbrev place : ℕ → Place
place column = record { line = 7; column = column }

abbrev named : List ℕ → ℕ → Named
named name column = record { name = name; at = place column }

abbrev is_fault : ℕ → ℕ → Result Edit Fault → Bool
is_fault number column (Ok e) = false
is_fault number column (Err fault) = fault.number == number && (fault.place.line == 7 && fault.place.column == column)

-- the texts of the rows whose fault is another
abbrev others : ℕ → List (List ℕ × ℕ × ℕ) → List (List ℕ)
others version [] = []
others version (row ∷ rows) = if_other (is_fault row.1 row.2 (edit_of version (line row.0))) row.0 (others version rows) where
  if_other : Bool → List ℕ → List (List ℕ) → List (List ℕ)
  if_other true text rest = rest
  if_other false text rest = text ∷ rest

faults : others 1
    ((codes "frob main", 20, 1) ∷ (codes "  ; main", 20, 3) ∷ (codes "---", 20, 1) ∷ (codes "set", 5, 4) ∷
    (codes "set 9 width: 1px", 5, 5) ∷ (codes "set main", 8, 9) ∷ (codes "set main width", 9, 15) ∷ (codes "set main ;", 8, 10)
    ∷ (codes "set a colour: 1", 8, 7) ∷ (codes "set a width: 1px;;", 9, 18) ∷ (codes "set a width: 1px; x", 9, 19) ∷
    (codes "set a width: 1px }", 9, 14) ∷ (codes "set a width: 1em", 11, 14) ∷ (codes "set a float: left", 11, 7)
    ∷ (codes "unset", 5, 6) ∷ (codes "unset a", 8, 8) ∷ (codes "unset a width;", 9, 14) ∷ (codes "unset a colour", 8, 9) ∷
    (codes "unset a top", 11, 9) ∷ (codes "unset a font-size", 11, 9) ∷ (codes "unset a : x", 8, 9)
    ∷ (codes "insert main 0 a leaf 1 1 x", 9, 26) ∷ (codes "insert main", 9, 12) ∷ (codes "insert main -1 a grid", 9, 13) ∷
    (codes "insert main 1.0 a grid", 9, 13) ∷ (codes "insert main 1000001 a grid", 9, 13) ∷ (codes "insert main 0", 5, 14)
    ∷ (codes "insert main 0 a", 7, 16) ∷ (codes "insert main 0 a tree", 7, 17) ∷
    (codes "insert main 0 a grid { width: 1px; width: 1px }", 10, 36) ∷ (codes "insert main 0 a grid {", 9, 23)
    ∷ (codes "remove", 5, 7) ∷ (codes "remove a b", 9, 10) ∷ [])
    ≡ []
unfolding property_rows properties_2 properties_3 properties_4 properties_5 properties_6 properties_7 properties_8 properties_9 properties_10
    name_of line_number span_count size_of past first_word word_place after_word text_of size_of_word
faults = refl

more_faults : others 2
    ((codes "move a", 5, 7) ∷ (codes "move a b", 9, 9) ∷ (codes "move a b 0 0", 9, 12) ∷ (codes "move a 1 0", 5, 8) ∷ (codes "content a", 7, 10) ∷
    (codes "content a grid", 7, 11) ∷ (codes "content a leaf 1", 9, 17) ∷ (codes "content a leaf 1 1 { }", 9, 20)
    ∷ (codes "content a words 1 1 2 x", 9, 23) ∷ (codes "content a words 1 1 { }", 9, 21) ∷ (codes "content a leaf 1em 1", 9, 16) ∷
    (codes "viewport 1", 9, 11) ∷ (codes "viewport 1 1 1", 9, 14) ∷ (codes "viewport -1 1", 9, 10)
    ∷ (codes "viewport 1 1048577", 9, 12) ∷ (codes "hit", 9, 4) ∷ (codes "hit 1", 9, 6) ∷ (codes "hit 1 ", 9, 6) ∷ (codes "hit 1 2 3", 9, 9) ∷
    (codes "hit 1 x", 9, 7) ∷ (codes "hit 1em 1", 9, 5)
    ∷ (codes "hit 1, 2", 9, 6) ∷ (codes "hit 1048576.1 0", 9, 5) ∷ (codes "hit 0 -1048577", 9, 7) ∷ (codes "hits 1 1", 20, 1)
    ∷ (codes "undo", 9, 5) ∷ (codes "undo 0", 9, 6) ∷ (codes "redo -1", 9, 6) ∷ (codes "undo 1000001", 9, 6) ∷ (codes "redo 1.0", 9, 6) ∷
    (codes "undo x", 9, 6) ∷ (codes "undo 1 2", 9, 8) ∷ (codes "undo1", 20, 1)
    ∷ (codes "unset a position", 11, 9) ∷ (codes "set a width: 1ex", 11, 14) ∷ [])
    ≡ []
unfolding property_rows properties_2 properties_3 properties_4 properties_5 properties_6 properties_7 properties_8 properties_9 properties_10
    name_of line_number span_count size_of past first_word word_place after_word text_of size_of_word position_of_word
more_faults = refl

set_one : edit_of 1 (line (codes " set a order: 2;")) ≡
    Ok (edit.Set (named (codes "a") 6) ((prop.Order, record { value = value.Order (pos 2); units = [] }) ∷ []))
unfolding property_rows properties_2 properties_3 properties_4 properties_5 properties_6 properties_7 properties_8 properties_9 properties_10 past
    first_word word_place after_word text_of
set_one = refl

unset_one : edit_of 1 (line (codes "unset a order # so")) ≡ Ok (edit.Unset (named (codes "a") 7) (prop.Order ∷ []))
unfolding property_rows properties_2 properties_3 properties_4 properties_5 properties_6 properties_7 properties_8 properties_9 properties_10 past
    first_word word_place after_word text_of
unset_one = refl

unset_sides : edit_of 1 (line (codes "unset a margin")) ≡
    Ok (edit.Unset (named (codes "a") 7) (prop.MarginTop ∷ prop.MarginRight ∷ prop.MarginBottom ∷ prop.MarginLeft ∷ []))
unfolding property_rows properties_2 properties_3 properties_4 properties_5 properties_6 properties_7 properties_8 properties_9 properties_10 past
    first_word word_place after_word text_of
unset_sides = refl

unset_font : edit_of 2 (line (codes "unset a font-size")) ≡ Ok (edit.Unset (named (codes "a") 7) (prop.FontSize ∷ []))
unfolding property_rows properties_2 properties_3 properties_4 properties_5 properties_6 properties_7 properties_8 properties_9 properties_10 past
    first_word word_place after_word text_of
unset_font = refl

insert_one : edit_of 1 (line (codes "insert main +1 c leaf 10 10px"))
    ≡ Ok
    (edit.Insert (named (codes "main") 8) 1 (place 13) (named (codes "c") 16)
    (record { name = codes "c"; kind = kind.Leaf (content.Fixed (pos 640) (pos 640)); style = map.empty; children = leafless }))
unfolding past first_word word_place after_word text_of size_of_word
insert_one = refl

remove_one : edit_of 1 (line (codes "remove c")) ≡ Ok (edit.Remove (named (codes "c") 8))
unfolding past first_word word_place after_word text_of
remove_one = refl

move_one : edit_of 1 (line (codes "move b main 0")) ≡ Ok (edit.Move (named (codes "b") 6) (named (codes "main") 8) 0 (place 13))
unfolding past first_word word_place after_word text_of
move_one = refl

content_one : edit_of 2 (line (codes "content c words 1 2")) ≡ Ok (edit.Content (named (codes "c") 9) (kind.Leaf (content.Words (pos 64) (pos 128) [])))
unfolding past first_word word_place after_word text_of size_of_word
content_one = refl

viewport_one : edit_of 1 (line (codes "viewport 0.5 1048576")) ≡ Ok (edit.Viewport (pos 32) (pos 67108864))
unfolding past first_word word_place after_word text_of size_of_word
viewport_one = refl

-- a position may be below zero; what is finer than a unit is truncated toward zero
hit_one : edit_of 1 (line (codes "hit 0.5 -1048576px")) ≡ Ok (edit.Hit (pos 32) (negsuc 67108863))
unfolding past first_word word_place after_word text_of position_of_word
hit_one = refl

hit_between : edit_of 2 (line (codes " hit -0.02 +1.px # here")) ≡ Ok (edit.Hit (negsuc 0) (pos 64))
unfolding past first_word word_place after_word text_of position_of_word
hit_between = refl

-- how many edits are taken back stands at its own place
undo_one : edit_of 1 (line (codes " undo 1000000 # all")) ≡ Ok (edit.Undo 1000000 (place 7))
unfolding past first_word word_place after_word text_of
undo_one = refl

redo_one : edit_of 2 (line (codes "redo 1")) ≡ Ok (edit.Redo 1 (place 6))
unfolding past first_word word_place after_word text_of
redo_one = refl
