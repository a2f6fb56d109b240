-- Texts of documents, worked by hand: the fault and its place, or the document. They hold by computation.
use Rattle.std.specs.Prelude.{◌≡◌, refl, ℕ, pos, ◌+◌, ◌==◌, Bool, true, false, ◌&&◌, List, [], ◌∷◌, ◌++◌, length, Result, Ok, Err, codes}
use Rattle.std.specs.FinMap as map
use Rattle.text_scan.specs.declared.line.Fault.{Fault}
use Rattle.text_scan.specs.declared.line.Place.{Place}
use Rattle.text_scan.specs.Lines.{lines_of, split_lines}
use Rattle.part_rules.specs.declared.content.Content.TheVariants as content
use Rattle.value_text.specs.Properties.{properties as property_rows, properties_2, properties_3, properties_4, properties_5, properties_6, properties_7, properties_8, properties_9, properties_10}
use Rattle.value_text.specs.Lines.{name_of, line_number, span_count}
use Rattle.value_text.specs.Sizes.{size_of}
use Rattle.plain_tree.specs.Trees.{Trees, leafless, tree}
use Rattle.doc_text.specs.declared.document.Doc.{Doc}
use Rattle.doc_text.specs.declared.kind.Kind.{Kind}
use Rattle.doc_text.specs.declared.kind.Kind.TheVariants as kind
use Rattle.doc_text.specs.Label.{Label}
use Rattle.doc_text.specs.Texts.{past, first_word, word_place, after_word, text_of}
use Rattle.doc_text.specs.Tokens.{size_of_word}
use Rattle.doc_text.specs.Documents.{document_of}

-- the end of a text: column 1 of the line after the last
abbrev end_of : List ℕ → Place
end_of text = record { line = length (split_lines text) + 1; column = 1 }

abbrev read : List ℕ → Result Doc Fault
read text = document_of (lines_of text) (end_of text)

abbrev is_fault : ℕ → ℕ → ℕ → Result Doc Fault → Bool
is_fault number line column (Ok doc) = false
is_fault number line column (Err fault) = fault.number == number && (fault.place.line == line && fault.place.column == column)

-- what stands after the two header lines, and its fault
pub record Row : Type 0 where
  pub text : List ℕ
  pub number : ℕ
  pub line : ℕ
  pub column : ℕ

abbrev row : List ℕ → ℕ → ℕ → ℕ → Row
row text number line column = record { text = text; number = number; line = line; column = column }

-- the texts of the rows whose fault is another
abbrev others : List ℕ → List Row → List (List ℕ)
others head [] = []
others head (r ∷ rows) = if_other (is_fault r.number r.line r.column (read (head ++ r.text))) r.text (others head rows) where
  if_other : Bool → List ℕ → List (List ℕ) → List (List ℕ)
  if_other true text rest = rest
  if_other false text rest = text ∷ rest

abbrev head_1 : List ℕ
head_1 = codes "gridlay 1\nviewport 100 50\n"

abbrev head_2 : List ℕ
head_2 = codes "gridlay 2\nviewport 100 50\n"

headers : others []
    (row [] 3 1 1 ∷ row (codes "gridlay 3\n") 3 1 1 ∷ row (codes "gridlay 1") 3 2 1 ∷ row (codes "gridlay 1 2\n") 3 1 1 ∷ row (codes " # a\n  gridlay\n") 3 2 3
    ∷ row (codes "gridlay 1\nviewport 100\n") 3 2 1 ∷ row (codes "gridlay 1\nviewport 100 -1\n") 3 2 1 ∷ row (codes "gridlay 1\n viewport 100 1 1\n") 3 2 2
    ∷ row (codes "gridlay 2\nviewport 1048577 1\n") 3 2 1 ∷ row (codes "viewport 1 1\ngridlay 1\n") 3 1 1 ∷ [])
    ≡ []
unfolding property_rows properties_2 properties_3 properties_4 properties_5 properties_6 properties_7 properties_8 properties_9 properties_10
    name_of line_number span_count size_of past first_word word_place after_word text_of size_of_word
headers = refl

nodes : others head_1
    (row [] 16 3 1 ∷ row (codes "\n# a\n") 16 5 1 ∷ row (codes "  main grid") 4 3 3 ∷ row (codes " main grid") 4 3 2 ∷
    row (codes "main grid\n   a leaf 1 1") 4 4 4 ∷ row (codes "main grid\n    a leaf 1 1") 4 4 5
    ∷ row (codes "main grid\na grid") 15 4 1 ∷ row (codes "main leaf 1 1\n  a leaf 1 1") 14 4 3 ∷
    row (codes "main words 1 1\n  a leaf 1 1") 14 4 3 ∷ row (codes "main grid\n  a leaf 1 1\n    b grid") 14 5 5
    ∷ row (codes "main tree") 7 3 6 ∷ row (codes "main") 7 3 5 ∷ row (codes "main { }") 7 3 6 ∷ row (codes "main # grid") 7 3 5 ∷
    row (codes "9a grid") 5 3 1 ∷ row (codes "{ grid") 5 3 1 ∷ row (codes "main grid\n  main leaf 1 1") 6 4 3
    ∷ row (codes "main grid\n  a flex\n    b leaf 1 1\n  b leaf 1 1") 6 6 3 ∷ row (codes "main leaf 1") 9 3 12 ∷
    row (codes "main leaf 1 1048576.1") 9 3 13 ∷ row (codes "main leaf -1 1") 9 3 11 ∷ row (codes "main leaf 1 1em") 9 3 13
    ∷ row (codes "main leaf 1 { }") 9 3 13 ∷ row (codes "main words 1") 9 3 13 ∷ row (codes "main words 1 1 a") 9 3 16 ∷
    row (codes "main words 1 1 2 : 3") 9 3 18 ∷ row (codes "main leaf 1 1 1") 9 3 15 ∷ row (codes "main grid grid") 9 3 11 ∷ [])
    ≡ []
unfolding property_rows properties_2 properties_3 properties_4 properties_5 properties_6 properties_7 properties_8 properties_9 properties_10
    name_of line_number span_count size_of past first_word word_place after_word text_of size_of_word
nodes = refl

declarations : others head_1
    (row (codes "main grid { width: 1px; width: 2px }") 10 3 25 ∷ row (codes "main grid { width: calc(1px) }") 11 3 20 ∷
    row (codes "main grid { colour: 1 }") 8 3 13 ∷ row (codes "main grid { grid-template-areas: \"a b\" \"b a\" }") 9 3 34
    ∷ row (codes "main grid { grid-template-areas: \"a#b\" }") 9 3 34 ∷ row (codes "main grid { grid-template-columns: 100p") 9 3 36 ∷
    row (codes "main grid { float: left }") 11 3 13 ∷ row (codes "main grid { width: 2em }") 11 3 20
    ∷ row (codes "main grid { font-size: 1px }") 11 3 13 ∷ row (codes "main grid {") 9 3 12 ∷ row (codes "main grid { width: 1px") 9 3 23 ∷
    row (codes "main grid { width: 1px;  ") 9 3 24 ∷ row (codes "main grid { width }") 9 3 19
    ∷ row (codes "main grid { width: }") 9 3 20 ∷ row (codes "main grid { width:; }") 9 3 19 ∷ row (codes "main grid { width 1px }") 9 3 19 ∷
    row (codes "main grid { : 1px }") 8 3 13 ∷ row (codes "main grid { width: 1px } a") 9 3 26
    ∷ row (codes "main grid { } }") 9 3 15 ∷ row (codes "main grid { width: 1px; order: 1; width: 1px }") 10 3 35 ∷
    row (codes "main grid { width: 1px; order: x; width: 1px }") 9 3 32 ∷ row (codes "main grid { ;; width: 1px;; width: }") 10 3 29
    ∷ row (codes "main grid { width: 1px height: 1px }") 9 3 20 ∷ row (codes "main grid { margin: 1px; margin-top: 1px; margin: 2px }") 10 3 43 ∷ [])
    ≡ []
unfolding property_rows properties_2 properties_3 properties_4 properties_5 properties_6 properties_7 properties_8 properties_9 properties_10
    name_of line_number span_count size_of past first_word word_place after_word text_of size_of_word
declarations = refl

-- a fault in every part of a line: the leftmost part is told, also where the line stands before
several : others head_1
    (row (codes " 9 tree { colour: 1; width } }") 4 3 2 ∷ row (codes "9 tree { colour: 1; width } }") 5 3 1 ∷
    row (codes "m tree { colour: 1; width } }") 7 3 3 ∷ row (codes "m grid { colour: 1; width } }") 8 3 10
    ∷ row (codes "m grid { width: 1; width } }") 9 3 17 ∷ row (codes "m grid { width: 1px; width } }") 10 3 22 ∷
    row (codes "m grid { width: 1px } }") 9 3 23 ∷ row (codes "m grid\n   9\n tree") 4 4 4
    ∷ row (codes "m leaf 1 1\n  m tree") 6 4 3 ∷ row (codes "m leaf 1 1\n  a tree") 14 4 3 ∷ row (codes "m leaf 1 1\nm tree") 6 4 1 ∷
    row (codes "m leaf 1 1\na tree") 15 4 1 ∷ row (codes "m grid {\t}\n9") 1 3 9 ∷ [])
    ≡ []
unfolding property_rows properties_2 properties_3 properties_4 properties_5 properties_6 properties_7 properties_8 properties_9 properties_10
    name_of line_number span_count size_of past first_word word_place after_word text_of size_of_word
several = refl

version_2 : others head_2
    (row (codes "main leaf 1em 1") 9 3 11 ∷ row (codes "main grid { font-size: -1px }") 9 3 24 ∷ row (codes "main grid { width: 1ex }") 11 3 20 ∷
    row (codes "main grid { width: 1em; font-size: 2rem; width: 1px }") 10 3 42 ∷ [])
    ≡ []
unfolding property_rows properties_2 properties_3 properties_4 properties_5 properties_6 properties_7 properties_8 properties_9 properties_10
    name_of line_number span_count size_of past first_word word_place after_word text_of size_of_word
version_2 = refl

-- ---- documents

abbrev bare : List ℕ → Kind → Label
bare name kind = record { name = name; kind = kind; style = map.empty }

abbrev document : ℕ → Label → Trees Label → Result Doc Fault
document version label below =
    Ok
    (record {
      version = version;
      width = pos 6400;
      height = pos 3200;
      root = record
          { name = label.name; kind = label.kind; style = label.style; children = below };
    })

a_tree : read (head_1 ++ codes "main grid { }\n  a flex {;}\n\n    b leaf 1 .5px # half\n    c words 2px 1 3 4{ }\n  d words 0 0\n")
    ≡ document 1 (bare (codes "main") kind.Grid)
    (tree (bare (codes "a") kind.Flex)
    (tree (bare (codes "b") (kind.Leaf (content.Fixed (pos 64) (pos 32)))) leafless
    (tree (bare (codes "c") (kind.Leaf (content.Words (pos 128) (pos 64) (pos 192 ∷ pos 256 ∷ [])))) leafless leafless))
    (tree (bare (codes "d") (kind.Leaf (content.Words (pos 0) (pos 0) []))) leafless leafless))
unfolding past first_word word_place after_word text_of size_of_word
a_tree = refl

second_version : read (head_2 ++ codes "span grid\n") ≡ document 2 (bare (codes "span") kind.Grid) leafless
unfolding past first_word word_place after_word text_of size_of_word
second_version = refl
