-- Inputs with a script, and what their lines make. They hold by computation.
use Rattle.std.specs.Prelude.{◌≡◌, refl, ℕ, pos, negsuc, false, List, [], ◌∷◌, ◌++◌, Result, Ok, Err, codes}
use Rattle.std.specs.FinMap as map
use Rattle.text_scan.specs.Lines.{lines_of}
use Rattle.part_rules.specs.declared.content.Content.TheVariants as content
use Rattle.style_types.specs.declared.prop.Prop.TheVariants as prop
use Rattle.style_types.specs.declared.value.Value.TheVariants as value
use Rattle.value_text.specs.Properties.{properties as property_rows, properties_2, properties_3, properties_4, properties_5, properties_6, properties_7, properties_8, properties_9, properties_10}
use Rattle.plain_tree.specs.Trees.{Trees, leafless, tree}
use Rattle.doc_text.specs.declared.document.Doc.{Doc}
use Rattle.doc_text.specs.declared.kind.Kind.TheVariants as kind
use Rattle.doc_text.specs.Label.{Label}
use Rattle.doc_text.specs.Texts.{past, first_word, word_place, after_word, text_of}
use Rattle.doc_text.specs.Tokens.{position_of_word, size_of_word}
use Rattle.session.specs.Boxes.{boxes_of}
use Rattle.session.specs.Hits.{box_under}
use Rattle.session.specs.Script.{has_end, document_of_lines, made_of, all_made}
use Rattle.session.specs.declared.said.Said.{Said}
use Rattle.session.specs.declared.said.Said.TheVariants as saying
use Rattle.session.specs.Outcome.{verdict}
use Rattle.session.specs.declared.status.Status.TheVariants.{Done, BadDocument, SomeRefused}

-- a document of five lines with the line that ends it
abbrev one_leaf : List ℕ
one_leaf = codes "gridlay 1\nviewport 300 200\nmain grid\n  a leaf 10 20\n---\n"

abbrev leaf : List ℕ → ℕ → ℕ → Label
leaf name width height = record { name = name; kind = kind.Leaf (content.Fixed (pos width) (pos height)); style = map.empty }

abbrev with_leaves : Trees Label → Doc
with_leaves leaves = record {
  version = 1;
  width = pos 19200;
  height = pos 12800;
  root = record
      { name = codes "main"; kind = kind.Grid; style = map.empty; children = leaves };
}

abbrev alone : ℕ → ℕ → Doc
alone width height = with_leaves (tree (leaf (codes "a") width height) leafless leafless)

abbrev fault_at : ℕ → ℕ → ℕ → Result Doc Said
fault_at number line column = Err (saying.Refused (record { number = number; place = record { line = line; column = column } }))

abbrev makes : List ℕ → List (Result Doc Said)
makes script = all_made (lines_of (one_leaf ++ script))

no_edits : makes [] ≡ Ok (alone 640 1280) ∷ []
unfolding document_of_lines made_of past first_word word_place after_word text_of size_of_word
no_edits = refl

three_edits : makes (codes "content a leaf 20 10\ninsert main 1 b leaf 1 2\nremove c\n")
    ≡ Ok (alone 640 1280) ∷ Ok (alone 1280 640) ∷
    Ok (with_leaves (tree (leaf (codes "a") 1280 640) leafless (tree (leaf (codes "b") 64 128) leafless leafless))) ∷ fault_at 21 8 8 ∷ []
unfolding document_of_lines made_of past first_word word_place after_word text_of size_of_word
three_edits = refl

-- lines that are skipped have no number, but they count as lines of the text; the last line needs no line feed
between_comments : makes (codes "# one\n\ncontent a leaf 20 10\n   \n# two\n  remove  z")
    ≡ Ok (alone 640 1280) ∷ Ok (alone 1280 640) ∷ fault_at 21 11 11 ∷ []
unfolding document_of_lines made_of past first_word word_place after_word text_of size_of_word
between_comments = refl

-- a refused edit leaves the document as it was for those after it; a second line `---` is an edit line that is none
after_a_refusal : makes (codes "remove main\n---\nmove a a 0\ncontent a leaf 20 10\n")
    ≡ Ok (alone 640 1280) ∷ fault_at 22 6 8 ∷ fault_at 20 7 1 ∷ fault_at 23 8 8 ∷ Ok (alone 1280 640) ∷ []
unfolding document_of_lines made_of past first_word word_place after_word text_of size_of_word
after_a_refusal = refl

-- a flex container with two leaves, as the text below tells it
abbrev in_flex : Trees Label → Doc
in_flex leaves = record {
  version = 1;
  width = pos 6400;
  height = pos 3200;
  root = record
      { name = codes "main"; kind = kind.Flex; style = map.empty; children = leaves };
}

abbrev two : Doc
two = in_flex (tree (leaf (codes "a") 1280 640) leafless (tree (leaf (codes "b") 1920 640) leafless leafless))

abbrev one : Doc
one = in_flex (tree (leaf (codes "b") 1920 640) leafless leafless)

abbrev grown : Doc
grown =
    in_flex
    (tree (record (leaf (codes "b") 1920 640) { style = map.insert map.empty prop.FlexGrow (record { value = value.Factor 1000; units = [] }) })
    leafless leafless)

-- edits are taken back and made again, the last one first; too many are refused at their number
taken_back_and_made_again : all_made
    (lines_of (codes
    "gridlay 1\nviewport 100 50\nmain flex\n  a leaf 20 10\n  b leaf 30 10\n---\nremove a\nset b flex-grow: 1\nundo 2\nredo 1\nundo 3\nredo 2\n"))
    ≡ Ok two ∷ Ok one ∷ Ok grown ∷ Ok two ∷ Ok one ∷ fault_at 25 11 6 ∷ fault_at 26 12 6 ∷ []
unfolding property_rows properties_2 properties_3 properties_4 properties_5 properties_6 properties_7 properties_8 properties_9 properties_10
    document_of_lines made_of past first_word word_place after_word text_of size_of_word
taken_back_and_made_again = refl

-- an edit after an undo ends what could be made again; one that is refused does not
after_an_edit : makes (codes "content a leaf 20 10\nundo 1\nremove c\nredo 1\nundo 1\nviewport 300 200\nredo 1\nundo 0\n")
    ≡ Ok (alone 640 1280) ∷ Ok (alone 1280 640) ∷ Ok (alone 640 1280) ∷ fault_at 21 8 8 ∷ Ok (alone 1280 640) ∷ Ok (alone 640 1280) ∷
    Ok (alone 640 1280) ∷ fault_at 26 12 6 ∷ fault_at 9 13 6 ∷ []
unfolding document_of_lines made_of past first_word word_place after_word text_of size_of_word
after_an_edit = refl

-- a hit is answered by the document as it is, and no edit: it is not taken back
after_a_hit : makes (codes "content a leaf 20 10\nhit 115 -5px\nundo 1\nhit 1\n")
    ≡ Ok (alone 640 1280) ∷ Ok (alone 1280 640) ∷ Err (saying.Found (box_under (boxes_of (alone 1280 640)) (pos 7360) (negsuc 319))) ∷
    Ok (alone 640 1280) ∷ fault_at 9 9 6 ∷ []
unfolding document_of_lines made_of past first_word word_place after_word text_of size_of_word position_of_word
after_a_hit = refl

-- where the document has a fault no edit is answered; its text ends at the `---`
no_document : all_made (lines_of (codes "gridlay 1\n---\nremove a\n")) ≡ fault_at 3 2 1 ∷ []
unfolding document_of_lines made_of past first_word word_place after_word text_of size_of_word
no_document = refl

-- where the document has no root its fault stands behind its last line
no_root : all_made (lines_of (codes "gridlay 1\nviewport 1 1\n# none\n")) ≡ fault_at 16 4 1 ∷ []
unfolding document_of_lines made_of past first_word word_place after_word text_of size_of_word
no_root = refl

-- the line that ends a document is `---` and nothing else
not_an_end : has_end (lines_of (codes "gridlay 1\n --- \n--\n----\n# ---\n")) ≡ false
not_an_end = refl

done : verdict (one_leaf ++ codes "viewport 1 1\n") ≡ Done
unfolding document_of_lines made_of past first_word word_place after_word text_of size_of_word
done = refl

some_refused_first : verdict (one_leaf ++ codes "remove z\nviewport 1 1\n") ≡ SomeRefused
unfolding document_of_lines made_of past first_word word_place after_word text_of size_of_word
some_refused_first = refl

bad_document : verdict (codes "gridlay 1\n---\nremove a\n") ≡ BadDocument
unfolding document_of_lines made_of past first_word word_place after_word text_of size_of_word
bad_document = refl
