-- The document text and the edit script of an input, and what each edit line makes.
use Rattle.std.specs.Prelude.{ℕ, ◌+◌, Bool, true, false, ◌&&◌, is_none, List, [], ◌∷◌, ◌++◌, length, if◌then◌else◌, Result, Ok, Err, codes}
use Rattle.std.specs.List.{list_any}
use Rattle.std.specs.Str.{bytes_eq}
use Rattle.text_scan.specs.declared.line.Line.{Line}
use Rattle.text_scan.specs.declared.line.Fault.{Fault}
use Rattle.text_scan.specs.declared.line.Place.{Place}
use Rattle.text_scan.specs.Tokens.{is_skipped}
use Rattle.doc_text.specs.declared.document.Doc.{Doc}
use Rattle.doc_text.specs.Documents.{document_of}
use Rattle.doc_text.specs.declared.edit.Edit.{Edit}
use Rattle.doc_text.specs.declared.edit.Edit.TheVariants as edit
use Rattle.doc_text.specs.Histories.{History, begins, edited_history}
use Rattle.doc_text.specs.EditText.{edit_of}
use Rattle.session.specs.Boxes.{boxes_of}
use Rattle.session.specs.Hits.{box_under}
use Rattle.session.specs.Printing.{hit_line, print, refusal}
use Rattle.session.specs.declared.said.Said.{Said}
use Rattle.session.specs.declared.said.Said.TheVariants as saying
use Rattle.session.specs.FaultNames.{fault_name}

-- ---- the parts of an input

-- the line that ends the text of a document: `---` and nothing else; edits follow it (own rule)
abbrev pub is_end_of_document : Line → Bool
is_end_of_document line = is_none line.fault && bytes_eq line.bytes (codes "---")

-- some line is `---` and nothing else: it ends the document, and the script follows (own rule)
abbrev pub has_end : List Line → Bool
has_end lines = list_any is_end_of_document lines

-- the lines of the document: those before the first such line, or all
abbrev pub before_end : List Line → List Line
before_end [] = []
before_end (line ∷ lines) = if is_end_of_document line then [] else line ∷ before_end lines

-- the lines of the script: those after it
abbrev pub after_end : List Line → List Line
after_end [] = []
after_end (line ∷ lines) = if is_end_of_document line then lines else after_end lines

-- the place where a text of these lines ends: that of the `---` after them, or column 1 of the line after the last one
abbrev pub end_of_lines : List Line → Place
end_of_lines lines = record { line = length lines + 1; column = 1 }

-- the document that the lines of a whole text are, or its fault
unfoldable pub document_of_lines : List Line → Result Doc Fault
document_of_lines lines = document_of lines (end_of_lines lines)

-- the lines hold no document
abbrev pub has_fault : Result Doc Fault → Bool
has_fault (Ok doc) = false
has_fault (Err fault) = true

-- ---- what each edit line makes

-- A line makes a history, whose document is laid out; or nothing is laid out, and this is said of it.

-- what is made, or why it is refused
abbrev pub or_refused : {A : Type 0} → Result A Fault → Result A Said
or_refused (Ok made) = Ok made
or_refused (Err fault) = Err (saying.Refused fault)

-- what an edit makes of a history: the next one, or why the edit is refused. Of a hit it is said which box of the document lies under the point
abbrev pub answer_to : Edit → History → Result History Said
answer_to (edit.Hit x y) h = Err (saying.Found (box_under (boxes_of h.doc) x y))
answer_to e h = or_refused (edited_history e h)

-- what the line of an edit makes of a history, or the fault of the line
unfoldable pub made_of : History → Line → Result History Said
made_of h line = elim (edit_of h.doc.version line) [ Err fault ↦ Err (saying.Refused fault) | Ok e ↦ answer_to e h ]

-- where nothing is laid out the history stays as it was
abbrev pub next_history : History → Result History Said → History
next_history h (Ok next) = next
next_history h (Err said) = h

-- the document that is laid out
abbrev pub doc_made : Result History Said → Result Doc Said
doc_made (Ok h) = Ok h.doc
doc_made (Err said) = Err said

-- what each edit line makes, in order, each of the history that those before it left; lines that are skipped are no edits
abbrev pub made_in : History → List Line → List (Result Doc Said)
made_in h [] = []
made_in h (line ∷ lines) = if is_skipped line then made_in h lines else doc_made (made_of h line) ∷ made_in (next_history h (made_of h line)) lines

-- what a document and its edit lines make, the document first; one that has a fault is all that is made
abbrev pub made_from : Result Doc Fault → List Line → List (Result Doc Said)
made_from (Err fault) script = Err (saying.Refused fault) ∷ []
made_from (Ok doc) script = Ok doc ∷ made_in (begins doc) script

abbrev pub all_made : List Line → List (Result Doc Said)
all_made lines = made_from (document_of_lines (before_end lines)) (after_end lines)

-- ---- what is written of it

-- the line of a refusal or of a hit, with the number k
abbrev pub said_line : ℕ → Said → List ℕ
said_line k (saying.Refused fault) = refusal k fault.place (fault_name fault.number)
said_line k (saying.Found name) = hit_line k name

-- the boxes of the document that was made, or what is said instead, with the number k
unfoldable pub text_of : ℕ → Result Doc Said → List ℕ
text_of k (Ok doc) = print k (boxes_of doc)
text_of k (Err said) = said_line k said

-- all of them, numbered from k on: the document has the number 0 and edit lines are counted from 1, refused ones and hits too
abbrev pub texts : ℕ → List (Result Doc Said) → List ℕ
texts k [] = []
texts k (made ∷ rest) = text_of k made ++ texts (k + 1) rest

abbrev pub is_refusal : Said → Bool
is_refusal (saying.Refused fault) = true
is_refusal (saying.Found name) = false

abbrev pub is_refused : Result Doc Said → Bool
is_refused (Ok doc) = false
is_refused (Err said) = is_refusal said

abbrev pub some_refused : List (Result Doc Said) → Bool
some_refused made = list_any is_refused made
