-- What a run writes and answers for the bytes of its input.
use Rattle.std.specs.Prelude.{◌≡◌, ℕ, List, true, take, if◌then◌else◌, Result, Ok, Err}
use Rattle.text_scan.specs.Lines.{lines_of, whole_lines}
use Rattle.text_scan.specs.declared.line.Line.{Line}
use Rattle.text_scan.specs.declared.line.Fault.{Fault}
use Rattle.doc_text.specs.declared.document.Doc.{Doc}
use Rattle.doc_text.specs.Histories.{begins}
use Rattle.session.specs.Input.{limit}
use Rattle.session.specs.Script.{has_end, before_end, after_end, document_of_lines, made_in, all_made, texts, has_fault, some_refused}
use Rattle.session.specs.declared.status.Status.{Status}
use Rattle.session.specs.declared.status.Status.TheVariants.{Done, BadDocument, SomeRefused}

-- what is written of lines: the boxes of the document and then, for each edit line, the boxes after it or the line of its
-- refusal, and for a hit its line; of lines that are no document the line of its refusal and nothing else
abbrev pub output_of : List Line → List ℕ
output_of lines = texts 0 (all_made lines)

-- the answer for a document and its script
abbrev pub answer_of : Result Doc Fault → List Line → Status
answer_of (Err fault) script = BadDocument
answer_of (Ok doc) script = if some_refused (made_in (begins doc) script) then SomeRefused else Done

abbrev pub verdict_of : List Line → Status
verdict_of lines = answer_of (document_of_lines (before_end lines)) (after_end lines)

-- the document in the bytes, or its fault
abbrev pub document_in : List ℕ → Result Doc Fault
document_in bytes = document_of_lines (before_end (lines_of bytes))

-- all that is written for the input
abbrev pub out : List ℕ → List ℕ
out bytes = output_of (lines_of bytes)

-- the answer for the input, where it was read to its end and written
abbrev pub verdict : List ℕ → Status
verdict bytes = verdict_of (lines_of bytes)

-- the lines that are whole in the first 2^26 bytes
abbrev pub early_lines : List ℕ → List Line
early_lines bytes = lines_of (whole_lines (take limit bytes))

-- one of these ends the document, and the document before it has a fault
abbrev pub IsEarlyFault : List Line → Type 0
IsEarlyFault lines = (has_end lines ≡ true) × (has_fault (document_of_lines (before_end lines)) ≡ true)
