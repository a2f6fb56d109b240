-- Which names each edit line of a script touches, by the number of the line.
use Rattle.std.specs.Prelude.{◌≡◌, ℕ, ◌+◌, ◌==◌, Bool, true, false, List, [], ◌∷◌, Result, Ok, Err, if◌then◌else◌, ⊤}
use Rattle.text_scan.specs.declared.line.Line.{Line}
use Rattle.text_scan.specs.declared.line.Fault.{Fault}
use Rattle.text_scan.specs.Tokens.{is_skipped}
use Rattle.doc_text.specs.declared.document.Doc.{Doc}
use Rattle.session.specs.Courses.{Course, begun, next_course, touched_by}
use Rattle.session.specs.Script.{before_end, after_end, document_of_lines}
use Rattle.sparing.specs.Sparing.{Touches}

-- of edit lines that are numbered from this number on, the first of them at this point of the course
abbrev pub touched_in : ℕ → Course → List Line → Touches
touched_in k c [] n name = false
touched_in k c (line ∷ lines) n name =
    if is_skipped line then touched_in k c lines n name
    else if n == k then touched_by c line name
    else touched_in (k + 1) (next_course c line) lines n name

abbrev pub touched_from : Result Doc Fault → List Line → Touches
touched_from (Err fault) script n name = false
touched_from (Ok doc) script n name = touched_in 1 (begun doc) script n name

-- in the lines of an input
unfoldable pub touched_lines : List Line → Touches
touched_lines lines n name = touched_from (document_of_lines (before_end lines)) (after_end lines) n name

-- ---- where only the first lines are known

-- the edit of a line with this number touches the same
abbrev pub Agrees : Touches → ℕ → Course → Line → Type 0
Agrees touches k c line = (name : List ℕ) → touches k name ≡ touched_by c line name

-- a line that is skipped, or one that is not
abbrev pub Either : Bool → Type 0 → Type 0 → Type 0
Either true A B = A
Either false A B = B

-- each edit line touches what its number says, numbered from this number on
abbrev pub Follows : Touches → ℕ → Course → List Line → Type 0
Follows touches k c [] = ⊤
Follows touches k c (line ∷ lines) =
    Either (is_skipped line) (Follows touches k c lines) (Agrees touches k c line × Follows touches (k + 1) (next_course c line) lines)

-- each edit line of an input touches what its number says
abbrev pub FollowsLines : Touches → List Line → Type 0
FollowsLines touches given = (first : Doc) → document_of_lines (before_end given) ≡ Ok first → Follows touches 1 (begun first) (after_end given)
