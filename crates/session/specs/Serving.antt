-- A run while it goes on: the text of the document, its first layout, and the lines of the script one after another.
use Rattle.std.specs.Prelude.{◌≡◌, ℕ, ◌≤◌, Bool, true, false, List, [], ◌∷◌, ◌++◌, length, Option, Result, Ok, Err, if◌then◌else◌}
use Rattle.text_scan.specs.declared.line.Line.{Line}
use Rattle.text_scan.specs.declared.line.Fault.{Fault}
use Rattle.text_scan.specs.declared.line.Place.{Place}
use Rattle.text_scan.specs.Stream.{Stream}
use Rattle.outside.specs.declared.event.Event.{Event}
use Rattle.doc_text.specs.declared.document.Doc.{Doc}
use Rattle.doc_text.specs.Documents.{document_of}
use Rattle.doc_text.specs.Histories.{begins}
use Rattle.session.specs.Written.{Writes, WritesFront}
use Rattle.session.specs.Standing.{Standing, course_of, doc_of}
use Rattle.session.specs.declared.text.Held.{Held}
use Rattle.session.specs.declared.text.Text.{Text}
use Rattle.session.specs.Input.{HasGiven, HasGivenLine, HasGivenAll, Stops}
use Rattle.session.specs.Courses.{Course, begun, last_course}
use Rattle.session.specs.Script.{is_end_of_document, has_end, before_end, after_end, document_of_lines, made_in, all_made, has_fault, or_refused, some_refused}
use Rattle.session.specs.Runs.{WritesAll, WritesFrom, Runs}
use Rattle.session.specs.declared.answer.Progress.{Progress}
use Rattle.session.specs.declared.said.Said.{Said}
use Rattle.session.specs.declared.status.Status.{Status}
use Rattle.session.specs.declared.status.Status.TheVariants.{Done, BadDocument, SomeRefused, WriteFault, NoMemory}

-- ---- the text of the document

-- a line ended the document, and the script follows
pub record HasEnded (before now : Option (List ℕ)) (stream : Stream) (ended : Bool) (lines : List Line) : Type 0 where
  pub last : Line
  pub end : is_end_of_document last ≡ true
  pub given : HasGivenLine before now lines last stream ended

-- the document ended at a line, or with the input
abbrev pub HasText : Option (List ℕ) → Option (List ℕ) → Stream → Bool → List Line → Bool → Type 0
HasText before now stream ended lines true = HasEnded before now stream ended lines
HasText before now stream ended lines false = HasGivenAll before now lines

-- the lines have a fault that is that of the text whatever lines follow them, wherever it ends
pub record BeginsNone (lines : List Line) : Type 0 where
  pub fault : Fault
  pub stays : (more : List Line) (end : Place) → document_of (lines ++ more) end ≡ Err fault

-- of these lines such are held that make the same document, whatever follows; or none will be one
pub record Holds (held : Held) (given : List Line) : Type 0 where
  pub same : (more : List Line) (end : Place) → document_of (held.lines ++ more) end ≡ document_of (given ++ more) end
  pub lost : held.lost ≡ true → BeginsNone held.lines

-- the text of the document was read: what is kept of its lines makes the same document
pub record HasReadText (before now : Option (List ℕ)) (stream : Stream) (ended : Bool) (text : Text) : Type 0 where
  pub given : List Line
  pub unended : has_end given ≡ false
  pub same : document_of text.lines text.end ≡ document_of_lines given
  pub input : HasText before now stream ended given text.has_script

-- reading stopped before the document ended
pub record StopsInText (before now : Option (List ℕ)) (status : Status) : Type 0 where
  pub given : List Line
  pub unended : has_end given ≡ false
  pub stops : Stops before now given status

abbrev pub ReadsText : Option (List ℕ) → Option (List ℕ) → Stream → Bool → Result Text Status → Type 0
ReadsText before now stream ended (Ok text) = HasReadText before now stream ended text
ReadsText before now stream ended (Err status) = StopsInText before now status

-- ---- one answer

module _ (stats : Bool) (held held' : Option (List ℕ)) (events events' : Option (List Event)) where
  -- the answer with the number k to what was made
  abbrev pub Answers : ℕ → Result Doc Said → Type 0
  Answers k made = Writes stats held held' events events' k (made ∷ [])

  -- a front of it
  abbrev pub AnswersPrefix : ℕ → Result Doc Said → Type 0
  AnswersPrefix k made = WritesFront stats held held' events events' k (made ∷ [])

  -- the document has a fault, or writing stopped
  abbrev pub EndsFirst : Result Doc Fault → Status → Type 0
  EndsFirst read BadDocument = (has_fault read ≡ true) × Answers 0 (or_refused read)
  EndsFirst read WriteFault = AnswersPrefix 0 (or_refused read)
  EndsFirst read NoMemory = AnswersPrefix 0 (or_refused read)
  EndsFirst read status = ⊥

  -- the document was laid out, or the run ended there
  abbrev pub Begins : Result Doc Fault → Result Standing Status → Type 0
  Begins read (Ok engine) = (read ≡ Ok (doc_of engine)) × Answers 0 (Ok (doc_of engine))
  Begins read (Err status) = EndsFirst read status

-- ---- between two lines of the script

-- the lines so far hold the whole document, and their edits led to this point, with so many answers, and a refusal or none
pub record IsLaid (given : List Line) (c : Course) (k : ℕ) (bad : Bool) : Type 0 where
  pub first : Doc
  pub ended : has_end given ≡ true
  pub read : document_of_lines (before_end given) ≡ Ok first
  pub now : c ≡ last_course (begun first) (after_end given)
  pub count : k ≡ length (all_made given)
  pub refused : bad ≡ some_refused (made_in (begins first) (after_end given))
  pub few : k ≤ length given

-- the lines so far led to this point, and all their answers were written and logged
pub record HasAnswered (stats : Bool) (held held' : Option (List ℕ))
    (events events' : Option (List Event)) (given : List Line) (c : Course) (k : ℕ) (bad : Bool) : Type
    0 where
  pub laid : IsLaid given c k bad
  pub output : WritesAll stats held held' events events' given

-- one line more was answered too, and the run stands here; or writing stopped in the answer to that line
abbrev pub AnswersNext : (stats : Bool) (held held' : Option (List ℕ)) (events events' : Option (List Event)) → List Line → Line → Progress →
    Result (Unit {0}) Status → Type 0
AnswersNext stats held held' events events' given line progress (Ok done) =
    HasAnswered stats held held' events events' (given ++ line ∷ []) (course_of progress.engine) progress.number progress.refused
AnswersNext stats held held' events events' given line progress (Err status) = WritesFrom stats held held' events events' given (given ++ line ∷ [])

-- these lines were given and answered, and nothing else was written or logged
pub record IsAt (stats : Bool) (before now held held' : Option (List ℕ)) (events events' : Option (List Event))
    (stream : Stream) (ended : Bool) (c : Course) (k : ℕ) (bad : Bool) : Type
    0 where
  pub given : List Line
  pub input : HasGiven before now given stream ended
  pub answered : HasAnswered stats held held' events events' given c k bad

-- a script follows the document, or the run ended before
abbrev pub Starts : (stats : Bool) (before now held held' : Option (List ℕ)) (events events' : Option (List Event)) → Stream → Bool →
    Result Progress Status → Type 0
Starts stats before now held held' events events' stream ended (Ok progress) =
    IsAt stats before now held held' events events' stream ended (course_of progress.engine) progress.number progress.refused
Starts stats before now held held' events events' stream ended (Err status) = Runs stats before now held held' events events' status

-- the answer once all lines were answered
abbrev pub ended : Bool → Status
ended refused = if refused then SomeRefused else Done
