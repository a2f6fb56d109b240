-- What a run under `write` writes and answers: it takes the edits of the script, and writes the last document in its canonical
-- form.
use Rattle.std.specs.Prelude.{◌≡◌, ℕ, ◌+◌, ◌≤◌, ◌<◌, Bool, true, false, List, [], ◌∷◌, length, if◌then◌else◌, ◌⊎◌, Option, Result, Ok, Err, IfSome, ⊤}
use Rattle.outside.specs.Faults.{Rose}
use Rattle.outside.specs.Told.{Stays, Adds, AddsPrefix, Loses}
use Rattle.text_scan.specs.declared.line.Fault.{Fault}
use Rattle.text_scan.specs.declared.line.Line.{Line}
use Rattle.text_scan.specs.Lines.{lines_of, whole_lines}
use Rattle.text_scan.specs.Tokens.{is_skipped}
use Rattle.text_scan.specs.Stream.{Stream}
use Rattle.track_text.specs.Words.{Word}
use Rattle.track_text.specs.declared.errors.ReadError.{ReadError}
use Rattle.track_text.specs.declared.errors.ReadError.TheVariants as reading
use Rattle.doc_text.specs.declared.document.Doc.{Doc}
use Rattle.doc_text.specs.Histories.{History, begins}
use Rattle.doc_writer.specs.declared.errors.WriteError.{WriteError}
use Rattle.doc_writer.specs.declared.errors.WriteError.TheVariants as writing
use Rattle.doc_writer.specs.Documents.{canonical}
use Rattle.session.specs.FaultNames.{fault_name}
use Rattle.session.specs.Input.{limit, AreFirst, HasGiven, HasGivenAll, Stops}
use Rattle.session.specs.Outcome.{early_lines}
use Rattle.session.specs.Printing.{refusal}
use Rattle.session.specs.Runs.{IsWhole, IsEnded, PermitsOver, IsOverComplete}
use Rattle.session.specs.Script.{has_end, before_end, after_end, document_of_lines, doc_made, has_fault, is_refused, made_in, made_of, next_history, some_refused}
use Rattle.session.specs.Serving.{ended}
use Rattle.session.specs.Courses.{no_steps}
use Rattle.session.specs.Standing.{Standing, doc_of, history_of}
use Rattle.session.specs.declared.said.Said.{Said}
use Rattle.session.specs.declared.status.Status.{Status}
use Rattle.session.specs.declared.status.Status.TheVariants.{Done, BadDocument, SomeRefused, ReadFault, WriteFault, NoMemory, InputLimit, TooLong}

-- ---- what is due

-- the history after the edits of these lines
abbrev pub last_history : History → List Line → History
last_history h [] = h
last_history h (line ∷ lines) = if is_skipped line then last_history h lines else last_history (next_history h (made_of h line)) lines

-- the canonical text of the last document, or the name of its first node whose line is too long; of lines that are no document
-- the line of its refusal
abbrev pub due_from : Result Doc Fault → List Line → Result (List ℕ) Word
due_from (Err fault) script = Ok (refusal 0 fault.place (fault_name fault.number))
due_from (Ok doc) script = canonical (last_history (begins doc) script).doc

-- the bytes that are written: none where a line is too long
abbrev pub text_due : Result (List ℕ) Word → List ℕ
text_due (Ok text) = text
text_due (Err name) = []

-- the document that was read
abbrev pub read_of : List Line → Result Doc Fault
read_of lines = document_of_lines (before_end lines)

abbrev pub written_of : List Line → List ℕ
written_of lines = text_due (due_from (read_of lines) (after_end lines))

-- the answer where a text is due, by whether a line was refused
abbrev pub status_due : Bool → Result (List ℕ) Word → Status
status_due refused (Ok text) = ended refused
status_due refused (Err name) = TooLong

abbrev pub write_answer : Result Doc Fault → List Line → Status
write_answer (Err fault) script = BadDocument
write_answer (Ok doc) script = status_due (some_refused (made_in (begins doc) script)) (canonical (last_history (begins doc) script).doc)

abbrev pub write_verdict_of : List Line → Status
write_verdict_of lines = write_answer (read_of lines) (after_end lines)

-- the answer for the input, where it was read to its end and written
abbrev pub write_verdict : List ℕ → Status
write_verdict bytes = write_verdict_of (lines_of bytes)

-- ---- how a run ends

module _ (left left' held held' : Option (List ℕ)) where
  -- all of the input was read, and what is due for it was written
  pub record WritesLast (taken : List ℕ) (given : List Line) (status : Status) : Type 0 where
    pub input : IsWhole left left' taken given
    pub answer : write_verdict_of given ≡ status
    pub output : Adds held held' (written_of given)

  -- the document has a fault, and the line of its refusal was written
  pub record WritesBad (taken : List ℕ) (given : List Line) : Type 0 where
    pub input : IsEnded left left' taken given
    pub answer : has_fault (read_of given) ≡ true
    pub output : Adds held held' (written_of given)

  -- writing stopped in one of these
  pub record WritesSome (taken : List ℕ) (given : List Line) : Type 0 where
    pub input : IsWhole left left' taken given ⊎ (IsEnded left left' taken given × (has_fault (read_of given) ≡ true))
    pub output : AddsPrefix held held' (written_of given)

  -- nothing was written, and the document among the lines, where it has ended, has no fault
  pub record WritesNothing (given : List Line) : Type 0 where
    pub written : Stays held held'
    pub well : (has_end given ≡ false) ⊎ (has_fault (read_of given) ≡ false)

  -- what is known of the bytes that were taken and of the lines of them that were given, by the status
  abbrev pub JudgedWrite : List ℕ → List Line → Status → Type 0
  JudgedWrite taken given Done = WritesLast taken given Done
  JudgedWrite taken given SomeRefused = WritesLast taken given SomeRefused
  JudgedWrite taken given TooLong = WritesLast taken given TooLong
  JudgedWrite taken given BadDocument = WritesBad taken given
  JudgedWrite taken given WriteFault = WritesSome taken given
  JudgedWrite taken given NoMemory = Stays held held' ⊎ WritesSome taken given
  JudgedWrite taken given ReadFault = (length taken ≤ limit) × (given ≡ lines_of (whole_lines taken)) × WritesNothing given
  JudgedWrite taken given InputLimit = (length taken ≡ limit + 1) × (given ≡ early_lines taken) × WritesNothing given
  JudgedWrite taken given status = ⊥

  -- a run took some bytes, was given some of their lines, which are the first of the input's, and this is known of them
  pub record RunsWrite (status : Status) : Type 0 where
    pub taken : List ℕ
    pub given : List Line
    pub took : Loses left left' taken
    pub first : AreFirst left given
    pub judged : JudgedWrite taken given status

-- the answers to all bytes of an input that is not too long: its verdict with what is due written, want of memory, or a fault
abbrev pub PermitsWrite : Type 0 → List ℕ → Status → Type 0
PermitsWrite wrote bytes ReadFault = ⊤
PermitsWrite wrote bytes WriteFault = ⊤
PermitsWrite wrote bytes NoMemory = ⊤
PermitsWrite wrote bytes status = (status ≡ write_verdict bytes) × wrote

-- where no count rose and the input is not too long: its verdict with what is due written, or want of memory
abbrev pub IsWriteComplete : (left : Option (List ℕ)) (wrote : List ℕ → Type 0) (reads reads' writes writes' : ℕ) → Status → Type 0
IsWriteComplete left wrote reads reads' writes writes' status =
    IfSome left (λ b. length b ≤ limit → ¬ Rose reads reads' → ¬ Rose writes writes' → (status ≡ NoMemory) ⊎ ((status ≡ write_verdict b) × wrote b))

-- what is known of a run under `write` over all bytes of its input
pub record HasWritten (left left' held held' : Option (List ℕ)) (reads reads' writes writes' : ℕ) (status : Status) : Type 0 where
  -- what was taken and written, by the answer
  pub runs : RunsWrite left left' held held' status
  -- at every exit what was written is a prefix of what is due
  pub prefix : IfSome left (λ b. AddsPrefix held held' (written_of (lines_of b)))
  -- the answers to an input that is not too long, and to one that is
  pub permits : IfSome left (λ b. length b ≤ limit → PermitsWrite (Adds held held' (written_of (lines_of b))) b status)
  pub over : IfSome left (λ b. limit < length b → PermitsOver (Adds held held' (written_of (lines_of b))) b status)
  -- where no count rose: the verdict with what is due written, or want of memory
  pub complete : IsWriteComplete left (λ b. Adds held held' (written_of (lines_of b))) reads reads' writes writes' status
  pub over_complete : IsOverComplete left reads reads' writes writes' status

-- ---- the script, line by line

-- this was made of a history, which led to the next one, and it is a refusal or none
pub record LeadsTo (made : Result History Said) (h now : History) (bad : Bool) : Type 0 where
  pub next : now ≡ next_history h made
  pub refused : bad ≡ is_refused (doc_made made)

-- the lines so far hold the whole document, and their edits led to this history, with a refusal or none
pub record HasLed (given : List Line) (h : History) (bad : Bool) : Type 0 where
  pub first : Doc
  pub read : read_of given ≡ Ok first
  pub now : h ≡ last_history (begins first) (after_end given)
  pub refused : bad ≡ some_refused (made_in (begins first) (after_end given))

-- these lines were given and taken
pub record IsLedTo (before now : Option (List ℕ)) (stream : Stream) (over : Bool) (h : History) (bad : Bool) : Type 0 where
  pub given : List Line
  pub input : HasGiven before now given stream over
  pub ended : has_end given ≡ true
  pub led : HasLed given h bad

-- all lines of the input were
pub record IsLed (before now : Option (List ℕ)) (h : History) (bad : Bool) : Type 0 where
  pub given : List Line
  pub input : HasGivenAll before now given
  pub led : HasLed given h bad

-- reading stopped in the script
pub record StopsInScript (before now : Option (List ℕ)) (status : Status) : Type 0 where
  pub given : List Line
  pub stops : Stops before now given status
  pub well : has_fault (read_of given) ≡ false

-- the document was read, and nothing was done yet; or it has a fault
abbrev pub Opens : Result Standing ReadError → Result Doc Fault → Type 0
Opens (Ok engine) read = (read ≡ Ok (doc_of engine)) × (engine.steps ≡ no_steps)
Opens (Err (reading.Fault fault)) read = read ≡ Err fault
Opens (Err reading.NoMemory) read = ⊤

-- a script follows, and nothing was written; or the run ended before
abbrev pub StartsWrite : (left left' held held' : Option (List ℕ)) → Stream → Bool → Result Standing Status → Type 0
StartsWrite left left' held held' stream over (Ok engine) = IsLedTo left left' stream over (history_of engine) false × (held' ≡ held)
StartsWrite left left' held held' stream over (Err status) = RunsWrite left left' held held' status

-- ---- the last document

-- how a run ends whose last document is not written
abbrev pub IsUnwritten : WriteError → Status → Type 0
IsUnwritten (writing.TooLong name) status = status ≡ TooLong
IsUnwritten writing.NoMemory status = status ≡ NoMemory

-- it was written, or its first line that is too long was found, or writing stopped
abbrev pub EndsWith : Option (List ℕ) → Option (List ℕ) → Bool → Result (List ℕ) Word → Status → Type 0
EndsWith held held' refused due WriteFault = AddsPrefix held held' (text_due due)
EndsWith held held' refused due NoMemory = AddsPrefix held held' (text_due due)
EndsWith held held' refused due status = (status_due refused due ≡ status) × Adds held held' (text_due due)
