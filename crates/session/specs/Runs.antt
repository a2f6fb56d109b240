-- How a run ends, and what it took, wrote and logged until then.
use Rattle.std.specs.Prelude.{◌≡◌, ◌≢◌, ℕ, ◌+◌, ◌≤◌, ◌<◌, Bool, true, false, if◌then◌else◌, List, [], ◌∷◌, length, ◌++◌, ◌⊎◌, Option, Result, Ok, IfSome, ⊤}
use Rattle.outside.specs.Faults.{Rose}
use Rattle.outside.specs.Told.{Stays, Adds, AddsPrefix, Loses}
use Rattle.outside.specs.declared.event.Event.{Event}
use Rattle.text_scan.specs.declared.line.Line.{Line}
use Rattle.text_scan.specs.Lines.{lines_of, whole_lines}
use Rattle.doc_text.specs.declared.document.Doc.{Doc}
use Rattle.doc_text.specs.Histories.{begins}
use Rattle.session.specs.Boxes.{boxes_of}
use Rattle.session.specs.Written.{Writes, WritesFront, WritesBehind}
use Rattle.session.specs.Input.{limit, IsReadToEnd, IsFront, AreFirst, HasLastPiece}
use Rattle.session.specs.Printing.{print}
use Rattle.session.specs.Script.{has_end, before_end, after_end, document_of_lines, texts, made_in, all_made, has_fault}
use Rattle.session.specs.Outcome.{document_in, out, verdict_of, verdict, early_lines, IsEarlyFault}
use Rattle.session.specs.declared.said.Said.{Said}
use Rattle.session.specs.declared.status.Status.{Status}
use Rattle.session.specs.declared.status.Status.TheVariants.{Done, BadDocument, SomeRefused, ReadFault, WriteFault, NoMemory, InputLimit}

-- why writing stopped before the end
abbrev pub StopsWriting : Status → Type 0
StopsWriting WriteFault = ⊤
StopsWriting NoMemory = ⊤
StopsWriting status = ⊥

-- what is due for lines while more may come: nothing until one of them ends the document
abbrev pub due_made : List Line → List (Result Doc Said)
due_made lines = if has_end lines then all_made lines else []

-- nothing was written or told
pub record IsSilent (held held' : Option (List ℕ)) (events events' : Option (List Event)) : Type 0 where
  pub written : Stays held held'
  pub log : Stays events events'

module _ (stats : Bool) (held held' : Option (List ℕ)) (events events' : Option (List Event)) where
  -- all that is due for the lines was written, and the ruler was told of all of it
  abbrev pub WritesAll : List Line → Type 0
  WritesAll given = Writes stats held held' events events' 0 (all_made given)

  -- a front of it was
  abbrev pub WritesPrefix : List Line → Type 0
  WritesPrefix given = WritesFront stats held held' events events' 0 (all_made given)

  -- all that was due for the earlier lines was, and a front of what is due for the lines behind that
  abbrev pub WritesFrom : List Line → List Line → Type 0
  WritesFrom earlier given = WritesBehind stats held held' events events' (due_made earlier) (all_made given)

  -- what is due for the lines so far: all of it where one of them ends the document, which then has no fault, else nothing
  abbrev pub Stands : List Line → Type 0
  Stands given =
      ((has_end given ≡ false) × IsSilent held held' events events') ⊎
      ((has_end given ≡ true) × (has_fault (document_of_lines (before_end given)) ≡ false) × WritesAll given)

-- no line that is whole in the bytes before the last piece ends the document: a piece has at most 65,536 bytes
pub record HasEndInLast (taken : List ℕ) : Type 0 where
  pub front : List ℕ
  pub piece : List ℕ
  pub split : taken ≡ front ++ piece
  pub short : length piece ≤ 65536
  pub unended : has_end (lines_of (whole_lines front)) ≡ false

module _ (left left' : Option (List ℕ)) where
  -- all of an input that is not too long was taken, and the lines are all of its lines
  pub record IsWhole (taken : List ℕ) (given : List Line) : Type 0 where
    pub few : length taken ≤ limit
    pub whole : IsReadToEnd left left' taken
    pub lines : given ≡ lines_of taken

  -- the text of the document has ended: at a line of its own, which is whole in the first bytes of a longer input and after
  -- which no further piece was taken, or at the end of the input
  abbrev pub IsEnded : List ℕ → List Line → Type 0
  IsEnded taken given =
      ((has_end given ≡ true) × IfSome left (λ b. limit < length b → IsFront given (early_lines b)) × HasEndInLast taken) ⊎ IsWhole taken given

module _ (stats : Bool) (left left' held held' : Option (List ℕ)) (events events' : Option (List Event)) where
  pub record EndsAll (taken : List ℕ) (given : List Line) (status : Status) : Type 0 where
    pub input : IsWhole left left' taken given
    pub answer : verdict_of given ≡ status
    pub output : WritesAll stats held held' events events' given

  pub record EndsBad (taken : List ℕ) (given : List Line) : Type 0 where
    pub input : IsEnded left left' taken given
    pub answer : has_fault (document_of_lines (before_end given)) ≡ true
    pub output : WritesAll stats held held' events events' given

  pub record EndsEarly (taken : List ℕ) (given : List Line) : Type 0 where
    pub input : (has_end given ≡ true) ⊎ IsWhole left left' taken given
    pub output : WritesPrefix stats held held' events events' given

  -- writing stopped in the answer that the last of the lines completed. No piece was taken after the one that completed this
  -- line, and the answers to the lines before it were written
  pub record StopsAtLine (taken : List ℕ) (given : List Line) : Type 0 where
    pub earlier : List Line
    pub line : Line
    pub parts : earlier ++ line ∷ [] ≡ given
    pub ended : has_end given ≡ true
    pub last : HasLastPiece taken earlier
    pub output : WritesFrom stats held held' events events' earlier given

  -- writing stopped in the answer to a document that ended with the input, which was read to its end
  pub record StopsAtEnd (taken : List ℕ) (given : List Line) : Type 0 where
    pub unended : has_end given ≡ false
    pub input : IsWhole left left' taken given
    pub output : WritesPrefix stats held held' events events' given

  -- what is known of the bytes that were taken and of the lines of them that were given, by the status
  abbrev pub Judged : List ℕ → List Line → Status → Type 0
  Judged taken given Done = EndsAll taken given Done
  Judged taken given SomeRefused = EndsAll taken given SomeRefused
  Judged taken given BadDocument = EndsBad taken given
  Judged taken given WriteFault = StopsAtLine taken given ⊎ StopsAtEnd taken given
  Judged taken given NoMemory = IsSilent held held' events events' ⊎ EndsEarly taken given
  Judged taken given ReadFault = (length taken ≤ limit) × (given ≡ lines_of (whole_lines taken)) × Stands stats held held' events events' given
  Judged taken given InputLimit = (length taken ≡ limit + 1) × (given ≡ early_lines taken) × Stands stats held held' events events' given
  Judged taken given status = ⊥

  -- a run took some bytes, was given some of their lines, which are the first of the input's, and this
  -- is known of them
  pub record Runs (status : Status) : Type 0 where
    pub taken : List ℕ
    pub given : List Line
    pub took : Loses left left' taken
    pub first : AreFirst left given
    pub judged : Judged taken given status

-- the answers to all bytes of an input that is not too long: its verdict with all of its output written, want of memory, or a fault
abbrev pub Permits : Type 0 → List ℕ → Status → Type 0
Permits wrote bytes ReadFault = ⊤
Permits wrote bytes WriteFault = ⊤
Permits wrote bytes NoMemory = ⊤
Permits wrote bytes status = (status ≡ verdict bytes) × wrote

-- the answers to an input that is too long: that it is, unless the document ended early and has a fault; then that
abbrev pub PermitsOver : Type 0 → List ℕ → Status → Type 0
PermitsOver wrote bytes InputLimit = ¬ IsEarlyFault (early_lines bytes)
PermitsOver wrote bytes BadDocument = IsEarlyFault (early_lines bytes) × wrote
PermitsOver wrote bytes ReadFault = ⊤
PermitsOver wrote bytes WriteFault = ⊤
PermitsOver wrote bytes NoMemory = ⊤
PermitsOver wrote bytes status = ⊥

-- where no count rose and the input is not too long: its verdict with all of its output written, or want of memory
abbrev pub IsComplete : (left : Option (List ℕ)) (wrote : List ℕ → Type 0) (reads reads' writes writes' : ℕ) → Status → Type 0
IsComplete left wrote reads reads' writes writes' status =
    IfSome left (λ b. length b ≤ limit → ¬ Rose reads reads' → ¬ Rose writes writes' → (status ≡ NoMemory) ⊎ ((status ≡ verdict b) × wrote b))

-- where no count rose and the input is too long: the answer for that or for an early fault, or want of memory
abbrev pub IsOverComplete : (left : Option (List ℕ)) (reads reads' writes writes' : ℕ) → Status → Type 0
IsOverComplete left reads reads' writes writes' status =
    IfSome left (λ b. limit < length b → ¬ Rose reads reads' → ¬ Rose writes writes' → (status ≡ NoMemory)
    ⊎ (((status ≡ InputLimit) × ¬ IsEarlyFault (early_lines b)) ⊎ ((status ≡ BadDocument) × IsEarlyFault (early_lines b))))

-- what is known of a run over all bytes of its input, with the counts of each layout or without
pub record HasRun (stats : Bool) (left left' held held' : Option (List ℕ))
    (events events' : Option (List Event)) (reads reads' writes writes' : ℕ) (status : Status) : Type
    0 where
  -- what was taken, written and logged, by the answer
  pub runs : Runs stats left left' held held' events events' status
  -- at every exit what was written is a prefix of the output
  pub prefix : IfSome left (λ b. WritesPrefix stats held held' events events' (lines_of b))
  -- the answers to an input that is not too long, and to one that is
  pub permits : IfSome left (λ b. length b ≤ limit → Permits (WritesAll stats held held' events events' (lines_of b)) b status)
  pub over : IfSome left (λ b. limit < length b → PermitsOver (WritesAll stats held held' events events' (lines_of b)) b status)
  -- where no count rose: the verdict with all of the output written, or want of memory
  pub complete : IsComplete left (λ b. WritesAll stats held held' events events' (lines_of b)) reads reads' writes writes' status
  pub over_complete : IsOverComplete left reads reads' writes writes' status

-- where the bytes hold a document, no count rose and no memory was wanting: the boxes of that document were written, then what
-- each edit line gives, and nothing else
abbrev pub IsHeadline : (left held held' : Option (List ℕ)) (reads reads' writes writes' : ℕ) → Status → Type 0
IsHeadline left held held' reads reads' writes writes' status =
    IfSome left (λ b. length b ≤ limit → (doc : Doc) → document_in b ≡ Ok doc → ¬ Rose reads reads' → ¬ Rose writes writes' → status ≢ NoMemory
    → Adds held held' (print 0 (boxes_of doc) ++ texts 1 (made_in (begins doc) (after_end (lines_of b)))))

-- what is known of a run without counts over all bytes of its input, by their output
pub record HasOutput (left held held' : Option (List ℕ)) (reads reads' writes writes' : ℕ) (status : Status) : Type 0 where
  -- at every exit what was written is a prefix of the output
  pub prefix : IfSome left (λ b. AddsPrefix held held' (out b))
  -- the answers to an input that is not too long: its verdict with all of the output written, want of memory, or a fault
  pub permits : IfSome left (λ b. length b ≤ limit → Permits (Adds held held' (out b)) b status)
  -- where no count rose, of such an input: the verdict with all of the output written, or want of memory
  pub complete : IsComplete left (λ b. Adds held held' (out b)) reads reads' writes writes' status
  -- the boxes written are those of the document that the bytes hold, and then, for each edit line, those of the edited document
  -- or the line of the refusal
  pub headline : IsHeadline left held held' reads reads' writes writes' status
