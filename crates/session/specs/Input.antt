-- What is read of the input.
use Rattle.std.specs.Prelude.{◌≡◌, ℕ, ◌+◌, ◌-◌, ◌≤◌, Bool, true, false, List, [], ◌∷◌, ◌++◌, length, take, Option, Some, None, Result, Ok, Err, IfSome, ⊤}
use Rattle.outside.specs.Told.{Loses, IsSpent}
use Rattle.text_scan.specs.declared.line.Line.{Line}
use Rattle.text_scan.specs.Lines.{lines_of, whole_lines}
use Rattle.text_scan.specs.Stream.{Stream, lines_ahead, HasRead}
use Rattle.session.specs.declared.status.Status.{Status}
use Rattle.session.specs.declared.status.Status.TheVariants.{ReadFault, NoMemory, InputLimit}

-- the most bytes that an input has (own rule)
abbrev pub limit : ℕ
limit = 67108864

-- how often a source is asked at most: for each byte that an input has at most, and once more (own rule)
abbrev pub most_asked : ℕ
most_asked = limit + 1

-- a source that told what it had told just these bytes, and has none left
abbrev pub IsReadToEnd : Option (List ℕ) → Option (List ℕ) → List ℕ → Type 0
IsReadToEnd None after bytes = ⊤
IsReadToEnd (Some told) None bytes = ⊥
IsReadToEnd (Some told) (Some left) bytes = (told ≡ bytes) × (left ≡ [])

-- the lines are the first of all
pub record IsFront (lines all : List Line) : Type 0 where
  pub rest : List Line
  pub parts : lines ++ rest ≡ all

-- they are the first of all lines of a text, where it is told
abbrev pub AreFirst : Option (List ℕ) → List Line → Type 0
AreFirst before given = IfSome before (λ b. IsFront given (lines_of b))

-- the last piece of the bytes that were taken, and what was taken before it: the lines that are whole in that are among these lines
pub record HasLastPiece (bytes : List ℕ) (given : List Line) : Type 0 where
  pub front : List ℕ
  pub piece : List ℕ
  pub split : bytes ≡ front ++ piece
  pub short : length piece ≤ 65536
  pub before : IsFront (lines_of (whole_lines front)) given

-- these bytes were taken, and these lines of them were given; what is ahead are the other lines; `ended` says that the end of
-- the input was seen
pub record HasGiven (before now : Option (List ℕ)) (given : List Line) (stream : Stream) (ended : Bool) : Type 0 where
  pub bytes : List ℕ
  pub taken : Loses before now bytes
  pub fed : stream.fed ≡ length bytes
  pub number : stream.number ≡ length given + 1
  pub within : length bytes ≤ limit
  pub ahead : (more : List ℕ) → (ended ≡ true → more ≡ []) → given ++ lines_ahead stream more ≡ lines_of (bytes ++ more)
  pub reads : ended ≡ false → HasRead bytes given stream
  pub spent : ended ≡ true → IfSome before (λ b. IsSpent now)
  pub last : HasLastPiece bytes given

-- one line more was given, which was not whole before the last piece or was the next one then
pub record HasGivenLine (before now : Option (List ℕ)) (given : List Line) (line : Line) (stream : Stream) (ended : Bool) : Type 0 where
  pub all : HasGiven before now (given ++ line ∷ []) stream ended
  pub last : HasLastPiece all.bytes given

-- all lines of an input that is not too long were given
pub record HasGivenAll (before now : Option (List ℕ)) (given : List Line) : Type 0 where
  pub bytes : List ℕ
  pub taken : Loses before now bytes
  pub few : length bytes ≤ limit
  pub whole : IsReadToEnd before now bytes
  pub lines : given ≡ lines_of bytes

-- reading failed: the lines given are those that are whole in the bytes that were taken
pub record HasGivenWhole (before now : Option (List ℕ)) (given : List Line) : Type 0 where
  pub bytes : List ℕ
  pub taken : Loses before now bytes
  pub few : length bytes ≤ limit
  pub lines : given ≡ lines_of (whole_lines bytes)
  pub first : AreFirst before given

-- one byte too many came: the lines given are those that are whole in the bytes before it
pub record HasPassedLimit (before now : Option (List ℕ)) (given : List Line) : Type 0 where
  pub bytes : List ℕ
  pub taken : Loses before now bytes
  pub passed : length bytes ≡ limit + 1
  pub lines : given ≡ lines_of (whole_lines (take limit bytes))
  pub first : AreFirst before given

-- memory was wanting: some lines were given
pub record HasGivenSome (before now : Option (List ℕ)) (given : List Line) : Type 0 where
  pub bytes : List ℕ
  pub taken : Loses before now bytes
  pub first : AreFirst before given

-- reading stopped: at a fault, for want of memory, or at a byte past the limit
abbrev pub Stops : Option (List ℕ) → Option (List ℕ) → List Line → Status → Type 0
Stops before now given ReadFault = HasGivenWhole before now given
Stops before now given InputLimit = HasPassedLimit before now given
Stops before now given NoMemory = HasGivenSome before now given
Stops before now given status = ⊥

-- what comes next: a line more, the end, or a stop
abbrev pub GivesNext : Option (List ℕ) → Option (List ℕ) → List Line → Stream → Bool → Result (Option Line) Status → Type 0
GivesNext before now given stream ended (Ok (Some line)) = HasGivenLine before now given line stream ended
GivesNext before now given stream ended (Ok None) = HasGivenAll before now given
GivesNext before now given stream ended (Err status) = Stops before now given status

-- reading went on, or it stopped
abbrev pub ReadsOn : Option (List ℕ) → Option (List ℕ) → List Line → Stream → Bool → Result (Unit {0}) Status → Type 0
ReadsOn before now given stream ended (Ok done) = HasGiven before now given stream ended
ReadsOn before now given stream ended (Err status) = Stops before now given status

-- a source gave some bytes, and was asked at most once for each of them and once more (own rule)
pub record AsksOnce (left left' : Option (List ℕ)) (asked asked' : ℕ) : Type 0 where
  pub bytes : List ℕ
  pub taken : Loses left left' bytes
  pub each : asked' ≤ asked + length bytes + 1
  pub most : asked' ≤ asked + most_asked

-- once for the end, where it was seen
abbrev pub end_asked : Bool → ℕ
end_asked true = 1
end_asked false = 0

-- a source gave so many bytes, and was asked at most once for each of them, and for the end where it was seen
pub record AsksSoFar (left left' : Option (List ℕ)) (asked asked' count : ℕ) (ended : Bool) : Type 0 where
  pub bytes : List ℕ
  pub taken : Loses left left' bytes
  pub counted : length bytes ≡ count
  pub within : count ≤ limit
  pub each : asked' ≤ asked + count + end_asked ended

-- how often a source was asked while reading goes on; where it stopped once more is counted
abbrev pub AsksOn : {T : Type 0} → (left left' : Option (List ℕ)) → (asked asked' count : ℕ) → Bool → Result T Status → Type 0
AsksOn left left' asked asked' count ended (Ok x) = AsksSoFar left left' asked asked' count ended
AsksOn left left' asked asked' count ended (Err status) = AsksOnce left left' asked asked'

-- how often reading can go on at most, after so many bytes
abbrev pub to_go : ℕ → Bool → ℕ
to_go count true = 0
to_go count false = limit - count + 1

-- a source gave a piece of so many bytes, none only at its end
pub record TakesPiece (left left' : Option (List ℕ)) (stream stream' : Stream) (piece : List ℕ) (count : ℕ) : Type 0 where
  pub taken : Loses left left' piece
  pub counted : length piece ≡ count
  pub short : length piece ≤ 65536
  pub number : stream'.number ≡ stream.number
  pub fed : stream'.fed ≡ stream.fed + count
  pub within : stream'.fed ≤ limit
  pub ahead : (more : List ℕ) → lines_ahead stream' more ≡ lines_ahead stream (piece ++ more)
  pub reads : (bytes : List ℕ) (given : List Line) → HasRead bytes given stream → HasRead (bytes ++ piece) given stream'
  pub end : count ≡ 0 → IsSpent left

-- reading stopped at a piece
abbrev pub StopsAtPiece : Option (List ℕ) → Option (List ℕ) → Stream → List ℕ → Status → Type 0
StopsAtPiece left left' stream piece ReadFault = piece ≡ []
StopsAtPiece left left' stream piece InputLimit = (stream.fed ≡ limit) × (length piece ≡ 1)
StopsAtPiece left left' stream piece NoMemory = ⊤
StopsAtPiece left left' stream piece status = ⊥

abbrev pub IsPieceMet : Option (List ℕ) → Option (List ℕ) → Stream → Stream → List ℕ → Result ℕ Status → Type 0
IsPieceMet left left' stream stream' piece (Ok count) = TakesPiece left left' stream stream' piece count
IsPieceMet left left' stream stream' piece (Err status) = StopsAtPiece left left' stream piece status

pub record MeetsPiece (left left' : Option (List ℕ)) (stream stream' : Stream) (result : Result ℕ Status) : Type 0 where
  pub piece : List ℕ
  pub taken : Loses left left' piece
  pub met : IsPieceMet left left' stream stream' piece result
