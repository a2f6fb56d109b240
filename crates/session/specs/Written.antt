-- What is written of all that was made, and told of it: with the counts of each layout where these are wanted.
use Rattle.std.specs.Prelude.{◌≡◌, ℕ, ◌+◌, Bool, List, [], ◌∷◌, ◌++◌, length, Option, Result, Ok, Err}
use Rattle.outside.specs.Told.{Adds}
use Rattle.outside.specs.declared.event.Event.{Event}
use Rattle.outside.specs.declared.event.Event.TheVariants.{Begin}
use Rattle.doc_text.specs.declared.document.Doc.{Doc}
use Rattle.placing.specs.Walks.{rising}
use Rattle.session.specs.Logs.{AreMeasuring}
use Rattle.session.specs.Printing.{counts}
use Rattle.session.specs.Script.{text_of}
use Rattle.session.specs.declared.said.Said.{Said}

-- ---- one layout, or what is said in its place

-- a layout was written: its boxes and, where they are wanted, how often leaves were measured, up to 2^64 - 1, and how many
-- answers were kept. The ruler was told that the layout began, and of each measuring
pub record IsLaidOut (stats : Bool) (k : ℕ) (doc : Doc) (bytes : List ℕ) (events : List Event) : Type 0 where
  pub measured : List Event
  pub parts : events ≡ Begin k ∷ measured
  pub each : AreMeasuring doc measured
  pub added : ℕ
  pub text : bytes ≡ text_of k (Ok doc) ++ counts stats (rising 0 (length measured)) added

-- what is written and told of what was made: where nothing is laid out the line that says so is written, and nothing is told
abbrev pub Told : Bool → ℕ → Result Doc Said → List ℕ → List Event → Type 0
Told stats k (Ok doc) bytes events = IsLaidOut stats k doc bytes events
Told stats k (Err said) bytes events = (bytes ≡ text_of k (Err said)) × (events ≡ [])

-- ---- all that was made

-- bytes and events, each in two parts
pub record InParts (First Later : List ℕ → List Event → Type 0) (bytes : List ℕ) (events : List Event) : Type 0 where
  pub text : List ℕ
  pub texts : List ℕ
  pub first : List Event
  pub later : List Event
  pub whole : text ++ texts ≡ bytes
  pub parts : first ++ later ≡ events
  pub front : First text first
  pub back : Later texts later

-- what is written and told of all that was made, in order and numbered from k on
abbrev pub ToldAll : Bool → ℕ → List (Result Doc Said) → List ℕ → List Event → Type 0
ToldAll stats k [] bytes events = (bytes ≡ []) × (events ≡ [])
ToldAll stats k (made ∷ rest) bytes events = InParts (Told stats k made) (ToldAll stats (k + 1) rest) bytes events

-- ---- a sink and a log

-- the log grew by what is told of this, and these bytes are its text
pub record Prints (stats : Bool) (events events' : Option (List Event)) (k : ℕ) (made : Result Doc Said) (bytes : List ℕ) : Type 0 where
  pub told : List Event
  pub log : Adds events events' told
  pub each : Told stats k made bytes told

module _ (stats : Bool) (held held' : Option (List ℕ)) (events events' : Option (List Event)) where
  -- all of it was written and told
  pub record Writes (k : ℕ) (made : List (Result Doc Said)) : Type 0 where
    pub bytes : List ℕ
    pub told : List Event
    pub written : Adds held held' bytes
    pub log : Adds events events' told
    pub each : ToldAll stats k made bytes told

  -- a front of such bytes was written, and a front of such events told
  pub record WritesFront (k : ℕ) (made : List (Result Doc Said)) : Type 0 where
    pub bytes : List ℕ
    pub bytes_left : List ℕ
    pub told : List Event
    pub told_left : List Event
    pub written : Adds held held' bytes
    pub log : Adds events events' told
    pub each : ToldAll stats k made (bytes ++ bytes_left) (told ++ told_left)

  -- all of what is due was, and then a front of what comes behind it
  pub record WritesBehind (owed made : List (Result Doc Said)) : Type 0 where
    pub done : List ℕ
    pub bytes : List ℕ
    pub bytes_left : List ℕ
    pub fore : List Event
    pub told : List Event
    pub told_left : List Event
    pub written : Adds held held' (done ++ bytes)
    pub log : Adds events events' (fore ++ told)
    pub due : ToldAll stats 0 owed done fore
    pub each : ToldAll stats 0 made ((done ++ bytes) ++ bytes_left) ((fore ++ told) ++ told_left)
