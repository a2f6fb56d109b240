-- What a ruler is told of a run: the begin of each layout, and the measuring of leaves after it.
use Rattle.std.specs.Prelude.{◌≡◌, ℕ, ◌+◌, Bool, true, false, ◌&&◌, ◌||◌, List, [], ◌∷◌, ◌++◌, Option, Result, Ok, Err, ⊤}
use Rattle.std.specs.Str.{bytes_eq}
use Rattle.plain_tree.specs.Trees.{Trees, leafless, tree}
use Rattle.outside.specs.Told.{Adds}
use Rattle.outside.specs.declared.event.Event.{Event}
use Rattle.outside.specs.declared.event.Event.TheVariants.{Begin, Measured}
use Rattle.doc_text.specs.declared.document.Doc.{Doc}
use Rattle.doc_text.specs.Documents.{is_leaf}
use Rattle.doc_text.specs.Edits.{tree_of}
use Rattle.doc_text.specs.Label.{Label}
use Rattle.session.specs.declared.said.Said.{Said}

-- ---- one layout

-- one of the nodes is a leaf of this name
abbrev pub has_leaf : List ℕ → Trees Label → Bool
has_leaf name leafless = false
has_leaf name (tree x below after) = (is_leaf x.kind && bytes_eq x.name name) || (has_leaf name below || has_leaf name after)

-- a leaf of the document was measured
abbrev pub IsMeasuring : Doc → Event → Type 0
IsMeasuring doc (Begin k) = ⊥
IsMeasuring doc (Measured name width) = has_leaf name (tree_of doc) ≡ true

abbrev pub AreMeasuring : Doc → List Event → Type 0
AreMeasuring doc [] = ⊤
AreMeasuring doc (event ∷ events) = IsMeasuring doc event × AreMeasuring doc events

-- the layout with the number k began, and then leaves of the document were measured
pub record IsLaying (k : ℕ) (doc : Doc) (events : List Event) : Type 0 where
  pub measured : List Event
  pub parts : events ≡ Begin k ∷ measured
  pub each : AreMeasuring doc measured

-- ---- all that was made

-- these events are told of what was made: where nothing is laid out there are none
abbrev pub Tells : ℕ → Result Doc Said → List Event → Type 0
Tells k (Ok doc) events = IsLaying k doc events
Tells k (Err said) events = events ≡ []

-- events in two parts
pub record InTwo (First Later : List Event → Type 0) (events : List Event) : Type 0 where
  pub first : List Event
  pub later : List Event
  pub parts : first ++ later ≡ events
  pub front : First first
  pub back : Later later

-- these events are told of all that was made, in order and numbered from k on
abbrev pub TellsAll : ℕ → List (Result Doc Said) → List Event → Type 0
TellsAll k [] events = events ≡ []
TellsAll k (made ∷ rest) events = InTwo (Tells k made) (TellsAll (k + 1) rest) events

-- ---- a log

module _ (before after : Option (List Event)) where
  -- it grew by all that is told of what was made
  pub record Logs (k : ℕ) (made : List (Result Doc Said)) : Type 0 where
    pub events : List Event
    pub added : Adds before after events
    pub told : TellsAll k made events

  -- it grew by a front of such events
  pub record LogsFront (k : ℕ) (made : List (Result Doc Said)) : Type 0 where
    pub events : List Event
    pub rest : List Event
    pub added : Adds before after events
    pub told : TellsAll k made (events ++ rest)

  -- it grew by all that is told of what is due, and then by a front of what is told behind that
  pub record LogsFrom (owed made : List (Result Doc Said)) : Type 0 where
    pub done : List Event
    pub events : List Event
    pub rest : List Event
    pub added : Adds before after (done ++ events)
    pub due : TellsAll 0 owed done
    pub told : TellsAll 0 made ((done ++ events) ++ rest)
