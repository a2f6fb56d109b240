-- What each reply of a run shows, to the document and to each edit line: its text, what the ruler is told, and how many answers the layout keeps (own rule).
use Rattle.std.specs.Prelude.{◌≡◌, ℕ, ◌+◌, ◌*◌, ◌-◌, ◌^◌, ◌<◌, ◌≤◌, ◌==◌, ◌||◌, ◌⊎◌, Bool, true, List, [], ◌∷◌, ◌++◌, length, Option, Result, Ok, Err, IfSome, ⊤}
use Rattle.text_scan.specs.declared.line.Line.{Line}
use Rattle.text_scan.specs.Lines.{lines_of}
use Rattle.outside.specs.Told.{Adds, Stays}
use Rattle.outside.specs.declared.event.Event.{Event}
use Rattle.outside.specs.declared.event.Event.TheVariants.{Begin}
use Rattle.doc_text.specs.declared.document.Doc.{Doc}
use Rattle.doc_text.specs.Edits.{tree_of}
use Rattle.box_layout.specs.Paths.{IsAsked}
use Rattle.page_tree.specs.Pages.{Held, document_of}
use Rattle.placing.specs.Kept.{kept_at}
use Rattle.placing.specs.Nodes.{bare}
use Rattle.placing.specs.Walks.{AreAsked, AreFresh, Entry, events_of, rising}
use Rattle.asked_names.specs.Asked.{AreFew}
use Rattle.asked_pages.specs.AskedOf.{asked_of, containers_by}
use Rattle.asked_pages.specs.Leaves.{AreAllMeasured, IsEmptied}
use Rattle.sparing.specs.Sparing.{Touches}
use Rattle.session.specs.declared.answer.Progress.{Progress}
use Rattle.session.specs.declared.status.Status.{Status}
use Rattle.session.specs.declared.status.Status.TheVariants.{Done, BadDocument, SomeRefused, ReadFault, InputLimit}
use Rattle.session.specs.Logs.{AreMeasuring}
use Rattle.session.specs.Printing.{counts}
use Rattle.session.specs.Script.{all_made, has_end, text_of}
use Rattle.session.specs.Input.{AreFirst}
use Rattle.session.specs.Spares.{Spares}
use Rattle.session.specs.Standing.{doc_of}
use Rattle.session.specs.declared.said.Said.{Said}
use Rattle.session.specs.Touched.{FollowsLines, touched_lines}

-- ---- replies

-- a text, what was told of it, and how many answers were kept
pub record Reply : Type 0 where
  pub text : List ℕ
  pub told : List Event
  pub kept : ℕ

-- of all of them, one after another
abbrev pub texts_in : List Reply → List ℕ
texts_in [] = []
texts_in (r ∷ replies) = r.text ++ texts_in replies

abbrev pub told_in : List Reply → List Event
told_in [] = []
told_in (r ∷ replies) = r.told ++ told_in replies

-- the sum of the counts of answers
abbrev pub kept_in : List Reply → ℕ
kept_in [] = 0
kept_in (r ∷ replies) = r.kept + kept_in replies

-- none of these counts stands at its last value
abbrev pub AreExact : List Reply → Type 0
AreExact [] = ⊤
AreExact (r ∷ replies) = (r.kept < 2 ^ 64 - 1) × AreExact replies

-- the first layout finds every name new, and a later one those that the edit with its number touches
abbrev pub is_new : Touches → ℕ → List ℕ → Bool
is_new touches k name = k == 0 || touches k name

-- One layout of this document kept so many answers: on a page that held it, where what is new kept nothing, each to a question that the
-- layout can ask and that was not kept where its answer was put. The measurings are the events of these answers, and of no others.
pub record HasAdded (test : List ℕ → Bool) (doc : Doc) (measured : List Event) (kept : ℕ) : Type 0 where
  pub page : Held
  pub document : document_of page ≡ doc
  pub emptied : IsEmptied test page
  pub entries : List Entry
  pub fresh : AreFresh (kept_at page.nodes.tree) [] entries
  pub asked : AreAsked (IsAsked (bare page.nodes.tree) page.width page.height) entries
  pub events : measured ≡ events_of (bare page.nodes.tree) entries
  pub count : kept ≡ rising 0 (length entries)

-- The reply with the number k that lays a document out: its boxes, and where they are wanted the counts of measurings and of answers that were kept. The ruler
-- is
-- told that the layout begins, and then of measurings of leaves. Each leaf with a new name that is the child of a grid is measured at the content width of its
-- box. At
-- least one answer is kept for each container with a new name; and no more than there are questions, where no node has more than sixteen of them. With counts
-- or without, they are the answers that a layout of the document added.
pub record IsLayout (stats : Bool) (touches : Touches) (k : ℕ) (doc : Doc) (r : Reply) : Type 0 where
  pub measured : List Event
  pub parts : r.told ≡ Begin k ∷ measured
  pub each : AreMeasuring doc measured
  pub text : r.text ≡ text_of k (Ok doc) ++ counts stats (rising 0 (length measured)) r.kept
  pub leaves : AreAllMeasured (is_new touches k) doc measured
  pub least : containers_by (is_new touches k) (tree_of doc) ≤ r.kept
  pub most : AreFew (asked_of doc) → r.kept ≤ length (asked_of doc)
  pub added : HasAdded (is_new touches k) doc measured r.kept

-- the reply that says why a line is refused, or which box lies under a point: nothing is told, and nothing kept
pub record IsSaid (k : ℕ) (said : Said) (r : Reply) : Type 0 where
  pub text : r.text ≡ text_of k (Err said)
  pub told : r.told ≡ []
  pub kept : r.kept ≡ 0

-- the reply with the number k to what was made
abbrev pub IsReply : Bool → Touches → ℕ → Result Doc Said → Reply → Type 0
IsReply stats touches k (Ok doc) r = IsLayout stats touches k doc r
IsReply stats touches k (Err said) r = IsSaid k said r

-- ---- the questions that the documents of replies ask

-- to no node are more than sixteen questions, and all of them can be counted
abbrev pub AreAllFew : List (Result Doc Said) → Type 0
AreAllFew [] = ⊤
AreAllFew (Ok doc ∷ rest) = (AreFew (asked_of doc) × (length (asked_of doc) < 2 ^ 64 - 1)) × AreAllFew rest
AreAllFew (Err said ∷ rest) = AreAllFew rest

-- how many there are, of all layouts
abbrev pub questions_in : List (Result Doc Said) → ℕ
questions_in [] = 0
questions_in (Ok doc ∷ rest) = length (asked_of doc) + questions_in rest
questions_in (Err said ∷ rest) = questions_in rest

-- the replies to all that was made, in order and numbered from k on
abbrev pub AreReplies : Bool → Touches → ℕ → List (Result Doc Said) → List Reply → Type 0
AreReplies stats touches k [] [] = ⊤
AreReplies stats touches k [] (r ∷ replies) = ⊥
AreReplies stats touches k (made ∷ rest) [] = ⊥
AreReplies stats touches k (made ∷ rest) (r ∷ replies) = IsReply stats touches k made r × AreReplies stats touches (k + 1) rest replies

-- ---- a sink, a log and passes

-- the reply of a text was told, in at most four passes for each answer that was kept
pub record HasReply (stats : Bool) (touches : Touches) (events events' : Option (List Event))
    (passes passes' k : ℕ) (made : Result Doc Said) (bytes : List ℕ) : Type
    0 where
  pub reply : Reply
  pub is : IsReply stats touches k made reply
  pub text : reply.text ≡ bytes
  pub log : Adds events events' reply.told
  pub ticks : reply.kept < 2 ^ 64 - 1 → passes' ≤ passes + 4 * reply.kept

module _ (stats : Bool) (held held' : Option (List ℕ)) (events events' : Option (List Event)) (passes passes' : ℕ) where
  -- the replies to all that was made were written and told, in at most four passes for each answer that was kept
  pub record Replies (touches : Touches) (k : ℕ) (made : List (Result Doc Said)) : Type 0 where
    pub all : List Reply
    pub each : AreReplies stats touches k made all
    pub written : Adds held held' (texts_in all)
    pub log : Adds events events' (told_in all)
    pub ticks : AreExact all → passes' ≤ passes + 4 * kept_in all

  -- nothing was written, told or sized
  pub record IsIdle : Type 0 where
    pub written : Stays held held'
    pub log : Stays events events'
    pub ticks : passes' ≡ passes

  -- the replies to these lines
  abbrev pub RepliesLines : List Line → Type 0
  RepliesLines given = (touches : Touches) → FollowsLines touches given → Replies touches 0 (all_made given)

  -- the first lines of an input had their replies, which hold its document
  pub record RepliesFirst (left : Option (List ℕ)) : Type 0 where
    pub given : List Line
    pub first : AreFirst left given
    pub ended : has_end given ≡ true
    pub replies : RepliesLines given

  -- all lines had
  pub record RepliesAll (left : Option (List ℕ)) : Type 0 where
    pub given : List Line
    pub all : IfSome left (λ b. given ≡ lines_of b)
    pub replies : RepliesLines given

  -- what is known where a run ends
  abbrev pub RepliesTo : Option (List ℕ) → Status → Type 0
  RepliesTo left Done = RepliesAll left
  RepliesTo left SomeRefused = RepliesAll left
  RepliesTo left BadDocument = passes' ≡ passes
  RepliesTo left ReadFault = IsIdle ⊎ RepliesFirst left
  RepliesTo left InputLimit = IsIdle ⊎ RepliesFirst left
  RepliesTo left status = ⊤

  -- what is known where a script begins
  abbrev pub RepliesStart : Option (List ℕ) → Result Progress Status → Type 0
  RepliesStart left (Ok progress) = (touches : Touches) → Replies touches 0 (Ok (doc_of progress.engine) ∷ [])
  RepliesStart left (Err status) = RepliesTo left status

  -- a front of all that is due was written and told
  pub record RepliesFront (lines : List Line) : Type 0 where
    pub made : List (Result Doc Said)
    pub rest : List (Result Doc Said)
    pub parts : made ++ rest ≡ all_made lines
    pub replies : Replies (touched_lines lines) 0 made

  -- The replies to the lines of an input: all of them, where it was answered to its end; those that were given where reading stopped; and where the document
  -- has a
  -- fault nothing was sized.
  abbrev pub HasReplied : List Line → Status → Type 0
  HasReplied lines Done = Replies (touched_lines lines) 0 (all_made lines)
  HasReplied lines SomeRefused = Replies (touched_lines lines) 0 (all_made lines)
  HasReplied lines BadDocument = passes' ≡ passes
  HasReplied lines ReadFault = RepliesFront lines
  HasReplied lines InputLimit = RepliesFront lines
  HasReplied lines status = ⊤

-- what a run measured, kept and sized for all bytes of its input
pub record KeepsBounds (stats : Bool) (left held held' : Option (List ℕ)) (events events' : Option (List Event)) (passes passes' : ℕ) (status : Status) : Type
    0 where
  -- no leaf was measured again at a width unless an edit reached it or sixteen other widths followed
  pub spares : IfSome left (λ b. Spares (touched_lines (lines_of b)) events events')
  -- In each layout every new leaf of a grid was measured at the content width of its box. A, the count of answers that it kept, is at least the number of new
  -- containers, and at most that of all questions where no node has more than sixteen. There are at most four passes for each of the answers.
  pub replies : IfSome left (λ b. HasReplied stats held held' events events' passes passes' (lines_of b) status)
