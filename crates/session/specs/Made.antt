-- What is written and told of a generated document and of its edits (own rule).
use Rattle.std.specs.Prelude.{◌≡◌, ℕ, zero, suc, ◌+◌, ◌-◌, ◌==◌, Bool, false, if◌then◌else◌, List, [], ◌∷◌, ◌++◌, ◌⊎◌, length, Option, None, Result, Ok, codes, decimal, ⊤}
use Rattle.outside.specs.Faults.{Rose}
use Rattle.outside.specs.Told.{Adds, AddsPrefix}
use Rattle.outside.specs.declared.event.Event.{Event}
use Rattle.doc_text.specs.declared.document.Doc.{Doc}
use Rattle.doc_text.specs.Edits.{applied}
use Rattle.page_maker.specs.Making.{made_document, last_state}
use Rattle.page_maker.specs.Scripts.{edit_from, edited_from, made_documents}
use Rattle.page_maker.specs.Sums.{checksum}
use Rattle.page_tree.specs.Reach.{is_touched}
use Rattle.sparing.specs.Sparing.{Touches}
use Rattle.session.specs.Boxes.{boxes_of}
use Rattle.session.specs.Logs.{Logs, LogsFront}
use Rattle.session.specs.Printing.{Box}
use Rattle.session.specs.Replies.{Replies}
use Rattle.session.specs.Spares.{Spares}
use Rattle.session.specs.declared.said.Said.{Said}
use Rattle.session.specs.declared.status.Status.{Status}
use Rattle.session.specs.declared.status.Status.TheVariants.{Done, WriteFault, NoMemory}

-- ---- what is written

-- `made k C S`: how many boxes there are, and their sum
unfoldable pub made_line : ℕ → List Box → List ℕ
made_line k boxes = codes "made " ++ decimal k ++ 32 ∷ decimal (length boxes) ++ 32 ∷ decimal (checksum boxes) ++ 10 ∷ []

-- the lines of documents, numbered from k on
abbrev pub made_lines : ℕ → List Doc → List ℕ
made_lines k [] = []
made_lines k (doc ∷ docs) = made_line k (boxes_of doc) ++ made_lines (k + 1) docs

-- the nine lines of a seed and a number of nodes
unfoldable pub summary : ℕ → ℕ → List ℕ
summary seed nodes = made_lines 0 (made_documents seed nodes)

-- ---- what is told

-- each of the documents is laid out
abbrev pub all_laid : List Doc → List (Result Doc Said)
all_laid [] = []
all_laid (doc ∷ docs) = Ok doc ∷ all_laid docs

-- the nine of a seed and a number of nodes
unfoldable pub made_layouts : ℕ → ℕ → List (Result Doc Said)
made_layouts seed nodes = all_laid (made_documents seed nodes)

-- These layouts were told, numbered from k on. Of each it holds what holds of a reply under `layout`: which leaves were measured, how many answers it kept, and
-- how
-- many passes it took. What is written of them stands apart.
abbrev pub TellsLayouts : Touches → (events events' : Option (List Event)) → (passes passes' : ℕ) → ℕ → List (Result Doc Said) → Type 0
TellsLayouts touches events events' passes passes' k made = Replies false None None events events' passes passes' touches k made

-- ---- what the edits touch

-- the edit of a document whose draws begin with this state
unfoldable pub touched_by_draw : ℕ → Doc → ℕ → List ℕ → Bool
touched_by_draw nodes doc x name = is_touched (edit_from nodes x).0 doc (applied (edit_from nodes x).0 doc) name

-- what so many edits touch, numbered from k on, the first of them of this document
unfoldable pub touched_drawn : ℕ → ℕ → ℕ → Doc → ℕ → Touches
touched_drawn zero k nodes doc x n name = false
touched_drawn (suc count) k nodes doc x n name =
    if n == k then touched_by_draw nodes doc x name
    else touched_drawn count (k + 1) nodes (applied (edit_from nodes x).0 doc) (edit_from nodes x).1 n name

-- the eight of a seed and a number of nodes
unfoldable pub touched_made : ℕ → ℕ → Touches
touched_made seed nodes n name = touched_drawn 8 1 nodes (made_document seed nodes) (last_state seed nodes) n name

-- ---- a run

module _ (seed nodes : ℕ) (held held' : Option (List ℕ)) (events events' : Option (List Event)) (passes passes' : ℕ) where
  -- the nine lines were written, and the ruler was told of the nine layouts
  pub record MakesAll : Type 0 where
    pub written : Adds held held' (summary seed nodes)
    pub log : Logs events events' 0 (made_layouts seed nodes)
    pub layouts : TellsLayouts (touched_made seed nodes) events events' passes passes' 0 (made_layouts seed nodes)

  -- how a run ends: all was done, or writing stopped
  abbrev pub EndsMaking : Status → Type 0
  EndsMaking Done = MakesAll
  EndsMaking WriteFault = ⊤
  EndsMaking NoMemory = ⊤
  EndsMaking status = ⊥

  -- what is known of a run, at each of its ends
  pub record HasMade (writes writes' : ℕ) (status : Status) : Type 0 where
    pub ends : EndsMaking status
    -- a prefix of the nine lines was written, and a front of what is told of the nine layouts was told
    pub prefix : AddsPrefix held held' (summary seed nodes)
    pub log : LogsFront events events' 0 (made_layouts seed nodes)
    -- no leaf was measured again at a width unless an edit reached it or sixteen other widths followed
    pub spares : Spares (touched_made seed nodes) events events'
    -- where the sink's count did not rise: all was done, or memory was wanting
    pub complete : ¬ Rose writes writes' → (status ≡ NoMemory) ⊎ ((status ≡ Done) × MakesAll)

-- ---- while it goes on

abbrev pub later : List Doc → List Doc
later [] = []
later (doc ∷ docs) = docs

-- what is still to be written of a document before its last edits, so many of them, where their draws begin with this state
unfoldable pub lines_left : ℕ → ℕ → Doc → ℕ → List ℕ
lines_left count nodes doc x = made_lines (9 - count) (later (edited_from count nodes doc x))

-- the layouts that are still to be made
unfoldable pub layouts_left : ℕ → ℕ → Doc → ℕ → List (Result Doc Said)
layouts_left count nodes doc x = all_laid (later (edited_from count nodes doc x))

-- the edit with this number touches what the one does that is drawn
abbrev pub AgreesDraw : Touches → ℕ → ℕ → Doc → ℕ → Type 0
AgreesDraw touches k nodes doc x = (name : List ℕ) → touches k name ≡ touched_by_draw nodes doc x name

-- each of so many edits that are drawn, numbered from k on, touches what its number says
unfoldable pub AgreeDraws : Touches → ℕ → ℕ → ℕ → Doc → ℕ → Type 0
AgreeDraws touches zero k nodes doc x = ⊤
AgreeDraws touches (suc count) k nodes doc x =
    AgreesDraw touches k nodes doc x × AgreeDraws touches count (k + 1) nodes (applied (edit_from nodes x).0 doc) (edit_from nodes x).1

-- the log grew by what is told of the first layouts of a whole, numbered from `first` on; these are left, numbered from `next` on
pub record LogsAllBut (before after : Option (List Event)) (first next : ℕ) (rest whole : List (Result Doc Said)) : Type 0 where
  pub done : List (Result Doc Said)
  pub parts : done ++ rest ≡ whole
  pub number : first + length done ≡ next
  pub log : Logs before after first done

-- the log grew by what is told of the first layouts of a whole, with what each layout measures, keeps and takes; these are left, numbered
-- from `next` on
pub record TellsAllBut (touches : Touches) (before after : Option (List Event))
    (passes passes' : ℕ) (first next : ℕ) (rest whole : List (Result Doc Said)) : Type
    0 where
  pub done : List (Result Doc Said)
  pub parts : done ++ rest ≡ whole
  pub number : first + length done ≡ next
  pub told : TellsLayouts touches before after passes passes' first done
