-- What one layout measures, keeps and counts.
use Rattle.std.specs.Prelude.{◌≡◌, ℕ, ◌+◌, ◌*◌, ◌-◌, ◌^◌, ◌≤◌, Bool, false, List, [], ◌∷◌, length, Option, None}
use Rattle.outside.specs.Told.{Adds}
use Rattle.outside.specs.declared.event.Event.{Event}
use Rattle.outside.specs.declared.event.Event.TheVariants.{Begin}
use Rattle.outside.specs.declared.tally.Tally.{Tally}
use Rattle.doc_text.specs.declared.document.Doc.{Doc}
use Rattle.doc_text.specs.Edits.{tree_of}
use Rattle.node_arena.specs.declared.number.NodeId.{NodeId}
use Rattle.placing.specs.Kept.{kept_at}
use Rattle.box_layout.specs.Paths.{IsAllKept, IsAsked, IsPathKept}
use Rattle.placing.specs.Nodes.{bare}
use Rattle.placing.specs.Walks.{AreAsked, AreFresh, Entry, State, Walk, entries_of, events_of, kept_with, rising, state}
use Rattle.page_tree.specs.Pages.{Held, document_of}
use Rattle.asked_pages.specs.AskedOf.{containers_by}
use Rattle.asked_pages.specs.Bounds.{IsBounded}
use Rattle.asked_pages.specs.Leaves.{IsEmptied}
use Rattle.session.specs.Logs.{AreMeasuring}

-- leaves of a document were measured, logged and counted; a count stands still at its last value
pub record Measures (doc : Doc) (told told' : Option (List Event)) (before after : ℕ) : Type 0 where
  pub events : List Event
  pub each : AreMeasuring doc events
  pub log : Adds told told' events
  pub count : after ≡ rising before (length events)

-- a document was laid out with the number k: the layout began, and leaves of it were measured, so often
pub record LaysOut (k : ℕ) (doc : Doc) (told told' : Option (List Event)) (measured : ℕ) : Type 0 where
  pub events : List Event
  pub each : AreMeasuring doc events
  pub log : Adds told told' (Begin k ∷ events)
  pub count : measured ≡ rising 0 (length events)

-- answers were kept: what a node keeps are the last ones of what it kept and of these, and each is to a question to which it kept none where it was put
pub record KeepsMore (old new : Held) : Type 0 where
  pub entries : List Entry
  pub kept : (n : NodeId) → kept_at new.nodes.tree n ≡ kept_with (kept_at old.nodes.tree n) (entries_of n entries)
  pub fresh : AreFresh (kept_at old.nodes.tree) [] entries

-- answers were kept, in at most four passes each
pub record Keeps (old new : Held) (before after passes passes' : ℕ) : Type 0 where
  pub more : KeepsMore old new
  pub count : after ≡ rising before (length more.entries)
  pub ticks : passes' ≤ passes + 4 * length more.entries

-- A page was laid out by a walk over it, and what it kept is within the bounds of its document. Leaves of the document were measured. Its containers are so few
-- that they can be
-- counted.
pub record WalksPage (old new : Held) (tally tally' : Tally) (passes passes' : ℕ) (told told' : Option (List Event)) : Type 0 where
  pub walk : Walk (IsAsked (bare old.nodes.tree) old.width old.height) 0 [] (state old.nodes tally passes told) (state new.nodes tally' passes' told')
  pub bounded : IsBounded old walk.added
  pub each : AreMeasuring (document_of old) (events_of (bare old.nodes.tree) walk.added)
  pub few : (test : List ℕ → Bool) → containers_by test (tree_of (document_of old)) ≤ 2 ^ 64 - 1

-- a layout with the number k: it began, and then the events of the answers that were kept were told, in their order, and no others; each answers a question
-- that laying out the page may ask. They are within the bounds of the document; and where nodes kept nothing, A counts at least the containers among them
pub record Walks (k : ℕ) (old new : Held) (told told' : Option (List Event)) (measured added passes passes' : ℕ) : Type 0 where
  pub entries : List Entry
  pub log : Adds told told' (Begin k ∷ events_of (bare old.nodes.tree) entries)
  pub kept : (n : NodeId) → kept_at new.nodes.tree n ≡ kept_with (kept_at old.nodes.tree n) (entries_of n entries)
  pub fresh : AreFresh (kept_at old.nodes.tree) [] entries
  pub asked : AreAsked (IsAsked (bare old.nodes.tree) old.width old.height) entries
  pub events : measured ≡ rising 0 (length (events_of (bare old.nodes.tree) entries))
  pub count : added ≡ rising 0 (length entries)
  pub ticks : passes' ≤ passes + 4 * length entries
  pub each : AreMeasuring (document_of old) (events_of (bare old.nodes.tree) entries)
  pub bounded : IsBounded old entries
  pub least : (test : List ℕ → Bool) → IsEmptied test old → containers_by test (tree_of (document_of old)) ≤ added

-- what is kept of a page alone
abbrev pub kept_state : Held → State
kept_state page = state page.nodes (record { measured = 0; added = 0; lost = false }) 0 None

-- each container of the page keeps the question for its frames that its boxes give it
abbrev pub KeepsPath : Held → Held → Type 0
KeepsPath old new = IsPathKept (bare old.nodes.tree) old.width old.height (kept_state new)

-- each container of the page keeps the question for its frames, and the root keeps its inline sizes and its block size
abbrev pub KeepsAll : Held → Type 0
KeepsAll page = IsAllKept (bare page.nodes.tree) page.width page.height (kept_state page)

-- a layout that only began: nothing was kept, measured or sized
pub record IsQuiet (k : ℕ) (old new : Held) (told told' : Option (List Event)) (measured added passes passes' : ℕ) : Type 0 where
  pub nodes : new.nodes ≡ old.nodes
  pub log : Adds told told' (Begin k ∷ [])
  pub events : measured ≡ 0
  pub count : added ≡ 0
  pub ticks : passes' ≡ passes
