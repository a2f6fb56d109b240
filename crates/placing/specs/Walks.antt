-- What a call on a node may change: answers are kept at it and below it, and everything else follows from the list of those (own rule).
use Rattle.std.specs.Prelude.{◌≡◌, ℕ, zero, suc, ◌+◌, ◌*◌, ◌≤◌, ◌⊎◌, List, [], ◌∷◌, ◌++◌, Contains, Option, Some, IsSome, false, length, if◌then◌else◌}
use Rattle.plain_tree.specs.Trees.{leafless}
use Rattle.node_arena.specs.declared.number.NodeId.{NodeId}
use Rattle.layout_cache.specs.Kept.{answer_to}
use Rattle.node_arena.specs.Numbers.{child_at, same}
use Rattle.node_arena.specs.Plain.{Nodes}
use Rattle.outside.specs.Faults.{one_more}
use Rattle.outside.specs.Told.{Adds}
use Rattle.outside.specs.declared.event.Event.{Event}
use Rattle.outside.specs.declared.event.Event.TheVariants.{Measured}
use Rattle.outside.specs.declared.event.Width.TheVariants.{Narrowest, Widest, At}
use Rattle.outside.specs.declared.tally.Tally.{Tally}
use Rattle.tree_rules.specs.declared.kind.NodeKind.{NodeKind}
use Rattle.tree_rules.specs.declared.kind.NodeKind.TheVariants as kind
use Rattle.tree_rules.specs.declared.query.Ask.{Ask}
use Rattle.tree_rules.specs.declared.query.Ask.TheVariants as ask
use Rattle.tree_rules.specs.declared.query.Query.{Query}
use Rattle.tree_rules.specs.Frames.{given_size}
use Rattle.tree_rules.specs.KeptAnswers.{IsAbsent, last_of, most_kept}
use Rattle.placing.specs.declared.node.Answer.{Answer}
use Rattle.placing.specs.declared.node.Node.{Node}
use Rattle.placing.specs.Children.{IsOutside}
use Rattle.placing.specs.Kept.{kept_at}
use Rattle.placing.specs.Nodes.{BareTrees, bare, sight_at, uses_at}

-- ---- what is kept anew

-- an answer that was kept, with its node and its question
pub record Entry : Type 0 where
  pub node : NodeId
  pub query : Query
  pub answer : Answer

-- the entries of one node, the oldest first
abbrev pub entries_of : NodeId → List Entry → List (Query × Answer)
entries_of n [] = []
entries_of n (e ∷ rest) = (if same e.node n then (e.query, e.answer) ∷ [] else []) ++ entries_of n rest

-- what is kept of these and of new ones
abbrev pub kept_with : List (Query × Answer) → List (Query × Answer) → List (Query × Answer)
kept_with old new = last_of most_kept (old ++ new)

-- each entry's question was absent where it was put, after these other entries
abbrev pub AreFresh : (NodeId → List (Query × Answer)) → List Entry → List Entry → Type 0
AreFresh kept done [] = Unit {0}
AreFresh kept done (e ∷ rest) = IsAbsent e.query (kept_with (kept e.node) (entries_of e.node done)) × AreFresh kept (done ++ e ∷ []) rest

-- ---- what is measured

-- what a leaf measures for a question
abbrev pub leaf_events : List ℕ → Ask → Query → List Event
leaf_events name ask.Inline q = Measured name Narrowest ∷ Measured name Widest ∷ []
leaf_events name ask.Block q = Measured name (At (given_size q.inline)) ∷ []
leaf_events name a q = []

-- what a node of this kind measures
abbrev pub events_by : NodeKind → List ℕ → Query → List Event
events_by kind.Grid name q = []
events_by kind.Flex name q = []
events_by (kind.Leaf content) name q = leaf_events name q.ask q

-- what a node measures for a question
abbrev pub events_at : BareTrees → NodeId → Query → List Event
events_at b n q =
    let x = (sight_at b n).label in
    events_by x.kind x.name q

-- what was measured for these entries, the oldest first
abbrev pub events_of : BareTrees → List Entry → List Event
events_of b [] = []
events_of b (e ∷ rest) = events_at b e.node e.query ++ events_of b rest

-- ---- what is asked

-- The questions that one to a node leads to: itself, and those that the questions to its children lead to.
pub data Asks (b : BareTrees) : NodeId → Query → NodeId → Query → Type 0 where
  itself : (n : NodeId) (q : Query) → Asks b n q n q
  through : (n c m : NodeId) (q r s : Query) (index : ℕ) → child_at b n index ≡ Some c → Contains (uses_at b n q) (index, r) → Asks b c r m s → Asks b n q m s

-- each entry answers a question that may be asked
abbrev pub AreAsked : (NodeId → Query → Type 0) → List Entry → Type 0
AreAsked May [] = Unit {0}
AreAsked May (e ∷ rest) = May e.node e.query × AreAsked May rest

-- ---- what a call changes

-- a count after so many more, which stands still at its last value
abbrev pub rising : ℕ → ℕ → ℕ
rising n zero = n
rising n (suc more) = one_more (rising n more)

-- all that a call changes: the arena, the two counts, the passes, and the log of the ruler, where it tells it
pub record State : Type 0 where
  pub arena : Nodes Node
  pub tally : Tally
  pub passes : ℕ
  pub log : Option (List Event)

abbrev pub state : Nodes Node → Tally → ℕ → Option (List Event) → State
state arena tally passes log = record { arena = arena; tally = tally; passes = passes; log = log }

abbrev pub bare_in : State → BareTrees
bare_in s = bare s.arena.tree

abbrev pub kept_in : State → NodeId → List (Query × Answer)
kept_in s n = kept_at s.arena.tree n

-- an arena without its tree
abbrev pub frame_of_arena : Nodes Node → Nodes Node
frame_of_arena a = record a { tree = leafless }

-- Two arenas are alike but for what nodes keep longer than their answers.
pub record IsAlike (old new : Nodes Node) : Type 0 where
  pub bare : bare new.tree ≡ bare old.tree
  pub frame : frame_of_arena new ≡ frame_of_arena old
  pub kept : (m : NodeId) → kept_at new.tree m ≡ kept_at old.tree m

-- each answer that was kept still is
abbrev pub Lasts : State → State → Type 0
Lasts old new = (m : NodeId) (q : Query) → IsSome (answer_to q (kept_in old m)) → IsSome (answer_to q (kept_in new m))

-- Answers to questions that may be asked were kept, each new where it was put, in at most four passes and with its events; so many passes and these events
-- come on top; and nothing else changed.
pub record Walk (May : NodeId → Query → Type 0) (more : ℕ) (rest : List Event) (old new : State) : Type 0 where
  pub added : List Entry
  pub bare_same : bare_in new ≡ bare_in old
  pub frame : frame_of_arena new.arena ≡ frame_of_arena old.arena
  pub kept : (m : NodeId) → kept_in new m ≡ kept_with (kept_in old m) (entries_of m added)
  pub fresh : AreFresh (kept_in old) [] added
  pub asked : AreAsked May added
  pub ticks : new.passes ≤ old.passes + 4 * length added + more
  pub counted : new.tally.added ≡ rising old.tally.added (length added)
  pub measured : new.tally.measured ≡ rising old.tally.measured (length (events_of (bare_in old) added ++ rest))
  pub log : Adds old.log new.log (events_of (bare_in old) added ++ rest)
  -- where it is not told that an answer went since its list was full, it was not told before, and none went
  pub lasting : new.tally.lost ≡ false → (old.tally.lost ≡ false) × Lasts old new

-- A question was put to a node, and answered: all that was kept answers questions that it leads to, and stands at the node and below it.
pub record Walked (n : NodeId) (q : Query) (old new : State) : Type 0 where
  pub walk : Walk (Asks (bare_in old) n q) 0 [] old new
  pub within : (m : NodeId) → IsOutside (bare_in old) n m → kept_in new m ≡ kept_in old m

-- A question was put to a node and is not answered yet: at most so many passes were made for the answer itself, and the node's own answers
-- are as before.
pub record WalkedBelow (n : NodeId) (q : Query) (more : ℕ) (old new : State) : Type 0 where
  pub walk : Walk (Asks (bare_in old) n q) more [] old new
  pub within : (m : NodeId) → IsOutside (bare_in old) n m → kept_in new m ≡ kept_in old m
  pub own : kept_in new n ≡ kept_in old n

-- events that begin what is measured for a question of which no answer is kept
pub record IsCut (b : BareTrees) (n : NodeId) (q : Query) (now : State) (rest : List Event) : Type 0 where
  pub node : NodeId
  pub query : Query
  pub left : List Event
  pub begun : rest ++ left ≡ events_at b node query
  pub asked : Asks b n q node query
  pub absent : IsAbsent query (kept_in now node)

-- A question was put to a node, and memory was wanting: passes were made, and events may have been measured, for answers that are not kept.
pub record Stopped (n : NodeId) (q : Query) (old new : State) : Type 0 where
  pub more : ℕ
  pub rest : List Event
  pub walk : Walk (Asks (bare_in old) n q) more rest old new
  pub within : (m : NodeId) → IsOutside (bare_in old) n m → kept_in new m ≡ kept_in old m
  pub cut : (rest ≡ []) ⊎ IsCut (bare_in old) n q new rest

-- What follows from a walk of the child of this index, to which a question of its parent leads, after one of the parent.
pub record IsStep (b : BareTrees) (n : NodeId) (index : ℕ) (c : NodeId) : Type 0 where
  pub below : (q r : Query) (more : ℕ) (old mid new : State) → Contains (uses_at b n q) (index, r) → bare_in mid ≡ b →
      WalkedBelow n q more old mid → Walked c r mid new → WalkedBelow n q more old new
  pub stops : (q r : Query) (more : ℕ) (old mid new : State) → Contains (uses_at b n q) (index, r) → bare_in mid ≡ b →
      WalkedBelow n q more old mid → Stopped c r mid new → Stopped n q old new

-- what follows from a walk of any child of a tree, after one of its parent
abbrev pub StepsDown : BareTrees → Type 0
StepsDown b = (n c : NodeId) (index : ℕ) → child_at b n index ≡ Some c → IsStep b n index c
