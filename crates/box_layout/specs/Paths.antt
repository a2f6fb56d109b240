-- What laying out a whole tree asks of its nodes, by their numbers, and what it changes (own rule).
use Rattle.std.specs.Prelude.{◌≡◌, ℕ, ◌++◌, ℤ, ◌⊎◌, true, false, List, [], ◌∷◌, Contains, None, Some, IsSome}
use Rattle.layout_cache.specs.Kept.{answer_to}
use Rattle.node_arena.specs.declared.number.NodeId.{NodeId}
use Rattle.node_arena.specs.Numbers.{child_at, top_numbers}
use Rattle.node_arena.specs.Plain.{Nodes}
use Rattle.outside.specs.declared.event.Event.{Event}
use Rattle.plain_tree.specs.Trees.{Trees}
use Rattle.placing.specs.Children.{IsOutside}
use Rattle.placing.specs.Nodes.{BareTrees, kids_at, sight_at}
use Rattle.placing.specs.Walks.{State, Walk, bare_in, events_at, kept_in, state}
use Rattle.placing.specs.declared.node.Node.{Node}
use Rattle.tree_rules.specs.AskedQueries.{ToChild, block_query, inline_query, leads_to, passes_from, root_query}
use Rattle.tree_rules.specs.Boxes.{root_inline, root_of, root_width}
use Rattle.tree_rules.specs.KeptAnswers.{IsAbsent}
use Rattle.tree_rules.specs.Labels.{Label}
use Rattle.tree_rules.specs.Queries.{is_container}
use Rattle.tree_rules.specs.declared.query.Query.{Query}

-- ---- what a question leads to

-- what a question to a node asks of its children, and, from frames, their frames, by their numbers in document order
abbrev pub leads_at : BareTrees → NodeId → Query → List ToChild
leads_at b n q =
    let s = sight_at b n in
    leads_to s.label s.chain (kids_at b n) q

-- from frames those of the children that are containers
abbrev pub passes_at : BareTrees → NodeId → Query → List ToChild
passes_at b n q =
    let s = sight_at b n in
    passes_from q.ask s.label s.chain (kids_at b n) q

-- The questions that one to a node leads to on the way of the boxes: itself, and those that the questions to its children lead to.
pub data Leads (b : BareTrees) : NodeId → Query → NodeId → Query → Type 0 where
  itself : (n : NodeId) (q : Query) → Leads b n q n q
  through : (n c m : NodeId) (q r s : Query) (index : ℕ) → child_at b n index ≡ Some c → Contains (leads_at b n q) (index, r) → Leads b c r m s →
      Leads b n q m s

-- The questions for frames that one for frames leads to: itself, and those of the containers below.
pub data Passes (b : BareTrees) : NodeId → Query → NodeId → Query → Type 0 where
  its_own : (n : NodeId) (q : Query) → Passes b n q n q
  on : (n c m : NodeId) (q r s : Query) (index : ℕ) → child_at b n index ≡ Some c → Contains (passes_at b n q) (index, r) → Passes b c r m s → Passes b n q m s

-- ---- the questions to the root

-- for its inline sizes, for its block size at its width, and for its frames
abbrev pub first_asked : ℤ → ℤ → Label → Trees Label → List ToChild
first_asked width height x below =
    let r = root_of x below in
    (0, inline_query false []) ∷ (0, block_query false [] (root_inline r (root_width width r))) ∷ root_query width height x below

-- A question that laying out a tree in a viewport of this width and height may ask: one of those to the root, or one to which such a one leads.
pub record IsAsked (b : BareTrees) (width height : ℤ) (m : NodeId) (q : Query) : Type 0 where
  pub root : NodeId
  pub top : top_numbers b ≡ root ∷ []
  pub first : Query
  pub own : Contains (first_asked width height (sight_at b root).label (sight_at b root).below) (0, first)
  pub leads : Leads b root first m q

-- A question on the path: for each container the one for its frames, with what the boxes of the tree give it.
pub record IsOnPath (b : BareTrees) (width height : ℤ) (m : NodeId) (q : Query) : Type 0 where
  pub root : NodeId
  pub top : top_numbers b ≡ root ∷ []
  pub first : Query
  pub own : Contains (root_query width height (sight_at b root).label (sight_at b root).below) (0, first)
  pub passes : Passes b root first m q

-- ---- what is kept

-- what is kept in an arena alone
abbrev pub kept_state : Nodes Node → State
kept_state arena = state arena (record { measured = 0; added = 0; lost = false }) 0 None

-- each container's list holds its question of the path
abbrev pub IsPathKept : BareTrees → ℤ → ℤ → State → Type 0
IsPathKept b width height s = (m : NodeId) (q : Query) → IsOnPath b width height m q → IsSome (answer_to q (kept_in s m))

-- each container keeps its question of the path, and the root keeps its own inline sizes and its block size
pub record IsAllKept (b : BareTrees) (width height : ℤ) (s : State) : Type 0 where
  pub inline : (root : NodeId) → top_numbers b ≡ root ∷ [] → IsSome (answer_to (inline_query false []) (kept_in s root))
  pub block : (root : NodeId) → top_numbers b ≡ root ∷ [] →
      IsSome
      (answer_to
      (block_query false []
      (root_inline (root_of (sight_at b root).label (sight_at b root).below)
      (root_width width (root_of (sight_at b root).label (sight_at b root).below)))) (kept_in s root))
  pub path : IsPathKept b width height s

-- the lists of a node and of the containers below it hold the questions that this one for frames leads to
abbrev pub AreKeptBelow : BareTrees → NodeId → Query → State → Type 0
AreKeptBelow b n q s = (m : NodeId) (r : Query) → Passes b n q m r → IsSome (answer_to r (kept_in s m))

-- ---- what is changed

-- events that begin what is measured for a question that may be asked and of which no answer is kept
pub record IsCutOff (b : BareTrees) (May : NodeId → Query → Type 0) (now : State) (rest : List Event) : Type 0 where
  pub node : NodeId
  pub query : Query
  pub left : List Event
  pub begun : rest ++ left ≡ events_at b node query
  pub asked : May node query
  pub absent : IsAbsent query (kept_in now node)

-- Memory was wanting while the tree was laid out: passes were made, and events may have been measured, for answers that are not kept.
pub record IsCutShort (b : BareTrees) (width height : ℤ) (old new : State) : Type 0 where
  pub more : ℕ
  pub rest : List Event
  pub walk : Walk (IsAsked b width height) more rest old new
  pub cut : (rest ≡ []) ⊎ IsCutOff b (IsAsked b width height) new rest

-- The boxes below a node were found: all that was kept answers questions that its question leads to, and stands at the node and below it.
pub record IsLaidOut (n : NodeId) (q : Query) (old new : State) : Type 0 where
  pub walk : Walk (Leads (bare_in old) n q) 0 [] old new
  pub within : (m : NodeId) → IsOutside (bare_in old) n m → kept_in new m ≡ kept_in old m

-- Memory was wanting while the boxes below a node were found: all that was kept answers questions that its question leads to, and stands at
-- the node and below it.
pub record IsLaidPart (n : NodeId) (q : Query) (old new : State) : Type 0 where
  pub more : ℕ
  pub rest : List Event
  pub walk : Walk (Leads (bare_in old) n q) more rest old new
  pub within : (m : NodeId) → IsOutside (bare_in old) n m → kept_in new m ≡ kept_in old m
  pub cut : (rest ≡ []) ⊎ IsCutOff (bare_in old) (Leads (bare_in old) n q) new rest

-- the boxes of a child and of all below it were found, where nothing is asked of a leaf
abbrev pub IsChildLaid : BareTrees → NodeId → Query → State → State → Type 0
IsChildLaid b c r old new = (new ≡ old) ⊎ ((is_container (sight_at b c).label.kind ≡ true) × IsLaidOut c r old new)

-- memory was wanting while the boxes of a child and of all below it were found, or nothing was asked
abbrev pub IsChildPart : BareTrees → NodeId → Query → State → State → Type 0
IsChildPart b c r old new = (new ≡ old) ⊎ ((is_container (sight_at b c).label.kind ≡ true) × IsLaidPart c r old new)
