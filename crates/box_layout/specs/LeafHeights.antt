-- The block sizes that the leaves among the children of a grid keep once its frames are found (own rule).
use Rattle.std.specs.Prelude.{◌≡◌, ◌<◌, ◌⊎◌, ℕ, ℤ, true, List, [], ◌∷◌, None, Some, IsSome, Contains, drop, false}
use Rattle.layout_cache.specs.Kept.{answer_to}
use Rattle.node_arena.specs.declared.number.NodeId.{NodeId}
use Rattle.node_arena.specs.Numbers.{child_at}
use Rattle.placing.specs.Keeping.{is_leaf}
use Rattle.placing.specs.Nodes.{BareTrees, sight_at, uses_at}
use Rattle.placing.specs.Walks.{State, Stopped, Walked, kept_in}
use Rattle.placing.specs.declared.node.Frame.{Frame as NodeFrame}
use Rattle.tree_rules.specs.Answers.{Frame}
use Rattle.tree_rules.specs.AskedQueries.{block_query}
use Rattle.tree_rules.specs.Frames.{given_box}
use Rattle.tree_rules.specs.Labels.{Label}
use Rattle.tree_rules.specs.Queries.{IsGivenFor}
use Rattle.tree_rules.specs.declared.kind.NodeKind.TheVariants as kind
use Rattle.tree_rules.specs.declared.query.Query.{Query}
use Rattle.box_layout.specs.BoxesSeen.{frames_seen}
use Rattle.box_layout.specs.Paths.{IsOnPath, Passes}

-- the question for the block size at the content width of a border box of this width
abbrev pub height_asked : Label → ℤ → Query
height_asked x width = block_query false [] (given_box x.grid.columns width)

-- Each leaf among the children of a node keeps its block size at the content width of the rectangle that it has by this question for frames.
abbrev pub AreLeavesKept : BareTrees → NodeId → Query → State → Type 0
AreLeavesKept b n q s =
    (i : ℕ) (c : NodeId) (f : Frame) (rest : List Frame) → child_at b n i ≡ Some c → is_leaf (sight_at b c).label.kind ≡ true →
    drop i (frames_seen b n q) ≡ f ∷ rest
    → IsSome (answer_to (height_asked (sight_at b c).label f.rect.width) (kept_in s c))

-- Each leaf among the children of a grid that did not keep these frames before keeps its block size now.
abbrev pub MeasuresLeaves : BareTrees → NodeId → Query → State → State → Type 0
MeasuresLeaves b n q old new = (sight_at b n).label.kind ≡ kind.Grid → answer_to q (kept_in old n) ≡ None → AreLeavesKept b n q new

-- the leaves of a node and of the containers below it to which its question for frames leads keep theirs, where these are such grids
abbrev pub MeasuresBelow : BareTrees → NodeId → Query → State → State → Type 0
MeasuresBelow b n q old new = (m : NodeId) (r : Query) → Passes b n q m r → MeasuresLeaves b m r old new

-- the leaves of each container on the path of a tree in a viewport of this width and height keep theirs, where it is such a grid
abbrev pub AreMeasured : BareTrees → ℤ → ℤ → State → State → Type 0
AreMeasured b width height old new = (m : NodeId) (q : Query) → IsOnPath b width height m q → MeasuresLeaves b m q old new

-- ---- frames in the code

-- a leaf is given the content width of its rectangle, which is at least 0
pub record IsLeafGiven (b : BareTrees) (f : NodeFrame) : Type 0 where
  pub given : IsGivenFor true false 0 f.inline
  pub width : f.inline ≡ given_box (sight_at b f.child).label.grid.columns f.rect.width

-- frames of the children of a node, and what the leaves among them are given
pub record AreLeafFrames (b : BareTrees) (n : NodeId) (frames : List NodeFrame) : Type 0 where
  pub child : (i : ℕ) (f : NodeFrame) (rest : List NodeFrame) → drop i frames ≡ f ∷ rest → child_at b n i ≡ Some f.child
  pub leaf : (i : ℕ) (f : NodeFrame) (rest : List NodeFrame) → drop i frames ≡ f ∷ rest → is_leaf (sight_at b f.child).label.kind ≡ true → IsLeafGiven b f

-- a question that uses the block sizes of these leaves
abbrev pub UsesLeaves : BareTrees → NodeId → Query → List NodeFrame → Type 0
UsesLeaves b n q frames =
    (i : ℕ) (f : NodeFrame) (rest : List NodeFrame) → drop i frames ≡ f ∷ rest → is_leaf (sight_at b f.child).label.kind ≡ true →
    Contains (uses_at b n q) (i, block_query false [] f.inline)

-- the first so many of these leaves keep them
abbrev pub HoldLeaves : BareTrees → ℕ → List NodeFrame → State → Type 0
HoldLeaves b few frames s =
    (i : ℕ) (f : NodeFrame) (rest : List NodeFrame) → i < few → drop i frames ≡ f ∷ rest → is_leaf (sight_at b f.child).label.kind ≡ true →
    IsSome (answer_to (block_query false [] f.inline) (kept_in s f.child))

-- A child with this frame was asked for its block size where it is a leaf, and nothing was done where it is not.
abbrev pub IsLeafAsked : BareTrees → NodeFrame → State → State → Type 0
IsLeafAsked b f old new = (new ≡ old) ⊎ ((is_leaf (sight_at b f.child).label.kind ≡ true) × Walked f.child (block_query false [] f.inline) old new)

-- a child with this frame is a leaf, and memory was wanting when it was asked for its block size
pub record IsLeafStopped (b : BareTrees) (f : NodeFrame) (old new : State) : Type 0 where
  pub leaf : is_leaf (sight_at b f.child).label.kind ≡ true
  pub stopped : Stopped f.child (block_query false [] f.inline) old new
