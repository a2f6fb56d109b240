-- The answers that the nodes of an arena keep, and when they are right (own rule).
use Rattle.std.specs.Prelude.{◌≡◌, ℕ, List, [], map, Option, Some, None}
use Rattle.node_arena.specs.declared.number.NodeId.{NodeId}
use Rattle.node_arena.specs.Numbers.{value_at}
use Rattle.tree_rules.specs.declared.query.Query.{Query}
use Rattle.tree_rules.specs.Answers as rules
use Rattle.tree_rules.specs.KeptAnswers.{AreRight, EachPair}
use Rattle.tree_rules.specs.Frames.{given_size}
use Rattle.tree_rules.specs.Places.{Seen}
use Rattle.tree_rules.specs.Queries as queries
use Rattle.placing.specs.declared.node.Answer.{Answer}
use Rattle.placing.specs.declared.node.Answer.TheVariants.{Sizes, Lent, Block, Laid, Row, Column, Frames}
use Rattle.placing.specs.declared.node.Frame.{Frame}
use Rattle.placing.specs.declared.node.Node.{Node}
use Rattle.placing.specs.Lined.{HoldsColumn, HoldsRow}
use Rattle.placing.specs.Nodes.{NodeTrees, bare, children_at, sight_at}
use Rattle.placing.specs.Wides.{HoldsWide}
use Rattle.placing.specs.Told.{HoldsPast, no_past}
use Rattle.placing.specs.declared.told.Past.{Past}
use Rattle.placing.specs.declared.wide.GridBase.{GridBase}

-- a frame without the number of its child
abbrev pub frame_of : Frame → rules.Frame
frame_of f = record { rect = f.rect; inline = f.inline; block = f.block }

-- the answer of the definitions
abbrev pub plain_answer : Answer → queries.Answer
plain_answer (Sizes low high) = queries.inline_sizes (low, high)
plain_answer (Lent items) = queries.lent_items items
plain_answer (Block size) = queries.block_size size
plain_answer (Laid size wide) = queries.block_size size
plain_answer (Row size row) = queries.block_size size
plain_answer (Column size column) = queries.block_size size
plain_answer (Frames frames) = queries.child_frames (map frame_of frames)

-- What an answer to a question holds besides is of a node of which the rules see this and which has these children: frames are those of the
-- children, in order, a grid in its columns is the one by the counts and the width of the question, and a row or a column is the one of that width.
abbrev pub IsOfNode : Seen → List NodeId → Query → Answer → Type 0
IsOfNode s children q (Sizes low high) = Unit {0}
IsOfNode s children q (Lent items) = Unit {0}
IsOfNode s children q (Block size) = Unit {0}
IsOfNode s children q (Laid size wide) = HoldsWide s children q.reps q.inline wide
IsOfNode s children q (Row size row) = HoldsRow s children (given_size q.inline) row
IsOfNode s children q (Column size column) = HoldsColumn s children (given_size q.inline) column
IsOfNode s children q (Frames frames) = map (λ (f : Frame). f.child) frames ≡ children

abbrev pub kept_of : Option Node → List (Query × Answer)
kept_of None = []
kept_of (Some v) = v.kept

-- the answers that the node of a number keeps, the newest last
unfoldable pub kept_at : NodeTrees → NodeId → List (Query × Answer)
kept_at t n = kept_of (value_at t n)

abbrev pub past_of : Option Node → Past
past_of None = no_past
past_of (Some v) = v.past

-- what the node of a number keeps longer than its answers
unfoldable pub past_at : NodeTrees → NodeId → Past
past_at t n = past_of (value_at t n)

-- the contexts with the areas of its children that it keeps, the newest first
abbrev pub bases_at : NodeTrees → NodeId → List GridBase
bases_at t n = (past_at t n).bases

abbrev pub turn_of : Option Node → ℕ
turn_of None = 0
turn_of (Some v) = v.turn

-- the turn of the node of a number, 0 where there is none
unfoldable pub turn_at : NodeTrees → NodeId → ℕ
turn_at t n = turn_of (value_at t n)

-- Every kept answer is right: no list has a question twice, each question fits its node, each answer is the defined one, and what it holds
-- besides is of its node, as is all that is kept longer.
pub record IsRight (t : NodeTrees) : Type 0 where
  pub lists : (n : NodeId) → AreRight (sight_at (bare t) n) plain_answer (kept_at t n)
  pub children : (n : NodeId) → EachPair (IsOfNode (sight_at (bare t) n) (children_at (bare t) n)) (kept_at t n)
  pub past : (n : NodeId) → HoldsPast (bare t) (turn_at t) n (past_at t n)
