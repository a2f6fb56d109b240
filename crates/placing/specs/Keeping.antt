-- What a call that keeps one answer does, and one that measures a leaf (own rule).
use Rattle.std.specs.Prelude.{◌≡◌, ◌≤◌, ◌<◌, ◌&&◌, ◌||◌, ℕ, Bool, true, false, List, [], ◌∷◌, ◌++◌, ◌⊎◌, Option, Some, None, length, map, take, if◌then◌else◌}
use Rattle.node_arena.specs.declared.number.NodeId.{NodeId}
use Rattle.node_arena.specs.Numbers.{EachNode, IsNumbered, value_at}
use Rattle.node_arena.specs.Plain.{Nodes, with_value}
use Rattle.outside.specs.Told.{Adds}
use Rattle.outside.specs.declared.event.Event.{Event}
use Rattle.outside.specs.declared.tally.Tally.{Tally}
use Rattle.tree_rules.specs.declared.kind.NodeKind.{NodeKind}
use Rattle.tree_rules.specs.declared.kind.NodeKind.TheVariants as kind
use Rattle.tree_rules.specs.declared.query.Query.{Query}
use Rattle.placing.specs.declared.node.Answer.{Answer}
use Rattle.placing.specs.declared.node.Node.{Node}
use Rattle.placing.specs.declared.wide.GridBase.{GridBase}
use Rattle.placing.specs.Kept.{kept_at, past_at, turn_at}
use Rattle.placing.specs.Told.{last_turn, next_turn, no_past}
use Rattle.placing.specs.declared.told.Past.{Past}
use Rattle.placing.specs.Nodes.{NodeTrees, bare, children_at, sight_at}
use Rattle.placing.specs.Walks.{kept_with, rising}
use Rattle.tree_rules.specs.Chains.{Sibling, has_subgrid, is_grid_kind, siblings_of}
use Rattle.tree_rules.specs.Labels.{GridAxis, GridStyle, grid_of, plain_axis, plain_grid}

-- a leaf
abbrev pub is_leaf : NodeKind → Bool
is_leaf kind.Grid = false
is_leaf kind.Flex = false
is_leaf (kind.Leaf content) = true

-- a node that keeps one answer more
abbrev pub with_answer : Query → Answer → Node → Node
with_answer q a v = record v { kept = kept_with v.kept ((q, a) ∷ []) }

-- a node keeps one answer more, and nothing else changed
pub record Keeps (old new : Nodes Node) (n : NodeId) (q : Query) (a : Answer) : Type 0 where
  pub value : Node
  pub there : Some value ≡ value_at old.tree n
  pub numbered : IsNumbered old.tree
  pub new_is : new ≡ with_value n (with_answer q a value) old

-- what a node keeps longer than its answers, with one context and its areas more, and of the others the newest
abbrev pub with_base : GridBase → Past → Past
with_base base p = record p { bases = base ∷ take 1 p.bases }

-- a node that keeps this longer than its answers
abbrev pub with_past : Past → Node → Node
with_past p v = record v { past = p }

-- a node keeps this longer than its answers, and nothing else changed
pub record ChangesPast (old new : Nodes Node) (n : NodeId) (p : Past) : Type 0 where
  pub value : Node
  pub there : Some value ≡ value_at old.tree n
  pub numbered : IsNumbered old.tree
  pub new_is : new ≡ with_value n (with_past p value) old

-- these events were measured, counted and logged
pub record Counts (old new : Tally) (before after : Option (List Event)) (events : List Event) : Type 0 where
  pub added : new.added ≡ old.added
  pub lost : new.lost ≡ old.lost
  pub measured : new.measured ≡ rising old.measured (length events)
  pub log : Adds before after events

-- all these events were measured, or an error came after some of them
pub record CountsSome (old new : Tally) (before after : Option (List Event)) (events : List Event) : Type 0 where
  pub done : List Event
  pub left : List Event
  pub whole : done ++ left ≡ events
  pub counts : Counts old new before after done

-- ---- laws

-- a node whose answers went
abbrev pub without_answers : Node → Node
without_answers v = record v { kept = []; turn = next_turn v.turn }

-- a node that keeps nothing longer than its answers
abbrev pub without_past : Node → Node
without_past v = record v { past = no_past }

-- a grid container with `subgrid` as a template, whatever its parent is
abbrev pub is_subgrid_node : Node → Bool
is_subgrid_node v = is_grid_kind v.kind && has_subgrid (grid_of v.style)

-- a node that keeps nothing longer than its answers: any node, or only one that may be a subgrid
abbrev pub without_past_of : Bool → Node → Node
without_past_of all v = if all || is_subgrid_node v then without_past v else v

-- whether that goes from a node
abbrev pub goes_from : Bool → Option Node → Bool
goes_from all None = all
goes_from all (Some v) = all || is_subgrid_node v

-- whether it goes from the node of a number
unfoldable pub goes_at : Bool → NodeTrees → NodeId → Bool
goes_at all t n = goes_from all (value_at t n)

-- no node keeps anything longer than its answers
abbrev pub HoldsNone : NodeTrees → Type 0
HoldsNone t = EachNode (λ x. x.1.past ≡ no_past) t

-- no node keeps an answer
abbrev pub KeepsNone : NodeTrees → Type 0
KeepsNone t = EachNode (λ x. x.1.kept ≡ []) t

-- a node of the new tree keeps what it kept in the old one, in which the rules saw the same of it and it had the same children
pub record KeepsSame (old new : NodeTrees) (n : NodeId) : Type 0 where
  pub kept : kept_at new n ≡ kept_at old n
  pub sight : sight_at (bare new) n ≡ sight_at (bare old) n
  pub children : children_at (bare new) n ≡ children_at (bare old) n

-- it does, or it keeps nothing
abbrev pub KeepsOn : NodeTrees → NodeTrees → NodeId → Type 0
KeepsOn old new n = (kept_at new n ≡ []) ⊎ KeepsSame old new n

-- What areas depend on of a child along an axis: its lines, and its template, by which a subgrid spans so many tracks (CSS Grid 2, 8.3 and section 9).
abbrev pub lines_of : GridAxis → GridAxis
lines_of g = record plain_axis { template = g.template; start_line = g.start_line; end_line = g.end_line }

-- what areas depend on of the grid-class values of a child
abbrev pub standing_by : GridStyle → GridStyle
standing_by g = record plain_grid { columns = lines_of g.columns; rows = lines_of g.rows; order = g.order }

-- What the areas of a grid depend on of a child: whether it is a grid, its lines, its templates and its place in the order; all else is left out.
abbrev pub standing_of : Sibling → Sibling
standing_of s = record { name = []; is_grid = s.is_grid; grid = standing_by s.grid }

-- A node of the new tree keeps longer than its answers what it so kept in the old one, in which its values, its chain and its children were the same, and what
-- areas depend on of these.
pub record HoldsSame (old new : NodeTrees) (n : NodeId) : Type 0 where
  pub past : past_at new n ≡ past_at old n
  pub label : (sight_at (bare new) n).label ≡ (sight_at (bare old) n).label
  pub chain : (sight_at (bare new) n).chain ≡ (sight_at (bare old) n).chain
  pub siblings : map standing_of (siblings_of (sight_at (bare new) n).below) ≡ map standing_of (siblings_of (sight_at (bare old) n).below)
  pub children : children_at (bare new) n ≡ children_at (bare old) n

-- it does, or it so keeps nothing
abbrev pub HoldsOn : NodeTrees → NodeTrees → NodeId → Type 0
HoldsOn old new n = (past_at new n ≡ no_past) ⊎ HoldsSame old new n

-- A node has no earlier turn in the new tree than in the old one, and where it has the same, which is not the last one, the rules see the same of it.
pub record IsTurned (old new : NodeTrees) (n : NodeId) : Type 0 where
  pub later : turn_at old n ≤ turn_at new n
  pub same : turn_at new n ≡ turn_at old n → turn_at new n < last_turn → sight_at (bare new) n ≡ sight_at (bare old) n

-- A turn that came later than another, or is the last one.
pub record HasGone (before after : ℕ) : Type 0 where
  pub later : before ≤ after
  pub last : after ≡ before → last_turn ≤ after

-- The turn of a node after the answers of some nodes went, and its own where it is one of them.
abbrev pub HasTurn : Bool → ℕ → ℕ → Type 0
HasTurn false before after = after ≡ before
HasTurn true before after = HasGone before after
