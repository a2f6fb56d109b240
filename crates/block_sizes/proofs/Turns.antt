-- One turn of the walk: what the code asks of a child, in the middle of a walk of its parent.
use Rattle.std.proofs.Common.{◌≡◌, ◌∙◌, ℕ, ℤ, false, ◌+◌, ◌∷◌, [], List, Some, drop, subst, sym}
use Rattle.std.specs.Prelude.{Contains}
use Rattle.node_arena.specs.Numbers.{child_at}
use Rattle.node_arena.specs.declared.number.NodeId.{NodeId}
use Rattle.part_rules.specs.declared.view.View.{View}
use Rattle.placing.proofs.Walks.{stopped, walked_none}
use Rattle.placing.specs.Areas.{entries_at, entry_by}
use Rattle.placing.specs.Kept.{IsRight}
use Rattle.placing.specs.Nodes.{BareTrees, sight_at, uses_at}
use Rattle.placing.specs.Walks.{State, StepsDown, Stopped, Walked, WalkedBelow, bare_in}
use Rattle.placing.specs.declared.items.ChildArea.{ChildArea}
use Rattle.placing.specs.declared.wide.GridBase.{GridBase}
use Rattle.placing.specs.declared.wide.GridParts.{GridParts}
use Rattle.tree_rules.specs.Answers.{Pair}
use Rattle.tree_rules.specs.AskedQueries.{block_query}
use Rattle.tree_rules.specs.FlexSizes as rules
use Rattle.tree_rules.specs.Frames.{given_box}
use Rattle.tree_rules.specs.Labels.{GridStyle}
use Rattle.tree_rules.specs.declared.query.Given.{Given}
use Rattle.tree_rules.specs.declared.query.Query.{Query}
use Rattle.inline_sizes.specs.Flexes.{member_of}
use Rattle.inline_sizes.specs.Grids.{IsGrid}
use Rattle.placing.specs.declared.lined.Member.{Member}
use Rattle.block_sizes.proofs.AskMembers.{width_is, IsAsked}
use Rattle.block_sizes.proofs.Widths.{IsTurn, below_then, stops_then, turn_read}
use Rattle.block_sizes.specs.Settling.{LeadsTo}
use Rattle.block_sizes.specs.Wides.{LeadsDown, asked_of, columns_seen, wide_in}

-- a walk that stops before it asks anything
pub stops_at_once : (n : NodeId) (s : State) (Leads : Query → Type 0) → IsRight s.arena.tree → (q : Query) → Leads q → Stopped n q s s
stops_at_once n s Leads right q leads = stopped n q 0 s s (walked_none n q s right)

-- a child of a grid, at this place in the order of the areas
module _ (b d : BareTrees) (is : d ≡ b) (n : NodeId) (outer : List Pair) (width : Given) (parts : GridParts) (grid : IsGrid b n outer width parts) (steps : StepsDown b) (read : GridBase) (same : read ≡ parts.base) (view : View 0) (v : view ≡ columns_seen b n outer width)
    (e : ChildArea) (sizes : ℤ × ℤ) (k : ℕ)
    (next : drop k (entries_at d n parts.base.placed) ≡ entry_by d e ∷ drop (k + 1) (entries_at d n parts.base.placed)) (there : drop k parts.inlines ≡ sizes ∷ drop (k + 1) parts.inlines) (number : child_at d n e.number ≡ Some e.child)
    (old mid new : State) (here : bare_in mid ≡ d) (before : (q : Query) → LeadsDown b n outer width q → WalkedBelow n q 0 old mid) where
  turn : IsTurn b d n outer width read view e sizes k
  turn = turn_read b d is n outer width parts read same view e sizes k grid v next there number

  pub turn_below : Walked e.child (asked_of d read e (wide_in d n read view e sizes).inline) mid new → (q : Query) → LeadsDown b n outer width q → WalkedBelow n q 0 old new
  turn_below x q leads = below_then b d is n outer width turn.wide e.child _ k turn.next turn.asked steps turn.number q leads old mid new here (before q leads) x

  -- where the walk of the child stops
  pub turn_stops : Stopped e.child (asked_of d read e (wide_in d n read view e sizes).inline) mid new → (q : Query) → LeadsDown b n outer width q → Stopped n q old new
  turn_stops x q leads = stops_then b d is n outer width turn.wide e.child _ k turn.next turn.asked steps turn.number q leads old mid new here (before q leads) x

  -- where it stops after that
  pub turn_ends : Walked e.child (asked_of d read e (wide_in d n read view e sizes).inline) mid new → (q : Query) → LeadsDown b n outer width q → Stopped n q old new
  turn_ends x q leads = stopped n q 0 old new (turn_below x q leads)

-- a child of a flex container
module _ (b d : BareTrees) (same : d ≡ b) (n : NodeId) (boxes : List ℤ) (k : ℕ) (m : Member) (x : ℤ) (turn : IsAsked b d n boxes k m x) (steps : StepsDown b) (style : GridStyle) (w : Given) (own : style ≡ (sight_at d m.child).label.grid) (value : w ≡ given_box style.columns x)
    (old mid new : State) (here : bare_in mid ≡ d) (before : (q : Query) → LeadsTo b n boxes q → WalkedBelow n q 0 old mid) where
  uses : (q : Query) → LeadsTo b n boxes q → Contains (uses_at b n q) (m.number, block_query false [] w)
  uses q leads =
      subst (λ (v : Given). Contains (uses_at b n q) (m.number, block_query false [] v)) (sym (width_is b d m x style w same own value)) (leads k (rules.settled_at (member_of b m) x) turn.next)

  pub member_below : Walked m.child (block_query false [] w) mid new → (q : Query) → LeadsTo b n boxes q → WalkedBelow n q 0 old new
  member_below y q leads = (steps n m.child m.number turn.number).below q (block_query false [] w) 0 old mid new (uses q leads) (here ∙ same) (before q leads) y

  pub member_stops : Stopped m.child (block_query false [] w) mid new → (q : Query) → LeadsTo b n boxes q → Stopped n q old new
  member_stops y q leads = (steps n m.child m.number turn.number).stops q (block_query false [] w) 0 old mid new (uses q leads) (here ∙ same) (before q leads) y

  pub member_ends : Walked m.child (block_query false [] w) mid new → (q : Query) → LeadsTo b n boxes q → Stopped n q old new
  member_ends y q leads = stopped n q 0 old new (member_below y q leads)
