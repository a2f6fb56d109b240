-- Where a node stands under the grid of which it is a subgrid (CSS Grid 2, section 9). A context depends on what is above the node by this
-- alone.
use Rattle.std.specs.Prelude.{◌≡◌, refl, ℕ, List, [], ◌∷◌, reverse, Option, Some, None}
use Rattle.lunit.specs.declared.geometry.Area.{Area}
use Rattle.tree_rules.specs.Answers.{Pair}
use Rattle.tree_rules.specs.Chains.{Link, link_to}
use Rattle.node_arena.specs.declared.number.NodeId.{NodeId}
use Rattle.placing.specs.Nodes.{BareTrees, IsLive, above_at, sight_at}
use Rattle.placing.specs.Children.{IsNext}
use Rattle.tree_rules.specs.Contexts as rules
use Rattle.tree_rules.specs.Labels.{GridStyle}
use Rattle.tree_rules.specs.Places.{Seen}
use Rattle.placing.specs.declared.contexts.Above.{Above}
use Rattle.placing.specs.declared.contexts.Above.TheVariants as above
use Rattle.placing.specs.declared.contexts.AxisContext.{AxisContext}
use Rattle.placing.specs.declared.contexts.Context.{Context}
use Rattle.placing.specs.Insides.{IsInside}

-- the contexts of the definitions
abbrev pub axis_context_of : AxisContext → rules.AxisContext
axis_context_of c = record { subgrid = c.subgrid; table = c.table; gap = c.gap; levels = c.levels }

abbrev pub context_of : Context → rules.Context
context_of c = record { columns = axis_context_of c.columns; rows = axis_context_of c.rows }

-- no grid is above, or the context of that grid and the area in it
pub data Seat : Type 0 where
  alone : Seat
  under : rules.Context → Area → Seat

-- The seat of a node with these links upwards, by the counts of the repetitions of the grids above it, the nearest first.
abbrev pub seat_of : List Link → List Pair → Seat
seat_of [] outer = alone
seat_of (link ∷ chain) outer =
    let parent = rules.context_by link.grid chain outer in
    let areas = rules.placed_children parent link.grid link.children in
    under parent (rules.area_of areas link.way)

-- the context of a grid in a seat, by the counts of its own repetitions
abbrev pub context_in : Seat → GridStyle → Pair → rules.Context
context_in alone g p = rules.top_context g p
context_in (under c a) g p = rules.lower_context c a g p

-- the seat that the code is given
abbrev pub seat_by : Above → Area → Seat
seat_by above.Nothing a = alone
seat_by (above.Grid c) a = under (context_of c) a

-- where there is a grid above, the area lies within its limits
abbrev pub IsInsideOf : Above → Area → Type 0
IsInsideOf above.Nothing a = Unit {0}
IsInsideOf (above.Grid c) a = IsInside (context_of c) a

-- It is the seat of a node that sees these counts above it, the topmost first.
pub record IsSeat (s : Seen) (reps : List Pair) (above : Above) (a : Area) : Type 0 where
  pub seat : seat_by above a ≡ seat_of s.chain (reverse reps)
  pub inside : IsInsideOf above a

-- These are the contexts of a node by the counts of the grids that it sees and its own, the topmost first.
abbrev pub context_at : Seen → List Pair → rules.Context
context_at s reps = rules.context_by s.label.grid s.chain (reverse reps)

-- a node as a subgrid of another
pub record IsSubgridOf (b : BareTrees) (n parent : NodeId) : Type 0 where
  pub way : ℕ
  pub live : IsLive b parent
  pub next : IsNext b parent way n
  pub chain : (sight_at b n).chain ≡ link_to (above_at b parent) way ∷ (sight_at b parent).chain

-- the grid of which a node is a subgrid, if there is one
abbrev pub HasGrid : BareTrees → NodeId → Option NodeId → Type 0
HasGrid b n None = (sight_at b n).chain ≡ []
HasGrid b n (Some parent) = IsSubgridOf b n parent

-- The context in the seat is the one by the chain.
pub context_by_seat : (g : GridStyle) (chain : List Link) (p : Pair) (outer : List Pair) →
    rules.context_by g chain (p ∷ outer) ≡ context_in (seat_of chain outer) g p
context_by_seat g [] p outer = refl
context_by_seat g (link ∷ chain) p outer = refl
