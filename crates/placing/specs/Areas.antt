-- The areas of the children of a node in a context, as the code tells them (CSS Grid 2, 8.5).
use Rattle.std.specs.Prelude.{◌≡◌, ℕ, ℤ, List, [], ◌∷◌, map, Option, Some, if◌then◌else◌}
use Rattle.lunit.specs.declared.geometry.Area.{Area}
use Rattle.node_arena.specs.declared.number.NodeId.{NodeId}
use Rattle.node_arena.specs.Numbers.{child_at, same}
use Rattle.part_rules.specs.Lists.{zipped}
use Rattle.part_rules.specs.Placement.{no_area}
use Rattle.tree_rules.specs.Answers.{Kid}
use Rattle.tree_rules.specs.Chains.{Sibling, sibling_of}
use Rattle.tree_rules.specs.Contexts as rules
use Rattle.tree_rules.specs.GridSizes.{Entry, entry_of}
use Rattle.tree_rules.specs.Orders.{in_order}
use Rattle.placing.specs.declared.contexts.Placed.{Placed}
use Rattle.placing.specs.declared.items.ChildArea.{ChildArea}
use Rattle.placing.specs.Insides.{AreInside}
use Rattle.placing.specs.Nodes.{BareTrees, kid_at, kids_at, sight_at}
use Rattle.placing.specs.Order.{numbers_in_order}

-- a child's number in document order and its area
abbrev pub numbered_area : ℕ → NodeId × Area → ℕ × Area
numbered_area n e = (n, e.1)

-- the areas of the definitions
abbrev pub placed_of : Placed → rules.Placed
placed_of p = record { areas = zipped numbered_area p.numbers p.areas; columns = p.columns; rows = p.rows }

-- what a grid sees of its children
abbrev pub siblings_at : BareTrees → NodeId → List Sibling
siblings_at b n = map (λ (k : Kid). sibling_of k.label) (kids_at b n)

-- their values of `order`
abbrev pub orders_at : BareTrees → NodeId → List ℤ
orders_at b n = map (λ (k : Kid). k.label.grid.order) (kids_at b n)

-- the areas of the children of a node in a context
abbrev pub placed_at : BareTrees → NodeId → rules.Context → rules.Placed
placed_at b n c = rules.placed_children c (sight_at b n).label.grid (siblings_at b n)

abbrev pub child_in : NodeId × Area → Option NodeId
child_in e = Some e.0

-- They are of the children of a node, each with its number, in order-modified document order.
pub record HasChildren (b : BareTrees) (n : NodeId) (p : Placed) : Type 0 where
  pub numbers : p.numbers ≡ numbers_in_order (orders_at b n)
  pub children : map (child_at b n) p.numbers ≡ map child_in p.areas

-- These are the areas of the children of a node in a context: the defined ones, each with its child, and each within the limits of the context.
pub record IsPlaced (b : BareTrees) (n : NodeId) (c : rules.Context) (p : Placed) : Type 0 where
  pub placed : placed_of p ≡ placed_at b n c
  pub children : HasChildren b n p
  pub inside : AreInside c (map (λ (e : NodeId × Area). e.1) p.areas)

-- the children of a node in these areas, in order-modified document order
abbrev pub entries_at : BareTrees → NodeId → Placed → List Entry
entries_at b n p = zipped entry_of (in_order (λ (k : Kid). k.label.grid.order) (kids_at b n)) (placed_of p).areas

-- a child in its area, as the code tells it
abbrev pub entry_by : BareTrees → ChildArea → Entry
entry_by b i = record { number = i.number; kid = kid_at b i.child; area = i.area }

-- the area of a child, by its number as a node
abbrev pub found_area : NodeId → List (NodeId × Area) → Area
found_area id [] = no_area
found_area id (e ∷ rest) = if same e.0 id then e.1 else found_area id rest
