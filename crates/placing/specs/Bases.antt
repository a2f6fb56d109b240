-- The contexts of a grid with the areas of its children that a node keeps (own rule).
use Rattle.std.specs.Prelude.{◌≡◌, ◌+◌, ◌==◌, ◌&&◌, Bool, List, [], ◌∷◌, ◌++◌, Option, None, Some, length, if◌then◌else◌}
use Rattle.node_arena.specs.declared.number.NodeId.{NodeId}
use Rattle.tree_rules.specs.Answers.{Pair}
use Rattle.tree_rules.specs.Places.{Seen}
use Rattle.tree_rules.specs.Queries.{same_items}
use Rattle.placing.specs.declared.wide.GridBase.{GridBase}
use Rattle.placing.specs.Seats.{context_at}
use Rattle.placing.specs.Wides.{HoldsAreas, IsAbove}

-- one, or none
abbrev pub listed : Option GridBase → List GridBase
listed None = []
listed (Some base) = base ∷ []

-- two lists hold the same counts
abbrev pub same_pairs : List Pair → List Pair → Bool
same_pairs xs ys = same_items (λ (x : Pair) (y : Pair). (x.0 == y.0) && (x.1 == y.1)) xs ys

-- the first with these counts
abbrev pub base_with : List Pair → List GridBase → Option GridBase
base_with pairs [] = None
base_with pairs (base ∷ rest) = if same_pairs base.pairs pairs then Some base else base_with pairs rest

-- It is of a node of which the rules see this and which has these children: its context and their areas, by its counts, of which its own stand last.
pub record HoldsPlaces (s : Seen) (kids : List NodeId) (base : GridBase) : Type 0 where
  pub outer : List Pair
  pub pairs : base.pairs ≡ outer ++ base.pair ∷ []
  pub counts : length base.pairs ≡ length s.chain + 1
  pub context : IsAbove (context_at s base.pairs) base.above
  pub placed : HoldsAreas s kids (context_at s base.pairs) base.placed

-- each of these is of a node of which the rules see this and which has these children
abbrev pub AreOf : Seen → List NodeId → List GridBase → Type 0
AreOf s kids [] = Unit {0}
AreOf s kids (base ∷ rest) = HoldsPlaces s kids base × AreOf s kids rest
