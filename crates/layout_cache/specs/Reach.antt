-- Which nodes an edit reaches (own rule): a touched node and every node above it; and where the edit is felt by subgrids, each node that is joined to a
-- touched node above it by subgrids alone.
use Rattle.std.specs.Prelude.{◌≡◌, ℕ, zero, suc, ◌+◌, Bool, false, ◌&&◌, ◌||◌, List, [], ◌∷◌, ◌++◌, Option, Some, None, if◌then◌else◌}
use Rattle.plain_tree.specs.Trees.{Trees, leafless, tree}
use Rattle.node_arena.specs.declared.number.NodeId.{NodeId}
use Rattle.node_arena.specs.Numbers.{same, mapped, is_among, one, way_up, below_at}
use Rattle.node_arena.specs.Plain.{Nodes}

-- a number on the way up from one of these
abbrev pub is_above : {A : Type 0} → Trees (NodeId × A) → List NodeId → NodeId → Bool
is_above t [] n = false
is_above t (m ∷ ms) n = is_among n (way_up t m) || is_above t ms n

module _ {A : Type 0} (subgrid : A → Bool) (touched above : NodeId → Bool) (grid : Bool) where
  -- The numbers of the reached nodes in document order. `felt` says that the node above is touched, where the edit is felt by subgrids, or is joined so to one
  -- that is. Below a node that is not reached none is.
  abbrev pub reached : Bool → Trees (NodeId × A) → List NodeId
  reached felt leafless = []
  reached felt (tree x below after) =
      (if above x.0 || (felt && subgrid x.1) then x.0 ∷ reached ((grid && touched x.0) || (felt && subgrid x.1)) below else []) ++ reached felt after

-- all that an edit reaches
abbrev pub reached_by : {A : Type 0} → (A → Bool) → Trees (NodeId × A) → List NodeId → Bool → List NodeId
reached_by subgrid t touched grid = reached subgrid (λ n. is_among n touched) (is_above t touched) grid false t

-- only this node is touched, and subgrids do not feel the edit
pub record IsLone (touched : List NodeId) (grid : Bool) (id : NodeId) : Type 0 where
  pub only : touched ≡ id ∷ []
  pub calm : grid ≡ false

-- the trees of a list from an index on
abbrev pub from_tree : {A : Type 0} → ℕ → Trees A → Trees A
from_tree zero t = t
from_tree (suc index) leafless = leafless
from_tree (suc index) (tree x below after) = from_tree index after

-- the child of an index, before those after it
pub record NextChild {A : Type 0} (subgrid : A → Bool) (t : Trees (NodeId × A)) (n : NodeId) (index : ℕ) (c : NodeId) (is_sub : Bool) : Type 0 where
  pub value : A
  pub next : from_tree index (below_at t n) ≡ tree (c, value) (below_at t c) (from_tree (index + 1) (below_at t n))
  pub is : subgrid value ≡ is_sub

-- whether there is a value, and it is a subgrid
abbrev pub subgrid_by : {A : Type 0} → (A → Bool) → Option A → Bool
subgrid_by subgrid None = false
subgrid_by subgrid (Some v) = subgrid v

-- the child of an index, and whether it is joined to a node above it, as its parent is or is not
pub record JoinedChild {A : Type 0} (subgrid : A → Bool) (t : Trees (NodeId × A)) (n : NodeId) (index : ℕ) (felt : Bool) (c : NodeId) (joined : Bool) : Type
    0 where
  pub is_sub : Bool
  pub child : NextChild subgrid t n index c is_sub
  pub is : joined ≡ (felt && is_sub)

-- the tree with a value under a number as it is once its kept answers are gone
abbrev pub forgot : {A : Type 0} → (A → A) → NodeId → Trees (NodeId × A) → Trees (NodeId × A)
forgot f n = mapped (λ k v. if same k n then f v else v)

-- the tree once the kept answers of each of these numbers are gone, one number after another
abbrev pub forgets : {A : Type 0} → (A → A) → List NodeId → Trees (NodeId × A) → Trees (NodeId × A)
forgets f [] t = t
forgets f (n ∷ ns) t = forgets f ns (forgot f n t)

-- an arena where these have forgotten, and nothing else changed
abbrev pub all_forgot : {A : Type 0} → (A → A) → List NodeId → Nodes A → Nodes A
all_forgot f ns arena = record arena { tree = forgets f ns arena.tree }

-- how often a number stands in a list
abbrev pub occurs : NodeId → List NodeId → ℕ
occurs n [] = 0
occurs n (m ∷ ms) = one (same m n) + occurs n ms
