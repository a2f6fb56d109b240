-- A change of a tree of nodes, as each node sees it (own rule). The nodes that it touches are told by a test; `grid` says whether it is felt by subgrids.
use Rattle.std.specs.Prelude.{◌≡◌, ◌⊎◌, ℕ, zero, suc, Bool, true, false, ◌&&◌, [], map, Some}
use Rattle.node_arena.specs.declared.number.NodeId.{NodeId}
use Rattle.node_arena.specs.Numbers.{child_at}
use Rattle.tree_rules.specs.Chains.{has_subgrid, is_grid_kind, sibling_of, siblings_of}
use Rattle.tree_rules.specs.Labels.{Label}
use Rattle.placing.specs.Children.{IsParent, IsTree}
use Rattle.placing.specs.Keeping.{standing_of}
use Rattle.placing.specs.Nodes.{BareTrees, IsLive, children_at, sight_at}

-- a grid with `subgrid` as a template, whatever its parent is
abbrev pub is_sub : Label → Bool
is_sub x = is_grid_kind x.kind && has_subgrid x.grid

-- it is the root, or has a parent
abbrev pub HasUpper : NodeId → BareTrees → NodeId → Type 0
HasUpper root b n = (n ≡ root) ⊎ ((parent : NodeId) × IsParent b n parent)

-- a tree with this root, in which every other node has one parent
pub record IsRooted (root : NodeId) (b : BareTrees) : Type 0 where
  pub chain : (sight_at b root).chain ≡ []
  pub tree : IsTree b
  pub upper : (n : NodeId) → IsLive b n → HasUpper root b n
  pub top : (p : NodeId) (i : ℕ) → child_at b p i ≡ Some root → ⊥
  pub one : (p q n : NodeId) (i j : ℕ) → child_at b p i ≡ Some n → child_at b q j ≡ Some n → p ≡ q

-- what chains show of a node and of its children is the same, and so are the children
pub record ShowsSame (b u : BareTrees) (n : NodeId) : Type 0 where
  pub live : IsLive b n
  pub own : sibling_of (sight_at u n).label ≡ sibling_of (sight_at b n).label
  pub children : children_at u n ≡ children_at b n
  pub siblings : siblings_of (sight_at u n).below ≡ siblings_of (sight_at b n).below

-- the values of a node are the same, and so are its children and what its areas depend on of these
pub record PlacesSame (b u : BareTrees) (n : NodeId) : Type 0 where
  pub label : (sight_at u n).label ≡ (sight_at b n).label
  pub children : children_at u n ≡ children_at b n
  pub siblings : map standing_of (siblings_of (sight_at u n).below) ≡ map standing_of (siblings_of (sight_at b n).below)

-- From the tree b comes u: a node that is not touched has the same label; one that is not touched, or any where no chain is concerned, shows the same. Such a
-- node
-- stays under its parent, or both go.
pub record IsLocal (touched : NodeId → Bool) (grid : Bool) (b u : BareTrees) : Type 0 where
  pub own : (n : NodeId) → IsLive u n → touched n ≡ false → (sight_at u n).label ≡ (sight_at b n).label
  pub shows : (n : NodeId) → IsLive u n → (grid && touched n) ≡ false → ShowsSame b u n
  pub stays : (q n : NodeId) (index : ℕ) → child_at b q index ≡ Some n → IsLive u n → (grid && touched n) ≡ false → IsLive u q

-- a subgrid below a marked node, such that it and all nodes between are subgrids: so many of them
abbrev pub IsFelt : (NodeId → Bool) → BareTrees → ℕ → NodeId → Type 0
IsFelt mark b zero n = ⊥
IsFelt mark b (suc k) n =
    (p : NodeId) × ((i : ℕ) × ((child_at b p i ≡ Some n) × ((is_sub (sight_at b n).label ≡ true) × ((mark p ≡ true) ⊎ IsFelt mark b k p))))
