-- A child under its parent, and what holds of the tree of every arena (own rule).
use Rattle.std.specs.Prelude.{◌≡◌, ◌≢◌, ℕ, ◌+◌, ◌<◌, ◌≤◌, ◌∷◌, Some, None, drop}
use Rattle.plain_tree.specs.Trees.{height_of}
use Rattle.node_arena.specs.declared.number.NodeId.{NodeId}
use Rattle.node_arena.specs.Numbers.{below_at, child_at, part_at}
use Rattle.tree_rules.specs.Chains.{chain_of}
use Rattle.placing.specs.Nodes.{BareTrees, IsLive, above_at, children_at, kid_at, kids_at, level_at, sight_at, size_at}

-- a number that is neither a node's nor below it
pub record IsOutside (b : BareTrees) (n m : NodeId) : Type 0 where
  pub other : m ≢ n
  pub below : part_at (below_at b n) m ≡ None

-- The child of this index: what the rules see of it, and that it comes next in the lists of its parent.
pub record IsNext (b : BareTrees) (n : NodeId) (index : ℕ) (c : NodeId) : Type 0 where
  pub number : child_at b n index ≡ Some c
  pub only : (other : ℕ) → child_at b n other ≡ Some c → other ≡ index
  pub live : IsLive b c
  pub smaller : size_at b c < size_at b n
  pub level : level_at b c ≡ level_at b n + 1
  pub chain : (sight_at b c).chain ≡ chain_of (above_at b n) index (sight_at b c).label
  pub kids : drop index (kids_at b n) ≡ kid_at b c ∷ drop (index + 1) (kids_at b n)
  pub children : drop index (children_at b n) ≡ c ∷ drop (index + 1) (children_at b n)
  pub apart : (m : NodeId) → IsOutside b n m → IsOutside b c m
  pub parent : IsOutside b c n

-- the parent of a node
pub record IsParent (b : BareTrees) (n parent : NodeId) : Type 0 where
  pub index : ℕ
  pub next : IsNext b parent index n
  pub live : IsLive b parent

-- what holds of the tree of every arena
pub record IsTree (b : BareTrees) : Type 0 where
  pub low : height_of b ≤ 64
  pub level : (n : NodeId) → level_at b n ≤ 64
  pub next : (n c : NodeId) (index : ℕ) → child_at b n index ≡ Some c → IsNext b n index c
