-- What a caller sees of an arena.
use Rattle.std.specs.Prelude.{◌≡◌, ℕ, Bool, false, ◌+◌, ◌<◌, ◌≤◌, refl, is_some}
use Rattle.std.specs.Coded.{Coded, code_by, coded×, coded_ℕ}
use Rattle.plain_tree.specs.Trees.{Trees, leafless, tree, coded_trees, size_of, height_of}
use Rattle.node_arena.specs.declared.number.NodeId.{NodeId}
use Rattle.node_arena.specs.contracts.number.NodeId as number
use Rattle.node_arena.specs.Numbers.{EachNode, IsDistinct, IsNarrow, IsNumbered, part_at, replaced}
use Rattle.node_arena.specs.Edits.{grafted, removed, moved}

-- the tree of values with their numbers, how many nodes were ever made, and how many nodes, and children of one node, there may be
pub record Nodes (T : Type 0) : Type 0 where
  pub tree : Trees (NodeId × T)
  pub made : ℕ
  pub most_nodes : ℕ
  pub most_children : ℕ

abbrev pub nodes_code : {T : Type 0} → Coded T → Coded (Nodes T)
nodes_code {T} code =
    code_by (Trees (NodeId × T) × (ℕ × (ℕ × ℕ)))
    (coded× (coded_trees (coded× number.the_row.coded code)) (coded× coded_ℕ (coded× coded_ℕ coded_ℕ)))
    (λ n. (n.tree, (n.made, (n.most_nodes, n.most_children))))
    (λ p. record { tree = p.0; made = p.1.0; most_nodes = p.1.1.0; most_children = p.1.1.1 }) (λ _. refl)

module _ {T : Type 0} where
  -- a tree of one node
  abbrev pub first_node : NodeId → T → ℕ → ℕ → Nodes T
  first_node id value nodes children = record { tree = tree (id, value) leafless leafless; made = 1; most_nodes = nodes; most_children = children }

  -- a number of the tree
  abbrev pub is_live : Nodes T → NodeId → Bool
  is_live n id = is_some (part_at n.tree id)

  -- the value of a number replaced
  abbrev pub with_value : NodeId → T → Nodes T → Nodes T
  with_value id w n = record n { tree = replaced id w n.tree }

  -- a new node under a parent, at an index of its children
  abbrev pub with_node : NodeId → ℕ → NodeId → T → Nodes T → Nodes T
  with_node parent index id value n = record n { tree = grafted parent index (tree (id, value) leafless leafless) n.tree; made = n.made + 1 }

  -- without a node and all below it
  abbrev pub without_node : NodeId → Nodes T → Nodes T
  without_node id n = record n { tree = removed id n.tree }

  -- a node and all below it under another parent, at an index of the children that are left
  abbrev pub with_move : NodeId → NodeId → ℕ → Nodes T → Nodes T
  with_move id parent index n = record n { tree = moved id parent index n.tree }

  -- what holds of every arena
  pub record IsSound (n : Nodes T) : Type 0 where
    pub distinct : IsDistinct n.tree
    pub numbered : IsNumbered n.tree
    pub turns : EachNode (λ x. x.0.turn < n.made) n.tree
    pub low : height_of n.tree ≤ 64
    pub few : size_of n.tree ≤ n.most_nodes
    pub narrow : IsNarrow n.most_children n.tree

  -- a number that was drawn once and names no node
  pub record IsStale (n : Nodes T) (id : NodeId) : Type 0 where
    pub drawn : id.turn < n.made
    pub dead : is_live n id ≡ false
