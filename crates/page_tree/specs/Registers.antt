-- Nodes that are found by their names.
use Rattle.std.specs.Prelude.{◌≡◌, ℕ, ◌+◌, ◌&&◌, true, List, Option, Some, None, IfSome, IsSome, is_some, if◌then◌else◌}
use Rattle.std.specs.Str.{bytes_eq}
use Rattle.plain_tree.specs.Trees.{leafless, tree}
use Rattle.doc_text.specs.Growth.{holds}
use Rattle.node_arena.specs.declared.number.NodeId.{NodeId}
use Rattle.node_arena.specs.Numbers.{EachNode, IsDistinct, below_at, one, part_at, same, times, value_at}
use Rattle.layout_cache.specs.Reach.{from_tree}
use Rattle.placing.specs.declared.node.Node.{Node}
use Rattle.placing.specs.Nodes.{NodeTrees}
use Rattle.page_tree.specs.Documents.{plain_trees}

-- how many nodes have this name and this number
abbrev pub named : List ℕ → NodeId → NodeTrees → ℕ
named name n leafless = 0
named name n (tree x below after) = one (same x.0 n && bytes_eq x.1.name name) + named name n below + named name n after

-- how many numbers that are told are this one
abbrev pub told : Option NodeId → NodeId → ℕ
told None n = 0
told (Some m) n = one (same m n)

-- each name tells the one node that has it, and tells none where none has it; no number stands twice
pub record IsRegister (find : List ℕ → Option NodeId) (t : NodeTrees) : Type 0 where
  pub told : (name : List ℕ) (n : NodeId) → named name n t ≡ told (find name) n
  pub distinct : IsDistinct t

-- the node of the number is the one of the name
abbrev pub Tells : NodeId → List ℕ → NodeTrees → Type 0
Tells id name t = EachNode (λ x. same x.0 id ≡ bytes_eq x.1.name name) t

-- each node is the one of its number and of its name
abbrev pub AreNamed : NodeTrees → Type 0
AreNamed t = EachNode (λ x. Tells x.0 x.1.name t) t

-- the number is that of the one node of the name, and there is none exactly where no node has the name
pub record Finds (t : NodeTrees) (name : List ℕ) (found : Option NodeId) : Type 0 where
  pub live : IfSome found (λ id. IsSome (part_at t id))
  pub tells : IfSome found (λ id. Tells id name t)
  pub once : IfSome found (λ id. times id t ≡ 1)
  pub there : is_some found ≡ holds (plain_trees t) name

-- the node of the number has this name
abbrev pub HasName : NodeId → List ℕ → NodeTrees → Type 0
HasName id name t = EachNode (λ x. same x.0 id ≡ true → x.1.name ≡ name) t

-- the names of these trees tell nothing, and all others what they told
abbrev pub Without : NodeTrees → (List ℕ → Option NodeId) → (List ℕ → Option NodeId) → Type 0
Without gone old new = (name : List ℕ) → new name ≡ (if holds (plain_trees gone) name then None else old name)

-- the child of this index is the node of this number, before those after it
pub record IsNext (t : NodeTrees) (n : NodeId) (index : ℕ) (c : NodeId) : Type 0 where
  pub value : Node
  pub there : value_at t c ≡ Some value
  pub next : from_tree index (below_at t n) ≡ tree (c, value) (below_at t c) (from_tree (index + 1) (below_at t n))
