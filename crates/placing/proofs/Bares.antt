-- The bare tree has the numbers of the whole one, where they stand.
use Rattle.std.proofs.Common.{◌≡◌, ℕ, Option, Some, None, IsSome, is_some, refl, sym, ap, ◌∙◌}
use Rattle.plain_tree.specs.Trees.{count_of, height_of}
use Rattle.node_arena.specs.declared.number.NodeId.{NodeId}
use Rattle.node_arena.specs.Numbers.{IsDistinct, IsNarrow, Part, below_at, child_at, count_at, part_at, top_numbers, value_at, value_of, way_up}
use Rattle.node_arena.proofs.Changed.{count_of_mapped, height_mapped, narrow_mapped, tops_mapped}
use Rattle.placing.specs.declared.node.Node.{Node}
use Rattle.placing.specs.Nodes.{Bare, IsLive, NodeTrees, bare, bare_of}
use Rattle.placing.proofs.Mapped.{below_mapped, child_mapped, distinct_mapped, live_mapped, value_by, value_mapped, way_mapped}

abbrev stripped : NodeId → Node → Bare
stripped n v = bare_of v

pub live_bare : (t : NodeTrees) (n : NodeId) → is_some (part_at (bare t) n) ≡ is_some (part_at t n)
unfolding bare
live_bare t n = live_mapped stripped t n

pub value_bare : (t : NodeTrees) (n : NodeId) → value_at (bare t) n ≡ value_by stripped n (value_at t n)
unfolding bare
value_bare t n = value_mapped stripped t n

pub count_bare : (t : NodeTrees) (n : NodeId) → count_of (below_at (bare t) n) ≡ count_at t n
unfolding bare
count_bare t n = ap count_of (below_mapped stripped t n) ∙ count_of_mapped stripped (below_at t n)

pub children_bare : (t : NodeTrees) (n : NodeId) → top_numbers (below_at (bare t) n) ≡ top_numbers (below_at t n)
unfolding bare
children_bare t n = ap top_numbers (below_mapped stripped t n) ∙ tops_mapped stripped (below_at t n)

pub child_bare : (t : NodeTrees) (n : NodeId) (i : ℕ) → child_at (bare t) n i ≡ child_at t n i
unfolding bare
child_bare t n i = child_mapped stripped t n i

pub way_bare : (t : NodeTrees) (n : NodeId) → way_up (bare t) n ≡ way_up t n
unfolding bare
way_bare t n = way_mapped stripped t n

pub distinct_bare : (t : NodeTrees) → IsDistinct t → IsDistinct (bare t)
unfolding bare
distinct_bare t d = distinct_mapped stripped t d

pub tops_bare : (t : NodeTrees) → top_numbers (bare t) ≡ top_numbers t
unfolding bare
tops_bare t = tops_mapped stripped t

pub height_bare : (t : NodeTrees) → height_of (bare t) ≡ height_of t
unfolding bare
height_bare t = height_mapped stripped t

pub narrow_bare : (most : ℕ) (t : NodeTrees) → IsNarrow most t → IsNarrow most (bare t)
unfolding bare
narrow_bare most t h = narrow_mapped stripped most t h

pub value_some : (t : NodeTrees) (n : NodeId) → IsLive (bare t) n → IsSome (value_at t n)
value_some t n h = at (part_at t n) (sym (live_bare t n) ∙ h)
  where
    at : (o : Option (Part Node)) → IsSome o → IsSome (value_of o)
    at None k = absurd cc
    at (Some p) k = refl

pub live_from : (t : NodeTrees) (n : NodeId) → IsSome (part_at t n) → IsLive (bare t) n
live_from t n h = live_bare t n ∙ h

pub bare_there : (t : NodeTrees) (n : NodeId) (v : Node) → Some v ≡ value_at t n → Some (bare_of v) ≡ value_at (bare t) n
bare_there t n v e = ap (value_by stripped n) e ∙ sym (value_bare t n)
