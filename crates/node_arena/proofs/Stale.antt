-- Numbers that name no node name none after a change.
use Rattle.std.proofs.Common.{◌≡◌, ◌≢◌, ℕ, zero, suc, ◌+◌, ◌≤◌, ◌<◌, true, false, Bool, Option, Some, None, IsSome, refl, sym, ap, ◌∙◌, arith, inl, inr, cond}
use Rattle.std.specs.Prelude.{◌⊎◌, is_some}
use Rattle.std.proofs.lemmas.Bool.{cases_Bool, cases_eq, false≢true}
use Rattle.plain_tree.specs.Trees.{Trees, leafless, tree, joined}
use Rattle.node_arena.specs.declared.number.NodeId.{NodeId}
use Rattle.node_arena.specs.Edits.{edited, graft, nothing, put_at, removed, tree_at}
use Rattle.node_arena.specs.Numbers.{mapped, one, part_at, replaced, same, times}
use Rattle.node_arena.specs.Plain.{IsStale, Nodes, is_live, with_move, with_node, with_value, without_node}
use Rattle.node_arena.proofs.Edited.{summed, summed_joined, summed_put, times_summed}
use Rattle.node_arena.proofs.Same.{one_no, part_none, part_some, same_is}

-- ---- how often a number stands in a tree
none_times : {A : Type 0} (t : Trees (NodeId × A)) (m : NodeId) → is_some (part_at t m) ≡ false → times m t ≡ 0
none_times t m e = at (cases_eq (times m t) 0)
  where
    at : (times m t ≡ 0) ⊎ (times m t ≢ 0) → times m t ≡ 0
    at (inl z) = z
    at (inr nz) = let some : is_some (part_at t m) ≡ true = part_some t m (omega arith) in absurd (false≢true (sym e ∙ some))

times_joined : {A : Type 0} (m : NodeId) (s t : Trees (NodeId × A)) → times m (joined s t) ≡ times m s + times m t
times_joined m s t = times_summed m (joined s t) ∙ summed_joined (λ x. one (same x.0 m)) s t ∙ sym (λ i. times_summed m s i + times_summed m t i)

times_put : {A : Type 0} (m : NodeId) (index : ℕ) (new t : Trees (NodeId × A)) → times m (put_at index new t) ≡ times m new + times m t
times_put m index new t = times_summed m (put_at index new t) ∙ summed_put (λ x. one (same x.0 m)) index new t ∙ sym (λ i. times_summed m new i + times_summed m t i)

-- a change of one tree brings no number in
edited_zero : {A : Type 0} (m n : NodeId) (f : NodeId × A → Trees (NodeId × A) → Trees (NodeId × A)) → ((x : NodeId × A) (below : Trees (NodeId × A)) → one (same x.0 m) ≡ 0 → times m below ≡ 0 → times m (f x below) ≡ 0)
    → (t : Trees (NodeId × A)) → times m t ≡ 0 → times m (edited n f t) ≡ 0
edited_zero m n f h leafless e = refl
edited_zero {A} m n f h (tree x below after) e = at (edited_zero m n f h below (omega arith)) (edited_zero m n f h after (omega arith)) (same x.0 n)
  where
    at : times m (edited n f below) ≡ 0 → times m (edited n f after) ≡ 0 → (c : Bool) → times m (cond c (joined (f x below) after) (tree x (edited n f below) (edited n f after))) ≡ 0
    at u v true = omega (arith, times_joined m (f x below) after, h x below (omega arith) (omega arith))
    at u v false = omega arith

removed_zero : {A : Type 0} (m n : NodeId) (t : Trees (NodeId × A)) → times m t ≡ 0 → times m (removed n t) ≡ 0
removed_zero m n t e = edited_zero m n nothing (λ x below h k. refl) t e

grafted_zero : {A : Type 0} (m n : NodeId) (index : ℕ) (new t : Trees (NodeId × A)) → times m new ≡ 0 → times m t ≡ 0 → times m (edited n (graft index new) t) ≡ 0
grafted_zero m n index new t z e = edited_zero m n (graft index new) (λ x below h k. omega (arith, times_put m index new below)) t e

tree_zero : {A : Type 0} (m n : NodeId) (t : Trees (NodeId × A)) → times m t ≡ 0 → times m (tree_at n t) ≡ 0
tree_zero m n leafless e = refl
tree_zero m n (tree x below after) e = at (tree_zero m n below (omega arith)) (tree_zero m n after (omega arith)) (same x.0 n)
  where
    at : times m (tree_at n below) ≡ 0 → times m (tree_at n after) ≡ 0 → (c : Bool) → times m (cond c (tree x below leafless) (joined (tree_at n below) (tree_at n after))) ≡ 0
    at u v true = omega arith
    at u v false = omega (arith, times_joined m (tree_at n below) (tree_at n after))

mapped_zero : {A B : Type 0} (m : NodeId) (f : NodeId → A → B) (t : Trees (NodeId × A)) → times m (mapped f t) ≡ times m t
mapped_zero m f leafless = refl
mapped_zero m f (tree x below after) = omega (arith, mapped_zero m f below, mapped_zero m f after)

not_live : {T : Type 0} (t : Trees (NodeId × T)) (m : NodeId) → times m t ≡ 0 → is_some (part_at t m) ≡ false
not_live t m z = ap is_some (part_none t m z)

-- ---- the laws
pub stale_put : {T : Type 0} (n : Nodes T) (m id : NodeId) (v : T) → IsStale n m → IsStale (with_value id v n) m
stale_put n m id v s = record { drawn = s.drawn; dead = not_live _ m (mapped_zero m _ n.tree ∙ none_times n.tree m s.dead) }

pub stale_node : {T : Type 0} (n : Nodes T) (m parent id : NodeId) (index : ℕ) (v : T) → id.turn ≡ n.made → IsStale n m → IsStale (with_node parent index id v n) m
stale_node n m parent id index v e s = record { drawn = omega (arith, s.drawn); dead = not_live _ m (grafted_zero m parent index (tree (id, v) leafless leafless) n.tree (omega (arith, one_no (same id m) other)) (none_times n.tree m s.dead)) }
  where
    at : (same id m ≡ true) ⊎ (same id m ≡ false) → same id m ≡ false
    at (inl y) = let turns : id.turn ≡ m.turn = ap (λ (k : NodeId). k.turn) (same_is id m y) in let drawn : m.turn < n.made = s.drawn in absurd (omega arith)
    at (inr other_number) = other_number

    other : same id m ≡ false
    other = at (cases_Bool (same id m))

pub stale_removed : {T : Type 0} (n : Nodes T) (m id : NodeId) → IsStale n m → IsStale (without_node id n) m
stale_removed n m id s = record { drawn = s.drawn; dead = not_live _ m (removed_zero m id n.tree (none_times n.tree m s.dead)) }

pub stale_moved : {T : Type 0} (n : Nodes T) (m id parent : NodeId) (index : ℕ) → IsStale n m → IsStale (with_move id parent index n) m
stale_moved n m id parent index s =
    let z = none_times n.tree m s.dead in
    record { drawn = s.drawn; dead = not_live _ m (grafted_zero m parent index (tree_at id n.tree) (removed id n.tree) (tree_zero m id n.tree z) (removed_zero m id n.tree z)) }
