-- What stands below a node that is not reached is not reached either.
use Rattle.std.proofs.Common.{◌≡◌, ℕ, zero, suc, ◌≤◌, Bool, true, false, ◌&&◌, List, Option, Some, None, IsSome, refl, ap, subst, ◌∙◌, arith, inl, inr}
use Rattle.std.specs.Prelude.{◌⊎◌, slice_get}
use Rattle.plain_tree.specs.Trees.{Trees}
use Rattle.node_arena.specs.declared.number.NodeId.{NodeId}
use Rattle.node_arena.specs.Numbers.{IsChild, IsDistinct, Part, below_at, below_of, child_at, is_among, number_of, part_at, times, tops, whole_of}
use Rattle.node_arena.proofs.Parts.{below_within, child_is, top_part, top_there}
use Rattle.node_arena.proofs.Standing.{some_is}
use Rattle.layout_cache.specs.Reach.{reached_by}
use Rattle.placing.specs.Nodes.{BareTrees, NodeTrees, bare}
use Rattle.placing.proofs.Bares.{distinct_bare}
use Rattle.reach_frame.specs.Local.{IsFelt, IsRooted}
use Rattle.reach_frame.proofs.Calm.{calm_not}
use Rattle.reach_frame.proofs.Frame.{not_both}
use Rattle.reach_frame.proofs.Marked.{all_found}
use Rattle.reach_frame.proofs.Unreached.{IsCalm, node_sub, not_found}

-- ---- a child stands below its parent, and so does what stands below it
module _ {A : Type 0} where
  below_few : (t : Trees (NodeId × A)) (p k : NodeId) → times k (below_at t p) ≤ times k t
  below_few t p k = at (part_at t p) refl
    where
      at : (o : Option (Part A)) → part_at t p ≡ o → times k (below_of o) ≤ times k t
      at None e = omega arith
      at (Some q) e = omega (arith, below_within t p k q e)

  child_most : (t : Trees (NodeId × A)) (p n : NodeId) (i : ℕ) → IsDistinct t → child_at t p i ≡ Some n → (1 ≤ times n (below_at t p)) × ((k : NodeId) → times k (below_at t n) ≤ times k (below_at t p))
  child_most t p n i d e = at (slice_get (tops (below_at t p)) i) refl child.number child.whole
    where
      child : IsChild t p i n
      child = child_is t p i n d e

      at : (o : Option (NodeId × Part A)) → slice_get (tops (below_at t p)) i ≡ o → number_of o ≡ Some n → part_at t n ≡ whole_of o → (1 ≤ times n (below_at t p)) × ((k : NodeId) → times k (below_at t n) ≤ times k (below_at t p))
      at None f g w = absurd cc
      at (Some top) f g w =
          let there = top_there (below_at t p) i top f in
          let few = below_few t p top.0 in
          let one = d top.0 in
          let part = top_part (below_at t p) i top f (omega (arith, few, one)) in (
            subst (λ m. 1 ≤ times m (below_at t p)) (some_is top.0 n g) there,
            λ k. omega (arith, below_within (below_at t p) top.0 k top.1 part, ap (λ o. times k (below_of o)) w),
          )

marked_not : (g c : Bool) → c ≡ false → (g && c) ≡ false
marked_not true c e = e
marked_not false c e = refl

-- ---- a child of a calm node is calm
pub calm_child : (root : NodeId) (b : BareTrees) → IsRooted root b → IsDistinct b → (touched : NodeId → Bool) (grid : Bool) (p n : NodeId) (i : ℕ) → child_at b p i ≡ Some n → IsCalm touched grid b p → IsCalm touched grid b n
calm_child root b rb d touched grid p n i e calm =
    record {
      own = calm.below n (child_most b p n i d e).0;
      below = λ k l. let most = (child_most b p n i d e).1 k in calm.below k (omega (arith, l, most));
      felt = felt;
    }
  where
    above : (k : ℕ) (q : NodeId) → q ≡ p → ((grid && touched q) ≡ true) ⊎ IsFelt (λ m. grid && touched m) b k q → ⊥
    above k q is (inl m) = not_both (grid && touched q) m (ap (λ z. grid && touched z) is ∙ marked_not grid (touched p) calm.own)
    above k q is (inr g) = calm.felt k (subst (λ z. IsFelt (λ m. grid && touched m) b k z) is g)

    felt : (k : ℕ) → IsFelt (λ m. grid && touched m) b k n → ⊥
    felt zero f = f
    felt (suc k) f = above k f.0 (rb.one f.0 p n f.1.0 i f.1.1.0 e) f.1.1.1.1

-- a child of a node that is not reached is not reached
pub child_not_found : (root : NodeId) (t : NodeTrees) → IsRooted root (bare t) → IsDistinct t → (ts : List NodeId) (grid : Bool) (p n : NodeId) (i : ℕ) → child_at (bare t) p i ≡ Some n → IsSome (part_at t p) → is_among p (reached_by node_sub t ts grid) ≡ false →
    is_among n (reached_by node_sub t ts grid) ≡ false
child_not_found root t rb d ts grid p n i e live calm =
    all_found node_sub t ts grid n d
    ∙ calm_not t d (λ m. is_among m ts) grid n (calm_child root (bare t) rb (distinct_bare t d) (λ m. is_among m ts) grid p n i e (not_found t d ts grid p live calm))
