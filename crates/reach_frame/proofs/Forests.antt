-- Trees of which each node is what stands under its number in a whole one.
use Rattle.std.proofs.Common.{◌≡◌, ◌≤◌, Option, Some, None, refl, sym, ap, subst, ◌∙◌, arith}
use Rattle.plain_tree.specs.Trees.{Trees, leafless, tree}
use Rattle.node_arena.specs.declared.number.NodeId.{NodeId}
use Rattle.node_arena.specs.Numbers.{IsDistinct, Part, below_at, below_of, part_at, same, times}
use Rattle.node_arena.proofs.Same.{by_place, one_yes, part_after, part_below, part_here, same_refl}
use Rattle.node_arena.proofs.Parts.{not_here}

module _ {A : Type 0} where
  abbrev pub AreParts : Trees (NodeId × A) → Trees (NodeId × A) → Type 0
  AreParts w leafless = Unit {0}
  AreParts w (tree x below after) = (part_at w x.0 ≡ Some (x.1, below)) × (AreParts w below × AreParts w after)

  lifted : (w v t : Trees (NodeId × A)) → ((k : NodeId) → 1 ≤ times k t → part_at w k ≡ part_at v k) → AreParts v t → AreParts w t
  lifted w v leafless h p = tt
  lifted w v (tree x below after) h p =
      (h x.0 (omega (arith, one_yes (same x.0 x.0) (same_refl x.0))) ∙ p.0, (lifted w v below (λ k l. h k (omega arith)) p.1.0, lifted w v after (λ k l. h k (omega arith)) p.1.1))

  pub own_parts : (t : Trees (NodeId × A)) → IsDistinct t → AreParts t t
  own_parts leafless d = tt
  own_parts (tree x below after) d = (
    part_here x below after x.0 (record { is = same_refl x.0 }),
    (
      lifted (tree x below after) below below (λ k l. part_below x below after k (record { not = not_here x below after k (d k) (omega arith); in_below = l })) (own_parts below (λ k. let f = d k in omega arith)),
      lifted (tree x below after) after after (λ k l. let f = d k in part_after x below after k (record { not = not_here x below after k (d k) (omega arith); none = omega arith })) (own_parts after (λ k. let f = d k in omega arith)),
    ),
  )

  part_parts : (w t : Trees (NodeId × A)) (n : NodeId) (q : Part A) → AreParts w t → part_at t n ≡ Some q → AreParts w q.1
  part_parts w leafless n q p e = absurd cc
  part_parts w (tree x below after) n q p e =
      by_place x below n
      (λ h. subst (λ u. AreParts w u) (ap below_of (sym (part_here x below after n h) ∙ e)) p.1.0)
      (λ h. part_parts w below n q p.1.0 (sym (part_below x below after n h) ∙ e))
      (λ h. part_parts w after n q p.1.1 (sym (part_after x below after n h) ∙ e))

  pub below_parts : (t : Trees (NodeId × A)) (n : NodeId) → IsDistinct t → AreParts t (below_at t n)
  below_parts t n d = at (part_at t n) refl
    where
      at : (o : Option (Part A)) → part_at t n ≡ o → AreParts t (below_of o)
      at None e = tt
      at (Some q) e = part_parts t t n q (own_parts t d) e
