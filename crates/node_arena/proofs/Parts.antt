-- What stands under a number, where no two nodes have one number.
use Rattle.std.proofs.Common.{◌≡◌, ℕ, zero, suc, ◌+◌, ◌≤◌, false, Option, Some, None, IsSome, refl, sym, ap, ◌∙◌, arith}
use Rattle.std.specs.Prelude.{slice_get}
use Rattle.std.proofs.lemmas.Bool.{false_from_ne_true}
use Rattle.plain_tree.specs.Trees.{Trees, leafless, tree}
use Rattle.node_arena.specs.declared.number.NodeId.{NodeId}
use Rattle.node_arena.specs.Numbers.{same, one, Part, part_at, value_of, value_at, below_of, tops, number_of, whole_of, child_at, IsChild, EachNode, IsNumbered, times, IsDistinct}
use Rattle.node_arena.proofs.Same.{by_place, part_none, part_there, part_here, part_below, part_after, same_refl, same_is, same_from, one_yes}

module _ {A : Type 0} where
  -- what is in the children, or after a node, is not the node
  pub not_here : (x : NodeId × A) (below after : Trees (NodeId × A)) (c : NodeId) → times c (tree x below after) ≤ 1 → 1 ≤ times c below + times c after → same x.0 c ≡ false
  not_here x below after c d h = false_from_ne_true (same x.0 c) (λ e. absurd (omega (arith, one_yes (same x.0 c) e)))

  pub below_within : (t : Trees (NodeId × A)) (n c : NodeId) (p : Part A) → part_at t n ≡ Some p → one (same n c) + times c p.1 ≤ times c t
  below_within leafless n c p e = absurd cc
  below_within (tree x below after) n c p e =
      by_place x below n
      (λ h. let b : below ≡ p.1 = ap below_of (sym (part_here x below after n h) ∙ e) in
      let k : one (same n c) ≡ one (same x.0 c) = ap (λ m. one (same m c)) (sym (same_is x.0 n h.is)) in
      let w : times c below ≡ times c p.1 = ap (times c) b in
      omega arith)
      (λ h. omega (arith, below_within below n c p (sym (part_below x below after n h) ∙ e)))
      (λ h. omega (arith, below_within after n c p (sym (part_after x below after n h) ∙ e)))

  pub part_within : (t : Trees (NodeId × A)) (n c : NodeId) (p : Part A) → part_at t n ≡ Some p → times c t ≤ 1 → 1 ≤ times c p.1 → part_at t c ≡ part_at p.1 c
  part_within leafless n c p e d k = absurd cc
  part_within (tree x below after) n c p e d k =
      by_place x below n
      (λ h. let b : below ≡ p.1 = ap below_of (sym (part_here x below after n h) ∙ e) in
      let w : times c below ≡ times c p.1 = ap (times c) b in
      part_below x below after c (record { not = not_here x below after c d (omega arith); in_below = omega arith }) ∙ ap (λ u. part_at u c) b)
      (λ h. let f = sym (part_below x below after n h) ∙ e in
      let w : 1 ≤ times c below = omega (arith, below_within below n c p f) in
      part_below x below after c (record { not = not_here x below after c d (omega arith); in_below = w }) ∙ part_within below n c p f (omega arith) k)
      (λ h. let f = sym (part_after x below after n h) ∙ e in
      let w : 1 ≤ times c after = omega (arith, below_within after n c p f) in
      part_after x below after c (record { not = not_here x below after c d (omega arith); none = omega arith }) ∙ part_within after n c p f (omega arith) k)

  pub top_there : (t : Trees (NodeId × A)) (i : ℕ) (top : NodeId × Part A) → slice_get (tops t) i ≡ Some top → 1 ≤ times top.0 t
  top_there leafless i top e = absurd cc
  top_there (tree x below after) zero top e =
      let f : x.0 ≡ top.0 = cc in
      omega (arith, one_yes (same x.0 top.0) (same_from x.0 top.0 f))
  top_there (tree x below after) (suc i) top e = omega (arith, top_there after i top e)

  pub top_part : (t : Trees (NodeId × A)) (i : ℕ) (top : NodeId × Part A) → slice_get (tops t) i ≡ Some top → times top.0 t ≤ 1 → part_at t top.0 ≡ Some top.1
  top_part leafless i top e d = absurd cc
  top_part (tree x below after) zero top e d =
      let f : x.0 ≡ top.0 = cc in
      part_here x below after top.0 (record { is = same_from x.0 top.0 f }) ∙ ap whole_of e
  top_part (tree x below after) (suc i) top e d =
      let w = top_there after i top e in
      part_after x below after top.0 (record { not = not_here x below after top.0 d (omega arith); none = omega arith }) ∙ top_part after i top e (omega arith)

  pub child_is : (t : Trees (NodeId × A)) (n : NodeId) (index : ℕ) (c : NodeId) → IsDistinct t → child_at t n index ≡ Some c → IsChild t n index c
  child_is t n index c d e = record { number = e; whole = at (part_at t n) refl e }
    where
      top : (p : Part A) (o : Option (NodeId × Part A)) → part_at t n ≡ Some p → slice_get (tops p.1) index ≡ o → number_of o ≡ Some c → part_at t c ≡ whole_of o
      top p None f g h = absurd cc
      top p (Some x) f g h =
          let same : x.0 ≡ c = cc in
          let few = d x.0 in
          let there = top_there p.1 index x g in
          ap (part_at t) (sym same) ∙ part_within t n x.0 p f few there ∙ top_part p.1 index x g (omega (arith, below_within t n x.0 p f))

      at : (o : Option (Part A)) → part_at t n ≡ o → number_of (slice_get (tops (below_of o)) index) ≡ Some c → part_at t c ≡ whole_of (slice_get (tops (below_of o)) index)
      at None f g = absurd cc
      at (Some p) f g = top p (slice_get (tops p.1) index) f refl g

  pub each_weaker : (P Q : NodeId × A → Type 0) (t : Trees (NodeId × A)) → ((x : NodeId × A) → P x → Q x) → EachNode P t → EachNode Q t
  each_weaker P Q leafless h p = tt
  each_weaker P Q (tree x below after) h p = (h x p.0, (each_weaker P Q below h p.1.0, each_weaker P Q after h p.1.1))

  value_there : (t : Trees (NodeId × A)) (n : NodeId) (v : A) → value_at t n ≡ Some v → 1 ≤ times n t
  value_there t n v e = part_there t n (at (part_at t n) e)
    where
      at : (o : Option (Part A)) → value_of o ≡ Some v → IsSome o
      at None h = absurd cc
      at (Some p) h = refl

  each_value : (t : Trees (NodeId × A)) → IsDistinct t → EachNode (λ x. value_at t x.0 ≡ Some x.1) t
  each_value leafless d = tt
  each_value (tree x below after) d = (
    ap value_of (part_here x below after x.0 (record { is = same_refl x.0 })),
    (
      each_weaker _ _ below
          (λ y e. let w = value_there below y.0 y.1 e in let f = d y.0 in
          ap value_of (part_below x below after y.0 (record { not = not_here x below after y.0 f (omega arith); in_below = w })) ∙ e)
          (each_value below (λ c. let f = d c in omega arith)),
      each_weaker _ _ after
          (λ y e. let w = value_there after y.0 y.1 e in let f = d y.0 in
          ap value_of (part_after x below after y.0 (record { not = not_here x below after y.0 f (omega arith); none = omega arith })) ∙ e)
          (each_value after (λ c. let f = d c in omega arith)),
    ),
  )

  pub numbered : (t : Trees (NodeId × A)) → IsDistinct t → IsNumbered t
  numbered t d = record { each = each_value t d; apart = λ n. at n (part_at t n) refl }
    where
      at : (n : NodeId) (o : Option (Part A)) → part_at t n ≡ o → part_at (below_of o) n ≡ None
      at n None e = refl
      at n (Some p) e = let few = d n in part_none p.1 n (omega (arith, below_within t n n p e, one_yes (same n n) (same_refl n)))
