-- The tree of every arena has a root, and each other node one parent.
use Rattle.std.proofs.Common.{◌≡◌, ℕ, zero, suc, ◌≤◌, true, false, List, [], ◌∷◌, ◌++◌, Option, Some, None, length, refl, sym, ap, subst, ◌∙◌, arith, inl, inr}
use Rattle.std.specs.Prelude.{◌⊎◌, slice_get}
use Rattle.plain_tree.specs.Trees.{Trees, leafless, tree, height_of}
use Rattle.node_arena.specs.declared.number.NodeId.{NodeId}
use Rattle.node_arena.specs.Numbers.{IsDistinct, Part, below_of, child_at, number_of, part_at, second, times, top_numbers, tops, way_up}
use Rattle.node_arena.specs.Faults.{is_top}
use Rattle.node_arena.proofs.Same.{Here, by_place, part_after, part_below, part_here, part_there, same_from, same_is}
use Rattle.node_arena.proofs.Parts.{below_within, not_here, top_there}
use Rattle.node_arena.proofs.Reading.{top_way}
use Rattle.node_arena.proofs.Standing.{some_is, way_after, way_below, way_head, way_here, way_some}
use Rattle.placing.specs.Nodes.{BareTrees, IsLive}
use Rattle.placing.proofs.Parents.{level_most, parent_index, top_is}
use Rattle.placing.proofs.Sights.{next_there, top_chain}
use Rattle.reach_frame.specs.Local.{HasUpper, IsRooted}
use Rattle.reach_frame.proofs.Frame.{child_live}

module _ {A : Type 0} where
  top_alone : (u : Trees (NodeId × A)) (i : ℕ) (top : NodeId × Part A) → slice_get (tops u) i ≡ Some top → times top.0 u ≤ 1 → way_up u top.0 ≡ top.0 ∷ []
  top_alone leafless i top e d = absurd cc
  top_alone (tree x below after) zero top e d =
      let number : x.0 ≡ top.0 = cc in
      way_here x below after top.0 (record { is = same_from x.0 top.0 number })
  top_alone (tree x below after) (suc i) top e d =
      let there = top_there after i top e in
      way_after x below after top.0 (record { not = not_here x below after top.0 d (omega arith); none = omega arith }) ∙ top_alone after i top e (omega arith)

  -- a child's way up is its own number, then that of its parent
  way_child : (t : Trees (NodeId × A)) (n : NodeId) (p : Part A) (i : ℕ) (top : NodeId × Part A) → part_at t n ≡ Some p → slice_get (tops p.1) i ≡ Some top → times top.0 t ≤ 1 → way_up t top.0 ≡ top.0 ∷ way_up t n
  way_child leafless n p i top e f d = absurd cc
  way_child (tree x below after) n p i top e f d =
      let there : 1 ≤ times top.0 p.1 = top_there p.1 i top f in
      by_place x below n
      (λ h. let b : below ≡ p.1 = ap below_of (sym (part_here x below after n h) ∙ e) in
      let w : times top.0 below ≡ times top.0 p.1 = ap (times top.0) b in
      way_below x below after top.0 (record { not = not_here x below after top.0 d (omega arith); in_below = omega arith })
      ∙ ap (λ w. w ++ x.0 ∷ []) (top_alone below i top (ap (λ u. slice_get (tops u) i) b ∙ f) (omega arith))
      ∙ ap (λ w. top.0 ∷ w) (λ j. same_number h j ∷ []) ∙ ap (λ w. top.0 ∷ w) (sym (way_here x below after n h)))
      (λ h. let q = sym (part_below x below after n h) ∙ e in
      let w : 1 ≤ times top.0 below = omega (arith, below_within below n top.0 p q) in
      way_below x below after top.0 (record { not = not_here x below after top.0 d (omega arith); in_below = w })
      ∙ ap (λ w. w ++ x.0 ∷ []) (way_child below n p i top q f (omega arith)) ∙ ap (λ w. top.0 ∷ w) (sym (way_below x below after n h)))
      (λ h. let q = sym (part_after x below after n h) ∙ e in
      let w : 1 ≤ times top.0 after = omega (arith, below_within after n top.0 p q) in
      way_after x below after top.0 (record { not = not_here x below after top.0 d (omega arith); none = omega arith })
      ∙ way_child after n p i top q f (omega arith) ∙ ap (λ w. top.0 ∷ w) (sym (way_after x below after n h)))
    where
      same_number : Here x n → x.0 ≡ n
      same_number h = same_is x.0 n h.is

  pub child_way : (t : Trees (NodeId × A)) (p n : NodeId) (i : ℕ) → IsDistinct t → child_at t p i ≡ Some n → way_up t n ≡ n ∷ way_up t p
  child_way t p n i d e = at (part_at t p) refl e
    where
      top_of : (q : Part A) → part_at t p ≡ Some q → (o : Option (NodeId × Part A)) → slice_get (tops q.1) i ≡ o → number_of o ≡ Some n → way_up t n ≡ n ∷ way_up t p
      top_of q f None g h = absurd cc
      top_of q f (Some top) g h = let number : top.0 ≡ n = some_is top.0 n h in subst (λ k. way_up t k ≡ k ∷ way_up t p) number (way_child t p q i top f g (d top.0))

      at : (o : Option (Part A)) → part_at t p ≡ o → number_of (slice_get (tops (below_of o)) i) ≡ Some n → way_up t n ≡ n ∷ way_up t p
      at None f g = absurd (none i g)
        where
          none : (i : ℕ) → number_of (slice_get (tops (below_of {A = A} None)) i) ≡ Some n → ⊥
          none zero q = cc
          none (suc i) q = cc
      at (Some q) f g = top_of q f (slice_get (tops q.1) i) refl g

  first_of_way : (t : Trees (NodeId × A)) (n a : NodeId) (w : List NodeId) → 1 ≤ times n t → way_up t n ≡ a ∷ w → a ≡ n
  first_of_way t n a w l e = some_is a n (ap (λ v. second (n ∷ v)) (sym e) ∙ way_head t n n l)

  root_level : (t : Trees (NodeId × A)) (root : NodeId) → top_numbers t ≡ root ∷ [] → length (way_up t root) ≡ 1
  root_level leafless root e = absurd cc
  root_level (tree x below after) root e = let first : x.0 ≡ root = cc in ap length (way_here x below after root (record { is = same_from x.0 root first }))

pub rooted : (root : NodeId) (b : BareTrees) → IsDistinct b → height_of b ≤ 64 → top_numbers b ≡ root ∷ [] → IsRooted root b
rooted root b d low tops =
    record {
      chain = top_chain b root tops;
      tree = record { low = low; level = λ n. omega (arith, level_most b n, low); next = next_there b d };
      upper = upper;
      top = λ p i e. absurd (omega (arith, root_level b root tops, ap length (child_way b p root i d e), way_some b p (part_there b p (child_live b p root i e))));
      one = λ p q n i j e f. let w : way_up b p ≡ way_up b q = rest n (way_up b p) (way_up b q) (sym (child_way b p n i d e) ∙ child_way b q n j d f) in one_way p q (part_there b p (child_live b p n i e)) (part_there b q (child_live b q n j f)) w;
    }
  where
    rest : (n : NodeId) (v w : List NodeId) → n ∷ v ≡ n ∷ w → v ≡ w
    rest n v w e = cc

    one_way : (p q : NodeId) → 1 ≤ times p b → 1 ≤ times q b → way_up b p ≡ way_up b q → p ≡ q
    one_way p q k l w = some_is p q (sym (way_head b p p k) ∙ ap (λ v. second (p ∷ v)) w ∙ other)
      where
        other : second (p ∷ way_up b q) ≡ Some q
        other = way_head b q p l

    upper : (n : NodeId) → IsLive b n → HasUpper root b n
    upper n live = at (way_up b n) refl
      where
        there : 1 ≤ times n b
        there = part_there b n live

        at : (w : List NodeId) → way_up b n ≡ w → HasUpper root b n
        at [] e = absurd (omega (arith, ap length e, way_some b n there))
        at (a ∷ []) e = by (top_way b root n tops there)
          where
            by : ((is_top b n ≡ true) × (length (way_up b n) ≡ 1)) ⊎ ((is_top b n ≡ false) × (2 ≤ length (way_up b n))) → HasUpper root b n
            by (inl t) = inl (sym (top_is b root n tops t.0))
            by (inr t) = absurd (omega (arith, t.1, ap length e))
        at (a ∷ p ∷ rest) e =
            let first : a ≡ n = first_of_way b n a (p ∷ rest) there e in
            let found = parent_index b n p rest d there (e ∙ ap (λ k. k ∷ p ∷ rest) first) in
            inr (p, record { index = found.index; next = next_there b d p n found.index found.number; live = child_live b p n found.index found.number })
