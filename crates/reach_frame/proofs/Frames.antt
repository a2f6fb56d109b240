-- What a change leaves of a node: its label, its chain and what stands below it.
use Rattle.std.proofs.Common.{◌≡◌, ℕ, ◌≤◌, Bool, true, false, ◌&&◌, Option, Some, None, IsSome, is_some, refl, sym, ap, ◌∙◌, arith}
use Rattle.plain_tree.specs.Trees.{leafless, tree, map_trees}
use Rattle.node_arena.specs.declared.number.NodeId.{NodeId}
use Rattle.node_arena.specs.Numbers.{IsDistinct, Part, below_at, below_of, part_at, same, times, top_numbers}
use Rattle.node_arena.proofs.Same.{one_yes, same_refl}
use Rattle.placing.specs.Nodes.{Bare, BareTrees, IsLive, children_at, label_in, level_at, sight_at}
use Rattle.placing.proofs.Sights.{sight_part}
use Rattle.reach_frame.specs.Local.{IsFelt, IsLocal, IsRooted, ShowsSame}
use Rattle.reach_frame.proofs.Forests.{AreParts, below_parts}
use Rattle.reach_frame.proofs.Frame.{felt_old, same_chain}

marked_not : (g c : Bool) → c ≡ false → (g && c) ≡ false
marked_not true c e = e
marked_not false c e = refl

-- the label of a node that stands there
part_label : (b : BareTrees) (n : NodeId) (q : Part Bare) → part_at b n ≡ Some q → (sight_at b n).label ≡ label_in (n, q.0)
part_label b n q e = (sight_part b n q e).its_label

module _ (root : NodeId) (b u : BareTrees) (rb : IsRooted root b) (ru : IsRooted root u) (touched : NodeId → Bool) (grid : Bool) (local : IsLocal touched grid b u) where
  pub children_same : (n : NodeId) (s t : BareTrees) (v w : Bare) → part_at u n ≡ Some (v, s) → part_at b n ≡ Some (w, t) → touched n ≡ false → top_numbers s ≡ top_numbers t
  children_same n s t v w e f q =
      ap (λ o. top_numbers (below_of o)) (sym e) ∙ (local.shows n (ap is_some e) (marked_not grid (touched n) q)).children ∙ ap (λ o. top_numbers (below_of o)) f

  -- trees with the same numbers at their tops, of which no node is touched
  forest_same : (s t : BareTrees) → AreParts u s → AreParts b t → top_numbers s ≡ top_numbers t → ((k : NodeId) → 1 ≤ times k t → touched k ≡ false) → map_trees label_in s ≡ map_trees label_in t
  forest_same leafless leafless p q e h = refl
  forest_same leafless (tree y under later) p q e h = absurd cc
  forest_same (tree x below after) leafless p q e h = absurd cc
  forest_same (tree x below after) (tree y under later) p q e h =
      let number : x.0 ≡ y.0 = cc in
      let rest : top_numbers after ≡ top_numbers later = cc in
      let calm : touched y.0 ≡ false = h y.0 (omega (arith, one_yes (same y.0 y.0) (same_refl y.0))) in
      let there : part_at u y.0 ≡ Some (x.1, below) = ap (part_at u) (sym number) ∙ p.0 in
      let label : label_in x ≡ label_in y = sym (part_label u x.0 (x.1, below) p.0) ∙ ap (λ k. (sight_at u k).label) number ∙ local.own y.0 (ap is_some there) calm ∙ part_label b y.0 (y.1, under) q.0 in
      λ i. tree (label i) (forest_same below under p.1.0 q.1.0 (children_same y.0 below under x.1 y.1 there q.0 calm) (λ k l. h k (omega arith)) i) (forest_same after later p.1.1 q.1.1 rest (λ k l. h k (omega arith)) i)

  below_same : (n : NodeId) → IsDistinct b → IsDistinct u → IsLive u n → touched n ≡ false → ((k : NodeId) → 1 ≤ times k (below_at b n) → touched k ≡ false) → (sight_at u n).below ≡ (sight_at b n).below
  below_same n db du live calm h = at (part_at u n) (part_at b n) refl refl live shows.live
    where
      shows : ShowsSame b u n
      shows = local.shows n live (marked_not grid (touched n) calm)

      at : (o p : Option (Part Bare)) → part_at u n ≡ o → part_at b n ≡ p → IsSome o → IsSome p → (sight_at u n).below ≡ (sight_at b n).below
      at None p e f l m = absurd cc
      at (Some o) None e f l m = absurd cc
      at (Some o) (Some p) e f l m =
          (sight_part u n o e).its_trees ∙ ap (λ z. map_trees label_in (below_of z)) (sym e)
          ∙ forest_same (below_at u n) (below_at b n) (below_parts u n du) (below_parts b n db) shows.children h
          ∙ ap (λ z. map_trees label_in (below_of z)) f ∙ sym (sight_part b n p f).its_trees

  -- a node that is not touched, has no touched node below it, and is not felt, is seen as before
  pub seen_same : (n : NodeId) → IsDistinct b → IsDistinct u → IsLive u n → touched n ≡ false → ((k : NodeId) → 1 ≤ times k (below_at b n) → touched k ≡ false) → ((k : ℕ) → IsFelt (λ m. grid && touched m) b k n → ⊥) → sight_at u n ≡ sight_at b n
  seen_same n db du live calm h f =
      let label = local.own n live calm in
      let chain = same_chain root b u rb ru touched grid local (level_at u n) n (omega arith) live (marked_not grid (touched n) calm)
      (λ k g. let old = felt_old root b u rb ru touched grid local k n g live (marked_not grid (touched n) calm) in f old.0 old.1) in
      let below = below_same n db du live calm h in
      λ i. record { label = label i; chain = chain i; below = below i }

  pub children_stay : (n : NodeId) → IsLive u n → touched n ≡ false → children_at u n ≡ children_at b n
  children_stay n live calm = (local.shows n live (marked_not grid (touched n) calm)).children
