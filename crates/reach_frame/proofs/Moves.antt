-- A node moved with all below it: what is below it is as it was, and every other node but its two parents keeps its children.
use Rattle.std.proofs.Common.{◌≡◌, ℕ, zero, suc, ◌+◌, ◌≤◌, Bool, true, false, ◌∷◌, Option, Some, None, IsSome, cond, refl, sym, ap, ◌∙◌, arith, inl, inr}
use Rattle.std.specs.Prelude.{◌⊎◌}
use Rattle.std.proofs.lemmas.Bool.{or_cases}
use Rattle.plain_tree.specs.Trees.{Trees, leafless, tree, joined}
use Rattle.node_arena.specs.declared.number.NodeId.{NodeId}
use Rattle.node_arena.specs.Numbers.{IsDistinct, Part, child_at, either, is_among, one, part_at, same, times, top_numbers, way_up}
use Rattle.node_arena.specs.Edits.{graft, grafted, moved, nothing, put_at, removed, tree_at}
use Rattle.node_arena.proofs.Edited.{edited_here, edited_none, edited_not, tops_grafted, tree_is}
use Rattle.node_arena.proofs.Parts.{part_within}
use Rattle.node_arena.proofs.Same.{by_place, cond_no, cond_yes, one_no, part_none, part_some, part_there, same_from, same_is}
use Rattle.node_arena.proofs.Ways.{within_way}
use Rattle.tree_rules.specs.Chains.{sibling_of}
use Rattle.placing.specs.declared.node.Node.{Node}
use Rattle.placing.specs.Nodes.{IsLive, NodeTrees, bare}
use Rattle.placing.proofs.Bares.{child_bare, live_bare}
use Rattle.reach_frame.specs.Local.{IsLocal}
use Rattle.reach_frame.proofs.Frame.{child_live, not_both}
use Rattle.reach_frame.proofs.Grafts.{faces_grafted, graft_more, graft_none, graft_part, joined_times, put_times}
use Rattle.reach_frame.proofs.Removals.{no_top, other, removed_less, removed_part, removed_tops, upper_left, way_gone}
use Rattle.reach_frame.proofs.Rooted.{child_way}
use Rattle.reach_frame.proofs.Values.{faces, label_at, shows_by, sight_labels}

no_same : (c : Bool) → one c ≡ 0 → c ≡ false
no_same true e = absurd (omega arith)
no_same false e = refl

module _ {A : Type 0} where
  either_none : (o : Option (Part A)) → either o None ≡ o
  either_none None = refl
  either_none (Some q) = refl

  none_first : (o p : Option (Part A)) → o ≡ None → either o p ≡ p
  none_first o p e = ap (λ z. either z p) e

  -- a tree's nodes stand in it or in what is left
  pub split_times : (gone : NodeId) (t : Trees (NodeId × A)) (k : NodeId) → times k (removed gone t) + times k (tree_at gone t) ≡ times k t
  split_times gone leafless k = refl
  split_times gone (tree x below after) k = at (same x.0 gone) refl (split_times gone below k) (split_times gone after k)
    where
      at : (c : Bool) → same x.0 gone ≡ c → times k (removed gone below) + times k (tree_at gone below) ≡ times k below → times k (removed gone after) + times k (tree_at gone after) ≡ times k after →
          times k (removed gone (tree x below after)) + times k (tree_at gone (tree x below after)) ≡ times k (tree x below after)
      at true e b a = omega (arith, ap (times k) (edited_here gone nothing x below after e), ap (times k) (cond_yes (same x.0 gone) (tree x below leafless) (joined (tree_at gone below) (tree_at gone after)) e))
      at false e b a = omega (arith, ap (times k) (edited_not gone nothing x below after e), ap (times k) (cond_no (same x.0 gone) (tree x below leafless) (joined (tree_at gone below) (tree_at gone after)) e), joined_times (tree_at gone below) (tree_at gone after) k, b, a)

  joined_inner : (new t : Trees (NodeId × A)) (n : NodeId) → times n t ≡ 0 → part_at (joined new t) n ≡ part_at new n
  joined_inner leafless t n e = part_none t n e
  joined_inner (tree y c d) t n e = ap (λ o. cond (same y.0 n) (Some (y.1, c)) (either (part_at c n) o)) (joined_inner d t n e)

  put_inner : (i : ℕ) (new t : Trees (NodeId × A)) (n : NodeId) → times n t ≡ 0 → part_at (put_at i new t) n ≡ part_at new n
  put_inner i new leafless n e = refl
  put_inner zero new (tree x below after) n e = joined_inner new (tree x below after) n e
  put_inner (suc i) new (tree x below after) n e =
      cond_no (same x.0 n) (Some (x.1, below)) (either (part_at below n) (part_at (put_at i new after) n)) (no_same (same x.0 n) (omega arith))
      ∙ none_first (part_at below n) (part_at (put_at i new after) n) (part_none below n (omega arith)) ∙ put_inner i new after n (omega arith)

  module _ (p : NodeId) (i : ℕ) (new : Trees (NodeId × A)) where
    -- what stands in the grafted trees
    graft_inner : (t : Trees (NodeId × A)) (n : NodeId) → 1 ≤ times p t → times p t ≤ 1 → times n t ≡ 0 → part_at (grafted p i new t) n ≡ part_at new n
    graft_inner leafless n l d e = absurd (omega arith)
    graft_inner (tree x below after) n l d e = at (same x.0 p) refl (λ a b. graft_inner below n a b (omega arith)) (λ a b. graft_inner after n a b (omega arith))
      where
        own : same x.0 n ≡ false
        own = no_same (same x.0 n) (omega arith)

        at : (c : Bool) → same x.0 p ≡ c → (1 ≤ times p below → times p below ≤ 1 → part_at (grafted p i new below) n ≡ part_at new n) → (1 ≤ times p after → times p after ≤ 1 → part_at (grafted p i new after) n ≡ part_at new n) → part_at (grafted p i new (tree x below after)) n ≡ part_at new n
        at true c b a =
            ap (λ u. part_at u n) (edited_here p (graft i new) x below after c)
            ∙ cond_no (same x.0 n) (Some (x.1, put_at i new below)) (either (part_at (put_at i new below) n) (part_at after n)) own
            ∙ (λ j. either (put_inner i new below n (omega arith) j) (part_none after n (omega arith) j)) ∙ either_none (part_at new n)
        at false c b a =
            let no = one_no (same x.0 p) c in
            ap (λ u. part_at u n) (edited_not p (graft i new) x below after c)
            ∙ cond_no (same x.0 n) (Some (x.1, grafted p i new below)) (either (part_at (grafted p i new below) n) (part_at (grafted p i new after) n)) own
            ∙ by_place x below p
            (λ h. absurd (not_both (same x.0 p) h.is c))
            (λ h. let none : part_at (grafted p i new after) n ≡ None = ap (λ u. part_at u n) (edited_none p (graft i new) after (omega (arith, d, h.in_below))) ∙ part_none after n (omega arith) in
            (λ j. either (b h.in_below (omega (arith, d)) j) (none j)) ∙ either_none (part_at new n))
            (λ h. let none : part_at (grafted p i new below) n ≡ None = ap (λ u. part_at u n) (edited_none p (graft i new) below h.none) ∙ part_none below n (omega arith) in
            none_first (part_at (grafted p i new below) n) (part_at (grafted p i new after) n) none ∙ a (omega (arith, l, no, h.none)) (omega (arith, d)))

    graft_new : (t : Trees (NodeId × A)) (n : NodeId) → 1 ≤ times p t → times n new ≤ times n (grafted p i new t)
    graft_new leafless n l = absurd (omega arith)
    graft_new (tree x below after) n l = at (same x.0 p) refl (graft_new below n) (graft_new after n)
      where
        at : (c : Bool) → same x.0 p ≡ c → (1 ≤ times p below → times n new ≤ times n (grafted p i new below)) → (1 ≤ times p after → times n new ≤ times n (grafted p i new after)) → times n new ≤ times n (grafted p i new (tree x below after))
        at true c b a = omega (arith, ap (times n) (edited_here p (graft i new) x below after c), put_times i new below n)
        at false c b a =
            let is = ap (times n) (edited_not p (graft i new) x below after c) in
            let no = one_no (same x.0 p) c in
            by_place x below p
            (λ h. absurd (not_both (same x.0 p) h.is c))
            (λ h. omega (arith, is, b h.in_below))
            (λ h. omega (arith, is, a (omega (arith, l, no, h.none))))

-- the moved node, its old parent and its new one are touched
module _ (touched : NodeId → Bool) (gone p : NodeId) (i : ℕ) (t : NodeTrees) (d : IsDistinct t) (itself : touched gone ≡ true) (old : (k : NodeId) (j : ℕ) → child_at t k j ≡ Some gone → touched k ≡ true) (upper : touched p ≡ true) (there : 1 ≤ times p (removed gone t)) (r : Part Node)
    (whole : part_at t gone ≡ Some r) where
  abbrev rest : NodeTrees
  rest = removed gone t

  abbrev lot : NodeTrees
  lot = tree_at gone t

  abbrev new : NodeTrees
  new = moved gone p i t

  rest_distinct : IsDistinct rest
  rest_distinct k = let few = d k in omega (arith, few, removed_less gone t k)

  other_parent : (n : NodeId) → touched n ≡ false → same n p ≡ false
  other_parent n calm = at (same n p) refl
    where
      at : (c : Bool) → same n p ≡ c → same n p ≡ false
      at true e = absurd (not_both (touched p) upper (ap touched (sym (same_is n p e)) ∙ calm))
      at false e = e

  lot_times : (n : NodeId) → same gone n ≡ false → times n lot ≡ times n r.1
  lot_times n e = let no = one_no (same gone n) e in omega (arith, no, ap (times n) (tree_is gone t r (d gone) whole))

  turned : (n : NodeId) → same n gone ≡ false → same gone n ≡ false
  turned n e = at (same gone n) refl
    where
      at : (c : Bool) → same gone n ≡ c → same gone n ≡ false
      at true c = absurd (not_both (same n gone) (same_from n gone (sym (same_is gone n c))) e)
      at false c = c

  -- what stands under a number before and after
  record IsKept (n : NodeId) : Type 0 where
    pub before : Part Node
    pub after : Part Node
    pub old_part : part_at t n ≡ Some before
    pub new_part : part_at new n ≡ Some after
    pub value : after.0 ≡ before.0
    pub tops : top_numbers after.1 ≡ top_numbers before.1
    pub kids : faces after.1 ≡ faces before.1

  inner : (n : NodeId) → touched n ≡ false → 1 ≤ times n lot → IsKept n
  inner n calm l =
      let apart = turned n (other touched gone t d itself old n calm) in
      let lower : 1 ≤ times n r.1 = omega (arith, l, lot_times n apart) in
      let few = d n in
      let none : times n rest ≡ 0 = omega (arith, few, l, split_times gone t n) in
      let one_whole = rest_distinct p in
      let was : part_at t n ≡ part_at r.1 n = part_within t gone n r whole few lower in
      let is : part_at new n ≡ part_at t n =
      graft_inner p i lot rest n there one_whole none ∙ ap (λ u. part_at u n) (tree_is gone t r (d gone) whole)
      ∙ cond_no (same gone n) (Some (r.0, r.1)) (either (part_at r.1 n) None) apart ∙ either_none (part_at r.1 n) ∙ sym was in
      at (part_at r.1 n) was is (part_some r.1 n lower)
    where
      at : (o : Option (Part Node)) → part_at t n ≡ o → part_at new n ≡ part_at t n → IsSome o → IsKept n
      at None e f m = absurd cc
      at (Some q) e f m = record { before = q; after = q; old_part = e; new_part = f ∙ e; value = refl; tops = refl; kids = refl }

  outer : (n : NodeId) → touched n ≡ false → times n lot ≡ 0 → 1 ≤ times n rest → IsKept n
  outer n calm z l = at (part_at t n) refl
    where
      at : (o : Option (Part Node)) → part_at t n ≡ o → IsKept n
      at None e = let some : IsSome (part_at t n) = part_some t n (omega (arith, l, removed_less gone t n)) in absurd cc
      at (Some q) e =
          let free = removed_tops gone q.1 (no_top touched gone t d itself old n q e calm) in
          record {
            before = q;
            after = (q.0, grafted p i lot (removed gone q.1));
            old_part = e;
            new_part = graft_part p i lot rest n (q.0, removed gone q.1) rest_distinct (other_parent n calm) z (removed_part gone t n q d (other touched gone t d itself old n calm) e l);
            value = refl;
            tops = tops_grafted p i lot (removed gone q.1) ∙ free.0;
            kids = faces_grafted p i lot (removed gone q.1) ∙ free.1;
          }

  kept : (n : NodeId) → IsLive (bare new) n → touched n ≡ false → IsKept n
  kept n live calm = at (times n lot) refl
    where
      now : 1 ≤ times n new
      now = part_there new n (sym (live_bare new n) ∙ live)

      rest_at : (k : ℕ) → times n lot ≡ 0 → times n rest ≡ k → IsKept n
      rest_at zero z e = absurd (omega (arith, now, graft_none p i lot rest n z e))
      rest_at (suc k) z e = outer n calm z (omega (arith, e))

      at : (k : ℕ) → times n lot ≡ k → IsKept n
      at zero z = rest_at (times n rest) z refl
      at (suc k) z = inner n calm (omega (arith, z))

  stays_under : (q n : NodeId) (j : ℕ) → child_at t q j ≡ Some n → IsLive (bare new) n → touched n ≡ false → 1 ≤ times q new
  stays_under q n j e live calm = at (times n lot) refl
    where
      now : 1 ≤ times n new
      now = part_there new n (sym (live_bare new n) ∙ live)

      own : 1 ≤ times q t
      own = part_there t q (sym (live_bare t q) ∙ child_live (bare t) q n j (child_bare t q j ∙ e))

      rest_at : (k : ℕ) → times n lot ≡ 0 → times n rest ≡ k → 1 ≤ times q new
      rest_at zero z f = absurd (omega (arith, now, graft_none p i lot rest n z f))
      rest_at (suc k) z f = omega (arith, graft_more p i lot rest q, upper_left touched gone t d itself old q n j e (omega (arith, f)))

      in_lot : 1 ≤ times n lot → 1 ≤ times q new
      in_lot l =
          let differ = other touched gone t d itself old n calm in
          let lower : 1 ≤ times n r.1 = omega (arith, l, lot_times n (turned n differ)) in
          let way : is_among gone (n ∷ way_up t q) ≡ true = ap (is_among gone) (sym (child_way t q n j d e)) ∙ within_way t gone n r whole (d n) (omega (arith, lower)) in
          let gone_too : times q rest ≡ 0 = way_gone gone t q d (second_of (or_cases (same n gone) (is_among gone (way_up t q)) way) differ) in
          omega (arith, own, gone_too, split_times gone t q, graft_new p i lot rest q there)
        where
          second_of : (same n gone ≡ true) ⊎ (is_among gone (way_up t q) ≡ true) → same n gone ≡ false → is_among gone (way_up t q) ≡ true
          second_of (inl h) f = absurd (not_both (same n gone) h f)
          second_of (inr h) f = h

      at : (k : ℕ) → times n lot ≡ k → 1 ≤ times q new
      at zero z = rest_at (times n rest) z refl
      at (suc k) z = in_lot (omega (arith, z))

  pub move_local : IsLocal touched true (bare t) (bare new)
  move_local =
      record {
        own = λ n live calm. let k = kept n live calm in sight_labels new n k.after k.new_part ∙ ap label_at k.value ∙ sym (sight_labels t n k.before k.old_part);
        shows = λ n live calm. let k = kept n live calm in shows_by t new n k.before k.after k.old_part k.new_part (ap (λ (v : Node). sibling_of (label_at v)) k.value) k.tops k.kids;
        stays = λ q n j e live calm. live_bare new q ∙ part_some new q (stays_under q n j (sym (child_bare t q j) ∙ e) live calm);
      }
