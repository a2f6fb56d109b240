-- A node removed with all below it: every node that is left and was not its parent keeps its children.
use Rattle.std.proofs.Common.{◌≡◌, ℕ, zero, suc, ◌≤◌, Bool, true, false, [], ◌∷◌, Option, Some, None, IsSome, length, refl, sym, ap, ◌∙◌, arith, inl, inr}
use Rattle.std.specs.Prelude.{◌⊎◌, ◌||◌, slice_get}
use Rattle.std.proofs.lemmas.Bool.{or_right}
use Rattle.plain_tree.specs.Trees.{Trees, leafless, tree}
use Rattle.node_arena.specs.declared.number.NodeId.{NodeId}
use Rattle.node_arena.specs.Numbers.{IsDistinct, Part, below_of, child_at, is_among, number_of, part_at, same, times, top_numbers, tops, way_up}
use Rattle.node_arena.specs.Edits.{nothing, removed}
use Rattle.node_arena.proofs.Edited.{edited_here, edited_none, edited_not}
use Rattle.node_arena.proofs.Parts.{below_within}
use Rattle.node_arena.proofs.Same.{Here, by_place, one_no, one_yes, part_after, part_below, part_here, part_some, part_there, same_is}
use Rattle.node_arena.proofs.Standing.{way_after, way_below, way_here, way_none, way_some}
use Rattle.node_arena.proofs.Ways.{way_removed}
use Rattle.tree_rules.specs.Chains.{sibling_of}
use Rattle.placing.specs.declared.node.Node.{Node}
use Rattle.placing.specs.Nodes.{IsLive, NodeTrees, bare}
use Rattle.placing.proofs.Bares.{child_bare, live_bare}
use Rattle.reach_frame.specs.Local.{IsLocal}
use Rattle.reach_frame.proofs.Above.{among_either, way_inside}
use Rattle.reach_frame.proofs.Frame.{child_live, not_both}
use Rattle.reach_frame.proofs.Rooted.{child_way}
use Rattle.reach_frame.proofs.Values.{faces, label_at, shows_by, sight_labels}

module _ {A : Type 0} (gone : NodeId) where
  pub removed_less : (t : Trees (NodeId × A)) (n : NodeId) → times n (removed gone t) ≤ times n t
  removed_less leafless n = omega arith
  removed_less (tree x below after) n = at (same x.0 gone) refl (removed_less below n) (removed_less after n)
    where
      at : (c : Bool) → same x.0 gone ≡ c → times n (removed gone below) ≤ times n below → times n (removed gone after) ≤ times n after → times n (removed gone (tree x below after)) ≤ times n (tree x below after)
      at true e b a = omega (arith, ap (times n) (edited_here gone nothing x below after e))
      at false e b a = omega (arith, ap (times n) (edited_not gone nothing x below after e), b, a)

  -- what stands under a number that is left
  pub removed_part : (t : Trees (NodeId × A)) (n : NodeId) (q : Part A) → IsDistinct t → same n gone ≡ false → part_at t n ≡ Some q → 1 ≤ times n (removed gone t) → part_at (removed gone t) n ≡ Some (q.0, removed gone q.1)
  removed_part leafless n q d s e l = absurd cc
  removed_part (tree x below after) n q d s e l =
      at (same x.0 gone) refl (λ g k. removed_part below n q (λ m. let h = d m in omega arith) s g k) (λ g k. removed_part after n q (λ m. let h = d m in omega arith) s g k)
    where
      mapped_part : Option (Part A) → Option (Part A)
      mapped_part None = None
      mapped_part (Some r) = Some (r.0, removed gone r.1)

      at : (c : Bool) → same x.0 gone ≡ c → (part_at below n ≡ Some q → 1 ≤ times n (removed gone below) → part_at (removed gone below) n ≡ Some (q.0, removed gone q.1)) → (part_at after n ≡ Some q → 1 ≤ times n (removed gone after) → part_at (removed gone after) n ≡ Some (q.0, removed gone q.1)) →
          part_at (removed gone (tree x below after)) n ≡ Some (q.0, removed gone q.1)
      at true c b a =
          let here = one_yes (same x.0 gone) c in
          let few = d gone in
          let own = d n in
          let left : 1 ≤ times n after = omega (arith, l, ap (times n) (edited_here gone nothing x below after c)) in
          ap (λ u. part_at u n) (edited_here gone nothing x below after c)
          ∙ by_place x below n
          (λ h. let is : same n gone ≡ true = ap (λ k. same k gone) (sym (same_is x.0 n h.is)) ∙ c in absurd (not_both (same n gone) is s))
          (λ h. absurd (omega (arith, h.in_below, left, own)))
          (λ h. let g = sym (part_after x below after n h) ∙ e in
          let z : times gone q.1 ≡ 0 = omega (arith, few, here, below_within after n gone q g) in
          g ∙ ap (λ u. Some (q.0, u)) (sym (edited_none gone nothing q.1 z)))
      at false c b a =
          let own = d n in
          let all : 1 ≤ times n (tree x (removed gone below) (removed gone after)) = omega (arith, l, ap (times n) (edited_not gone nothing x below after c)) in
          ap (λ u. part_at u n) (edited_not gone nothing x below after c)
          ∙ by_place x below n
          (λ h. let is : Some (x.1, below) ≡ Some q = sym (part_here x below after n h) ∙ e in part_here x (removed gone below) (removed gone after) n h ∙ ap mapped_part is)
          (λ h. let no = one_no (same x.0 n) h.not in
          let still : 1 ≤ times n (removed gone below) = omega (arith, all, no, own, h.in_below, removed_less after n) in
          part_below x (removed gone below) (removed gone after) n (record { not = h.not; in_below = still }) ∙ b (sym (part_below x below after n h) ∙ e) still)
          (λ h. let no = one_no (same x.0 n) h.not in
          let none : times n (removed gone below) ≡ 0 = omega (arith, h.none, removed_less below n) in
          part_after x (removed gone below) (removed gone after) n (record { not = h.not; none = none }) ∙ a (sym (part_after x below after n h) ∙ e) (omega (arith, all, no, none)))

  -- what has it on the way up goes with it
  pub way_gone : (t : Trees (NodeId × A)) (n : NodeId) → IsDistinct t → is_among gone (way_up t n) ≡ true → times n (removed gone t) ≡ 0
  way_gone leafless n d e = refl
  way_gone (tree x below after) n d e = at (same x.0 gone) refl (way_gone below n (λ m. let h = d m in omega arith)) (way_gone after n (λ m. let h = d m in omega arith))
    where
      at : (c : Bool) → same x.0 gone ≡ c → (is_among gone (way_up below n) ≡ true → times n (removed gone below) ≡ 0) → (is_among gone (way_up after n) ≡ true → times n (removed gone after) ≡ 0) → times n (removed gone (tree x below after)) ≡ 0
      at true c b a =
          let here = one_yes (same x.0 gone) c in
          let own = d n in
          let few = d gone in
          ap (times n) (edited_here gone nothing x below after c)
          ∙ by_place x below n
          (λ h. let m = one_yes (same x.0 n) h.is in omega (arith, own))
          (λ h. omega (arith, own, h.in_below))
          (λ h. let there = way_inside after n gone (sym (ap (is_among gone) (way_after x below after n h)) ∙ e) in absurd (omega (arith, here, few, there)))
      at false c b a =
          let own = d n in
          ap (times n) (edited_not gone nothing x below after c)
          ∙ by_place x below n
          (λ h. absurd (not_both (same x.0 gone) (alone (sym (ap (is_among gone) (way_here x below after n h)) ∙ e) h) c))
          (λ h. let no = one_no (same x.0 n) h.not in
          let lower = b (in_way (among_either gone (way_up below n) (x.0 ∷ []) (sym (ap (is_among gone) (way_below x below after n h)) ∙ e))) in
          omega (arith, no, lower, own, h.in_below, removed_less after n))
          (λ h. let no = one_no (same x.0 n) h.not in
          let later = a (sym (ap (is_among gone) (way_after x below after n h)) ∙ e) in
          omega (arith, no, later, h.none, removed_less below n))
        where
          first_or : (s t : Bool) → t ≡ false → (s || t) ≡ true → s ≡ true
          first_or true t z q = refl
          first_or false t z q = absurd (not_both t q z)

          alone : is_among gone (n ∷ []) ≡ true → Here x n → same x.0 gone ≡ true
          alone q h = ap (λ k. same k gone) (same_is x.0 n h.is) ∙ first_or (same n gone) false refl q

          in_way : (is_among gone (way_up below n) ≡ true) ⊎ (is_among gone (x.0 ∷ []) ≡ true) → is_among gone (way_up below n) ≡ true
          in_way (inl q) = q
          in_way (inr q) = absurd (not_both (same x.0 gone) (first_or (same x.0 gone) false refl q) c)

pub removed_tops : (gone : NodeId) (t : NodeTrees) → ((j : ℕ) → number_of (slice_get (tops t) j) ≡ Some gone → ⊥) → (top_numbers (removed gone t) ≡ top_numbers t) × (faces (removed gone t) ≡ faces t)
removed_tops gone leafless h = (refl, refl)
removed_tops gone (tree x below after) h = at (same x.0 gone) refl (removed_tops gone after (λ j e. h (suc j) e))
  where
    at : (c : Bool) → same x.0 gone ≡ c → (top_numbers (removed gone after) ≡ top_numbers after) × (faces (removed gone after) ≡ faces after) →
        (top_numbers (removed gone (tree x below after)) ≡ top_numbers (tree x below after)) × (faces (removed gone (tree x below after)) ≡ faces (tree x below after))
    at true e a = absurd (h 0 (ap Some (same_is x.0 gone e)))
    at false e a = (
      ap top_numbers (edited_not gone nothing x below after e) ∙ ap (λ l. x.0 ∷ l) a.0,
      ap faces (edited_not gone nothing x below after e) ∙ ap (λ l. sibling_of (label_at x.1) ∷ l) a.1,
    )

-- the removed node and its parent are touched
module _ (touched : NodeId → Bool) (gone : NodeId) (t : NodeTrees) (d : IsDistinct t) (itself : touched gone ≡ true) (parent : (k : NodeId) (j : ℕ) → child_at t k j ≡ Some gone → touched k ≡ true) where
  pub other : (n : NodeId) → touched n ≡ false → same n gone ≡ false
  other n calm = at (same n gone) refl
    where
      at : (c : Bool) → same n gone ≡ c → same n gone ≡ false
      at true e = absurd (not_both (touched gone) itself (ap touched (sym (same_is n gone e)) ∙ calm))
      at false e = e

  pub no_top : (n : NodeId) (q : Part Node) → part_at t n ≡ Some q → touched n ≡ false → (j : ℕ) → number_of (slice_get (tops q.1) j) ≡ Some gone → ⊥
  no_top n q e calm j f = not_both (touched n) (parent n j (ap (λ o. number_of (slice_get (tops (below_of o)) j)) e ∙ f)) calm

  record IsLeft (n : NodeId) : Type 0 where
    pub part : Part Node
    pub old : part_at t n ≡ Some part
    pub new : part_at (removed gone t) n ≡ Some (part.0, removed gone part.1)

  left : (n : NodeId) → IsLive (bare (removed gone t)) n → touched n ≡ false → IsLeft n
  left n live calm = at (part_at t n) refl
    where
      there : 1 ≤ times n (removed gone t)
      there = part_there (removed gone t) n (sym (live_bare (removed gone t) n) ∙ live)

      at : (o : Option (Part Node)) → part_at t n ≡ o → IsLeft n
      at None e = let some : IsSome (part_at t n) = part_some t n (omega (arith, there, removed_less gone t n)) in absurd cc
      at (Some q) e = record { part = q; old = e; new = removed_part gone t n q d (other n calm) e there }

  pub upper_left : (q n : NodeId) (j : ℕ) → child_at t q j ≡ Some n → 1 ≤ times n (removed gone t) → 1 ≤ times q (removed gone t)
  upper_left q n j e l = at (is_among gone (way_up t q)) refl
    where
      up : way_up t n ≡ n ∷ way_up t q
      up = child_way t q n j d e

      there : 1 ≤ times q t
      there = part_there t q (sym (live_bare t q) ∙ child_live (bare t) q n j (child_bare t q j ∙ e))

      at : (c : Bool) → is_among gone (way_up t q) ≡ c → 1 ≤ times q (removed gone t)
      at true c = absurd (omega (arith, l, way_gone gone t n d (ap (is_among gone) up ∙ or_right (same n gone) (is_among gone (way_up t q)) c)))
      at false c = there_by (times q (removed gone t)) refl
        where
          there_by : (k : ℕ) → times q (removed gone t) ≡ k → 1 ≤ times q (removed gone t)
          there_by zero z = absurd (omega (arith, way_some t q there, ap length (sym (way_removed t gone q there c) ∙ way_none (removed gone t) q z)))
          there_by (suc k) z = omega arith

  pub remove_local : IsLocal touched true (bare t) (bare (removed gone t))
  remove_local =
      record {
        own = λ n live calm. let s = left n live calm in sight_labels (removed gone t) n (s.part.0, removed gone s.part.1) s.new ∙ sym (sight_labels t n s.part s.old);
        shows = λ n live calm. let s = left n live calm in let same_tops = removed_tops gone s.part.1 (no_top n s.part s.old calm) in shows_by t (removed gone t) n s.part (s.part.0, removed gone s.part.1) s.old s.new refl same_tops.0 same_tops.1;
        stays = λ q n j e live calm. live_bare (removed gone t) q ∙ part_some (removed gone t) q (upper_left q n j (sym (child_bare t q j) ∙ e) (part_there (removed gone t) n (sym (live_bare (removed gone t) n) ∙ live)));
      }
