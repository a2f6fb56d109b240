-- Nodes that are made under a parent: every other node keeps its children.
use Rattle.std.proofs.Common.{◌≡◌, ℕ, zero, suc, ◌+◌, ◌≤◌, Bool, true, false, ◌∷◌, Option, Some, None, IsSome, is_some, cond, refl, sym, ap, ◌∙◌, arith}
use Rattle.plain_tree.specs.Trees.{Trees, leafless, tree, joined}
use Rattle.node_arena.specs.declared.number.NodeId.{NodeId}
use Rattle.node_arena.specs.Numbers.{IsDistinct, Part, either, one, part_at, same, times}
use Rattle.node_arena.specs.Edits.{graft, grafted, put_at}
use Rattle.node_arena.proofs.Edited.{edited_here, edited_none, edited_not, tops_grafted}
use Rattle.node_arena.proofs.Parts.{below_within}
use Rattle.node_arena.proofs.Same.{by_place, cond_no, one_yes, part_after, part_below, part_here, part_none, part_some, part_there, same_is}
use Rattle.placing.specs.declared.node.Node.{Node}
use Rattle.placing.specs.Nodes.{IsLive, NodeTrees, bare}
use Rattle.placing.proofs.Bares.{live_bare}
use Rattle.reach_frame.specs.Local.{IsLocal}
use Rattle.reach_frame.proofs.Frame.{child_live, not_both}
use Rattle.reach_frame.proofs.Values.{faces, label_at, shows_by, sight_labels}
use Rattle.tree_rules.specs.Chains.{sibling_of}

no_same : (c : Bool) → one c ≡ 0 → c ≡ false
no_same true e = absurd (omega arith)
no_same false e = refl

module _ {A : Type 0} where
  pub joined_part : (new t : Trees (NodeId × A)) (n : NodeId) → times n new ≡ 0 → part_at (joined new t) n ≡ part_at t n
  joined_part leafless t n e = refl
  joined_part (tree y c d) t n e =
      cond_no (same y.0 n) (Some (y.1, c)) (either (part_at c n) (part_at (joined d t) n)) (no_same (same y.0 n) (omega arith))
      ∙ ap (λ o. either o (part_at (joined d t) n)) (part_none c n (omega arith)) ∙ joined_part d t n (omega arith)

  put_part : (i : ℕ) (new t : Trees (NodeId × A)) (n : NodeId) → times n new ≡ 0 → part_at (put_at i new t) n ≡ part_at t n
  put_part i new leafless n e = part_none new n e
  put_part zero new (tree x below after) n e = joined_part new (tree x below after) n e
  put_part (suc i) new (tree x below after) n e = ap (λ o. cond (same x.0 n) (Some (x.1, below)) (either (part_at below n) o)) (put_part i new after n e)

  pub joined_times : (new t : Trees (NodeId × A)) (n : NodeId) → times n (joined new t) ≡ times n new + times n t
  joined_times leafless t n = omega arith
  joined_times (tree y c d) t n = omega (arith, joined_times d t n)

  pub put_times : (i : ℕ) (new t : Trees (NodeId × A)) (n : NodeId) → times n (put_at i new t) ≡ times n new + times n t
  put_times i new leafless n = omega arith
  put_times zero new (tree x below after) n = joined_times new (tree x below after) n
  put_times (suc i) new (tree x below after) n = omega (arith, put_times i new after n)

  module _ (p : NodeId) (i : ℕ) (new : Trees (NodeId × A)) where
    pub graft_more : (t : Trees (NodeId × A)) (n : NodeId) → times n t ≤ times n (grafted p i new t)
    graft_more leafless n = omega arith
    graft_more (tree x below after) n = at (same x.0 p) refl (graft_more below n) (graft_more after n)
      where
        at : (c : Bool) → same x.0 p ≡ c → times n below ≤ times n (grafted p i new below) → times n after ≤ times n (grafted p i new after) → times n (tree x below after) ≤ times n (grafted p i new (tree x below after))
        at true e b a = omega (arith, ap (times n) (edited_here p (graft i new) x below after e), put_times i new below n)
        at false e b a = omega (arith, ap (times n) (edited_not p (graft i new) x below after e), b, a)

    pub graft_none : (t : Trees (NodeId × A)) (n : NodeId) → times n new ≡ 0 → times n t ≡ 0 → times n (grafted p i new t) ≡ 0
    graft_none leafless n e z = refl
    graft_none (tree x below after) n e z = at (same x.0 p) refl (graft_none below n e (omega arith)) (graft_none after n e (omega arith))
      where
        at : (c : Bool) → same x.0 p ≡ c → times n (grafted p i new below) ≡ 0 → times n (grafted p i new after) ≡ 0 → times n (grafted p i new (tree x below after)) ≡ 0
        at true c b a = omega (arith, ap (times n) (edited_here p (graft i new) x below after c), put_times i new below n, e, z)
        at false c b a = omega (arith, ap (times n) (edited_not p (graft i new) x below after c), b, a, z)

    -- what stands under another number
    pub graft_part : (t : Trees (NodeId × A)) (n : NodeId) (q : Part A) → IsDistinct t → same n p ≡ false → times n new ≡ 0 → part_at t n ≡ Some q → part_at (grafted p i new t) n ≡ Some (q.0, grafted p i new q.1)
    graft_part leafless n q d s e f = absurd cc
    graft_part (tree x below after) n q d s e f =
        at (same x.0 p) refl (λ g. graft_part below n q (λ k. let h = d k in omega arith) s e g) (λ g. graft_part after n q (λ k. let h = d k in omega arith) s e g)
      where
        at : (c : Bool) → same x.0 p ≡ c → (part_at below n ≡ Some q → part_at (grafted p i new below) n ≡ Some (q.0, grafted p i new q.1)) → (part_at after n ≡ Some q → part_at (grafted p i new after) n ≡ Some (q.0, grafted p i new q.1)) →
            part_at (grafted p i new (tree x below after)) n ≡ Some (q.0, grafted p i new q.1)
        at true c b a =
            let here = one_yes (same x.0 p) c in
            let few = d p in
            ap (λ u. part_at u n) (edited_here p (graft i new) x below after c)
            ∙ by_place x below n
            (λ h. let is : same n p ≡ true = ap (λ k. same k p) (sym (same_is x.0 n h.is)) ∙ c in absurd (not_both (same n p) is s))
            (λ h. let g = sym (part_below x below after n h) ∙ f in
            let z : times p q.1 ≡ 0 = omega (arith, few, here, below_within below n p q g) in
            part_below x (put_at i new below) after n (record { not = h.not; in_below = omega (arith, h.in_below, put_times i new below n) }) ∙ put_part i new below n e ∙ g ∙ ap (λ u. Some (q.0, u)) (sym (edited_none p (graft i new) q.1 z)))
            (λ h. let g = sym (part_after x below after n h) ∙ f in
            let z : times p q.1 ≡ 0 = omega (arith, few, here, below_within after n p q g) in
            part_after x (put_at i new below) after n (record { not = h.not; none = omega (arith, h.none, e, put_times i new below n) }) ∙ g ∙ ap (λ u. Some (q.0, u)) (sym (edited_none p (graft i new) q.1 z)))
        at false c b a =
            ap (λ u. part_at u n) (edited_not p (graft i new) x below after c)
            ∙ by_place x below n
            (λ h. let is : Some (x.1, below) ≡ Some q = sym (part_here x below after n h) ∙ f in part_here x (grafted p i new below) (grafted p i new after) n h ∙ ap grafted_part is)
            (λ h. let g = b (sym (part_below x below after n h) ∙ f) in part_below x (grafted p i new below) (grafted p i new after) n (record { not = h.not; in_below = part_there (grafted p i new below) n (ap is_some g) }) ∙ g)
            (λ h. part_after x (grafted p i new below) (grafted p i new after) n (record { not = h.not; none = graft_none below n e h.none }) ∙ a (sym (part_after x below after n h) ∙ f))
          where
            grafted_part : Option (Part A) → Option (Part A)
            grafted_part None = None
            grafted_part (Some r) = Some (r.0, grafted p i new r.1)

pub faces_grafted : (p : NodeId) (i : ℕ) (new t : NodeTrees) → faces (grafted p i new t) ≡ faces t
faces_grafted p i new leafless = refl
faces_grafted p i new (tree x below after) = at (same x.0 p) refl (faces_grafted p i new after)
  where
    at : (c : Bool) → same x.0 p ≡ c → faces (grafted p i new after) ≡ faces after → faces (grafted p i new (tree x below after)) ≡ faces (tree x below after)
    at true e a = ap faces (edited_here p (graft i new) x below after e)
    at false e a = ap faces (edited_not p (graft i new) x below after e) ∙ ap (λ l. sibling_of (label_at x.1) ∷ l) a

-- trees under a parent, all of whose nodes are touched, as the parent is
module _ (touched : NodeId → Bool) (p : NodeId) (i : ℕ) (new t : NodeTrees) (d : IsDistinct t) (parent : touched p ≡ true) (made : (k : NodeId) → touched k ≡ false → times k new ≡ 0) where
  other : (n : NodeId) → touched n ≡ false → same n p ≡ false
  other n calm = at (same n p) refl
    where
      at : (c : Bool) → same n p ≡ c → same n p ≡ false
      at true e = absurd (not_both (touched p) parent (ap touched (sym (same_is n p e)) ∙ calm))
      at false e = e

  old_part : (n : NodeId) → IsLive (bare (grafted p i new t)) n → touched n ≡ false → (q : Part Node) × (part_at t n ≡ Some q)
  old_part n live calm = at (part_at t n) refl
    where
      at : (o : Option (Part Node)) → part_at t n ≡ o → (q : Part Node) × (part_at t n ≡ Some q)
      at None e =
          let there : 1 ≤ times n (grafted p i new t) = part_there (grafted p i new t) n (sym (live_bare (grafted p i new t) n) ∙ live) in
          absurd (omega (arith, there, graft_none p i new t n (made n calm) (gone (times n t) refl)))
        where
          gone : (k : ℕ) → times n t ≡ k → times n t ≡ 0
          gone zero z = z
          gone (suc k) z = let some : IsSome (part_at t n) = part_some t n (omega arith) in absurd cc
      at (Some q) e = (q, e)

  pub graft_local : IsLocal touched true (bare t) (bare (grafted p i new t))
  graft_local =
      record {
        own = λ n live calm. let q = old_part n live calm in sight_labels (grafted p i new t) n (q.0.0, grafted p i new q.0.1) (graft_part p i new t n q.0 d (other n calm) (made n calm) q.1) ∙ sym (sight_labels t n q.0 q.1);
        shows = λ n live calm. let q = old_part n live calm in shows_by t (grafted p i new t) n q.0 (q.0.0, grafted p i new q.0.1) q.1 (graft_part p i new t n q.0 d (other n calm) (made n calm) q.1) refl (tops_grafted p i new q.0.1) (faces_grafted p i new q.0.1);
        stays = λ q n j e live calm.
            let old : 1 ≤ times q t = part_there t q (sym (live_bare t q) ∙ child_live (bare t) q n j e) in
            live_bare (grafted p i new t) q ∙ part_some (grafted p i new t) q (omega (arith, old, graft_more p i new t q));
      }
