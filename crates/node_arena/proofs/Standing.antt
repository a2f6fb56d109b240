-- What the slots say of the tree.
use Rattle.std.proofs.Common.{◌≡◌, ◌≢◌, ℕ, zero, suc, ◌+◌, ◌≤◌, true, false, List, [], ◌∷◌, ◌++◌, Option, Some, length, refl, sym, ap, ◌∙◌, arith, inl, inr, subst, length-append}
use Rattle.std.specs.Prelude.{◌==◌, ◌⊎◌}
use Rattle.std.proofs.lemmas.Bool.{cases_eq, ne_eqb, eq-eqb, cases_Bool}
use Rattle.plain_tree.specs.Trees.{Trees, leafless, tree, height_of}
use Rattle.node_arena.specs.declared.number.NodeId.{NodeId}
use Rattle.node_arena.specs.Numbers.{same, one, Part, part_at, below_of, top_numbers, times, way_up, upwards, second, IsDistinct}
use Rattle.node_arena.specs.Inside.{Shown, grown, branch_of, Holds, in_slot}
use Rattle.node_arena.proofs.Same.{Here, Below, After, by_place, part_here, part_below, part_after, same_refl, same_is, same_from, same_not, same_both, one_yes, one_no, cond_yes, cond_no}
use Rattle.node_arena.proofs.Parts.{not_here}

-- two slots with one content
pub some_is : {X : Type 0} (x y : X) → Some x ≡ Some y → x ≡ y
some_is x y e = cc

upwards_some : (parent : NodeId) (way other : List NodeId) → 1 ≤ length way → upwards parent way other ≡ way ++ parent ∷ []
upwards_some parent [] other h = absurd (omega arith)
upwards_some parent (n ∷ way) other h = refl

-- a way begins with its number
begins : (x : NodeId) (n : NodeId) (way : List NodeId) → 1 ≤ length way → (first : NodeId) → second (first ∷ way) ≡ Some n → second (first ∷ way ++ x ∷ []) ≡ Some n
begins x n [] l first e = absurd (omega arith)
begins x n (y ∷ ys) l first e = e

-- ---- the way up
module _ {T : Type 0} where
  module _ (x : NodeId × T) (below after : Trees (NodeId × T)) (n : NodeId) where
    pub way_here : Here x n → way_up (tree x below after) n ≡ n ∷ []
    way_here p = cond_yes (same x.0 n) _ _ p.is ∙ ap (λ m. m ∷ []) (same_is x.0 n p.is)

    pub way_not : same x.0 n ≡ false → way_up (tree x below after) n ≡ upwards x.0 (way_up below n) (way_up after n)
    way_not e = cond_no (same x.0 n) _ _ e

  pub way_some : (t : Trees (NodeId × T)) (n : NodeId) → 1 ≤ times n t → 1 ≤ length (way_up t n)
  way_some leafless n h = absurd (omega arith)
  way_some (tree x below after) n h =
      by_place x below n
      (λ p. rw (way_here x below after n p) (omega arith))
      (λ p. rw (way_not x below after n p.not, upwards_some x.0 (way_up below n) (way_up after n) (way_some below n p.in_below)) (omega (arith, length-append (way_up below n) (x.0 ∷ []))))
      (λ p. rw (way_not x below after n p.not) (at (way_up below n) (way_some after n (omega (arith, one_no (same x.0 n) p.not, p.none)))))
    where
      at : (way : List NodeId) → 1 ≤ length (way_up after n) → 1 ≤ length (upwards x.0 way (way_up after n))
      at [] k = k
      at (y ∷ ys) k = omega arith

  pub way_none : (t : Trees (NodeId × T)) (n : NodeId) → times n t ≡ 0 → way_up t n ≡ []
  way_none leafless n e = refl
  way_none (tree x below after) n e =
      by_place x below n
      (λ p. absurd (omega (arith, one_yes (same x.0 n) p.is)))
      (λ p. absurd (omega (arith, p.in_below)))
      (λ p. way_not x below after n p.not ∙ ap (λ w. upwards x.0 w (way_up after n)) (way_none below n p.none) ∙ way_none after n (omega (arith, one_no (same x.0 n) p.not, p.none)))

  pub way_below : (x : NodeId × T) (below after : Trees (NodeId × T)) (n : NodeId) → Below x below n → way_up (tree x below after) n ≡ way_up below n ++ x.0 ∷ []
  way_below x below after n p = way_not x below after n p.not ∙ upwards_some x.0 (way_up below n) (way_up after n) (way_some below n p.in_below)

  pub way_after : (x : NodeId × T) (below after : Trees (NodeId × T)) (n : NodeId) → After x below n → way_up (tree x below after) n ≡ way_up after n
  way_after x below after n p = way_not x below after n p.not ∙ ap (λ w. upwards x.0 w (way_up after n)) (way_none below n p.none)

  pub way_head : (t : Trees (NodeId × T)) (n first : NodeId) → 1 ≤ times n t → second (first ∷ way_up t n) ≡ Some n
  way_head leafless n first h = absurd (omega arith)
  way_head (tree x below after) n first h =
      by_place x below n
      (λ p. ap (λ w. second (first ∷ w)) (way_here x below after n p))
      (λ p. ap (λ w. second (first ∷ w)) (way_below x below after n p) ∙ begins x.0 n (way_up below n) (way_some below n p.in_below) first (way_head below n first p.in_below))
      (λ p. ap (λ w. second (first ∷ w)) (way_after x below after n p) ∙ way_head after n first (omega (arith, one_no (same x.0 n) p.not, p.none)))

  pub way_height : (t : Trees (NodeId × T)) (n : NodeId) (p : Part T) → part_at t n ≡ Some p → length (way_up t n) + height_of p.1 ≤ height_of t
  way_height leafless n p e = absurd cc
  way_height (tree x below after) n p e =
      by_place x below n
      (λ q. let b : height_of below ≡ height_of p.1 = ap (λ o. height_of (below_of o)) (sym (part_here x below after n q) ∙ e) in
      let w : length (way_up (tree x below after) n) ≡ 1 = ap length (way_here x below after n q) in
      omega arith)
      (λ q. let w : length (way_up (tree x below after) n) ≡ length (way_up below n) + 1 = ap length (way_below x below after n q) ∙ length-append (way_up below n) (x.0 ∷ []) in
      omega (arith, way_height below n p (sym (part_below x below after n q) ∙ e)))
      (λ q. let w : length (way_up (tree x below after) n) ≡ length (way_up after n) = ap length (way_after x below after n q) in
      omega (arith, way_height after n p (sym (part_after x below after n q) ∙ e)))

  pub times_within : (t : Trees (NodeId × T)) (n : NodeId) → times n t ≤ in_slot n.slot t
  times_within leafless n = omega arith
  times_within (tree x below after) n = omega (arith, first (cases_Bool (same x.0 n)), times_within below n, times_within after n)
    where
      first : (same x.0 n ≡ true) ⊎ (same x.0 n ≡ false) → one (same x.0 n) ≤ one (x.0.slot == n.slot)
      first (inl e) = omega (arith, one_yes (same x.0 n) e, one_yes (x.0.slot == n.slot) (eq-eqb x.0.slot n.slot (ap (λ m. m.slot) (same_is x.0 n e))))
      first (inr e) = omega (arith, one_no (same x.0 n) e)

module _ {T : Type 0} (slots : ℕ → Option (Shown T)) where
  pub grown_is : (fuel : ℕ) (parent : Option NodeId) (t : Trees (NodeId × T)) → Holds slots parent t → height_of t ≤ fuel → grown fuel slots (top_numbers t) ≡ t
  unfolding grown
  grown_is fuel parent leafless h l = refl
  grown_is zero parent (tree x below after) h l = absurd (omega arith)
  grown_is (suc fuel) parent (tree x below after) h l =
      ap (λ o. branch_of x.0 o (grown fuel slots) (grown (suc fuel) slots (top_numbers after))) h.0
      ∙ (λ i. tree x (grown_is fuel (Some x.0) below h.1.0 (omega arith) i) (grown_is (suc fuel) parent after h.1.1 (omega arith) i))

  -- ---- nodes of a slot
  one_turn : (x n : NodeId) (s : Shown T) → (x.slot ≡ n.slot → s.turn ≡ x.turn) → s.turn ≡ n.turn → one (same x n) ≡ one (x.slot == n.slot)
  one_turn x n s h t = at (cases_eq x.slot n.slot)
    where
      at : (x.slot ≡ n.slot) ⊎ (x.slot ≢ n.slot) → one (same x n) ≡ one (x.slot == n.slot)
      at (inl e) = one_yes (same x n) (same_from x n (same_both x n e (sym (h e) ∙ t))) ∙ sym (one_yes (x.slot == n.slot) (eq-eqb x.slot n.slot e))
      at (inr ne) = one_no (same x n) (same_not x n (λ e. ne (ap (λ m. m.slot) e))) ∙ sym (one_no (x.slot == n.slot) (ne_eqb x.slot n.slot ne))

  pub times_slot : (parent : Option NodeId) (t : Trees (NodeId × T)) (n : NodeId) (s : Shown T) → Holds slots parent t → slots n.slot ≡ Some s → s.turn ≡ n.turn → times n t ≡ in_slot n.slot t
  times_slot parent leafless n s h e t = refl
  times_slot parent (tree x below after) n s h e t =
      let first : one (same x.0 n) ≡ one (x.0.slot == n.slot) = one_turn x.0 n s (λ k. let p : Some s ≡ Some _ = sym e ∙ ap slots (sym k) ∙ h.0 in ap (λ y. y.turn) (some_is s _ p)) t in
      omega (arith, times_slot (Some x.0) below n s h.1.0 e t, times_slot parent after n s h.1.1 e t)

  -- ---- the node of a slot
  pub record Found (parent : Option NodeId) (t : Trees (NodeId × T)) (n : NodeId) (s : Shown T) : Type 0 where
    pub below : Trees (NodeId × T)
    pub part : part_at t n ≡ Some (s.value, below)
    pub turn : s.turn ≡ n.turn
    pub children : s.children ≡ top_numbers below
    pub holds : Holds slots (Some n) below

  pub found : (parent : Option NodeId) (t : Trees (NodeId × T)) (n : NodeId) (s : Shown T) → Holds slots parent t → slots n.slot ≡ Some s → 1 ≤ times n t → Found parent t n s
  found parent leafless n s h e l = absurd (omega arith)
  found parent (tree x below after) n s h e l =
      by_place x below n
      (λ p. let is = same_is x.0 n p.is in
      let y : s ≡ record { turn = x.0.turn; value = x.1; parent = parent; children = top_numbers below } = some_is s _ (sym e ∙ ap (λ m. slots m.slot) (sym is) ∙ h.0) in
      record {
        below = below;
        part = part_here x below after n p ∙ ap (λ v. Some (v, below)) (sym (ap (λ z. z.value) y));
        turn = ap (λ z. z.turn) y ∙ ap (λ m. m.turn) is;
        children = ap (λ z. z.children) y;
        holds = subst (λ m. Holds slots (Some m) below) is h.1.0;
      })
      (λ p. let f = found (Some x.0) below n s h.1.0 e p.in_below in record { below = f.below; part = part_below x below after n p ∙ f.part; turn = f.turn; children = f.children; holds = f.holds })
      (λ p. let f = found parent after n s h.1.1 e (omega (arith, one_no (same x.0 n) p.not, p.none)) in record { below = f.below; part = part_after x below after n p ∙ f.part; turn = f.turn; children = f.children; holds = f.holds })

  -- ---- one step up
  pub record Upper (t : Trees (NodeId × T)) (n : NodeId) (s : Shown T) : Type 0 where
    pub upper : NodeId
    pub parent : s.parent ≡ Some upper
    pub there : 1 ≤ times upper t
    pub way : way_up t n ≡ n ∷ way_up t upper

  abbrev pub Step : Option NodeId → Trees (NodeId × T) → NodeId → Shown T → Type 0
  Step parent t n s = ((s.parent ≡ parent) × (way_up t n ≡ n ∷ [])) ⊎ Upper t n s

  pub step_up : (parent : Option NodeId) (t : Trees (NodeId × T)) (n : NodeId) (s : Shown T) → IsDistinct t → Holds slots parent t → slots n.slot ≡ Some s → 1 ≤ times n t → Step parent t n s
  step_up parent leafless n s d h e l = absurd (omega arith)
  step_up parent (tree x below after) n s d h e l =
      by_place x below n
      (λ p. let is = same_is x.0 n p.is in
      let y : s ≡ record { turn = x.0.turn; value = x.1; parent = parent; children = top_numbers below } = some_is s _ (sym e ∙ ap (λ m. slots m.slot) (sym is) ∙ h.0) in
      inl (ap (λ z. z.parent) y, way_here x below after n p))
      (λ p. in_below p (step_up (Some x.0) below n s (λ c. let f = d c in omega arith) h.1.0 e p.in_below))
      (λ p. in_after p (step_up parent after n s (λ c. let f = d c in omega arith) h.1.1 e (omega (arith, one_no (same x.0 n) p.not, p.none))))
    where
      in_below : Below x below n → Step (Some x.0) below n s → Step parent (tree x below after) n s
      in_below p (inl q) =
          inr (record {
            upper = x.0;
            parent = q.0;
            there = omega (arith, one_yes (same x.0 x.0) (same_refl x.0));
            way = way_below x below after n p ∙ ap (λ w. w ++ x.0 ∷ []) q.1 ∙ sym (ap (λ w. n ∷ w) (way_here x below after x.0 (record { is = same_refl x.0 })));
          })
      in_below p (inr u) =
          let f = d u.upper in
          let k = u.there in
          inr (record {
            upper = u.upper;
            parent = u.parent;
            there = omega arith;
            way = way_below x below after n p ∙ ap (λ w. w ++ x.0 ∷ []) u.way ∙ sym (ap (λ w. n ∷ w) (way_below x below after u.upper (record { not = not_here x below after u.upper f (omega arith); in_below = k })));
          })

      in_after : After x below n → Step parent after n s → Step parent (tree x below after) n s
      in_after p (inl q) = inl (q.0, way_after x below after n p ∙ q.1)
      in_after p (inr u) =
          let f = d u.upper in
          let k = u.there in
          inr (record {
            upper = u.upper;
            parent = u.parent;
            there = omega arith;
            way = way_after x below after n p ∙ u.way ∙ sym (ap (λ w. n ∷ w) (way_after x below after u.upper (record { not = not_here x below after u.upper f (omega arith); none = omega arith })));
          })
