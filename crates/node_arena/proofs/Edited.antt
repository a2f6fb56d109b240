-- A tree of a number replaced by others: sums over the nodes, levels, and facts of each node.
use Rattle.std.proofs.Common.{◌≡◌, ℕ, zero, suc, ◌+◌, ◌-◌, ◌≤◌, max, true, false, [], ◌∷◌, ◌++◌, insert, Some, length, refl, sym, ap, ◌∙◌, arith, inl, inr, length-append}
use Rattle.std.specs.Prelude.{◌==◌, ◌⊎◌}
use Rattle.std.proofs.lemmas.Bool.{cases_Bool}
use Rattle.plain_tree.specs.Trees.{Trees, leafless, tree, joined, size_of, height_of, count_of}
use Rattle.plain_tree.proofs.Laws.{joined-leafless, count_of-joined, height_of-joined}
use Rattle.node_arena.specs.declared.number.NodeId.{NodeId}
use Rattle.node_arena.specs.Numbers.{same, one, Part, part_at, value_of, below_of, top_numbers, times, way_up, EachNode, IsNarrow}
use Rattle.node_arena.specs.Edits.{edited, put_at, graft, grafted, tree_at}
use Rattle.node_arena.specs.Inside.{in_slot}
use Rattle.node_arena.proofs.Same.{Here, by_place, part_here, part_below, part_after, same_is, one_yes, one_no, cond_yes, cond_no}
use Rattle.node_arena.proofs.Standing.{way_here, way_below, way_after, way_height}

module _ {A : Type 0} (n : NodeId) (f : NodeId × A → Trees (NodeId × A) → Trees (NodeId × A)) where
  pub edited_here : (x : NodeId × A) (below after : Trees (NodeId × A)) → same x.0 n ≡ true → edited n f (tree x below after) ≡ joined (f x below) after
  edited_here x below after e = cond_yes (same x.0 n) _ _ e

  pub edited_not : (x : NodeId × A) (below after : Trees (NodeId × A)) → same x.0 n ≡ false → edited n f (tree x below after) ≡ tree x (edited n f below) (edited n f after)
  edited_not x below after e = cond_no (same x.0 n) _ _ e

  pub edited_none : (t : Trees (NodeId × A)) → times n t ≡ 0 → edited n f t ≡ t
  edited_none leafless e = refl
  edited_none (tree x below after) e = at (cases_Bool (same x.0 n)) (λ k. edited_none below k) (λ k. edited_none after k)
    where
      at : (same x.0 n ≡ true) ⊎ (same x.0 n ≡ false) → (times n below ≡ 0 → edited n f below ≡ below) → (times n after ≡ 0 → edited n f after ≡ after) → edited n f (tree x below after) ≡ tree x below after
      at (inl p) b a = absurd (omega (arith, one_yes (same x.0 n) p))
      at (inr p) b a = let no = one_no (same x.0 n) p in edited_not x below after p ∙ (λ i. tree x (b (omega arith) i) (a (omega arith) i))

-- what stands at the number, where it is the first tree
pub part_value : {A : Type 0} (x : NodeId × A) (below after : Trees (NodeId × A)) (n : NodeId) (p : Part A) → Here x n → part_at (tree x below after) n ≡ Some p → x ≡ (n, p.0)
part_value x below after n p h e = λ i. (same_is x.0 n h.is i, some_value (ap value_of (sym (part_here x below after n h) ∙ e)) i)
  where
    some_value : Some x.1 ≡ Some p.0 → x.1 ≡ p.0
    some_value q = cc

pub part_trees : {A : Type 0} (x : NodeId × A) (below after : Trees (NodeId × A)) (n : NodeId) (p : Part A) → Here x n → part_at (tree x below after) n ≡ Some p → below ≡ p.1
part_trees x below after n p h e = ap below_of (sym (part_here x below after n h) ∙ e)

-- ---- sums over the nodes
abbrev pub summed : {A : Type 0} → (NodeId × A → ℕ) → Trees (NodeId × A) → ℕ
summed w leafless = 0
summed w (tree x below after) = w x + summed w below + summed w after

pub size_summed : {A : Type 0} (t : Trees (NodeId × A)) → size_of t ≡ summed (λ _. 1) t
size_summed leafless = refl
size_summed (tree x below after) = omega (arith, size_summed below, size_summed after)

pub in_slot_summed : {A : Type 0} (k : ℕ) (t : Trees (NodeId × A)) → in_slot k t ≡ summed (λ x. one (x.0.slot == k)) t
in_slot_summed k leafless = refl
in_slot_summed k (tree x below after) = omega (arith, in_slot_summed k below, in_slot_summed k after)

pub times_summed : {A : Type 0} (n : NodeId) (t : Trees (NodeId × A)) → times n t ≡ summed (λ x. one (same x.0 n)) t
times_summed n leafless = refl
times_summed n (tree x below after) = omega (arith, times_summed n below, times_summed n after)

module _ {A : Type 0} (w : NodeId × A → ℕ) where
  pub summed_joined : (s t : Trees (NodeId × A)) → summed w (joined s t) ≡ summed w s + summed w t
  summed_joined leafless t = omega arith
  summed_joined (tree x below after) t = omega (arith, summed_joined after t)

  pub summed_put : (index : ℕ) (new t : Trees (NodeId × A)) → summed w (put_at index new t) ≡ summed w new + summed w t
  summed_put index new leafless = omega arith
  summed_put zero new (tree x below after) = summed_joined new (tree x below after)
  summed_put (suc index) new (tree x below after) = omega (arith, summed_put index new after)

  pub summed_edited : (n : NodeId) (f : NodeId × A → Trees (NodeId × A) → Trees (NodeId × A)) (t : Trees (NodeId × A)) (p : Part A) → times n t ≤ 1 → part_at t n ≡ Some p →
      summed w (edited n f t) + (w (n, p.0) + summed w p.1) ≡ summed w t + summed w (f (n, p.0) p.1)
  summed_edited n f leafless p d e = absurd cc
  summed_edited n f (tree x below after) p d e =
      by_place x below n
      (λ h. let is : x ≡ (n, p.0) = part_value x below after n p h e in
      let b : below ≡ p.1 = part_trees x below after n p h e in
      let v : w x ≡ w (n, p.0) = ap w is in
      let s : summed w below ≡ summed w p.1 = ap (summed w) b in
      let k : summed w (edited n f (tree x below after)) ≡ summed w (f x below) + summed w after = ap (summed w) (edited_here n f x below after h.is) ∙ summed_joined (f x below) after in
      let q : summed w (f x below) ≡ summed w (f (n, p.0) p.1) = λ i. summed w (f (is i) (b i)) in
      omega arith)
      (λ h. let no = one_no (same x.0 n) h.not in let l = h.in_below in
      let k : summed w (edited n f (tree x below after)) ≡ w x + summed w (edited n f below) + summed w (edited n f after) = ap (summed w) (edited_not n f x below after h.not) in
      let a : summed w (edited n f after) ≡ summed w after = ap (summed w) (edited_none n f after (omega arith)) in
      omega (arith, summed_edited n f below p (omega arith) (sym (part_below x below after n h) ∙ e)))
      (λ h. let no = one_no (same x.0 n) h.not in let l = h.none in
      let k : summed w (edited n f (tree x below after)) ≡ w x + summed w (edited n f below) + summed w (edited n f after) = ap (summed w) (edited_not n f x below after h.not) in
      let b : summed w (edited n f below) ≡ summed w below = ap (summed w) (edited_none n f below l) in
      omega (arith, summed_edited n f after p (omega arith) (sym (part_after x below after n h) ∙ e)))

-- ---- levels
pub height_put : {A : Type 0} (index : ℕ) (new t : Trees (NodeId × A)) → height_of (put_at index new t) ≡ max (height_of new) (height_of t)
height_put index new leafless = omega arith
height_put zero new (tree x below after) = height_of-joined new (tree x below after)
height_put (suc index) new (tree x below after) = omega (arith, height_put index new after)

pub height_edited : {A : Type 0} (n : NodeId) (f : NodeId × A → Trees (NodeId × A) → Trees (NodeId × A)) (most : ℕ) (t : Trees (NodeId × A)) (p : Part A) → times n t ≤ 1 → part_at t n ≡ Some p → height_of t ≤ most →
    length (way_up t n) + height_of (f (n, p.0) p.1) ≤ most + 1 → height_of (edited n f t) ≤ most
height_edited n f most leafless p d e l m = absurd cc
height_edited n f most (tree x below after) p d e l m =
    by_place x below n
    (λ h. let k : height_of (edited n f (tree x below after)) ≡ max (height_of (f x below)) (height_of after) = ap height_of (edited_here n f x below after h.is) ∙ height_of-joined (f x below) after in
    let q : height_of (f x below) ≡ height_of (f (n, p.0) p.1) = λ i. height_of (f (part_value x below after n p h e i) (part_trees x below after n p h e i)) in
    let w : length (way_up (tree x below after) n) ≡ 1 = ap length (way_here x below after n h) in
    omega arith)
    (λ h. let no = one_no (same x.0 n) h.not in let l2 = h.in_below in
    let k : height_of (edited n f (tree x below after)) ≡ max (1 + height_of (edited n f below)) (height_of (edited n f after)) = ap height_of (edited_not n f x below after h.not) in
    let a : height_of (edited n f after) ≡ height_of after = ap height_of (edited_none n f after (omega arith)) in
    let w : length (way_up (tree x below after) n) ≡ length (way_up below n) + 1 = ap length (way_below x below after n h) ∙ length-append (way_up below n) (x.0 ∷ []) in
    omega (arith, height_edited n f (most - 1) below p (omega arith) (sym (part_below x below after n h) ∙ e) (omega arith) (omega arith)))
    (λ h. let no = one_no (same x.0 n) h.not in let l2 = h.none in
    let k : height_of (edited n f (tree x below after)) ≡ max (1 + height_of (edited n f below)) (height_of (edited n f after)) = ap height_of (edited_not n f x below after h.not) in
    let b : height_of (edited n f below) ≡ height_of below = ap height_of (edited_none n f below l2) in
    let w : length (way_up (tree x below after) n) ≡ length (way_up after n) = ap length (way_after x below after n h) in
    omega (arith, height_edited n f most after p (omega arith) (sym (part_after x below after n h) ∙ e) (omega arith) (omega arith)))

-- ---- facts of each node
module _ {A : Type 0} where
  pub each_joined : (P : NodeId × A → Type 0) (s t : Trees (NodeId × A)) → EachNode P s → EachNode P t → EachNode P (joined s t)
  each_joined P leafless t p q = q
  each_joined P (tree x below after) t p q = (p.0, (p.1.0, each_joined P after t p.1.1 q))

  pub each_put : (P : NodeId × A → Type 0) (index : ℕ) (new t : Trees (NodeId × A)) → EachNode P new → EachNode P t → EachNode P (put_at index new t)
  each_put P index new leafless p q = p
  each_put P zero new (tree x below after) p q = each_joined P new (tree x below after) p q
  each_put P (suc index) new (tree x below after) p q = (q.0, (q.1.0, each_put P index new after p q.1.1))

  pub each_edited : (P : NodeId × A → Type 0) (n : NodeId) (f : NodeId × A → Trees (NodeId × A) → Trees (NodeId × A)) (t : Trees (NodeId × A)) → ((x : NodeId × A) (below : Trees (NodeId × A)) → P x → EachNode P below → EachNode P (f x below)) →
      EachNode P t → EachNode P (edited n f t)
  each_edited P n f leafless h p = tt
  each_edited P n f (tree x below after) h p = at (cases_Bool (same x.0 n)) (each_edited P n f below h p.1.0) (each_edited P n f after h p.1.1)
    where
      at : (same x.0 n ≡ true) ⊎ (same x.0 n ≡ false) → EachNode P (edited n f below) → EachNode P (edited n f after) → EachNode P (edited n f (tree x below after))
      at (inl e) b a = rw (edited_here n f x below after e) (each_joined P (f x below) after (h x below p.0 p.1.0) p.1.1)
      at (inr e) b a = rw (edited_not n f x below after e) (p.0, (b, a))

  pub narrow_joined : (most : ℕ) (s t : Trees (NodeId × A)) → IsNarrow most s → IsNarrow most t → IsNarrow most (joined s t)
  narrow_joined most leafless t p q = q
  narrow_joined most (tree x below after) t p q = (p.0, (p.1.0, narrow_joined most after t p.1.1 q))

  pub narrow_put : (most index : ℕ) (new t : Trees (NodeId × A)) → IsNarrow most new → IsNarrow most t → IsNarrow most (put_at index new t)
  narrow_put most index new leafless p q = p
  narrow_put most zero new (tree x below after) p q = narrow_joined most new (tree x below after) p q
  narrow_put most (suc index) new (tree x below after) p q = (q.0, (q.1.0, narrow_put most index new after p q.1.1))

  pub count_put : (index : ℕ) (new t : Trees (NodeId × A)) → count_of (put_at index new t) ≡ count_of new + count_of t
  count_put index new leafless = omega arith
  count_put zero new (tree x below after) = count_of-joined new (tree x below after)
  count_put (suc index) new (tree x below after) = omega (arith, count_put index new after)

  count_edited : (n : NodeId) (f : NodeId × A → Trees (NodeId × A) → Trees (NodeId × A)) (t : Trees (NodeId × A)) → ((x : NodeId × A) (below : Trees (NodeId × A)) → count_of (f x below) ≤ 1) → count_of (edited n f t) ≤ count_of t
  count_edited n f leafless c = omega arith
  count_edited n f (tree x below after) c = at (cases_Bool (same x.0 n)) (count_edited n f after c)
    where
      at : (same x.0 n ≡ true) ⊎ (same x.0 n ≡ false) → count_of (edited n f after) ≤ count_of after → count_of (edited n f (tree x below after)) ≤ count_of (tree x below after)
      at (inl e) a = omega (arith, ap count_of (edited_here n f x below after e), count_of-joined (f x below) after, c x below)
      at (inr e) a = omega (arith, ap count_of (edited_not n f x below after e))

  pub narrow_edited : (most : ℕ) (n : NodeId) (f : NodeId × A → Trees (NodeId × A) → Trees (NodeId × A)) (t : Trees (NodeId × A)) → ((x : NodeId × A) (below : Trees (NodeId × A)) → count_of (f x below) ≤ 1) →
      ((p : Part A) → part_at t n ≡ Some p → IsNarrow most p.1 → IsNarrow most (f (n, p.0) p.1)) → times n t ≤ 1 → IsNarrow most t → IsNarrow most (edited n f t)
  narrow_edited most n f leafless c g d h = tt
  narrow_edited most n f (tree x below after) c g d h =
      by_place x below n
      (λ q. let new : IsNarrow most (f (n, x.1) below) = g (x.1, below) (part_here x below after n q) h.1.0 in
      rw (edited_here n f x below after q.is) (narrow_joined most (f x below) after (rw (← same_is x.0 n q.is) at new) h.1.1))
      (λ q. let no = one_no (same x.0 n) q.not in let l = q.in_below in
      rw (edited_not n f x below after q.not, edited_none n f after (omega arith)) (omega (arith, count_edited n f below c, h.0), (narrow_edited most n f below c (λ p e. g p (part_below x below after n q ∙ e)) (omega arith) h.1.0, h.1.1)))
      (λ q. let no = one_no (same x.0 n) q.not in let l = q.none in
      rw (edited_not n f x below after q.not, edited_none n f below l) (h.0, (h.1.0, narrow_edited most n f after c (λ p e. g p (part_after x below after n q ∙ e)) (omega arith) h.1.1)))

  -- ---- the tree of a number
  pub tree_none : (n : NodeId) (t : Trees (NodeId × A)) → times n t ≡ 0 → tree_at n t ≡ leafless
  tree_none n leafless e = refl
  tree_none n (tree x below after) e =
      by_place x below n
      (λ h. absurd (omega (arith, one_yes (same x.0 n) h.is)))
      (λ h. absurd (omega (arith, h.in_below)))
      (λ h. cond_no (same x.0 n) _ _ h.not ∙ (λ i. joined (tree_none n below h.none i) (tree_none n after (omega (arith, one_no (same x.0 n) h.not, h.none)) i)))

  pub tree_is : (n : NodeId) (t : Trees (NodeId × A)) (p : Part A) → times n t ≤ 1 → part_at t n ≡ Some p → tree_at n t ≡ tree (n, p.0) p.1 leafless
  tree_is n leafless p d e = absurd cc
  tree_is n (tree x below after) p d e =
      by_place x below n
      (λ h. cond_yes (same x.0 n) _ _ h.is ∙ (λ i. tree (part_value x below after n p h e i) (part_trees x below after n p h e i) leafless))
      (λ h. let no = one_no (same x.0 n) h.not in let l = h.in_below in
      cond_no (same x.0 n) _ _ h.not ∙ ap (joined (tree_at n below)) (tree_none n after (omega arith)) ∙ joined-leafless (tree_at n below) ∙ tree_is n below p (omega arith) (sym (part_below x below after n h) ∙ e))
      (λ h. let no = one_no (same x.0 n) h.not in let l = h.none in
      cond_no (same x.0 n) _ _ h.not ∙ ap (λ u. joined u (tree_at n after)) (tree_none n below l) ∙ tree_is n after p (omega arith) (sym (part_after x below after n h) ∙ e))

  -- ---- the numbers at the top
  pub tops_joined : (s t : Trees (NodeId × A)) → top_numbers (joined s t) ≡ top_numbers s ++ top_numbers t
  tops_joined leafless t = refl
  tops_joined (tree x below after) t = ap (λ l. x.0 ∷ l) (tops_joined after t)

  pub tops_put : (index : ℕ) (new t : Trees (NodeId × A)) (id : NodeId) → top_numbers new ≡ id ∷ [] → index ≤ length (top_numbers t) → top_numbers (put_at index new t) ≡ insert (top_numbers t) index id
  tops_put zero new leafless id e l = e
  tops_put (suc index) new leafless id e l = absurd (omega arith)
  tops_put zero new (tree x below after) id e l = tops_joined new (tree x below after) ∙ ap (λ m. m ++ x.0 ∷ top_numbers after) e
  tops_put (suc index) new (tree x below after) id e l = ap (λ m. x.0 ∷ m) (tops_put index new after id e (omega arith))

  pub tops_grafted : (parent : NodeId) (index : ℕ) (new t : Trees (NodeId × A)) → top_numbers (grafted parent index new t) ≡ top_numbers t
  tops_grafted parent index new leafless = refl
  tops_grafted parent index new (tree x below after) = at (cases_Bool (same x.0 parent)) (tops_grafted parent index new after)
    where
      at : (same x.0 parent ≡ true) ⊎ (same x.0 parent ≡ false) → top_numbers (grafted parent index new after) ≡ top_numbers after → top_numbers (grafted parent index new (tree x below after)) ≡ top_numbers (tree x below after)
      at (inl e) a = ap top_numbers (edited_here parent (graft index new) x below after e)
      at (inr e) a = ap top_numbers (edited_not parent (graft index new) x below after e) ∙ ap (λ m. x.0 ∷ m) a

-- ---- trees put under a number
module _ {A : Type 0} (n : NodeId) (index : ℕ) (new t : Trees (NodeId × A)) (p : Part A) (d : times n t ≤ 1) (e : part_at t n ≡ Some p) where
  pub graft_summed : (w : NodeId × A → ℕ) → summed w (grafted n index new t) ≡ summed w t + summed w new
  graft_summed w = omega (arith, summed_edited w n (graft index new) t p d e, summed_put w index new p.1)

  pub graft_in_slot : (k : ℕ) → in_slot k (grafted n index new t) ≡ in_slot k t + in_slot k new
  graft_in_slot k = omega (arith, in_slot_summed k (grafted n index new t), in_slot_summed k t, in_slot_summed k new, graft_summed (λ x. one (x.0.slot == k)))

  pub graft_size : size_of (grafted n index new t) ≡ size_of t + size_of new
  graft_size = omega (arith, size_summed (grafted n index new t), size_summed t, size_summed new, graft_summed (λ _. 1))

  pub graft_low : (most : ℕ) → height_of t ≤ most → length (way_up t n) + height_of new ≤ most → height_of (grafted n index new t) ≤ most
  graft_low most l m = height_edited n (graft index new) most t p d e l (omega (arith, height_put index new p.1, way_height t n p e))

  pub graft_narrow : (most : ℕ) → IsNarrow most t → IsNarrow most new → count_of new + count_of p.1 ≤ most → IsNarrow most (grafted n index new t)
  graft_narrow most h k c =
      narrow_edited most n (graft index new) t (λ x below. omega arith)
      (λ q f g. let same_part : p.1 ≡ q.1 = ap below_of (sym e ∙ f) in (omega (arith, count_put index new q.1, ap count_of same_part), (narrow_put most index new q.1 k g, tt)))
      d h

-- ---- facts of the tree of a number
module _ {A : Type 0} (n : NodeId) where
  pub each_tree : (P : NodeId × A → Type 0) (t : Trees (NodeId × A)) → EachNode P t → EachNode P (tree_at n t)
  each_tree P leafless h = tt
  each_tree P (tree x below after) h = at (cases_Bool (same x.0 n)) (each_tree P below h.1.0) (each_tree P after h.1.1)
    where
      at : (same x.0 n ≡ true) ⊎ (same x.0 n ≡ false) → EachNode P (tree_at n below) → EachNode P (tree_at n after) → EachNode P (tree_at n (tree x below after))
      at (inl e) b a = rw (cond_yes (same x.0 n) (tree x below leafless) (joined (tree_at n below) (tree_at n after)) e) (h.0, (h.1.0, tt))
      at (inr e) b a = rw (cond_no (same x.0 n) (tree x below leafless) (joined (tree_at n below) (tree_at n after)) e) (each_joined P (tree_at n below) (tree_at n after) b a)

  pub narrow_tree : (most : ℕ) (t : Trees (NodeId × A)) → IsNarrow most t → IsNarrow most (tree_at n t)
  narrow_tree most leafless h = tt
  narrow_tree most (tree x below after) h = at (cases_Bool (same x.0 n)) (narrow_tree most below h.1.0) (narrow_tree most after h.1.1)
    where
      at : (same x.0 n ≡ true) ⊎ (same x.0 n ≡ false) → IsNarrow most (tree_at n below) → IsNarrow most (tree_at n after) → IsNarrow most (tree_at n (tree x below after))
      at (inl e) b a = rw (cond_yes (same x.0 n) (tree x below leafless) (joined (tree_at n below) (tree_at n after)) e) (h.0, (h.1.0, tt))
      at (inr e) b a = rw (cond_no (same x.0 n) (tree x below leafless) (joined (tree_at n below) (tree_at n after)) e) (narrow_joined most (tree_at n below) (tree_at n after) b a)
