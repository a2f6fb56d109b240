-- Trees that are put under a node, and filled from there down.
use Rattle.std.proofs.Common.{◌≡◌, ℕ, zero, suc, ◌+◌, ◌≤◌, Bool, true, false, Option, Some, None, IsSome, is_some, refl, sym, ap, ◌∙◌, arith, inl, inr}
use Rattle.std.specs.Prelude.{◌∷◌, ◌⊎◌, ◌||◌}
use Rattle.std.proofs.lemmas.Bool.{cases_Bool}
use Rattle.plain_tree.specs.Trees.{leafless, tree, joined, count_of}
use Rattle.plain_tree.proofs.Laws.{joined-leafless}
use Rattle.node_arena.specs.declared.number.NodeId.{NodeId}
use Rattle.node_arena.specs.Faults.{is_top}
use Rattle.node_arena.specs.Numbers.{Part, is_among, one, part_at, same, times, top_numbers}
use Rattle.node_arena.specs.Edits.{edited, graft, grafted, nothing, put_at, removed}
use Rattle.node_arena.proofs.Edited.{edited_here, edited_none, edited_not, part_trees, summed, summed_edited, times_summed}
use Rattle.node_arena.proofs.Same.{After, Below, Here, by_place, one_no, one_yes, part_after, part_below, part_here, part_some, part_there, same_refl}
use Rattle.placing.specs.declared.node.Node.{Node}
use Rattle.placing.specs.Nodes.{NodeTrees}
use Rattle.page_tree.specs.Filled.{filled, with_below}

-- ---- one change after another
edited_joined : (k : NodeId) (g : NodeId × Node → NodeTrees → NodeTrees) (s t : NodeTrees) → times k s ≡ 0 → edited k g (joined s t) ≡ joined s (edited k g t)
edited_joined k g leafless t e = refl
edited_joined k g (tree x below after) t e =
    by_place x below k
    (λ h. absurd (omega (arith, e, one_yes (same x.0 k) h.is)))
    (λ h. absurd (omega (arith, e, h.in_below)))
    (λ h. edited_not k g x below (joined after t) h.not ∙ (λ i. tree x (edited_none k g below h.none i) (edited_joined k g after t (omega (arith, e)) i)))

-- a change of other nodes below the same ones
within : (k n : NodeId) (g : NodeId × Node → NodeTrees → NodeTrees) (h h2 : NodeTrees → NodeTrees) → ((b : NodeTrees) → times k b ≡ 0 → edited k g (h b) ≡ h2 b) → (t : NodeTrees) → times k t ≡ 0 →
    edited k g (edited n (λ x below. tree x (h below) leafless) t) ≡ edited n (λ x below. tree x (h2 below) leafless) t
within k n g h h2 f leafless z = refl
within k n g h h2 f (tree x below after) z = at (cases_Bool (same x.0 n)) (within k n g h h2 f below (omega (arith, z))) (within k n g h h2 f after (omega (arith, z)))
  where
    not : same x.0 k ≡ false
    not = by (cases_Bool (same x.0 k))
      where
        by : (same x.0 k ≡ true) ⊎ (same x.0 k ≡ false) → same x.0 k ≡ false
        by (inl e) = absurd (omega (arith, z, one_yes (same x.0 k) e))
        by (inr e) = e

    at : (same x.0 n ≡ true) ⊎ (same x.0 n ≡ false) → edited k g (edited n (λ y b. tree y (h b) leafless) below) ≡ edited n (λ y b. tree y (h2 b) leafless) below → edited k g (edited n (λ y b. tree y (h b) leafless) after) ≡ edited n (λ y b. tree y (h2 b) leafless) after →
        edited k g (edited n (λ y b. tree y (h b) leafless) (tree x below after)) ≡ edited n (λ y b. tree y (h2 b) leafless) (tree x below after)
    at (inl e) b a =
        ap (edited k g) (edited_here n (λ y c. tree y (h c) leafless) x below after e) ∙ edited_not k g x (h below) after not
        ∙ (λ i. tree x (f below (omega (arith, z)) i) (edited_none k g after (omega (arith, z)) i)) ∙ sym (edited_here n (λ y c. tree y (h2 c) leafless) x below after e)
    at (inr e) b a =
        ap (edited k g) (edited_not n (λ y c. tree y (h c) leafless) x below after e) ∙ edited_not k g x (edited n (λ y c. tree y (h c) leafless) below) (edited n (λ y c. tree y (h c) leafless) after) not
        ∙ (λ i. tree x (b i) (a i)) ∙ sym (edited_not n (λ y c. tree y (h2 c) leafless) x below after e)

put_within : (k : NodeId) (g : NodeId × Node → NodeTrees → NodeTrees) (i : ℕ) (new : NodeTrees) → ((t : NodeTrees) → times k t ≡ 0 → edited k g (joined new t) ≡ joined (edited k g new) t) → (b : NodeTrees) → times k b ≡ 0 →
    edited k g (put_at i new b) ≡ put_at i (edited k g new) b
put_within k g i new f leafless z = refl
put_within k g zero new f (tree x below after) z = f (tree x below after) z
put_within k g (suc i) new f (tree x below after) z =
    by_place x below k
    (λ h. absurd (omega (arith, z, one_yes (same x.0 k) h.is)))
    (λ h. absurd (omega (arith, z, h.in_below)))
    (λ h. edited_not k g x below (put_at i new after) h.not ∙ (λ j. tree x (edited_none k g below h.none j) (put_within k g i new f after (omega (arith, z)) j)))

joined_within : (k : NodeId) (g : NodeId × Node → NodeTrees → NodeTrees) (new t : NodeTrees) → times k t ≡ 0 → edited k g (joined new t) ≡ joined (edited k g new) t
joined_within k g leafless t z = edited_none k g t z
joined_within k g (tree x below after) t z = at (cases_Bool (same x.0 k)) (joined_within k g after t z)
  where
    assoc : (a b c : NodeTrees) → joined a (joined b c) ≡ joined (joined a b) c
    assoc leafless b c = refl
    assoc (tree y low later) b c = ap (tree y low) (assoc later b c)

    at : (same x.0 k ≡ true) ⊎ (same x.0 k ≡ false) → edited k g (joined after t) ≡ joined (edited k g after) t → edited k g (joined (tree x below after) t) ≡ joined (edited k g (tree x below after)) t
    at (inl e) r = edited_here k g x below (joined after t) e ∙ assoc (g x below) after t ∙ ap (λ u. joined u t) (sym (edited_here k g x below after e))
    at (inr e) r = edited_not k g x below (joined after t) e ∙ ap (tree x (edited k g below)) r ∙ ap (λ u. joined u t) (sym (edited_not k g x below after e))

-- a change within trees that are put under a node, or stand below it
pub grafted_within : (k p : NodeId) (g : NodeId × Node → NodeTrees → NodeTrees) (i : ℕ) (new t : NodeTrees) → times k t ≡ 0 → edited k g (grafted p i new t) ≡ grafted p i (edited k g new) t
grafted_within k p g i new t z = within k p g (put_at i new) (put_at i (edited k g new)) (λ b y. put_within k g i new (joined_within k g new) b y) t z

pub filled_within : (k n : NodeId) (g : NodeId × Node → NodeTrees → NodeTrees) (new t : NodeTrees) → times k t ≡ 0 → edited k g (filled n new t) ≡ filled n (edited k g new) t
filled_within k n g new t z = within k n g (λ b. new) (λ b. edited k g new) (λ b y. refl) t z

-- a change of the node itself
pub refilled : (n : NodeId) (f : NodeId × Node → NodeTrees → NodeTrees) (new t : NodeTrees) → edited n f (filled n new t) ≡ edited n (λ x below. f x new) t
refilled n f new leafless = refl
refilled n f new (tree x below after) = at (cases_Bool (same x.0 n)) (refilled n f new below) (refilled n f new after)
  where
    at : (same x.0 n ≡ true) ⊎ (same x.0 n ≡ false) → edited n f (filled n new below) ≡ edited n (λ y b. f y new) below → edited n f (filled n new after) ≡ edited n (λ y b. f y new) after →
        edited n f (filled n new (tree x below after)) ≡ edited n (λ y b. f y new) (tree x below after)
    at (inl e) b a = ap (edited n f) (edited_here n (with_below new) x below after e) ∙ edited_here n f x new after e ∙ sym (edited_here n (λ y c. f y new) x below after e)
    at (inr e) b a =
        ap (edited n f) (edited_not n (with_below new) x below after e) ∙ edited_not n f x (filled n new below) (filled n new after) e ∙ (λ i. tree x (b i) (a i)) ∙ sym (edited_not n (λ y c. f y new) x below after e)

-- ---- a node at the end
pub put_end : (i : ℕ) (new t : NodeTrees) → count_of t ≡ i → put_at i new t ≡ joined t new
put_end i new leafless e = refl
put_end zero new (tree x below after) e = absurd (omega (arith, e))
put_end (suc i) new (tree x below after) e = ap (tree x below) (put_end i new after (omega (arith, e)))

pub alone_edited : (x : NodeId × Node) (g : NodeId × Node → NodeTrees → NodeTrees) → edited x.0 g (tree x leafless leafless) ≡ g x leafless
alone_edited x g = edited_here x.0 g x leafless leafless (same_refl x.0) ∙ joined-leafless (g x leafless)

pub last_edited : (x : NodeId × Node) (g : NodeId × Node → NodeTrees → NodeTrees) (t : NodeTrees) → times x.0 t ≡ 0 → edited x.0 g (joined t (tree x leafless leafless)) ≡ joined t (g x leafless)
last_edited x g t z = edited_joined x.0 g t (tree x leafless leafless) z ∙ ap (joined t) (alone_edited x g)

-- ---- what is put there and taken out again
put_nothing : (i : ℕ) (t : NodeTrees) → put_at i leafless t ≡ t
put_nothing i leafless = refl
put_nothing zero (tree x below after) = refl
put_nothing (suc i) (tree x below after) = ap (tree x below) (put_nothing i after)

grafted_nothing : (p : NodeId) (i : ℕ) (t : NodeTrees) → grafted p i leafless t ≡ t
grafted_nothing p i leafless = refl
grafted_nothing p i (tree x below after) = at (cases_Bool (same x.0 p)) (grafted_nothing p i below) (grafted_nothing p i after)
  where
    at : (same x.0 p ≡ true) ⊎ (same x.0 p ≡ false) → grafted p i leafless below ≡ below → grafted p i leafless after ≡ after → grafted p i leafless (tree x below after) ≡ tree x below after
    at (inl e) b a = edited_here p (graft i leafless) x below after e ∙ ap (λ u. tree x u after) (put_nothing i below)
    at (inr e) b a = edited_not p (graft i leafless) x below after e ∙ (λ j. tree x (b j) (a j))

pub taken_back : (p : NodeId) (i : ℕ) (x : NodeId × Node) (new t : NodeTrees) → times x.0 t ≡ 0 → removed x.0 (filled x.0 new (grafted p i (tree x leafless leafless) t)) ≡ t
taken_back p i x new t z =
    refilled x.0 nothing new (grafted p i (tree x leafless leafless) t) ∙ grafted_within x.0 p nothing i (tree x leafless leafless) t z
    ∙ ap (λ u. grafted p i u t) (alone_edited x nothing) ∙ grafted_nothing p i t

-- ---- what stands there
pub filled_part : (n : NodeId) (new t : NodeTrees) (q : Part Node) → part_at t n ≡ Some q → part_at (filled n new t) n ≡ Some (q.0, new)
filled_part n new leafless q e = absurd cc
filled_part n new (tree x below after) q e =
    by_place x below n
    (λ h. ap (λ u. part_at u n) (edited_here n (with_below new) x below after h.is) ∙ part_here x new after n h ∙ ap (λ v. Some (v, new)) (some_part (x.1, below) q (sym (part_here x below after n h) ∙ e)))
    (λ h. let g = filled_part n new below q (sym (part_below x below after n h) ∙ e) in
    ap (λ u. part_at u n) (edited_not n (with_below new) x below after h.not) ∙ part_below x (filled n new below) (filled n new after) n (record { not = h.not; in_below = there (filled n new below) g }) ∙ g)
    (λ h. ap (λ u. part_at u n) (edited_not n (with_below new) x below after h.not)
    ∙ part_after x (filled n new below) (filled n new after) n (record { not = h.not; none = ap (times n) (edited_none n (with_below new) below h.none) ∙ h.none })
    ∙ filled_part n new after q (sym (part_after x below after n h) ∙ e))
  where
    some_part : (a b : Part Node) → Some a ≡ Some b → a.0 ≡ b.0
    some_part a b e = cc

    there : (s : NodeTrees) → part_at s n ≡ Some (q.0, new) → 1 ≤ times n s
    there s g = part_there s n (ap is_some g)

pub filled_times : (k n : NodeId) (new t : NodeTrees) (v : Node) → times n t ≤ 1 → part_at t n ≡ Some (v, leafless) → times k (filled n new t) ≡ times k t + times k new
filled_times k n new t v few e = omega (arith, times_summed k (filled n new t), summed_edited (λ x. one (same x.0 k)) n (with_below new) t (v, leafless) few e, times_summed k t, times_summed k new)

-- a node without children
pub lone_filled : (n : NodeId) (t : NodeTrees) (v : Node) → times n t ≤ 1 → part_at t n ≡ Some (v, leafless) → filled n leafless t ≡ t
lone_filled n leafless v few e = refl
lone_filled n (tree x below after) v few e =
    by_place x below n
    (λ h. edited_here n (with_below leafless) x below after h.is ∙ ap (λ u. tree x u after) (sym (part_trees x below after n (v, leafless) h e)))
    (λ h. edited_not n (with_below leafless) x below after h.not
    ∙ (λ i. tree x (lone_filled n below v (omega (arith, few)) (sym (part_below x below after n h) ∙ e) i) (edited_none n (with_below leafless) after (omega (arith, few, h.in_below)) i)))
    (λ h. edited_not n (with_below leafless) x below after h.not
    ∙ (λ i. tree x (edited_none n (with_below leafless) below h.none i) (lone_filled n after v (omega (arith, few)) (sym (part_after x below after n h) ∙ e) i)))

-- ---- a new tree
put_new : (i : ℕ) (x : NodeId × Node) (sub t : NodeTrees) → times x.0 t ≡ 0 → part_at (put_at i (tree x sub leafless) t) x.0 ≡ Some (x.1, sub)
put_new i x sub leafless z = part_here x sub leafless x.0 (record { is = same_refl x.0 })
put_new zero x sub (tree y below after) z = part_here x sub (tree y below after) x.0 (record { is = same_refl x.0 })
put_new (suc i) x sub (tree y below after) z =
    by_place y below x.0
    (λ h. absurd (omega (arith, z, one_yes (same y.0 x.0) h.is)))
    (λ h. absurd (omega (arith, z, h.in_below)))
    (λ h. part_after y below (put_at i (tree x sub leafless) after) x.0 h ∙ put_new i x sub after (omega (arith, z)))

pub grafted_new : (p : NodeId) (i : ℕ) (x : NodeId × Node) (sub t : NodeTrees) → times x.0 t ≡ 0 → 1 ≤ times p t → times p t ≤ 1 → part_at (grafted p i (tree x sub leafless) t) x.0 ≡ Some (x.1, sub)
grafted_new p i x sub leafless z l few = absurd (omega (arith, l))
grafted_new p i x sub (tree y below after) z l few =
    by_place y below p here (λ h. under h (grafted_new p i x sub below (omega (arith, z)) h.in_below (omega (arith, few))))
    (λ h. beside h (grafted_new p i x sub after (omega (arith, z)) (omega (arith, l, one_no (same y.0 p) h.not, h.none)) (omega (arith, few))))
  where
    new : NodeTrees
    new = tree x sub leafless

    -- the new number is not that of the first tree
    other : same y.0 x.0 ≡ false
    other = by (cases_Bool (same y.0 x.0))
      where
        by : (same y.0 x.0 ≡ true) ⊎ (same y.0 x.0 ≡ false) → same y.0 x.0 ≡ false
        by (inl e) = absurd (omega (arith, z, one_yes (same y.0 x.0) e))
        by (inr e) = e

    under_there : (low later : NodeTrees) → part_at low x.0 ≡ Some (x.1, sub) → part_at (tree y low later) x.0 ≡ Some (x.1, sub)
    under_there low later g = part_below y low later x.0 (record { not = other; in_below = part_there low x.0 (ap is_some g) }) ∙ g

    here : Here y p → part_at (grafted p i new (tree y below after)) x.0 ≡ Some (x.1, sub)
    here h = ap (λ u. part_at u x.0) (edited_here p (graft i new) y below after h.is) ∙ under_there (put_at i new below) after (put_new i x sub below (omega (arith, z)))

    under : Below y below p → part_at (grafted p i new below) x.0 ≡ Some (x.1, sub) → part_at (grafted p i new (tree y below after)) x.0 ≡ Some (x.1, sub)
    under h g = ap (λ u. part_at u x.0) (edited_not p (graft i new) y below after h.not) ∙ under_there (grafted p i new below) (grafted p i new after) g

    beside : After y below p → part_at (grafted p i new after) x.0 ≡ Some (x.1, sub) → part_at (grafted p i new (tree y below after)) x.0 ≡ Some (x.1, sub)
    beside h g =
        ap (λ u. part_at u x.0) (edited_not p (graft i new) y below after h.not)
        ∙ part_after y (grafted p i new below) (grafted p i new after) x.0 (record { not = other; none = ap (times x.0) (edited_none p (graft i new) below h.none) ∙ none_below }) ∙ g
      where
        none_below : times x.0 below ≡ 0
        none_below = omega (arith, z)

pub filled_tops : (n : NodeId) (new t : NodeTrees) → top_numbers (filled n new t) ≡ top_numbers t
filled_tops n new leafless = refl
filled_tops n new (tree x below after) = at (cases_Bool (same x.0 n)) (filled_tops n new after)
  where
    at : (same x.0 n ≡ true) ⊎ (same x.0 n ≡ false) → top_numbers (filled n new after) ≡ top_numbers after → top_numbers (filled n new (tree x below after)) ≡ top_numbers (tree x below after)
    at (inl e) a = ap top_numbers (edited_here n (with_below new) x below after e)
    at (inr e) a = ap top_numbers (edited_not n (with_below new) x below after e) ∙ ap (λ ms. x.0 ∷ ms) a

-- a number that no node has is not at the top
pub not_top : (t : NodeTrees) (n : NodeId) → times n t ≡ 0 → is_top t n ≡ false
not_top leafless n z = refl
not_top (tree x below after) n z = at (cases_Bool (same x.0 n)) (not_top after n (omega (arith, z)))
  where
    at : (same x.0 n ≡ true) ⊎ (same x.0 n ≡ false) → is_top after n ≡ false → (same x.0 n || is_top after n) ≡ false
    at (inl e) f = absurd (omega (arith, z, one_yes (same x.0 n) e))
    at (inr e) f = ap (λ b. b || is_top after n) e ∙ f

pub same_top : (s t : NodeTrees) (n : NodeId) → top_numbers s ≡ top_numbers t → is_top s n ≡ is_top t n
same_top s t n e = by_numbers s ∙ ap (is_among n) e ∙ sym (by_numbers t)
  where
    by_numbers : (u : NodeTrees) → is_top u n ≡ is_among n (top_numbers u)
    by_numbers leafless = refl
    by_numbers (tree x below after) = ap (λ b. same x.0 n || b) (by_numbers after)

-- a number that names no node
pub absent : (t : NodeTrees) (n : NodeId) → part_at t n ≡ None → times n t ≡ 0
absent t n e = at (times n t) refl
  where
    at : (k : ℕ) → times n t ≡ k → times n t ≡ 0
    at zero q = q
    at (suc k) q = let some : IsSome (part_at t n) = part_some t n (omega (arith, q)) in absurd cc
