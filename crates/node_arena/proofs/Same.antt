-- Numbers that are the same, and where a number stands in a list of trees.
use Rattle.std.proofs.Common.{◌≡◌, ◌≢◌, ℕ, ◌+◌, ◌≤◌, Bool, true, false, Option, Some, None, IsSome, refl, sym, ap, ◌∙◌, arith, inl, inr, cond}
use Rattle.std.specs.Prelude.{◌==◌, ◌⊎◌}
use Rattle.std.proofs.lemmas.Bool.{and_parts, and_from, cases_Bool, cases_eq, eq-eqb, false≢true, false_from_ne_true}
use Rattle.std.proofs.Math.Facts.{eqb_yes}
use Rattle.plain_tree.specs.Trees.{Trees, leafless, tree}
use Rattle.node_arena.specs.declared.number.NodeId.{NodeId}
use Rattle.node_arena.specs.Numbers.{same, one, Part, either, part_at, times}

eqb_is : (m n : ℕ) → (m == n) ≡ true → m ≡ n
eqb_is m n e = grind (arith, eqb_yes)

pub same_refl : (n : NodeId) → same n n ≡ true
unfolding same
same_refl n = and_from (n.slot == n.slot) (n.turn == n.turn) (eq-eqb n.slot n.slot refl) (eq-eqb n.turn n.turn refl)

pub same_is : (a b : NodeId) → same a b ≡ true → a ≡ b
unfolding same
same_is a b e =
    let parts = and_parts (a.slot == b.slot) (a.turn == b.turn) e in
    λ i. record { slot = eqb_is a.slot b.slot parts.0 i; turn = eqb_is a.turn b.turn parts.1 i }

pub same_from : (a b : NodeId) → a ≡ b → same a b ≡ true
same_from a b e = ap (same a) (sym e) ∙ same_refl a

pub same_not : (a b : NodeId) → a ≢ b → same a b ≡ false
same_not a b h = false_from_ne_true (same a b) (λ e. h (same_is a b e))

pub not_same : (a b : NodeId) → same a b ≡ false → a ≢ b
not_same a b e h = absurd (false≢true (sym e ∙ same_from a b h))

-- numbers with the same slot and the same turn are the same
pub same_both : (a b : NodeId) → a.slot ≡ b.slot → a.turn ≡ b.turn → a ≡ b
same_both a b s t = λ i. record { slot = s i; turn = t i }

pub cond_yes : {X : Type 0} (c : Bool) (x y : X) → c ≡ true → cond c x y ≡ x
cond_yes c x y e = ap (λ t. cond t x y) e

pub cond_no : {X : Type 0} (c : Bool) (x y : X) → c ≡ false → cond c x y ≡ y
cond_no c x y e = ap (λ t. cond t x y) e

pub one_no : (c : Bool) → c ≡ false → one c ≡ 0
one_no c e = ap one e

pub one_yes : (c : Bool) → c ≡ true → one c ≡ 1
one_yes c e = ap one e

module _ {A : Type 0} where
  -- ---- the three places
  pub record Here (x : NodeId × A) (n : NodeId) : Type 0 where
    pub is : same x.0 n ≡ true

  pub record Below (x : NodeId × A) (below : Trees (NodeId × A)) (n : NodeId) : Type 0 where
    pub not : same x.0 n ≡ false
    pub in_below : 1 ≤ times n below

  pub record After (x : NodeId × A) (below : Trees (NodeId × A)) (n : NodeId) : Type 0 where
    pub not : same x.0 n ≡ false
    pub none : times n below ≡ 0

  abbrev pub Place : NodeId × A → Trees (NodeId × A) → NodeId → Type 0
  Place x below n = Here x n ⊎ (Below x below n ⊎ After x below n)

  pub place : (x : NodeId × A) (below : Trees (NodeId × A)) (n : NodeId) → Place x below n
  place x below n = at (cases_Bool (same x.0 n)) (cases_eq (times n below) 0)
    where
      at : (same x.0 n ≡ true) ⊎ (same x.0 n ≡ false) → (times n below ≡ 0) ⊎ (times n below ≢ 0) → Place x below n
      at (inl e) d = inl (record { is = e })
      at (inr e) (inl z) = inr (inr (record { not = e; none = z }))
      at (inr e) (inr nz) = inr (inl (record { not = e; in_below = more (times n below) nz }))
        where
          more : (k : ℕ) → k ≢ 0 → 1 ≤ k
          more k h = omega arith

  -- ---- what stands under a number
  pub part_none : (t : Trees (NodeId × A)) (n : NodeId) → times n t ≡ 0 → part_at t n ≡ None
  part_none leafless n e = refl
  part_none (tree x below after) n e =
      let no : one (same x.0 n) ≡ 0 = omega arith in
      let b : times n below ≡ 0 = omega arith in
      let a : times n after ≡ 0 = omega arith in
      cond_no (same x.0 n) _ _ (zero_no (same x.0 n) no) ∙ (λ i. either (part_none below n b i) (part_none after n a i))
    where
      zero_no : (c : Bool) → one c ≡ 0 → c ≡ false
      zero_no true e = absurd (omega arith)
      zero_no false e = refl

  either_some : (o p : Option (Part A)) → IsSome o → either o p ≡ o
  either_some None p h = absurd cc
  either_some (Some x) p h = refl

  pub by_place : {P : Type 0} (x : NodeId × A) (below : Trees (NodeId × A)) (n : NodeId) → (Here x n → P) → (Below x below n → P) → (After x below n → P) → P
  by_place {P} x below n f g h = at (place x below n)
    where
      at : Place x below n → P
      at (inl p) = f p
      at (inr (inl p)) = g p
      at (inr (inr p)) = h p

  pub part_some : (t : Trees (NodeId × A)) (n : NodeId) → 1 ≤ times n t → IsSome (part_at t n)
  part_some leafless n h = absurd (omega arith)
  part_some (tree x below after) n h =
      by_place x below n
      (λ p. rw (cond_yes (same x.0 n) (Some (x.1, below)) (either (part_at below n) (part_at after n)) p.is) refl)
      (λ p. rw (cond_no (same x.0 n) (Some (x.1, below)) (either (part_at below n) (part_at after n)) p.not, either_some (part_at below n) (part_at after n) (part_some below n p.in_below)) (part_some below n p.in_below))
      (λ p. rw (cond_no (same x.0 n) (Some (x.1, below)) (either (part_at below n) (part_at after n)) p.not, part_none below n p.none) (part_some after n (omega (arith, one_no (same x.0 n) p.not, p.none))))

  pub part_there : (t : Trees (NodeId × A)) (n : NodeId) → IsSome (part_at t n) → 1 ≤ times n t
  part_there t n h = at (cases_eq (times n t) 0)
    where
      at : (times n t ≡ 0) ⊎ (times n t ≢ 0) → 1 ≤ times n t
      at (inl e) = let none : part_at t n ≡ None = part_none t n e in absurd cc
      at (inr ne) = omega arith

  module _ (x : NodeId × A) (below after : Trees (NodeId × A)) (n : NodeId) where
    pub part_here : Here x n → part_at (tree x below after) n ≡ Some (x.1, below)
    part_here p = cond_yes (same x.0 n) _ _ p.is

    pub part_below : Below x below n → part_at (tree x below after) n ≡ part_at below n
    part_below p = cond_no (same x.0 n) _ _ p.not ∙ either_some (part_at below n) (part_at after n) (part_some below n p.in_below)

    pub part_after : After x below n → part_at (tree x below after) n ≡ part_at after n
    part_after p = cond_no (same x.0 n) _ _ p.not ∙ ap (λ o. either o (part_at after n)) (part_none below n p.none)

    pub times_here : Here x n → times n (tree x below after) ≡ 1 + times n below + times n after
    times_here p = ap (λ k. k + times n below + times n after) (one_yes (same x.0 n) p.is)

    pub times_not : same x.0 n ≡ false → times n (tree x below after) ≡ times n below + times n after
    times_not p = omega (arith, one_no (same x.0 n) p)
