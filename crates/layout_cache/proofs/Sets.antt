-- Sets of numbers.
use Rattle.std.proofs.Common.{◌≡◌, Bool, true, false, List, [], ◌∷◌, refl, sym, ap, ◌∙◌, nat_cmp, is_eq, Ordering, Less, Equal, Greater}
use Rattle.std.specs.Prelude.{◌||◌}
use Rattle.std.specs.List.{list_any}
use Rattle.std.specs.BTreeSet.{insert_key}
use Rattle.std.specs.BTreeMap.{is_at}
use Rattle.std.specs.Ordering.{match_ordering, ordering_then}
use Rattle.node_arena.specs.declared.number.NodeId.{NodeId}
use Rattle.node_arena.specs.contracts.number.NodeIdOrd as order
use Rattle.node_arena.specs.Numbers.{same, is_among}
use Rattle.node_arena.proofs.Same.{same_is, same_not, same_from, same_both}
use Rattle.std.specs.FinMap.{nat_cmp-IsAntisymmetric}
use Rattle.std.specs.Cmp.{nat_cmp_is}

or_twice : (b c : Bool) → (b || c) ≡ (b || (b || c))
or_twice true c = refl
or_twice false c = refl

or_swap : (a b c : Bool) → (a || (b || c)) ≡ (b || (a || c))
or_swap true true c = refl
or_swap true false c = refl
or_swap false true c = refl
or_swap false false c = refl

abbrev pub numbers_cmp : NodeId → NodeId → Ordering
numbers_cmp = order.TheImpl.cmp-value.it

tie : (a b : NodeId) → is_eq (numbers_cmp a b) ≡ same b a
tie a b = at (nat_cmp a.slot b.slot) (nat_cmp a.turn b.turn) refl refl
  where
    slots : (r : Ordering) → nat_cmp a.slot b.slot ≡ r → b ≡ a → Equal ≡ r
    slots r e q = nat_cmp_is a.slot b.slot Equal (sym (ap (λ m. m.slot) q)) ∙ e

    turns : (r : Ordering) → nat_cmp a.turn b.turn ≡ r → b ≡ a → Equal ≡ r
    turns r e q = nat_cmp_is a.turn b.turn Equal (sym (ap (λ m. m.turn) q)) ∙ e

    at : (r s : Ordering) → nat_cmp a.slot b.slot ≡ r → nat_cmp a.turn b.turn ≡ s → is_eq (ordering_then r s) ≡ same b a
    at Less s e f = sym (same_not b a (λ q. let z : Equal ≡ Less = slots Less e q in absurd cc))
    at Greater s e f = sym (same_not b a (λ q. let z : Equal ≡ Greater = slots Greater e q in absurd cc))
    at Equal Less e f = sym (same_not b a (λ q. let z : Equal ≡ Less = turns Less f q in absurd cc))
    at Equal Greater e f = sym (same_not b a (λ q. let z : Equal ≡ Greater = turns Greater f q in absurd cc))
    at Equal Equal e f = sym (same_from b a (sym (same_both a b (nat_cmp-IsAntisymmetric a.slot b.slot e) (nat_cmp-IsAntisymmetric a.turn b.turn f))))

tied : (a b : NodeId) → numbers_cmp a b ≡ Equal → a ≡ b
tied a b e = sym (same_is b a (sym (tie a b) ∙ ap is_eq e))

pub among_any : (n : NodeId) (keys : List NodeId) → list_any (is_at (numbers_cmp n)) keys ≡ is_among n keys
among_any n [] = refl
among_any n (k ∷ keys) = λ i. tie n k i || among_any n keys i

pub among_insert : (n k : NodeId) (keys : List NodeId) → is_among n (insert_key numbers_cmp keys k) ≡ (same k n || is_among n keys)
among_insert n k [] = refl
among_insert n k (x ∷ keys) = at (numbers_cmp k x) refl (among_insert n k keys)
  where
    at : (r : Ordering) → numbers_cmp k x ≡ r → is_among n (insert_key numbers_cmp keys k) ≡ (same k n || is_among n keys) →
        is_among n (match_ordering r (k ∷ x ∷ keys) (x ∷ keys) (x ∷ insert_key numbers_cmp keys k)) ≡ (same k n || is_among n (x ∷ keys))
    at Less e h = refl
    at Equal e h = or_twice (same x n) (is_among n keys) ∙ ap (λ m. same m n || (same x n || is_among n keys)) (sym (tied k x e))
    at Greater e h = ap (λ b. same x n || b) h ∙ or_swap (same x n) (same k n) (is_among n keys)
