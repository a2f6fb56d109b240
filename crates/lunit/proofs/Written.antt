-- Two texts, written one after the other over zeros.
use Rattle.std.proofs.Common.{arith, ap, sym, ◌∙◌, ◌≡◌, ℕ, ◌+◌, ◌-◌, ◌≤◌, List, ◌++◌, length, take, drop, replicate, zero-add}
use Rattle.std.proofs.lemmas.List.{drop-replicate, length-replicate, length-append}
use Rattle.std.proofs.Math.Seq.{take-append_seam, drop-append-add}
use Rattle.lunit.specs.Padded.{padded, IsPadded}

once : (p r : List ℕ) → r ≡ take 0 (replicate 64 0) ++ p ++ drop (0 + length p) (replicate 64 0) → r ≡ padded p
once p r e = e ∙ ap (λ (n : ℕ). p ++ drop n (replicate 64 0)) (zero-add (length p)) ∙ ap (λ (z : List ℕ). p ++ z) (drop-replicate (length p) 64 0)

twice : (p q s : List ℕ) → length p + length q ≤ 64 → s ≡ take (length p) (padded p) ++ q ++ drop (length p + length q) (padded p) → s ≡ padded (p ++ q)
twice p q s h e =
    let z : List ℕ = replicate (64 - length p) 0 in
    let room : 64 - length p - length q ≡ 64 - length (p ++ q) = omega (arith, length-append p q) in
    e ∙ ap (λ (f : List ℕ). f ++ q ++ drop (length p + length q) (padded p)) (take-append_seam p z)
    ∙ ap (λ (t : List ℕ). p ++ q ++ t) (drop-append-add p z (length q) ∙ drop-replicate (length q) (64 - length p) 0 ∙ ap (λ (n : ℕ). replicate n 0) room)

pub spelled : (p : List ℕ) → take (length p) (padded p) ≡ p
spelled p = take-append_seam p (replicate (64 - length p) 0)

pub written : (p q r s : List ℕ) → length p + length q ≤ 64
    → r ≡ take 0 (replicate 64 0) ++ p ++ drop (0 + length p) (replicate 64 0)
    → s ≡ take (length p) r ++ q ++ drop (length p + length q) r → s ≡ padded (p ++ q)
written p q r s h e f = twice p q s h (f ∙ ap (λ (r : List ℕ). take (length p) r ++ q ++ drop (length p + length q) r) (once p r e))

pub is_padded : (p q s : List ℕ) → length p + length q ≤ 64 → s ≡ padded (p ++ q) → IsPadded (record { bytes = s; len = length p + length q })
is_padded p q s h e =
    let n : length p + length q ≡ length (p ++ q) = omega (arith, length-append p q) in
    let t : take (length p + length q) s ≡ p ++ q = (λ i. take (n i) (e i)) ∙ spelled (p ++ q) in
    record {
      room = omega (arith, n, ap length e, length-append (p ++ q) (replicate (64 - length (p ++ q)) 0), length-replicate {A = ℕ} (64 - length (p ++ q)) 0);
      padded_ok = ap padded t ∙ sym e;
    }
