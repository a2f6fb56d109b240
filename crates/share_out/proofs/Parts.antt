-- Parts of a space by weights.
use Rattle.std.proofs.Common.{arith, ◌≡◌, ◌∙◌, sym, ap, ℕ, ◌+◌, ◌*◌, ◌<◌, ◌≤◌, ℤ, pos, negsuc, ◌-ℤ◌, ◌*ℤ◌, ◌≤ℤ◌, inl, inr, List, ◌++◌, take, drop, length, subst}
use Rattle.std.proofs.lemmas.Int.{ints}
use Rattle.std.proofs.lemmas.List.{take_all, append-nil}
use Rattle.std.proofs.Math.ListN.{drop_of_length-le}
use Rattle.lunit.specs.Units.{IsUnits}
use Rattle.part_rules.specs.Sharing.{part, apportioned, apportioned_after}
use Rattle.part_rules.specs.Lists.{sum_of, total_of}
use Rattle.part_rules.proofs.Sharing.{parts_sum}
use Rattle.part_rules.proofs.Floor.{floor_div_low, floor_div_high, floor_div-none, cancel}
use Rattle.share_out.specs.Parts.{IsPart}

more : (a m n : ℕ) → m ≤ n → a * m ≤ a * n
more a m n h = grind arith

-- What a weight of at most the whole makes is a part of the space.
pub is_part : (space : ℤ) (whole weight : ℕ) → 0 < whole → weight ≤ whole → IsPart space (part space whole weight)
is_part (pos a) whole weight some h =
    let q : ℤ = part (pos a) whole weight in
    let low : pos 0 ≤ℤ q = cancel (pos 0) q whole (omega (arith, ints, floor_div_high (pos a *ℤ pos weight) whole some)) in
    let high : q ≤ℤ pos a = cancel q (pos a) whole (omega (arith, ints, floor_div_low (pos a *ℤ pos weight) whole some, more a weight whole h)) in
    inl (low, high)
is_part (negsuc a) whole weight some h =
    let q : ℤ = part (negsuc a) whole weight in
    let high : q ≤ℤ pos 0 = cancel q (pos 0) whole (omega (arith, ints, floor_div_low (negsuc a *ℤ pos weight) whole some)) in
    let low : negsuc a ≤ℤ q = cancel (negsuc a) q whole (omega (arith, ints, floor_div_high (negsuc a *ℤ pos weight) whole some, more (a + 1) weight whole h)) in
    inr (low, high)

-- The difference of two parts is a length.
pub difference_fits : (space a b : ℤ) → IsUnits space → IsPart space a → IsPart space b → IsUnits (a -ℤ b)
difference_fits space a b u (inl p) (inl q) = (omega (arith, ints), omega (arith, ints))
difference_fits space a b u (inl p) (inr q) = (omega (arith, ints), omega (arith, ints))
difference_fits space a b u (inr p) (inl q) = (omega (arith, ints), omega (arith, ints))
difference_fits space a b u (inr p) (inr q) = (omega (arith, ints), omega (arith, ints))

-- No weight makes nothing.
pub part_none : (space : ℤ) (whole : ℕ) → 0 < whole → pos 0 ≡ part space whole 0
part_none space whole some = sym (floor_div-none space whole some)

-- The parts of the sum of the weights are the whole space.
pub parts_are_all : (space : ℤ) (whole : ℕ) (ws : List ℕ) → 0 < whole → whole ≡ total_of ws → sum_of (apportioned space whole ws) ≡ space
parts_are_all space whole ws some e = ap (λ (n : ℕ). sum_of (apportioned space n ws)) e ∙ parts_sum space ws (subst (λ (n : ℕ). 0 < n) e some)

-- The parts so far are all parts at the end.
pub all_parts : (i before : ℕ) (space : ℤ) (whole : ℕ) (ws : List ℕ) (out : List ℤ) → length out ≡ length ws → length ws ≤ i
    → take i out ++ apportioned_after before space whole (drop i ws) ≡ apportioned space whole ws → out ≡ apportioned space whole ws
all_parts i before space whole ws out same end e =
    sym (ap (λ (rest : List ℕ). take i out ++ apportioned_after before space whole rest) (drop_of_length-le ws end) ∙ append-nil (take i out) ∙ take_all i out (omega arith)) ∙ e
