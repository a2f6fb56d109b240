-- Sums of sizes, and totals that are limited by declared lengths.
use Rattle.std.proofs.Common.{arith, ap, subst, ◌≡◌, ◌≢◌, ◌∙◌, sym, ℕ, ◌+◌, ◌*◌, ◌<◌, ◌≤◌, inl, inr, ℤ, pos, ◌+ℤ◌, ◌-ℤ◌, ◌≤ℤ◌, List, map, drop, length, get_or}
use Rattle.std.proofs.Math.ListN.{drop_of_length-le}
use Rattle.std.proofs.lemmas.Int.{ints}
use Rattle.lunit.specs.Units.{IsUnits}
use Rattle.part_rules.specs.declared.fraction.FrRow.{FrRow}
use Rattle.part_rules.specs.Lists.{sum_of}
use Rattle.track_sizing.specs.Flex.{IsBounded}
use Rattle.track_sizing.proofs.Sums.{drop_item}

abbrev sizes : List FrRow → ℤ
sizes rows = sum_of (map (λ (r : FrRow). r.base) rows)

pub record IsSizeSum (rows : List FrRow) (i : ℕ) (sum : ℤ) : Type 0 where
  pub all : sum +ℤ sum_of (map (λ (r : FrRow). r.base) (drop i rows)) ≡ sum_of (map (λ (r : FrRow). r.base) rows)
  pub least : (pos 0 -ℤ pos (i * 1073741824)) ≤ℤ sum
  pub most : sum ≤ℤ pos (i * 1073741824)

pub no_sizes : (rows : List FrRow) (sum : ℤ) → sum ≡ pos 0 → IsSizeSum rows 0 sum
no_sizes rows sum e = record { all = omega (arith, ints); least = omega (arith, ints); most = omega (arith, ints) }

pub more_sizes : (rows : List FrRow) (i : ℕ) (sum x next : ℤ) (r : FrRow) → IsSizeSum rows i sum → i < length rows → r ≡ get_or rows i r → x ≡ r.base → IsUnits x → next ≡ sum +ℤ x → IsSizeSum rows (i + 1) next
more_sizes rows i sum x next r so h e v u n =
    record {
      all = omega (arith, ints, so.all, ap sizes (drop_item rows i r h e));
      least = omega (arith, ints, so.least);
      most = omega (arith, ints, so.most);
    }

pub all_sizes : (rows : List FrRow) (i : ℕ) (sum : ℤ) → IsSizeSum rows i sum → length rows ≤ i → sum ≡ sum_of (map (λ (r : FrRow). r.base) rows)
all_sizes rows i sum so h = let none : sizes (drop i rows) ≡ pos 0 = ap sizes (drop_of_length-le rows h) in omega (arith, ints, so.all)

pub ruleset size_sums = (no_sizes, more_sizes, all_sizes)

pub bounded_units : (total c b : ℤ) → IsBounded total c → IsBounded c b → b ≢ total → IsUnits b
bounded_units total c b (inl e) (inl d) n = absurd (n (d ∙ e))
bounded_units total c b (inr u) (inl d) n = subst IsUnits (sym d) u
bounded_units total c b p (inr u) n = u

pub ruleset bounds = (bounded_units)
