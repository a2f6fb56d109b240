-- Line values by the sign of their number.
use Rattle.std.proofs.Common.{arith, refl, ap, ◌≡◌, ℕ, ◌+◌, ◌-◌, ℤ, pos, negsuc, ◌-ℤ◌, ◌<ℤ◌, ◌≤ℤ◌, List}
use Rattle.std.specs.Prelude.{unsigned_abs}
use Rattle.std.proofs.lemmas.Int.{ints}
use Rattle.part_rules.specs.LineNames.{Table, named_lines, numbered, numbered_named, going_on, going_back}

pub numbered_from_start : (t : Table) (number : ℤ) → pos 0 ≤ℤ number → numbered t number ≡ pos (unsigned_abs number) -ℤ pos 1
numbered_from_start t (pos k) h = refl
numbered_from_start t (negsuc k) h = absurd (omega (arith, ints))

pub numbered_from_end : (t : Table) (number : ℤ) → number <ℤ pos 0 → numbered t number ≡ pos t.tracks -ℤ pos (unsigned_abs number - 1)
numbered_from_end t (pos k) h = absurd (omega (arith, ints))
numbered_from_end t (negsuc k) h = let e : k ≡ unsigned_abs (negsuc k) - 1 = omega (arith, ints) in ap (λ n. pos t.tracks -ℤ pos n) e

pub named_from_start : (t : Table) (number : ℤ) (name : List ℕ) → pos 0 ≤ℤ number → numbered_named t number name ≡ going_on (named_lines t name) (unsigned_abs number) (pos t.tracks)
named_from_start t (pos k) name h = refl
named_from_start t (negsuc k) name h = absurd (omega (arith, ints))

pub named_from_end : (t : Table) (number : ℤ) (name : List ℕ) → number <ℤ pos 0 → numbered_named t number name ≡ going_back (named_lines t name) (unsigned_abs number) (pos 0)
named_from_end t (pos k) name h = absurd (omega (arith, ints))
named_from_end t (negsuc k) name h = let e : k + 1 ≡ unsigned_abs (negsuc k) = omega (arith, ints) in ap (λ n. going_back (named_lines t name) n (pos 0)) e

pub ruleset by_sign = (numbered_from_start, numbered_from_end, named_from_start, named_from_end)
