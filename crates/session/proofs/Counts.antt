-- A count that stands still at its last value.
use Rattle.std.proofs.Common.{◌≡◌, ℕ, zero, suc, ◌≤◌, ◌<◌, ◌^◌, arith}
use Rattle.std.specs.Prelude.{◌-◌, min}
use Rattle.placing.specs.Walks.{rising}

-- from nothing on it is as many as there are, up to its last value
pub rising_is : (n : ℕ) → rising 0 n ≡ min n (2 ^ 64 - 1)
rising_is zero = omega arith
rising_is (suc n) = omega (arith, rising_is n)

pub rising_most : (n : ℕ) → rising 0 n ≤ n
rising_most n = omega (arith, rising_is n)

pub rising_least : (k n : ℕ) → k ≤ n → k ≤ 2 ^ 64 - 1 → k ≤ rising 0 n
rising_least k n h few = omega (arith, rising_is n)

pub rising_exact : (n : ℕ) → rising 0 n < 2 ^ 64 - 1 → rising 0 n ≡ n
rising_exact n h = omega (arith, rising_is n)
