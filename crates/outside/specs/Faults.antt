-- Counts of faults. A count never falls, and stands still at 2^64 - 1, the last value of a u64. All own rules.
use Rattle.std.specs.Prelude.{ℕ, ◌+◌, ◌-◌, ◌^◌, ◌≤◌, min, Result, Ok, Err, OnErr}

-- the count after one more, which stands still at its last value
abbrev pub one_more : ℕ → ℕ
one_more n = min (n + 1) (2 ^ 64 - 1)

-- a count rose: it is greater than before, or stands at its last value
abbrev pub Rose : ℕ → ℕ → Type 0
Rose before now = one_more before ≤ now

-- the count after an answer: an Ok leaves it, and an Err counts one more
abbrev pub counted : {T E : Type 0} → ℕ → Result T E → ℕ
counted n (Ok x) = n
counted n (Err e) = one_more n

-- a count did not fall, and this was answered only where it rose
pub record HasCauseOf (before now : ℕ) (answered : Type 0) : Type 0 where
  pub later : before ≤ now
  pub cause : answered → Rose before now

-- a count did not fall, and an error was answered only where it rose
pub record HasCause {T E : Type 0} (before now : ℕ) (result : Result T E) : Type 0 where
  pub later : before ≤ now
  pub failed : OnErr result (Rose before now)
