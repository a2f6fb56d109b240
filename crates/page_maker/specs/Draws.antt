-- Numbers that are drawn one after another from a seed (own rule).
use Rattle.std.specs.Prelude.{ℕ, ◌+◌, ◌*◌, ◌/◌, ◌%◌}

-- the state with one draw more; the seed is the first state
unfoldable pub stepped : ℕ → ℕ
stepped x = (x * 6364136223846793005 + 1442695040888963407) % 18446744073709551616

-- what is drawn with a state: a number below k
unfoldable pub drawn : ℕ → ℕ → ℕ
drawn k x = x / 8589934592 % k
