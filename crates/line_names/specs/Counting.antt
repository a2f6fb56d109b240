-- Numbers of lines as the code counts them.
use Rattle.std.specs.Prelude.{ℤ, pos, neg_ℤ, ◌≤ℤ◌}

-- a line from which a line value can be counted
pub record IsNear (line : ℤ) : Type 0 where
  pub low : neg_ℤ (pos 34359738368) ≤ℤ line
  pub high : line ≤ℤ pos 34359738368

-- a line that a line value can stand for
pub record IsFar (line : ℤ) : Type 0 where
  pub low : neg_ℤ (pos 68719476736) ≤ℤ line
  pub high : line ≤ℤ pos 68719476736

-- a line that can be looked for
pub record IsWide (line : ℤ) : Type 0 where
  pub low : neg_ℤ (pos 1099511627776) ≤ℤ line
  pub high : line ≤ℤ pos 1099511627776
