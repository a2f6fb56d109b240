-- The lengths that automatic repetition counts.
use Rattle.std.specs.Prelude.{◌≡◌, ℕ, ◌*◌, ◌<◌, ◌≤◌, ℤ, pos, ◌≤ℤ◌, int_le, Bool, List}
use Rattle.std.specs.List.{list_all}

-- each is at least 64 units, as counted lengths are (own rule)
abbrev pub are_counted : List ℤ → Bool
are_counted lengths = list_all (λ length_of. int_le (pos 64) length_of) lengths

-- what so many lengths can make together
pub record IsSum (count : ℕ) (sum : ℤ) : Type 0 where
  pub low : pos (64 * count) ≤ℤ sum
  pub high : sum ≤ℤ pos (1073741824 * count)

-- the room and the step as numbers above 0
pub record IsRoom (room step : ℤ) (r s : ℕ) : Type 0 where
  pub room_is : room ≡ pos r
  pub step_is : step ≡ pos s
  pub some_room : 0 < r
  pub some_step : 0 < s
  pub room_fits : r ≤ 4294967296
  pub step_fits : s ≤ 4294967296
