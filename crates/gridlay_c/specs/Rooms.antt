-- What is written into a room that C lends.
use Rattle.std.specs.Prelude.{◌≡◌, ℕ, if◌then◌else◌, List, ◌++◌, length, take, drop, nat_le}
use Rattle.gridlay_c.specs.Numbers.{ok, room}

-- the front of all that fits; what stood behind it is as it was
abbrev pub filled : {A : Type 0} → List A → List A → List A
filled all before = take (length before) all ++ drop (length all) before

-- all of it is counted, and the front is written that fits; where this is all, `done` is answered
pub record FillsAs {A : Type 0} (done : ℕ) (all before after : List A) (count answer : ℕ)
    : Type 0 where
  pub counted : count ≡ length all
  pub written : after ≡ filled all before
  pub answered : answer ≡ (if nat_le (length all) (length before) then done else room)

abbrev pub Fills : {A : Type 0} → List A → List A → List A → ℕ → ℕ → Type 0
Fills = FillsAs ok
