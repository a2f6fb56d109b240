-- What sources in memory hold, and what one does at each call. Own rule.
use Rattle.std.specs.Prelude.{ℕ, if◌then◌else◌, List, length, drop, min, max, slice_get, Result, Ok, Err}
use Rattle.std.specs.Option.{option_map_or}
use Rattle.outside.specs.Faults.{one_more}
use Rattle.outside.specs.Calls.{fails_next}
use Rattle.outside.specs.declared.source.Failed.{Failed}

-- the bytes that are left, how many bytes each call gives at most, the numbers of the calls that fail, and how many calls and
-- faults there were
pub record Feed : Type 0 where
  pub left : List ℕ
  pub pieces : List ℕ
  pub failing : List ℕ
  pub calls : ℕ
  pub faults : ℕ

-- of a source that never fails: the bytes that are left, and how often it was asked
pub record SureFeed : Type 0 where
  pub left : List ℕ
  pub asked : ℕ

-- the most that a call gives, after so many calls, to a room of so many bytes: its piece, but one at least, and the room once the
-- list has ended
abbrev pub most_given : List ℕ → ℕ → ℕ → ℕ
most_given pieces calls room = option_map_or (λ piece. max piece 1) (slice_get pieces calls) room

-- how many bytes the next call gives to a room of so many, if it doesn't fail
abbrev pub count_given : Feed → ℕ → ℕ
count_given f room = min (most_given f.pieces f.calls room) (min room (length f.left))

-- the answer of the next call
abbrev pub answer_of : Feed → ℕ → Result ℕ Failed
answer_of f room = if fails_next f.failing f.calls then Err (record {}) else Ok (count_given f room)

-- the feed after that call
abbrev pub after_read : Feed → ℕ → Feed
after_read f room =
    if fails_next f.failing f.calls then record f { calls = one_more f.calls; faults = one_more f.faults }
    else record f { left = drop (count_given f room) f.left; calls = one_more f.calls }
