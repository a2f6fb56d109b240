-- What a sink in memory does at each call. Own rule.
use Rattle.std.specs.Prelude.{◌≡◌, ℕ, true, false, List, ◌++◌, length, take, min, max, Result, Ok, Err}
use Rattle.outside.specs.Faults.{one_more}
use Rattle.outside.specs.Calls.{fails_next}
use Rattle.outside.specs.declared.sink.SinkError.{SinkError}
use Rattle.outside.specs.declared.sink.SinkError.TheVariants.{Failed, NoMemory}

-- the bytes that were written, how many a call takes at most, the numbers of the calls that fail, and how many calls and faults
-- there were
pub record Store : Type 0 where
  pub written : List ℕ
  pub most : ℕ
  pub failing : List ℕ
  pub calls : ℕ
  pub faults : ℕ

-- how many bytes a call takes of a piece: at most so many, but one at least
abbrev pub count_taken : ℕ → List ℕ → ℕ
count_taken most piece = min (max most 1) (length piece)

-- a call fails exactly where its number is listed, and then counts a fault; else it takes the front of the piece, or wants memory
abbrev pub Stores : Store → Store → List ℕ → Result ℕ SinkError → Type 0
Stores old new piece (Ok n) =
    (fails_next old.failing old.calls ≡ false) × (n ≡ count_taken old.most piece)
    × (new ≡ record old { written = old.written ++ take n piece; calls = one_more old.calls })
Stores old new piece (Err Failed) =
    (fails_next old.failing old.calls ≡ true) × (new ≡ record old { calls = one_more old.calls; faults = one_more old.faults })
Stores old new piece (Err NoMemory) = (fails_next old.failing old.calls ≡ false) × (new ≡ record old { calls = one_more old.calls })
