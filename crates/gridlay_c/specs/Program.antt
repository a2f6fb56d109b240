-- What the program writes and answers for an input.
use Rattle.std.specs.Prelude.{◌≡◌, ℕ, ◌≤◌, ◌<◌, ◌⊎◌, List, [], length, Some}
use Rattle.outside.specs.Told.{AddsPrefix}
use Rattle.session.specs.Input.{limit}
use Rattle.session.specs.Outcome.{IsEarlyFault, early_lines, out, verdict}
use Rattle.session.specs.Words.{code_of}
use Rattle.session.specs.declared.status.Status.{Status}
use Rattle.session.specs.declared.status.Status.TheVariants.{BadDocument, NoMemory, InputLimit}
use Rattle.gridlay_c.specs.Numbers.{memory}
use Rattle.gridlay_c.specs.Rooms.{FillsAs}

-- the program reads these bytes, writes these and ends so
pub record IsAnswer (input written : List ℕ) (status : Status) : Type 0 where
  -- the verdict with all of its output, or want of memory
  pub whole : length input ≤ limit
      → (status ≡ NoMemory) ⊎ ((status ≡ verdict input) × (written ≡ out input))
  -- of an input that is too long: that it is, or that the document ended early and has a fault
  pub over : limit < length input
      → (status ≡ NoMemory) ⊎ (((status ≡ InputLimit) × ¬ IsEarlyFault (early_lines input))
      ⊎ ((status ≡ BadDocument) × IsEarlyFault (early_lines input)))
  pub front : AddsPrefix (Some []) (Some written) (out input)

-- want of memory is answered and nothing told, else the status and what was written
abbrev pub Tells : Status → List ℕ → List ℕ → List ℕ → ℕ → ℕ → Type 0
Tells NoMemory written room room' count answer = (answer ≡ memory) × (room' ≡ room)
Tells status written room room' count answer =
    FillsAs (code_of status) written room room' count answer

pub record HasAnswered (input room room' : List ℕ) (count answer : ℕ) : Type 0 where
  pub status : Status
  pub written : List ℕ
  pub runs : IsAnswer input written status
  pub told : Tells status written room room' count answer
