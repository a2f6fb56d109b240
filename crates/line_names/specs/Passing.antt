-- Lines that pass a test, in order.
use Rattle.std.specs.Prelude.{ℕ, zero, suc, ℤ, pos, ◌+ℤ◌, Bool, List, [], ◌∷◌, if◌then◌else◌}
use Rattle.std.specs.List.{list_any}
use Rattle.std.specs.Ordering.{int_eq}

-- this line before others, if it is held
abbrev pub picked : Bool → ℤ → List ℤ → List ℤ
picked held line more = if held then line ∷ more else more

-- those of so many lines from one on that pass a test
abbrev pub passing : (ℤ → Bool) → ℤ → ℕ → List ℤ
passing test line zero = []
passing test line (suc more) = picked (test line) line (passing test (line +ℤ pos 1) more)

-- whether the line is one of these
abbrev pub among : List ℤ → ℤ → Bool
among lines line = list_any (λ l. int_eq l line) lines
