-- A line that is read.
use Rattle.std.proofs.Common.{◌≡◌, ap, sym, ◌∙◌, ℕ, ◌<◌, ◌≤◌, List, length, take, min, Option, inl, inr, ◌⊎◌, arith, take_all}
use Rattle.std.proofs.lemmas.Bool.{cases_lt}
use Rattle.text_scan.specs.declared.line.Fault.{Fault}
use Rattle.text_scan.specs.Lines.{line_fault, line_of}

pub take_min : {X : Type 0} (xs : List X) (n : ℕ) → take (min (length xs) n) xs ≡ take n xs
take_min xs n = by_cases (cases_lt (length xs) n)
  where
    by_cases : (length xs < n) ⊎ (n ≤ length xs) → take (min (length xs) n) xs ≡ take n xs
    by_cases (inl lt) = take_all _ xs (omega arith) ∙ sym (take_all n xs (omega arith))
    by_cases (inr ge) = ap (λ (k : ℕ). take k xs) (omega arith)

pub line_is : (number : ℕ) (front kept : List ℕ) (fault : Option Fault) → kept ≡ take 65536 front → fault ≡ line_fault number front → record { number = number; bytes = kept; fault = fault } ≡ line_of number front
line_is number front kept fault e f = λ i. record { number = number; bytes = e i; fault = f i }
