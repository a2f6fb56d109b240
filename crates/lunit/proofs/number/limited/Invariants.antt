use Rattle.std.proofs.Common.{◌≡◌, take, min}
use Rattle.lunit.specs.Decimals.{digits_number}
use Rattle.lunit.proofs.number.limited.Given as goal

abbrev pub invariant-loop-digit : goal.invariant-loop-digit
invariant-loop-digit l = l.number ≡ min 4294967296 (digits_number (take l.digit-index l.digits))
