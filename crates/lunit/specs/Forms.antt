-- The forms of numbers that texts have. Their bounds are asked of the exact number, before it is truncated.
use Rattle.std.specs.Prelude.{true, false}
use Rattle.lunit.specs.declared.number.NumberForm.{NumberForm}

-- px of a magnitude of at most 1,048,576, in units of a sixty-fourth (own rule)
abbrev pub lengths : NumberForm
lengths = record { scale = 64; most = 1048576; below_zero = true }

-- px of at most 1,048,576 that are not below zero, in units of a sixty-fourth; `-0` is not below zero (own rule)
abbrev pub sizes : NumberForm
sizes = record { scale = 64; most = 1048576; below_zero = false }

-- numbers of value zero
abbrev pub zeros : NumberForm
zeros = record { scale = 64; most = 0; below_zero = true }

-- percentages from 0 to 1000, in thousandths of a percent (own rule)
abbrev pub percentages : NumberForm
percentages = record { scale = 1000; most = 1000; below_zero = false }

-- factors from 0 to 10,000, in thousandths (own rule)
abbrev pub factors : NumberForm
factors = record { scale = 1000; most = 10000; below_zero = false }

-- whole numbers of a magnitude of at most 1,000,000 (own rule)
abbrev pub integers : NumberForm
integers = record { scale = 1; most = 1000000; below_zero = true }

-- numbers of a magnitude of at most 10,000, in millionths (own rule)
abbrev pub relative_lengths : NumberForm
relative_lengths = record { scale = 1000000; most = 10000; below_zero = true }
