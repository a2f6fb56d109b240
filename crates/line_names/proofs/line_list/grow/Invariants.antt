use Rattle.std.proofs.Common.{◌≡◌, ◌+◌, ◌-◌, ℕ, length}
use Rattle.line_names.specs.LineLists.{has_bit}
use Rattle.line_names.proofs.line_list.grow.Given as goal

-- no bit is changed
abbrev pub invariant-loop-words : goal.invariant-loop-words
invariant-loop-words l = (place : ℕ) → has_bit l.words place ≡ has_bit l.fn.words place

abbrev pub decreases-loop-words : goal.decreases-loop-words
decreases-loop-words l = (l.at + 1) - length l.words
