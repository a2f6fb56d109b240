use Rattle.std.proofs.Common.{◌≡◌, length}
use Rattle.std.specs.List.{list_all}
use Rattle.text_scan.specs.Tokens.{is_space, before_comment}
use Rattle.text_scan.proofs.token.is_blank.Given as goal

-- the bytes before those that are left are spaces
abbrev pub invariant-loop-byte : goal.invariant-loop-byte
invariant-loop-byte l = list_all is_space (before_comment l.left) ≡ list_all is_space (before_comment l.bytes)

abbrev pub decreases-loop-byte : goal.decreases-loop-byte
decreases-loop-byte l = length l.left
