use Rattle.std.proofs.Common.{◌≡◌, not, take}
use Rattle.std.specs.List.{list_any}
use Rattle.text_scan.specs.Lines.{is_printable}
use Rattle.text_scan.proofs.line.has_bad.Given as goal

abbrev pub invariant-loop-byte : goal.invariant-loop-byte
invariant-loop-byte l = l.bad ≡ list_any (λ byte. not (is_printable byte)) (take l.byte-index l.bytes)
