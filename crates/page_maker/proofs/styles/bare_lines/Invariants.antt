use Rattle.std.proofs.Common.{◌≡◌, [], replicate}
use Rattle.page_maker.proofs.styles.bare_lines.Given as goal

abbrev pub invariant-loop-line : goal.invariant-loop-line
invariant-loop-line l = l.lines ≡ replicate l._line []
