use Rattle.std.proofs.Common.{◌≡◌, ◌++◌, take}
use Rattle.placing.proofs.template.add_lines.Given as goal

abbrev pub invariant-loop-line : goal.invariant-loop-line
invariant-loop-line l = l.lines ≡ l.fn.lines ++ take l.line-index l.more
