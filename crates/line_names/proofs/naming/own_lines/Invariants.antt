use Rattle.std.proofs.Common.{get_or, []}
use Rattle.line_names.specs.Tables.{AreLines}
use Rattle.line_names.proofs.naming.own_lines.Given as goal

abbrev pub invariant-loop-line : goal.invariant-loop-line
invariant-loop-line l = AreLines (λ line. get_or l.sets line []) l.line l.lines
