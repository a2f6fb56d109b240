use Rattle.std.proofs.Common.{◌≡◌, ◌++◌, get_or, slice_set, take, []}
use Rattle.line_names.proofs.naming.add_names.Given as goal

abbrev pub invariant-loop-name : goal.invariant-loop-name
invariant-loop-name l = l.lines ≡ slice_set l.fn.lines l.line (get_or l.fn.lines l.line [] ++ take l.name-index l.names)
