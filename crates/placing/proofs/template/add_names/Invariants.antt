use Rattle.std.proofs.Common.{◌≡◌, ◌++◌, take}
use Rattle.placing.proofs.template.add_names.Given as goal

abbrev pub invariant-loop-name : goal.invariant-loop-name
invariant-loop-name l = l.line ≡ l.fn.line ++ take l.name-index l.name-items
