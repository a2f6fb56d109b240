use Rattle.std.proofs.Common.{◌≡◌, [], replicate}
use Rattle.line_names.proofs.set_list.empty_lists.Given as goal

-- so many lists stand there
abbrev pub invariant-loop : goal.invariant-loop
invariant-loop l = l.lists ≡ replicate l.counter []
