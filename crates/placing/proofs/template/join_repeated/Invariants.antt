use Rattle.std.proofs.Common.{◌≡◌}
use Rattle.tree_rules.specs.Templates.{repeated_names, seamed}
use Rattle.placing.proofs.template.join_repeated.Given as goal

abbrev pub invariant-loop-left : goal.invariant-loop-left
invariant-loop-left l = seamed l.lines (repeated_names l.left l.names) ≡ seamed l.fn.lines (repeated_names l.count l.names)

abbrev pub decreases-loop-left : goal.decreases-loop-left
decreases-loop-left l = l.left
