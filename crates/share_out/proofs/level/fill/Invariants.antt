use Rattle.std.proofs.Common.{◌≡◌, ◌++◌, take, drop, map}
use Rattle.part_rules.specs.Sharing.{filled_to}
use Rattle.share_out.proofs.level.fill.Given as goal

abbrev pub invariant-loop-row : goal.invariant-loop-row
invariant-loop-row l = l.rows ≡ map (filled_to l.level) (take l.row-index l.fn.rows) ++ drop l.row-index l.fn.rows
