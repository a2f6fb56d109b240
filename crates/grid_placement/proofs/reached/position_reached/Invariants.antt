use Rattle.std.proofs.Common.{◌≡◌, drop}
use Rattle.grid_placement.specs.Reached.{position_reached}
use Rattle.grid_placement.proofs.reached.position_reached.Given as goal

abbrev pub invariant-loop-reached : goal.invariant-loop-reached
invariant-loop-reached l = position_reached (drop l.reached-index l.positions) l.columns l.rows l.last ≡ position_reached l.positions l.columns l.rows l.fn.first
