use Rattle.std.proofs.Common.{◌≡◌, ◌+◌, ◌*◌, ◌≤◌, drop, map}
use Rattle.part_rules.specs.Lists.{total_of}
use Rattle.track_sizing.specs.Here.{weight_of}
use Rattle.track_sizing.proofs.factors.total_weight.Given as goal

abbrev pub invariant-loop-row : goal.invariant-loop-row
invariant-loop-row l =
    record {
      total : l.total + total_of (map (weight_of l.affected) (drop l.row-index l.rows)) ≡ total_of (map (weight_of l.affected) l.rows);
      few : l.total ≤ l.row-index * 4294967296;
    }
