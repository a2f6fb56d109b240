use Rattle.std.proofs.Common.{◌≡◌, drop, length}
use Rattle.part_rules.specs.Tracks.{limit_planned_by_all}
use Rattle.track_sizing.specs.Here.{HaveLengths}
use Rattle.track_sizing.specs.Placed.{AreIn, AreSet, limit_step_in}
use Rattle.track_sizing.proofs.distribute.plan_limits.Given as goal

abbrev pub invariant-loop-item : goal.invariant-loop-item
invariant-loop-item l =
    record {
      same : limit_planned_by_all (limit_step_in l.affected l.second) l.gap (drop l.item-index l.items) l.rows
          ≡ limit_planned_by_all (limit_step_in l.affected l.second) l.gap l.items l.fn.rows;
      set : AreSet l.first l.rows;
      lengths : HaveLengths l.rows;
      left : AreIn l.first (length l.fn.rows) (drop l.item-index l.items);
    }
