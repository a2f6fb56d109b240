use Rattle.std.proofs.Common.{◌≡◌, drop, length}
use Rattle.part_rules.specs.Tracks.{base_planned_by_all}
use Rattle.track_sizing.specs.Here.{HaveLengths}
use Rattle.track_sizing.specs.Placed.{AreIn, AreSet, base_step_of}
use Rattle.track_sizing.proofs.distribute.plan_bases.Given as goal

abbrev pub invariant-loop-item : goal.invariant-loop-item
invariant-loop-item l =
    record {
      same : base_planned_by_all (base_step_of l.step.affected l.step.receives l.definite l.gap l.step.asks) l.gap (drop l.item-index l.items) l.rows
          ≡ base_planned_by_all (base_step_of l.step.affected l.step.receives l.definite l.gap l.step.asks) l.gap l.items l.fn.rows;
      set : AreSet l.first l.rows;
      lengths : HaveLengths l.rows;
      left : AreIn l.first (length l.fn.rows) (drop l.item-index l.items);
    }
