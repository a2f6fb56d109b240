use Rattle.std.proofs.Common.{◌≡◌, false, drop, length, map}
use Rattle.part_rules.specs.declared.share.Share.{Share}
use Rattle.track_sizing.specs.Placed.{AreIn}
use Rattle.track_sizing.specs.Reached.{all_noted, note_of}
use Rattle.track_sizing.proofs.reach.note_reached.Given as goal

abbrev pub invariant-loop-item : goal.invariant-loop-item
invariant-loop-item l =
    record {
      same : all_noted l.affected (drop l.item-index l.items) l.rows l.notes ≡ all_noted l.affected l.items l.rows (map (λ (s : Share). note_of false) l.fn.notes);
      left : AreIn l.first (length l.rows) (drop l.item-index l.items);
    }
