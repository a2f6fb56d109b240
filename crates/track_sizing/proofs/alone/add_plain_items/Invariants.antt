use Rattle.std.proofs.Common.{◌≡◌, ◌-◌, map, drop, length}
use Rattle.track_sizing.specs.Alone.{single_of}
use Rattle.track_sizing.proofs.Unchanged.{IsQuietFrom}
use Rattle.track_sizing.proofs.alone.add_plain_items.Given as goal

abbrev pub invariant-loop-back : goal.invariant-loop-back
invariant-loop-back g l =
    record {
      same : l.singles ≡ map (single_of l.space l.gap l.rows (drop (length l.items - l.back) l.items)) l.rows;
      quiet : IsQuietFrom l.gap l.items (length l.items - l.back) l.quiet;
    }
