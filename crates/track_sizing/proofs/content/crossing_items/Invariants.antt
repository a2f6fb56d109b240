use Rattle.std.proofs.Common.{length}
use Rattle.part_rules.specs.Tracks.{crosses_flexible}
use Rattle.track_sizing.proofs.Kept.{AreKept}
use Rattle.track_sizing.proofs.content.crossing_items.Given as goal

abbrev pub invariant-loop-item : goal.invariant-loop-item
invariant-loop-item l = AreKept (crosses_flexible l.rows) l.first (length l.rows) l.items l.item-index l.group.items
