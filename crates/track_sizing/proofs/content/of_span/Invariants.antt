use Rattle.std.proofs.Common.{length}
use Rattle.track_sizing.specs.Spans.{is_of_span}
use Rattle.track_sizing.proofs.Kept.{AreKept}
use Rattle.track_sizing.proofs.content.of_span.Given as goal

abbrev pub invariant-loop-item : goal.invariant-loop-item
invariant-loop-item l = AreKept (is_of_span l.rows l.span) l.first (length l.rows) l.items l.item-index l.group.items
