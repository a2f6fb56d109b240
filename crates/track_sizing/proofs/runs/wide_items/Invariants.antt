use Rattle.track_sizing.specs.Spans.{is_wide}
use Rattle.track_sizing.proofs.Kept.{IsFiltered}
use Rattle.track_sizing.proofs.runs.wide_items.Given as goal

abbrev pub invariant-loop-item : goal.invariant-loop-item
invariant-loop-item l = IsFiltered is_wide l.items l.item-index l.wide.items
