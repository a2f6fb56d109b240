use Rattle.std.proofs.Common.{◌≡◌, drop}
use Rattle.std.specs.List.{list_any}
use Rattle.track_sizing.specs.Alone.{is_single}
use Rattle.track_sizing.proofs.alone.some_single.Given as goal

abbrev pub invariant-loop-item : goal.invariant-loop-item
invariant-loop-item l = list_any is_single (drop l.item-index l.items) ≡ list_any is_single l.items
