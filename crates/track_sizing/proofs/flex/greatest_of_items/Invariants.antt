use Rattle.std.proofs.Common.{◌-◌, length}
use Rattle.part_rules.specs.Fractions.{no_fraction}
use Rattle.part_rules.specs.Tracks.{crosses_flexible, item_fraction}
use Rattle.track_sizing.proofs.Best.{IsBest}
use Rattle.track_sizing.proofs.flex.greatest_of_items.Given as goal

abbrev pub invariant-loop-back : goal.invariant-loop-back
invariant-loop-back l = IsBest (crosses_flexible l.rows) (item_fraction l.gap l.rows) no_fraction l.items (length l.items - l.back) l.best
