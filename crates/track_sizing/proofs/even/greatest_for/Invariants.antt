use Rattle.std.proofs.Common.{◌-ℤ◌}
use Rattle.lunit.specs.Units.{top}
use Rattle.track_sizing.specs.Even.{space_for}
use Rattle.track_sizing.proofs.Evenly.{IsGreatest}
use Rattle.track_sizing.proofs.even.greatest_for.Given as goal

abbrev pub invariant-loop-item : goal.invariant-loop-item
invariant-loop-item l = IsGreatest (space_for l.definite l.asks l.sum l.gutters) (top -ℤ l.sum) l.items l.item-index l.most
