use Rattle.std.proofs.Common.{◌≡◌, ◌≤◌, ◌-◌}
use Rattle.part_rules.specs.Sharing.{above, used}
use Rattle.share_out.proofs.equal.find_filling.Given as goal

abbrev pub invariant-loop-tally : goal.invariant-loop-tally
invariant-loop-tally l =
    record {
      used : l.tally.used ≡ used l.level l.rows;
      above : l.tally.above ≡ above l.level l.rows;
      most : l.tally.used ≤ l.units;
      level : l.level ≤ l.units;
    }

abbrev pub decreases-loop-tally : goal.decreases-loop-tally
decreases-loop-tally l = l.units - l.tally.used
