use Rattle.std.proofs.Common.{◌≡◌, ◌+◌, ◌≤◌, drop}
use Rattle.part_rules.specs.Sharing.{above, used}
use Rattle.share_out.proofs.level.tally_at.Given as goal

abbrev pub invariant-loop-row : goal.invariant-loop-row
invariant-loop-row l =
    record {
      used : l.used + used l.level (drop l.row-index l.rows) ≡ used l.level l.rows;
      above : l.above + above l.level (drop l.row-index l.rows) ≡ above l.level l.rows;
      few : l.above ≤ l.row-index;
    }
