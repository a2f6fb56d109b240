use Rattle.std.proofs.Common.{◌≡◌, ◌+◌, ◌≤◌, ◌<◌, drop}
use Rattle.part_rules.specs.Sharing.{above}
use Rattle.share_out.proofs.equal.place_after.Given as goal

abbrev pub invariant-loop-place : goal.invariant-loop-place
invariant-loop-place l =
    record {
      seen : l.seen + above l.level (drop l.place l.rows) ≡ above l.level l.rows;
      some : 0 < l.place → 0 < l.count;
      most : l.seen ≤ l.count;
    }
