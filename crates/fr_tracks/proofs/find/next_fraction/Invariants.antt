use Rattle.std.proofs.Common.{◌≡◌, ◌+◌, ◌*◌, ◌≤◌, ◌+ℤ◌, ◌≤ℤ◌, pos, drop, map}
use Rattle.std.specs.Prelude.{neg_ℤ}
use Rattle.part_rules.specs.Lists.{sum_of, total_of}
use Rattle.part_rules.specs.Fractions.{factor_of, held, settled}
use Rattle.fr_tracks.proofs.find.next_fraction.Given as goal

abbrev pub invariant-loop-row : goal.invariant-loop-row
invariant-loop-row l =
    record {
      sum : l.sum +ℤ sum_of (map held (map (settled l.last.space l.last.weight) (drop l.row-index l.rows))) ≡ sum_of (map held (map (settled l.last.space l.last.weight) l.rows));
      weight : l.weight + total_of (map factor_of (map (settled l.last.space l.last.weight) (drop l.row-index l.rows))) ≡ total_of (map factor_of (map (settled l.last.space l.last.weight) l.rows));
      least : neg_ℤ (pos (l.row-index * 1073741824)) ≤ℤ l.sum;
      most : l.sum ≤ℤ pos (l.row-index * 1073741824);
      few : l.weight ≤ l.row-index * 4294967296;
    }
