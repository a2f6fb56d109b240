use Rattle.std.proofs.Common.{◌≡◌, ◌*◌, ◌+ℤ◌, ◌≤ℤ◌, pos, neg_ℤ, drop, map}
use Rattle.part_rules.specs.FlexLines.{begin}
use Rattle.flex_lines.specs.Rounds.{held_by}
use Rattle.flex_lines.proofs.flexible.first_held.Given as goal

abbrev pub invariant-loop-item : goal.invariant-loop-item
invariant-loop-item l = record {
  so_far : l.held +ℤ held_by (map (begin l.grow) (drop l.item-index l.items)) ≡ held_by (map (begin l.grow) l.items);
  low : neg_ℤ (pos (2147483648 * l.item-index)) ≤ℤ l.held;
  high : l.held ≤ℤ pos (2147483648 * l.item-index);
}
