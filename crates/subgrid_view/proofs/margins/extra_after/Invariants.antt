use Rattle.std.proofs.Common.{◌≡◌, ◌+◌, ◌*◌, ◌≤ℤ◌, pos, neg_ℤ, drop}
use Rattle.part_rules.specs.Views.{extra_after}
use Rattle.subgrid_view.specs.Sums.{given, IsOrdered}
use Rattle.subgrid_view.proofs.margins.extra_after.Given as goal

abbrev pub invariant-loop-level : goal.invariant-loop-level
invariant-loop-level l =
    record {
      so_far : given l.lower (extra_after (drop l.level-index l.levels) l.line) ≡ extra_after l.levels l.initial.line;
      order : IsOrdered l.lower;
      low_sum : neg_ℤ (pos (2147483648 * l.level-index)) ≤ℤ l.lower.sum;
      high_sum : l.lower.sum ≤ℤ pos (2147483648 * l.level-index);
      low_line : neg_ℤ (pos (2147483648 * (l.level-index + 1))) ≤ℤ l.line;
      high_line : l.line ≤ℤ pos (2147483648 * (l.level-index + 1));
    }
