use Rattle.std.proofs.Common.{◌≡◌, ◌≤◌, max, drop}
use Rattle.plain_tree.specs.Trees.{height_of}
use Rattle.node_arena.specs.Inside.{grown, shown}
use Rattle.node_arena.proofs.slots.+height.Given as goal

abbrev pub decreases-height : goal.decreases-height
decreases-height g l = l.levels

abbrev pub invariant-loop-number : goal.invariant-loop-number
invariant-loop-number g l =
    record {
      whole : max l.highest (height_of (grown l.levels (shown l.slots.slots) (drop l.number-index l.numbers))) ≡ height_of (grown l.levels (shown l.slots.slots) l.numbers);
      most : l.highest ≤ l.levels;
    }
