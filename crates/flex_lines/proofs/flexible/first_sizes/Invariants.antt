use Rattle.std.proofs.Common.{◌≡◌, ◌++◌, drop, map}
use Rattle.part_rules.specs.FlexLines.{begin, size_of}
use Rattle.flex_lines.proofs.flexible.first_sizes.Given as goal

abbrev pub invariant-loop-item : goal.invariant-loop-item
invariant-loop-item l = l.sizes.items ++ map size_of (map (begin l.grow) (drop l.item-index l.items)) ≡ map size_of (map (begin l.grow) l.items)
