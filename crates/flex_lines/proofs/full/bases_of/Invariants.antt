use Rattle.std.proofs.Common.{◌≡◌, map, take}
use Rattle.part_rules.specs.declared.flex.FlexItem.{FlexItem}
use Rattle.flex_lines.proofs.full.bases_of.Given as goal

abbrev pub invariant-loop-item : goal.invariant-loop-item
invariant-loop-item l = l.sizes.items ≡ map (λ (i : FlexItem). i.base) (take l.item-index l.items)
