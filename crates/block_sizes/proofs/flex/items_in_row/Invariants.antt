use Rattle.std.proofs.Common.{◌≡◌, false, map, take, Some}
use Rattle.placing.specs.Nodes.{bare}
use Rattle.tree_rules.specs.FlexSizes as rules
use Rattle.inline_sizes.specs.Flexes.{member_of}
use Rattle.block_sizes.specs.Flexes.{HaveInner}
use Rattle.block_sizes.proofs.flex.items_in_row.Given as goal

abbrev pub invariant-loop-index : goal.invariant-loop-index
invariant-loop-index l = record {
  so_far : l.items.items ≡ map (λ (m : rules.Member). rules.flex_item false (Some l.fn.width) m.kid.label m.inline) (map (member_of (bare l.fn.tree.tree)) (take l.index l.members));
  inner : HaveInner l.items.items;
}
