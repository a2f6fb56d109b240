use Rattle.std.proofs.Common.{ap, subst, sym, ◌∙◌, ◌++◌}
use Rattle.placing.specs.Nodes.{bare}
use Rattle.placing.specs.declared.wide.GridBase.{GridBase}
use Rattle.tree_rules.specs.LentItems.{empty_item}
use Rattle.inline_sizes.specs.Lifted.{IsSelfLifted}
use Rattle.block_sizes.proofs.RowAxes.{levels_are}
use Rattle.block_sizes.specs.Wides.{row_levels}
use Rattle.block_sizes.proofs.wide.lent_rows.Goals as goal

pub with_standing_item-requires : goal.with_standing_item-requires
with_standing_item-requires c =
    subst IsSelfLifted (sym (c.row_levels-levels.ensures ∙ ap (λ (base : GridBase). row_levels base.above) c.grid-base.ensures ∙ levels_are (bare c.args.tree.now.tree) c.args.id c.args.reps.now c.args.width.now c.args.wide.now c.requires.wide))
    (c.items_lie_in_their_tracks.ensures.items c.args.reps.now c.args.width.now).lines.row_self

pub returns : goal.returns
returns c =
    c.in_ok-items.ensures
    ∙ (λ i. empty_item ((c.row_levels-levels.ensures ∙ ap (λ (base : GridBase). row_levels base.above) c.grid-base.ensures ∙ levels_are (bare c.args.tree.now.tree) c.args.id c.args.reps.now c.args.width.now c.args.wide.now c.requires.wide) i) ++ (c.as_slice.ensures ∙ c.requires.wide.items) i)
