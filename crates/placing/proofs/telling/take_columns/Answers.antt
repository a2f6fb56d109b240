use Rattle.std.proofs.Common.{◌∙◌, ap, sym}
use Rattle.placing.specs.Kept.{past_at, turn_at}
use Rattle.placing.specs.Nodes.{bare}
use Rattle.placing.specs.Told.{HoldsColumns}
use Rattle.placing.specs.declared.wide.GridBase.{GridBase}
use Rattle.placing.proofs.Puts.{changes_alike, changes_right, changes_turn, no_columns}
use Rattle.placing.proofs.Stale.{columns_past, fresh_as, some_holds, turns_as, within_as}
use Rattle.placing.proofs.telling.take_columns.Goals as goal

pub returns-in_default-clause-right : goal.returns-in_default-clause-right
returns-in_default-clause-right c = changes_right _ _ _ _ c.lose_columns.ensures.lost c.requires.right (no_columns c.args.tree.now.tree c.args.id c.requires.right)

pub returns-in_default-clause-alike : goal.returns-in_default-clause-alike
returns-in_default-clause-alike c = changes_alike _ _ _ _ c.lose_columns.ensures.lost

pub returns-in_default-into_inner-clause-right : goal.returns-in_default-into_inner-clause-right
returns-in_default-into_inner-clause-right c = changes_right _ _ _ _ c.lose_columns.ensures.lost c.requires.right (no_columns c.args.tree.now.tree c.args.id c.requires.right)

pub returns-in_default-into_inner-clause-alike : goal.returns-in_default-into_inner-clause-alike
returns-in_default-into_inner-clause-alike c = changes_alike _ _ _ _ c.lose_columns.ensures.lost

pub stale_children-requires : goal.stale_children-requires
stale_children-requires c =
    let held : HoldsColumns (bare c.args.tree.now.tree) (turn_at c.args.tree.now.tree) c.args.id c.in-Some-into_inner.kept = some_holds (HoldsColumns (bare c.args.tree.now.tree) (turn_at c.args.tree.now.tree) c.args.id) (past_at c.args.tree.now.tree c.args.id).columns c.in-Some.shared
    c.in-Some-into_inner.kept (sym c.lose_columns.ensures.kept ∙ c.in-Some.is) c.in-Some-into_inner.ensures (c.requires.right.past c.args.id).columns in
    turns_as (turn_at c.args.tree.now.tree) (turn_at c.lose_columns.new.tree.tree) c.in-Some-into_inner.kept.told.parts.base.placed.areas c.as_slice-areas.result.now c.in-Some-into_inner.kept.turns c.as_slice.result.now (changes_turn _ _ _ _ c.lose_columns.ensures.lost)
    (c.as_slice-areas.ensures ∙ ap (λ (z : GridBase). z.placed.areas) c.grid.ensures) c.as_slice.ensures held.turns

pub returns-in_err-stale-clause-right : goal.returns-in_err-stale-clause-right
returns-in_err-stale-clause-right c = changes_right _ _ _ _ c.lose_columns.ensures.lost c.requires.right (no_columns c.args.tree.now.tree c.args.id c.requires.right)

pub returns-in_err-stale-clause-alike : goal.returns-in_err-stale-clause-alike
returns-in_err-stale-clause-alike c = changes_alike _ _ _ _ c.lose_columns.ensures.lost

pub returns-clause-told : goal.returns-clause-told
returns-clause-told c =
    columns_past (bare c.args.tree.now.tree) (turn_at c.args.tree.now.tree) c.args.id c.in-Some-into_inner.kept c.in_ok-stale.stale
    (some_holds (HoldsColumns (bare c.args.tree.now.tree) (turn_at c.args.tree.now.tree) c.args.id) (past_at c.args.tree.now.tree c.args.id).columns c.in-Some.shared c.in-Some-into_inner.kept (sym c.lose_columns.ensures.kept ∙ c.in-Some.is) c.in-Some-into_inner.ensures
    (c.requires.right.past c.args.id).columns)
    (fresh_as (turn_at c.args.tree.now.tree) (turn_at c.lose_columns.new.tree.tree) c.in-Some-into_inner.kept.told.parts.base.placed.areas c.as_slice-areas.result.now c.in-Some-into_inner.kept.turns c.as_slice.result.now c.in_ok-stale.stale
    (changes_turn _ _ _ _ c.lose_columns.ensures.lost) (c.as_slice-areas.ensures ∙ ap (λ (z : GridBase). z.placed.areas) c.grid.ensures) c.as_slice.ensures c.in_ok-stale.ensures.fresh)
    (within_as c.in-Some-into_inner.kept.told.parts.base.placed.areas c.as_slice-areas.result.now c.in_ok-stale.stale (c.as_slice-areas.ensures ∙ ap (λ (z : GridBase). z.placed.areas) c.grid.ensures) c.in_ok-stale.ensures.within)

pub returns-clause-right : goal.returns-clause-right
returns-clause-right c = changes_right _ _ _ _ c.lose_columns.ensures.lost c.requires.right (no_columns c.args.tree.now.tree c.args.id c.requires.right)

pub returns-clause-alike : goal.returns-clause-alike
returns-clause-alike c = changes_alike _ _ _ _ c.lose_columns.ensures.lost
