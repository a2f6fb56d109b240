use Rattle.std.proofs.Common.{◌∙◌, ap, refl}
use Rattle.placing.specs.Kept.{turn_at}
use Rattle.placing.specs.declared.wide.GridBase.{GridBase}
use Rattle.placing.specs.declared.wide.GridWide.{GridWide}
use Rattle.placing.proofs.Stale.{fresh_as, within_as}
use Rattle.placing.proofs.telling.past_of.Goals as goal

pub returns : goal.returns
returns c =
    record {
      columns = ap (λ (z : GridWide). record { parts = z.parts; ends = c.args.kept.column_ends }) c.in-Some.ensures;
      rows = ap (λ (z : GridWide). record { columns = z.columns; align = c.args.kept.align; children = z.children; items = z.items; ends = c.args.kept.row_ends }) c.in-Some.ensures;
      base = c.in_ok-base.ensures ∙ ap (λ (z : GridWide). z.parts.base) c.grid-3.ensures;
      again = c.in_ok-again.ensures ∙ c.as_slice-2.ensures;
      laid = ap (λ (z : GridWide). z.rows) c.in-Some.ensures;
      fresh =
          fresh_as (turn_at c.args.tree.now.tree) (turn_at c.args.tree.now.tree) c.args.kept.wide.parts.base.placed.areas c.as_slice-areas.result.now c.args.kept.turns c.as_slice.result.now c.in_ok-stale.stale refl
          (c.as_slice-areas.ensures ∙ ap (λ (z : GridBase). z.placed.areas) (c.grid-2.ensures ∙ ap (λ (z : GridWide). z.parts.base) c.grid.ensures)) c.as_slice.ensures c.in_ok-stale.ensures.fresh;
      within = within_as c.args.kept.wide.parts.base.placed.areas c.as_slice-areas.result.now c.in_ok-stale.stale (c.as_slice-areas.ensures ∙ ap (λ (z : GridBase). z.placed.areas) (c.grid-2.ensures ∙ ap (λ (z : GridWide). z.parts.base) c.grid.ensures)) c.in_ok-stale.ensures.within;
    }
