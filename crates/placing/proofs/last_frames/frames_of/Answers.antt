use Rattle.std.proofs.Common.{◌∙◌, ap, length}
use Rattle.placing.specs.Kept.{turn_at}
use Rattle.placing.specs.declared.wide.GridBase.{GridBase}
use Rattle.placing.proofs.LastFrames.{marked_as}
use Rattle.placing.proofs.last_frames.frames_of.Goals as goal

pub returns-clause-counted : goal.returns-clause-counted
returns-clause-counted c = c.in_ok-fresh.ensures.counted ∙ ap length (c.as_slice-areas.ensures ∙ ap (λ (z : GridBase). z.placed.areas) c.grid.ensures)

pub returns-clause-fresh : goal.returns-clause-fresh
returns-clause-fresh c =
    marked_as (turn_at c.args.tree.now.tree) c.args.kept.base.placed.areas c.as_slice-areas.result.now c.args.kept.turns c.as_slice.result.now c.in_ok-fresh.fresh (c.as_slice-areas.ensures ∙ ap (λ (z : GridBase). z.placed.areas) c.grid.ensures) c.as_slice.ensures c.in_ok-fresh.ensures.fresh
