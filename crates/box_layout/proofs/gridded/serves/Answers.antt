use Rattle.std.proofs.Common.{◌∙◌, sym, ap}
use Rattle.placing.specs.declared.wide.GridBase.{GridBase}
use Rattle.block_sizes.proofs.ToldRows.{counts_are}
use Rattle.box_layout.proofs.gridded.serves.Goals as goal

pub returns-clause-pairs : goal.returns-clause-pairs
returns-clause-pairs c =
    λ e.
    sym (c.as_slice-before.ensures ∙ ap (λ (z : GridBase). z.pairs) c.grid.ensures) ∙ counts_are c.as_slice-before.result.now c.as_slice.result.now (sym c.same_counts.ensures ∙ c.if-not-same_counts.false) ∙ c.as_slice.ensures
    ∙ ap (λ (z : GridBase). z.pairs) c.grid-2.ensures
