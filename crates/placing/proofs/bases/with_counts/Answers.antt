use Rattle.std.proofs.Common.{ap, ◌∙◌}
use Rattle.placing.specs.declared.wide.GridBase.{GridBase}
use Rattle.placing.proofs.Founds.{counts_no, counts_yes}
use Rattle.placing.proofs.bases.with_counts.Goals as goal

pub returns-then-same_counts : goal.returns-then-same_counts
returns-then-same_counts c = counts_yes c.args.pairs.now c.as_slice.result.now c.args.base.now c.in-Some.base c.same_counts.result c.in-Some.is (c.as_slice.ensures ∙ ap (λ (b : GridBase). b.pairs) c.grid.ensures) c.same_counts.ensures c.if-same_counts.true

pub returns-else-same_counts : goal.returns-else-same_counts
returns-else-same_counts c = counts_no c.args.pairs.now c.as_slice.result.now c.args.base.now c.in-Some.base c.same_counts.result c.in-Some.is (c.as_slice.ensures ∙ ap (λ (b : GridBase). b.pairs) c.grid.ensures) c.same_counts.ensures c.if-same_counts.false
