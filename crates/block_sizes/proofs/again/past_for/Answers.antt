use Rattle.std.proofs.Common.{◌∙◌, ap, subst, Option}
use Rattle.std.specs.Prelude.{IfSome}
use Rattle.tree_rules.specs.Labels.{ContentStyle}
use Rattle.placing.specs.Nodes.{bare}
use Rattle.placing.specs.Told.{IsPastRows}
use Rattle.placing.specs.declared.told.PastRows.{PastRows}
use Rattle.block_sizes.proofs.ToldRows.{past_in}
use Rattle.block_sizes.proofs.again.past_for.Goals as goal

pub returns : goal.returns
returns c =
    past_in (bare c.args.tree.now.tree) c.args.id c.args.reps.now c.args.width.now c.args.parts.now c.args.columns.now c.in_ok-past.past c.requires.grid (subst (λ (o : Option PastRows). IfSome o (IsPastRows (bare c.args.tree.now.tree) c.args.id)) c.in_ok-past.was c.requires.past)
    (c.serves.ensures.pairs c.if-not-serves.false)
    (c.serves.ensures.columns c.if-not-serves.false) (c.serves.ensures.align c.if-not-serves.false ∙ c.items-align.ensures ∙ ap (λ (x : ContentStyle). x.inline.items) c.node_at.ensures.content)
