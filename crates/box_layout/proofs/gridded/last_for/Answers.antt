use Rattle.std.proofs.Common.{subst, Option}
use Rattle.std.specs.Prelude.{IfSome}
use Rattle.placing.specs.Nodes.{bare}
use Rattle.placing.specs.Told.{ArePastFrames}
use Rattle.placing.specs.declared.told.PastFrames.{PastFrames}
use Rattle.box_layout.proofs.LastFrames.{last_in}
use Rattle.box_layout.proofs.gridded.last_for.Goals as goal

pub returns : goal.returns
returns c =
    last_in (bare c.args.tree.now.tree) c.args.id c.args.reps.now c.args.width.now c.args.wide.now c.requires.wide c.args.rows.now c.in_ok-past.past (subst (λ (o : Option PastFrames). IfSome o (ArePastFrames (bare c.args.tree.now.tree) c.args.id)) c.in_ok-past.was c.requires.past)
    (c.serves.ensures.pairs c.if-not-serves.false) (c.serves.ensures.columns c.if-not-serves.false) (c.serves.ensures.rows c.if-not-serves.false)
