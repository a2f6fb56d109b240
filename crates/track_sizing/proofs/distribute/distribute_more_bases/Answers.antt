use Rattle.std.proofs.Common.{◌∙◌, sym}
use Rattle.track_sizing.specs.Placed.{base_step_of}
use Rattle.track_sizing.proofs.Once.{base_kept}
use Rattle.track_sizing.proofs.distribute.distribute_more_bases.Goals as goal

pub returns-then-not-some_affected-clause-rows : goal.returns-then-not-some_affected-clause-rows
returns-then-not-some_affected-clause-rows c =
    base_kept (base_step_of c.args.step.now.affected c.args.step.now.receives c.args.definite c.args.gap c.args.step.now.asks) c.args.gap c.args.items.now c.args.rows.now (sym c.some_affected.ensures ∙ c.if-not-some_affected.true) c.requires.raised
