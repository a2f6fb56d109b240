use Rattle.std.proofs.Common.{false}
use Rattle.gridlay_c.proofs.Program.{answered_from}
use Rattle.gridlay_c.proofs.answer.run_layout.Goals as goal

pub returns : goal.returns
returns g c =
    answered_from c.args.source.now.left c.args.sink.now c.run.new.sink c.run.result c.requires.empty
    (c.run.ensures.output c.requires.words).complete (c.run.ensures.run false c.requires.words).over_complete
    (c.run.ensures.output c.requires.words).prefix
