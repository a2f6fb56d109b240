use Rattle.std.proofs.Common.{ap, Err}
use Rattle.session.specs.declared.status.Status.{Status}
use Rattle.session.proofs.Making.{made_all, made_some}
use Rattle.session.proofs.made.make.Goals as goal

pub returns-in-Ok-clause-made : goal.returns-in-Ok-clause-made
returns-in-Ok-clause-made g c =
    made_all c.args.seed c.args.nodes (g.K.Sink.written c.args.sink.now) (g.K.Sink.written c.write_summary.new.sink) (g.R.Ruler.log c.args.ruler.now) (g.R.Ruler.log c.write_summary.new.ruler) c.args.passes.now c.write_summary.new.passes (g.K.Sink.faults c.args.sink.now)
    (g.K.Sink.faults c.write_summary.new.sink)
    c.in-Ok.ensures.ok c.in-Ok.ensures.log c.in-Ok.ensures.layouts c.write_summary.ensures.spares

pub returns-in-Err-clause-made : goal.returns-in-Err-clause-made
returns-in-Err-clause-made g c =
    made_some c.args.seed c.args.nodes (g.K.Sink.written c.args.sink.now) (g.K.Sink.written c.write_summary.new.sink) (g.R.Ruler.log c.args.ruler.now) (g.R.Ruler.log c.write_summary.new.ruler) c.args.passes.now c.write_summary.new.passes (g.K.Sink.faults c.args.sink.now)
    (g.K.Sink.faults c.write_summary.new.sink)
    c.in-Err.ensures.err c.in-Err.ensures.stopped c.write_summary.ensures.spares c.in-Err.status c.in-Err.ensures.stops (λ e. c.in-Err.ensures.cause.cause (ap (λ (s : Status). Err s) e))
