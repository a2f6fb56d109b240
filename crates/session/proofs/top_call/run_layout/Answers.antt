use Rattle.session.proofs.Finished.{has_run}
use Rattle.session.proofs.Spares.{spares_input}
use Rattle.session.proofs.Replies.{replied}
use Rattle.session.proofs.top_call.run_layout.Goals as goal

pub returns-clause-run : goal.returns-clause-run
returns-clause-run g c =
    has_run c.args.stats (g.S.Source.left c.args.source.now) (g.S.Source.left c.serve.new.source) (g.K.Sink.written c.args.sink.now) (g.K.Sink.written c.serve.new.sink) (g.R.Ruler.log c.args.ruler.now) (g.R.Ruler.log c.serve.new.ruler) (g.S.Source.faults c.args.source.now)
    (g.S.Source.faults c.serve.new.source) (g.K.Sink.faults c.args.sink.now) (g.K.Sink.faults c.serve.new.sink) c.serve.result c.serve.ensures.runs c.serve.ensures.read.cause c.serve.ensures.write.cause

pub returns-clause-bounds : goal.returns-clause-bounds
returns-clause-bounds g c = record {
  spares = spares_input (g.S.Source.left c.args.source.now) (g.R.Ruler.log c.args.ruler.now) (g.R.Ruler.log c.serve.new.ruler) c.serve.ensures.spares;
  replies = replied c.args.stats (g.K.Sink.written c.args.sink.now) (g.K.Sink.written c.serve.new.sink) (g.R.Ruler.log c.args.ruler.now) (g.R.Ruler.log c.serve.new.ruler) c.args.passes.now c.serve.new.passes (g.S.Source.left c.args.source.now) c.serve.result c.serve.ensures.replies;
}

pub returns-clause-asked : goal.returns-clause-asked
returns-clause-asked g c = c.serve.ensures.asks
