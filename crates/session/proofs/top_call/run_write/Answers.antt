use Rattle.session.proofs.LastText.{has_written}
use Rattle.session.proofs.top_call.run_write.Goals as goal

pub returns-clause-written : goal.returns-clause-written
returns-clause-written g c =
    has_written (g.S.Source.left c.write_document.new.source) (g.K.Sink.written c.args.sink.now) (g.K.Sink.written c.write_document.new.sink) (g.S.Source.faults c.args.source.now) (g.S.Source.faults c.write_document.new.source) (g.K.Sink.faults c.args.sink.now)
    (g.K.Sink.faults c.write_document.new.sink) c.write_document.result c.write_document.ensures.read.cause c.write_document.ensures.write.cause (g.S.Source.left c.args.source.now) c.write_document.ensures.runs

pub returns-clause-asked : goal.returns-clause-asked
returns-clause-asked g c = c.write_document.ensures.asks
