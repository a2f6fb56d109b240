use Rattle.doc_writer.specs.Documents.{canonical}
use Rattle.session.specs.Standing.{doc_of}
use Rattle.session.proofs.LastText.{ends_none}
use Rattle.session.proofs.writing.write_last.Goals as goal

pub returns-in-Err-clause-ends : goal.returns-in-Err-clause-ends
returns-in-Err-clause-ends g c = ends_none (g.K.Sink.written c.args.sink.now) c.args.refused (canonical (doc_of c.args.engine.now))
