use Rattle.std.proofs.Common.{ap, refl, subst, sym, ◌∙◌, List, None, Err, false}
use Rattle.text_scan.specs.declared.line.Line.{Line}
use Rattle.track_text.specs.declared.errors.ReadError.{ReadError}
use Rattle.doc_text.specs.Documents.{document_of}
use Rattle.doc_writer.specs.Documents.{canonical}
use Rattle.session.specs.Standing.{doc_of, history_of}
use Rattle.session.specs.Writing.{Opens}
use Rattle.session.specs.declared.status.Status.TheVariants.{ReadFault}
use Rattle.session.proofs.LastText.{as_err, last_read, last_written, refused_read, text_alone, text_refused}
use Rattle.session.proofs.Pieces.{asks_done}
use Rattle.session.proofs.writing.start.Goals as goal

pub returns-in-Err-Fault-clause-starts : goal.returns-in-Err-Fault-clause-starts
returns-in-Err-Fault-clause-starts g c =
    text_refused (g.S.Source.left c.args.source.now) (g.S.Source.left c.read_text.new.source) c.read_text.new.reader.lines c.read_text.new.reader.ended c.in-Ok.text c.in-Ok.ensures.text
    (g.K.Sink.written c.args.sink.now) (g.K.Sink.written c.refuse_document.new.sink) c.in-Err-Fault.fault
    (ap (λ (lines : List Line). document_of lines c.in-Ok.text.end) (sym c.as_slice.ensures)
    ∙ subst (λ (e : ReadError). Opens (Err e) (document_of c.as_slice.result.now c.in-Ok.text.end)) c.in-Err-Fault.field-0-is c.in-Err-Fault.ensures)
    c.refuse_document.result (c.refuse_document.ensures.refused false None)

pub returns-in-Err-Fault-clause-read : goal.returns-in-Err-Fault-clause-read
returns-in-Err-Fault-clause-read g c =
    as_err (g.S.Source.faults c.args.source.now) (g.S.Source.faults c.read_text.new.source) c.refuse_document.result ReadFault
    (refused_read (g.S.Source.faults c.args.source.now) (g.S.Source.faults c.read_text.new.source) c.read_text.ensures.cause.later c.in-Err-Fault.fault c.refuse_document.result (g.K.Sink.written c.args.sink.now)
    (g.K.Sink.written c.refuse_document.new.sink) (c.refuse_document.ensures.refused false None))

pub returns-then-not-text-clause-starts : goal.returns-then-not-text-clause-starts
returns-then-not-text-clause-starts g c =
    last_written (g.S.Source.left c.args.source.now) (g.S.Source.left c.read_text.new.source) (g.K.Sink.written c.args.sink.now) (g.K.Sink.written c.write_last.new.sink)
    (history_of c.in-Ok-open.engine) false
    (text_alone (g.S.Source.left c.args.source.now) (g.S.Source.left c.read_text.new.source) c.read_text.new.reader.lines c.read_text.new.reader.ended c.in-Ok.text c.in-Ok.ensures.text c.in-Ok-open.engine (doc_of c.in-Ok-open.engine)
    (ap (λ (lines : List Line). document_of lines c.in-Ok.text.end) (sym c.as_slice.ensures) ∙ c.in-Ok-open.ensures.0) c.in-Ok-open.ensures.1 refl c.if-not-text.true)
    c.write_last.result c.write_last.ensures.ends

pub returns-then-not-text-clause-read : goal.returns-then-not-text-clause-read
returns-then-not-text-clause-read g c =
    as_err (g.S.Source.faults c.args.source.now) (g.S.Source.faults c.read_text.new.source) c.write_last.result ReadFault
    (last_read (g.S.Source.faults c.args.source.now) (g.S.Source.faults c.read_text.new.source) c.read_text.ensures.cause.later (canonical (doc_of c.in-Ok-open.engine)) false c.write_last.result
    (g.K.Sink.written c.args.sink.now) (g.K.Sink.written c.write_last.new.sink) c.write_last.ensures.ends)

-- ---- how often the source was asked

pub returns-in-Err-clause-asks : goal.returns-in-Err-clause-asks
returns-in-Err-clause-asks g c = c.in-Err.ensures.asks

pub returns-in-Err-Fault-clause-asks : goal.returns-in-Err-Fault-clause-asks
returns-in-Err-Fault-clause-asks g c =
    asks_done (g.S.Source.left c.args.source.now) (g.S.Source.left c.read_text.new.source) (g.S.Source.asked c.args.source.now)
    (g.S.Source.asked c.read_text.new.source) c.read_text.new.reader.count c.read_text.new.reader.ended c.in-Ok.ensures.asks

pub returns-in-Err-NoMemory-clause-asks : goal.returns-in-Err-NoMemory-clause-asks
returns-in-Err-NoMemory-clause-asks g c =
    asks_done (g.S.Source.left c.args.source.now) (g.S.Source.left c.read_text.new.source) (g.S.Source.asked c.args.source.now)
    (g.S.Source.asked c.read_text.new.source) c.read_text.new.reader.count c.read_text.new.reader.ended c.in-Ok.ensures.asks

pub returns-then-not-text-clause-asks : goal.returns-then-not-text-clause-asks
returns-then-not-text-clause-asks g c =
    asks_done (g.S.Source.left c.args.source.now) (g.S.Source.left c.read_text.new.source) (g.S.Source.asked c.args.source.now)
    (g.S.Source.asked c.read_text.new.source) c.read_text.new.reader.count c.read_text.new.reader.ended c.in-Ok.ensures.asks

pub returns-clause-asks : goal.returns-clause-asks
returns-clause-asks g c = c.in-Ok.ensures.asks
