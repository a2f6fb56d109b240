use Rattle.session.proofs.Spares.{spares_some}
use Rattle.std.proofs.Common.{ap, rules, sym, ◌∙◌, List, Err}
use Rattle.text_scan.specs.declared.line.Line.{Line}
use Rattle.doc_text.specs.Documents.{document_of}
use Rattle.session.specs.Standing.{doc_of}
use Rattle.session.proofs.Pieces.{asks_done}
use Rattle.session.proofs.Running.{text_at}
use Rattle.session.proofs.Replies.{alone_replies, refused_replies, unread_replies}
use Rattle.session.proofs.serve.start.Goals as goal

pub returns-then-not-text-clause-spares : goal.returns-then-not-text-clause-spares
returns-then-not-text-clause-spares g c touches = spares_some touches (g.R.Ruler.log c.args.ruler.now) (g.R.Ruler.log c.begin.new.ruler) c.in-Ok-begin.engine.page (c.in-Ok-begin.ensures.spares touches)

pub returns-in-Err-clause-replies : goal.returns-in-Err-clause-replies
returns-in-Err-clause-replies g c =
    let stops = c.in-Err.ensures.text in
    unread_replies c.args.stats (g.K.Sink.written c.args.sink.now) (g.R.Ruler.log c.args.ruler.now) c.args.passes.now (g.S.Source.left c.args.source.now) (g.S.Source.left c.read_text.new.source) stops.given c.in-Err.status stops.stops

pub returns-in-Err-begin-clause-replies : goal.returns-in-Err-begin-clause-replies
returns-in-Err-begin-clause-replies g c =
    refused_replies c.args.stats (g.K.Sink.written c.args.sink.now) (g.K.Sink.written c.begin.new.sink) (g.R.Ruler.log c.args.ruler.now) (g.R.Ruler.log c.begin.new.ruler) c.args.passes.now c.begin.new.passes (g.S.Source.left c.args.source.now)
    (document_of c.as_slice.result.now c.in-Ok.text.end) c.in-Err-begin.status c.in-Err-begin.ensures.begins (λ bad. c.in-Err-begin.ensures.idle (λ i. Err (bad i)))

pub returns-then-not-text-clause-replies : goal.returns-then-not-text-clause-replies
returns-then-not-text-clause-replies g c =
    alone_replies c.args.stats (g.K.Sink.written c.args.sink.now) (g.K.Sink.written c.begin.new.sink) (g.R.Ruler.log c.args.ruler.now) (g.R.Ruler.log c.begin.new.ruler) c.args.passes.now c.begin.new.passes (g.S.Source.left c.args.source.now) (g.S.Source.left c.read_text.new.source)
    c.read_text.new.reader.lines c.read_text.new.reader.ended c.in-Ok.text c.in-Ok.ensures.text (doc_of c.in-Ok-begin.engine) (search rules)
    (ap (λ (lines : List Line). document_of lines c.in-Ok.text.end) (sym c.as_slice.ensures) ∙ c.in-Ok-begin.ensures.begins.0) (λ touches. c.in-Ok-begin.ensures.replies touches)

pub returns-clause-replies : goal.returns-clause-replies
returns-clause-replies g c = λ touches. c.in-Ok-begin.ensures.replies touches

-- ---- how often the source was asked

pub returns-in-Err-clause-asks : goal.returns-in-Err-clause-asks
returns-in-Err-clause-asks g c = c.in-Err.ensures.asks

pub returns-in-Err-begin-clause-asks : goal.returns-in-Err-begin-clause-asks
returns-in-Err-begin-clause-asks g c =
    asks_done (g.S.Source.left c.args.source.now) (g.S.Source.left c.read_text.new.source) (g.S.Source.asked c.args.source.now) (g.S.Source.asked c.read_text.new.source) c.read_text.new.reader.count c.read_text.new.reader.ended c.in-Ok.ensures.asks

pub returns-then-not-text-clause-asks : goal.returns-then-not-text-clause-asks
returns-then-not-text-clause-asks g c =
    asks_done (g.S.Source.left c.args.source.now) (g.S.Source.left c.read_text.new.source) (g.S.Source.asked c.args.source.now) (g.S.Source.asked c.read_text.new.source) c.read_text.new.reader.count c.read_text.new.reader.ended c.in-Ok.ensures.asks

pub returns-clause-asks : goal.returns-clause-asks
returns-clause-asks g c = c.in-Ok.ensures.asks

pub returns-clause-starts : goal.returns-clause-starts
returns-clause-starts g c =
    text_at c.args.stats (g.S.Source.left c.args.source.now) (g.S.Source.left c.read_text.new.source) (g.K.Sink.written c.args.sink.now) (g.K.Sink.written c.begin.new.sink) (g.R.Ruler.log c.args.ruler.now) (g.R.Ruler.log c.begin.new.ruler) c.read_text.new.reader.lines
    c.read_text.new.reader.ended c.in-Ok.text c.in-Ok.ensures.text c.in-Ok-begin.engine c.in-Ok-begin.ensures.steps c.if-not-text.false
    (ap (λ (lines : List Line). document_of lines c.in-Ok.text.end) (sym c.as_slice.ensures) ∙ c.in-Ok-begin.ensures.begins.0, c.in-Ok-begin.ensures.begins.1)
