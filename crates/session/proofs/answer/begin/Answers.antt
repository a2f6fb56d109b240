use Rattle.std.proofs.Common.{subst, refl, Err}
use Rattle.track_text.specs.Gives.{Reads}
use Rattle.track_text.specs.declared.errors.ReadError.{ReadError}
use Rattle.doc_text.specs.Documents.{document_of}
use Rattle.session.proofs.Serving.{begins_refused, begins_not}
use Rattle.session.proofs.Spares.{spares_none}
use Rattle.session.proofs.Replies.{begun_replies, not_bad}
use Rattle.session.proofs.answer.begin.Goals as goal

pub returns-in-Err-Fault-clause-begins : goal.returns-in-Err-Fault-clause-begins
returns-in-Err-Fault-clause-begins g c =
    begins_refused c.args.stats (g.K.Sink.written c.args.sink.now) (g.K.Sink.written c.refuse_document.new.sink) (g.R.Ruler.log c.args.ruler.now) (document_of c.args.lines.now c.args.end) c.in-Err-Fault.fault c.refuse_document.result
    (subst (λ (e : ReadError). Reads (Err e) (document_of c.args.lines.now c.args.end)) c.in-Err-Fault.field-0-is c.in-Err-Fault.ensures.document) (c.refuse_document.ensures.refused c.args.stats (g.R.Ruler.log c.args.ruler.now))

pub returns-in-Err-NoMemory-clause-begins : goal.returns-in-Err-NoMemory-clause-begins
returns-in-Err-NoMemory-clause-begins g c = begins_not c.args.stats (g.K.Sink.written c.args.sink.now) (g.R.Ruler.log c.args.ruler.now) (document_of c.args.lines.now c.args.end)

pub returns-in-Err-Fault-clause-spares : goal.returns-in-Err-Fault-clause-spares
returns-in-Err-Fault-clause-spares g c = λ touches. spares_none touches (g.R.Ruler.log c.args.ruler.now)

pub returns-in-Err-NoMemory-clause-spares : goal.returns-in-Err-NoMemory-clause-spares
returns-in-Err-NoMemory-clause-spares g c = λ touches. spares_none touches (g.R.Ruler.log c.args.ruler.now)

pub returns-in-Ok-clause-replies : goal.returns-in-Ok-clause-replies
returns-in-Ok-clause-replies g c touches =
    begun_replies c.args.stats (g.K.Sink.written c.args.sink.now) (g.K.Sink.written c.first_layout.new.sink) (g.R.Ruler.log c.args.ruler.now) (g.R.Ruler.log c.first_layout.new.ruler) c.args.passes.now c.first_layout.new.passes touches c.in-Ok.doc c.first_layout.result
    c.first_layout.ensures.engine (c.first_layout.ensures.replies touches)

pub returns-in-Err-Fault-clause-replies : goal.returns-in-Err-Fault-clause-replies
returns-in-Err-Fault-clause-replies g c touches = tt

pub returns-in-Err-NoMemory-clause-replies : goal.returns-in-Err-NoMemory-clause-replies
returns-in-Err-NoMemory-clause-replies g c touches = tt

pub returns-in-Ok-clause-idle : goal.returns-in-Ok-clause-idle
returns-in-Ok-clause-idle g c bad = not_bad c.args.passes.now c.first_layout.new.passes c.first_layout.result c.first_layout.ensures.stops bad

pub returns-in-Err-Fault-clause-idle : goal.returns-in-Err-Fault-clause-idle
returns-in-Err-Fault-clause-idle g c bad = refl

pub returns-in-Err-NoMemory-clause-idle : goal.returns-in-Err-NoMemory-clause-idle
returns-in-Err-NoMemory-clause-idle g c bad = refl
