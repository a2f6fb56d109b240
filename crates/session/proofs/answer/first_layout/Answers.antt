use Rattle.session.proofs.Spares.{spares_new, spares_not, spares_some}
use Rattle.session.proofs.Replies.{first_emptied, on_any, reply_same, reply_written}
use Rattle.session.proofs.Serving.{laid_prefix}
use Rattle.std.proofs.Common.{ap, subst, ◌∙◌, ℕ, List, Ok}
use Rattle.outside.specs.Told.{Adds, AddsPrefix}
use Rattle.doc_text.specs.declared.document.Doc.{Doc}
use Rattle.session.specs.Standing.{doc_of}
use Rattle.session.proofs.answer.first_layout.Goals as goal

pub returns-in_err-text-clause-spares : goal.returns-in_err-text-clause-spares
returns-in_err-text-clause-spares g c touches =
    spares_not touches (g.R.Ruler.log c.args.ruler.now) (g.R.Ruler.log c.layout_text.new.ruler) c.from_residual-in_err-text.result c.from_residual-in_err-text.ensures.0
    (c.in_err-text.ensures.spares touches (g.R.Ruler.log c.args.ruler.now) (spares_new touches (g.R.Ruler.log c.args.ruler.now) c.in_ok-engine.engine.page c.in_ok-engine.ensures.none))

pub returns-in_err-write-clause-spares : goal.returns-in_err-write-clause-spares
returns-in_err-write-clause-spares g c touches =
    spares_not touches (g.R.Ruler.log c.args.ruler.now) (g.R.Ruler.log c.layout_text.new.ruler) c.from_residual-in_err-write.result c.from_residual-in_err-write.ensures.0
    (spares_some touches (g.R.Ruler.log c.args.ruler.now) (g.R.Ruler.log c.layout_text.new.ruler) c.layout_text.new.engine.page
    (c.in_ok-text.ensures.spares touches (g.R.Ruler.log c.args.ruler.now) (spares_new touches (g.R.Ruler.log c.args.ruler.now) c.in_ok-engine.engine.page c.in_ok-engine.ensures.none)))

pub returns-clause-spares : goal.returns-clause-spares
returns-clause-spares g c touches =
    c.in_ok-text.ensures.spares touches (g.R.Ruler.log c.args.ruler.now) (spares_new touches (g.R.Ruler.log c.args.ruler.now) c.in_ok-engine.engine.page c.in_ok-engine.ensures.none)

pub returns-clause-replies : goal.returns-clause-replies
returns-clause-replies g c touches =
    reply_written c.args.stats touches (g.R.Ruler.log c.args.ruler.now) (g.R.Ruler.log c.layout_text.new.ruler) c.args.passes.now c.layout_text.new.passes 0 (Ok c.args.doc) c.in_ok-text.text.items
    (reply_same c.args.stats touches (g.R.Ruler.log c.args.ruler.now) (g.R.Ruler.log c.layout_text.new.ruler) c.args.passes.now c.layout_text.new.passes 0 (Ok (doc_of c.in_ok-engine.engine)) c.in_ok-text.text.items
    (c.in_ok-text.ensures.replies touches (first_emptied touches c.in_ok-engine.engine.page c.in_ok-engine.ensures.none)) (Ok c.args.doc) (ap (λ (d : Doc). Ok d) c.in_ok-engine.ensures.document))
    (g.K.Sink.written c.args.sink.now) (g.K.Sink.written c.write.new.sink) (subst (λ (x : List ℕ). Adds (g.K.Sink.written c.args.sink.now) (g.K.Sink.written c.write.new.sink) x) c.deref.ensures.value c.in_ok-write.ensures.ok)

pub returns-clause-engine : goal.returns-clause-engine
returns-clause-engine g c = c.layout_text.ensures.same.document ∙ c.in_ok-engine.ensures.document

pub returns-clause-steps : goal.returns-clause-steps
returns-clause-steps g c = c.layout_text.ensures.same.steps ∙ c.in_ok-engine.ensures.steps

pub returns-in_err-write-clause-prefix : goal.returns-in_err-write-clause-prefix
returns-in_err-write-clause-prefix g c =
    on_any c.from_residual-in_err-write.result
    (laid_prefix c.args.stats (g.K.Sink.written c.args.sink.now) (g.K.Sink.written c.write.new.sink) (g.R.Ruler.log c.args.ruler.now)
    (g.R.Ruler.log c.layout_text.new.ruler) 0 c.args.doc (doc_of c.in_ok-engine.engine) c.in_ok-engine.ensures.document c.in_ok-text.text.items c.in_ok-text.ensures.prints
    (subst (λ (x : List ℕ). AddsPrefix (g.K.Sink.written c.args.sink.now) (g.K.Sink.written c.write.new.sink) x) c.deref.ensures.value c.in_err-write.ensures.err))
