use Rattle.std.proofs.Common.{◌≡◌, ◌∙◌}
use Rattle.outside.proofs.Laws.{adds_more, prefix_none, prefix_after, prefix_longer}
use Rattle.page_maker.specs.Making.{made_document}
use Rattle.session.specs.Boxes.{boxes_of}
use Rattle.session.specs.Made.{made_layouts, made_line, layouts_left, lines_left, summary, touched_made}
use Rattle.session.specs.Standing.{doc_of}
use Rattle.session.proofs.Draws.{made_agree}
use Rattle.session.proofs.Logs.{front_none}
use Rattle.session.proofs.LayoutsLeft.{tells_after}
use Rattle.session.proofs.LogsLeft.{first_and_all, first_and_some, first_stopped}
use Rattle.session.proofs.Making.{summary_of, layouts_are, any_err, on_ok, on_err}
use Rattle.session.proofs.Replies.{first_emptied}
use Rattle.session.proofs.Spares.{spares_new, spares_none}
use Rattle.session.proofs.made.write_summary.Goals as goal

pub returns-in_err-doc-clause-err : goal.returns-in_err-doc-clause-err
returns-in_err-doc-clause-err g c = any_err c.from_residual.result (prefix_none (g.K.Sink.written c.args.sink.now) (summary c.args.seed c.args.nodes))

pub returns-in_err-doc-clause-stopped : goal.returns-in_err-doc-clause-stopped
returns-in_err-doc-clause-stopped g c = any_err c.from_residual.result (front_none (g.R.Ruler.log c.args.ruler.now) 0 (made_layouts c.args.seed c.args.nodes))

pub returns-in_err-doc-clause-spares : goal.returns-in_err-doc-clause-spares
returns-in_err-doc-clause-spares g c = spares_none (touched_made c.args.seed c.args.nodes) (g.R.Ruler.log c.args.ruler.now)

pub returns-in_err-engine-clause-err : goal.returns-in_err-engine-clause-err
returns-in_err-engine-clause-err g c = any_err c.from_residual-in_err-engine.result (prefix_none (g.K.Sink.written c.args.sink.now) (summary c.args.seed c.args.nodes))

pub returns-in_err-engine-clause-stopped : goal.returns-in_err-engine-clause-stopped
returns-in_err-engine-clause-stopped g c = any_err c.from_residual-in_err-engine.result (front_none (g.R.Ruler.log c.args.ruler.now) 0 (made_layouts c.args.seed c.args.nodes))

pub returns-in_err-engine-clause-spares : goal.returns-in_err-engine-clause-spares
returns-in_err-engine-clause-spares g c = spares_none (touched_made c.args.seed c.args.nodes) (g.R.Ruler.log c.args.ruler.now)

pub returns-in_err-write_line-clause-err : goal.returns-in_err-write_line-clause-err
returns-in_err-write_line-clause-err g c =
    let doc = doc_of c.in_ok-engine.engine in
    let now = doc_of c.write_line.new.engine in
    any_err c.from_residual-in_err-write_line.result
    (prefix_longer (g.K.Sink.written c.args.sink.now) (g.K.Sink.written c.write_line.new.sink) (made_line 0 (boxes_of doc)) (lines_left 8 c.args.nodes now c.in_ok-doc.draws.state) (summary c.args.seed c.args.nodes)
    c.in_err-write_line.ensures.err
    (summary_of c.args.seed c.args.nodes doc now c.in_ok-doc.draws.state (c.in_ok-engine.ensures.document ∙ c.in_ok-doc.ensures.document) c.write_line.ensures.document c.in_ok-doc.ensures.draws))

pub returns-in_err-write_line-clause-stopped : goal.returns-in_err-write_line-clause-stopped
returns-in_err-write_line-clause-stopped g c =
    let doc = doc_of c.in_ok-engine.engine in
    let now = doc_of c.write_line.new.engine in
    any_err c.from_residual-in_err-write_line.result
    (first_stopped (g.R.Ruler.log c.args.ruler.now) (g.R.Ruler.log c.write_line.new.ruler) doc (layouts_left 8 c.args.nodes now c.in_ok-doc.draws.state) (made_layouts c.args.seed c.args.nodes) c.in_err-write_line.ensures.stopped
    (layouts_are c.args.seed c.args.nodes doc now c.in_ok-doc.draws.state (c.in_ok-engine.ensures.document ∙ c.in_ok-doc.ensures.document) c.write_line.ensures.document c.in_ok-doc.ensures.draws))

pub returns-in_err-write_line-clause-spares : goal.returns-in_err-write_line-clause-spares
returns-in_err-write_line-clause-spares g c =
    let touches = touched_made c.args.seed c.args.nodes in
    c.in_err-write_line.ensures.spares touches (g.R.Ruler.log c.args.ruler.now) (spares_new touches (g.R.Ruler.log c.args.ruler.now) c.in_ok-engine.engine.page c.in_ok-engine.ensures.none)

pub returns-clause-ok : goal.returns-clause-ok
returns-clause-ok g c =
    let doc = doc_of c.in_ok-engine.engine in
    let now = doc_of c.write_line.new.engine in
    on_ok c.write_edits.result
    (λ p. adds_more (g.K.Sink.written c.args.sink.now) (g.K.Sink.written c.write_line.new.sink) (g.K.Sink.written c.write_edits.new.sink) (made_line 0 (boxes_of doc)) (lines_left 8 c.args.nodes now c.in_ok-doc.draws.state) (summary c.args.seed c.args.nodes)
    c.in_ok-write_line.ensures.ok p
    (summary_of c.args.seed c.args.nodes doc now c.in_ok-doc.draws.state (c.in_ok-engine.ensures.document ∙ c.in_ok-doc.ensures.document) c.write_line.ensures.document c.in_ok-doc.ensures.draws))
    c.write_edits.ensures.ok

pub returns-clause-err : goal.returns-clause-err
returns-clause-err g c =
    let doc = doc_of c.in_ok-engine.engine in
    let now = doc_of c.write_line.new.engine in
    on_err c.write_edits.result
    (λ p. prefix_after (g.K.Sink.written c.args.sink.now) (g.K.Sink.written c.write_line.new.sink) (g.K.Sink.written c.write_edits.new.sink) (made_line 0 (boxes_of doc)) (lines_left 8 c.args.nodes now c.in_ok-doc.draws.state) (summary c.args.seed c.args.nodes)
    c.in_ok-write_line.ensures.ok p
    (summary_of c.args.seed c.args.nodes doc now c.in_ok-doc.draws.state (c.in_ok-engine.ensures.document ∙ c.in_ok-doc.ensures.document) c.write_line.ensures.document c.in_ok-doc.ensures.draws))
    c.write_edits.ensures.err

pub returns-clause-log : goal.returns-clause-log
returns-clause-log g c =
    let doc = doc_of c.in_ok-engine.engine in
    let now = doc_of c.write_line.new.engine in
    on_ok c.write_edits.result
    (λ p. first_and_all (g.R.Ruler.log c.args.ruler.now) (g.R.Ruler.log c.write_line.new.ruler) (g.R.Ruler.log c.write_edits.new.ruler) doc (layouts_left 8 c.args.nodes now c.in_ok-doc.draws.state) (made_layouts c.args.seed c.args.nodes) c.in_ok-write_line.ensures.log
    (layouts_are c.args.seed c.args.nodes doc now c.in_ok-doc.draws.state (c.in_ok-engine.ensures.document ∙ c.in_ok-doc.ensures.document) c.write_line.ensures.document c.in_ok-doc.ensures.draws) p)
    c.write_edits.ensures.log

pub returns-clause-stopped : goal.returns-clause-stopped
returns-clause-stopped g c =
    let doc = doc_of c.in_ok-engine.engine in
    let now = doc_of c.write_line.new.engine in
    on_err c.write_edits.result
    (λ p. first_and_some (g.R.Ruler.log c.args.ruler.now) (g.R.Ruler.log c.write_line.new.ruler) (g.R.Ruler.log c.write_edits.new.ruler) doc (layouts_left 8 c.args.nodes now c.in_ok-doc.draws.state) (made_layouts c.args.seed c.args.nodes) c.in_ok-write_line.ensures.log
    (layouts_are c.args.seed c.args.nodes doc now c.in_ok-doc.draws.state (c.in_ok-engine.ensures.document ∙ c.in_ok-doc.ensures.document) c.write_line.ensures.document c.in_ok-doc.ensures.draws) p)
    c.write_edits.ensures.stopped

pub returns-clause-spares : goal.returns-clause-spares
returns-clause-spares g c =
    let touches = touched_made c.args.seed c.args.nodes in
    let log = g.R.Ruler.log c.args.ruler.now in
    let now = doc_of c.write_line.new.engine in
    let same : now ≡ made_document c.args.seed c.args.nodes = c.write_line.ensures.document ∙ c.in_ok-engine.ensures.document ∙ c.in_ok-doc.ensures.document in
    c.write_edits.ensures.spares touches log (made_agree c.args.seed c.args.nodes now c.in_ok-doc.draws.state same c.in_ok-doc.ensures.draws)
    (c.in_ok-write_line.ensures.spares touches log (spares_new touches log c.in_ok-engine.engine.page c.in_ok-engine.ensures.none))

pub returns-clause-layouts : goal.returns-clause-layouts
returns-clause-layouts g c =
    let touches = touched_made c.args.seed c.args.nodes in
    let doc = doc_of c.in_ok-engine.engine in
    let now = doc_of c.write_line.new.engine in
    let same : now ≡ made_document c.args.seed c.args.nodes = c.write_line.ensures.document ∙ c.in_ok-engine.ensures.document ∙ c.in_ok-doc.ensures.document in
    on_ok c.write_edits.result
    (λ p. tells_after touches (g.R.Ruler.log c.args.ruler.now) (g.R.Ruler.log c.write_line.new.ruler) (g.R.Ruler.log c.write_edits.new.ruler) c.args.passes.now c.write_line.new.passes c.write_edits.new.passes doc (layouts_left 8 c.args.nodes now c.in_ok-doc.draws.state)
    (made_layouts c.args.seed c.args.nodes)
    (c.in_ok-write_line.ensures.layouts touches (first_emptied touches c.in_ok-engine.engine.page c.in_ok-engine.ensures.none))
    (layouts_are c.args.seed c.args.nodes doc now c.in_ok-doc.draws.state (c.in_ok-engine.ensures.document ∙ c.in_ok-doc.ensures.document) c.write_line.ensures.document c.in_ok-doc.ensures.draws) p)
    (c.write_edits.ensures.layouts touches (made_agree c.args.seed c.args.nodes now c.in_ok-doc.draws.state same c.in_ok-doc.ensures.draws))
