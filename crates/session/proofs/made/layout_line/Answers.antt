use Rattle.session.specs.Standing.{doc_of}
use Rattle.session.proofs.LayoutsLeft.{laid_tells}
use Rattle.session.proofs.Laid.{laid_logs, laid_front}
use Rattle.session.proofs.Making.{any_ok, any_err}
use Rattle.session.proofs.Spares.{spares_any, spares_err}
use Rattle.session.proofs.made.layout_line.Goals as goal

pub returns-clause-log : goal.returns-clause-log
returns-clause-log g c = any_ok c.line_of.result (laid_logs (g.R.Ruler.log c.args.ruler.now) (g.R.Ruler.log c.layout.new.ruler) c.args.k (doc_of c.args.engine.now) c.in_ok-layout.layout.measured c.in_ok-layout.ensures.laid)

pub returns-clause-stopped : goal.returns-clause-stopped
returns-clause-stopped g c = any_err c.line_of.result (laid_front (g.R.Ruler.log c.args.ruler.now) (g.R.Ruler.log c.layout.new.ruler) c.args.k (doc_of c.args.engine.now) c.in_ok-layout.layout.measured c.in_ok-layout.ensures.laid)

pub returns-clause-spares : goal.returns-clause-spares
returns-clause-spares g c touches before p = spares_any touches before (g.R.Ruler.log c.layout.new.ruler) c.layout.new.self.page c.line_of.result (c.in_ok-layout.ensures.spares touches before p)

pub returns-in_err-layout-clause-spares : goal.returns-in_err-layout-clause-spares
returns-in_err-layout-clause-spares g c touches before p = spares_err touches before (g.R.Ruler.log c.layout.new.ruler) c.layout.new.self.page c.from_residual.result c.from_residual.ensures.0 (c.in_err-layout.ensures.spares touches before p)

pub returns-clause-layouts : goal.returns-clause-layouts
returns-clause-layouts g c touches empty =
    any_ok c.line_of.result
    (laid_tells touches (g.R.Ruler.log c.args.ruler.now) (g.R.Ruler.log c.layout.new.ruler) c.args.k c.args.engine.now.page c.layout.new.self.page c.in_ok-layout.layout.measured c.in_ok-layout.layout.added c.args.passes.now c.layout.new.passes
    c.in_ok-layout.layout.boxes c.in_ok-layout.ensures.walks c.in_ok-layout.ensures.boxes empty)

pub returns-in_err-layout-clause-document : goal.returns-in_err-layout-clause-document
returns-in_err-layout-clause-document g c = c.layout.ensures.same.document

pub returns-clause-document : goal.returns-clause-document
returns-clause-document g c = c.layout.ensures.same.document
