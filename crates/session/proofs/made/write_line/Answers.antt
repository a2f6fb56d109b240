use Rattle.std.proofs.Common.{[], ◌∷◌, Ok}
use Rattle.session.specs.Standing.{doc_of}
use Rattle.session.proofs.Logs.{front_all}
use Rattle.session.proofs.Making.{any_ok, any_err}
use Rattle.session.proofs.Spares.{spares_any, spares_err}
use Rattle.session.proofs.made.write_line.Goals as goal

pub returns-clause-log : goal.returns-clause-log
returns-clause-log g c = any_ok c.write.result c.in_ok-text.ensures.log

pub returns-clause-stopped : goal.returns-clause-stopped
returns-clause-stopped g c = any_err c.write.result (front_all (g.R.Ruler.log c.args.ruler.now) (g.R.Ruler.log c.layout_line.new.ruler) c.args.k (Ok (doc_of c.args.engine.now) ∷ []) c.in_ok-text.ensures.log)

pub returns-clause-spares : goal.returns-clause-spares
returns-clause-spares g c touches before p = spares_any touches before (g.R.Ruler.log c.layout_line.new.ruler) c.layout_line.new.engine.page c.write.result (c.in_ok-text.ensures.spares touches before p)

pub returns-in_err-text-clause-stopped : goal.returns-in_err-text-clause-stopped
returns-in_err-text-clause-stopped g c = any_err c.from_residual.result c.in_err-text.ensures.stopped

pub returns-in_err-text-clause-spares : goal.returns-in_err-text-clause-spares
returns-in_err-text-clause-spares g c touches before p = spares_err touches before (g.R.Ruler.log c.layout_line.new.ruler) c.layout_line.new.engine.page c.from_residual.result c.from_residual.ensures.0 (c.in_err-text.ensures.spares touches before p)

pub returns-clause-layouts : goal.returns-clause-layouts
returns-clause-layouts g c touches empty = any_ok c.write.result (c.in_ok-text.ensures.layouts touches empty)
