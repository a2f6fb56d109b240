use Rattle.std.proofs.Common.{◌≡◌, refl, ap, sym, subst, [], ◌∷◌, true, false, Ok}
use Rattle.page_tree.specs.Pages.{Held, document_of}
use Rattle.session.specs.Engine.{IsSame}
use Rattle.session.specs.Laying.{IsQuiet, KeepsAll, KeepsPath}
use Rattle.session.specs.Logs.{LogsFront}
use Rattle.session.specs.Spares.{SparesDue}
use Rattle.session.specs.Standing.{Standing, doc_of, steps_of}
use Rattle.session.proofs.Laid.{laid_part}
use Rattle.session.proofs.Replies.{on_any}
use Rattle.session.proofs.Spares.{spares_begun, spares_err}
use Rattle.session.proofs.Walks.{path_there, quiet_there}
use Rattle.session.proofs.engine.Engine.lay_out.Goals as goal

pub returns-in_err-root-clause-stopped : goal.returns-in_err-root-clause-stopped
returns-in_err-root-clause-stopped g c =
    on_any c.from_residual-in_err-root.result
    (subst (λ (s : Standing). LogsFront (g.R.Ruler.log c.args.ruler.now) (g.R.Ruler.log c.lay_out.new.ruler) c.args.k (Ok (doc_of s) ∷ [])) c.self.view_is
    (laid_part (g.R.Ruler.log c.args.ruler.now) (g.R.Ruler.log c.begin.new.self) (g.R.Ruler.log c.lay_out.new.ruler) c.args.k (document_of c.self.inside.page) c.new-tally.result.measured c.lay_out.new.tally.measured c.in_ok-begin.ensures.log c.lay_out.ensures.measures))

pub returns-in_err-root-clause-spares : goal.returns-in_err-root-clause-spares
returns-in_err-root-clause-spares g c touches before p =
    let page : c.self.inside.page ≡ c.args.self.now.page = ap (λ (s : Standing). s.page) c.self.view_is in
    let due : SparesDue touches before (g.R.Ruler.log c.args.ruler.now) c.args.k c.self.inside.page = subst (SparesDue touches before (g.R.Ruler.log c.args.ruler.now) c.args.k) (sym page) p in
    spares_err touches before (g.R.Ruler.log c.lay_out.new.ruler) c.lay_out.new.page c.from_residual-in_err-root.result c.from_residual-in_err-root.ensures.0
    (c.in_err-root.ensures.spares touches before (spares_begun touches before (g.R.Ruler.log c.args.ruler.now) (g.R.Ruler.log c.begin.new.self) c.args.k c.self.inside.page due c.in_ok-begin.ensures.log))

pub returns-clause-quiet : goal.returns-clause-quiet
returns-clause-quiet g c p =
    let page : c.self.inside.page ≡ c.args.self.now.page = ap (λ (s : Standing). s.page) c.self.view_is in
    let kept : KeepsAll c.self.inside.page = subst KeepsAll (sym page) p in
    subst (λ (h : Held). IsQuiet c.args.k h c.lay_out.new.page (g.R.Ruler.log c.args.ruler.now) (g.R.Ruler.log c.lay_out.new.ruler) c.lay_out.new.tally.measured c.lay_out.new.tally.added c.args.passes.now c.lay_out.new.passes) page
    (quiet_there c.args.k c.self.inside.page c.lay_out.new.page (g.R.Ruler.log c.args.ruler.now) (g.R.Ruler.log c.begin.new.self) (g.R.Ruler.log c.lay_out.new.ruler) c.new-tally.result c.lay_out.new.tally c.args.passes.now c.lay_out.new.passes c.in_ok-begin.ensures.log
    c.new-tally.ensures kept c.lay_out.ensures.quiet)

pub returns-clause-spares : goal.returns-clause-spares
returns-clause-spares g c touches before p =
    let page : c.self.inside.page ≡ c.args.self.now.page = ap (λ (s : Standing). s.page) c.self.view_is in
    let due : SparesDue touches before (g.R.Ruler.log c.args.ruler.now) c.args.k c.self.inside.page = subst (SparesDue touches before (g.R.Ruler.log c.args.ruler.now) c.args.k) (sym page) p in
    c.in_ok-root.ensures.spares touches before (spares_begun touches before (g.R.Ruler.log c.args.ruler.now) (g.R.Ruler.log c.begin.new.self) c.args.k c.self.inside.page due c.in_ok-begin.ensures.log)

pub returns-clause-paths : goal.returns-clause-paths
returns-clause-paths g c =
    let page : c.self.inside.page ≡ c.args.self.now.page = ap (λ (s : Standing). s.page) c.self.view_is in
    subst (λ (h : Held). KeepsPath h c.lay_out.new.page) page
    (path_there c.args.k c.self.inside.page c.lay_out.new.page (g.R.Ruler.log c.args.ruler.now) (g.R.Ruler.log c.begin.new.self) (g.R.Ruler.log c.lay_out.new.ruler) c.new-tally.result c.lay_out.new.tally c.args.passes.now c.lay_out.new.passes c.in_ok-begin.ensures.log
    c.new-tally.ensures c.in_ok-root.ensures.paths)

pub returns-in_err-begin-clause-same : goal.returns-in_err-begin-clause-same
returns-in_err-begin-clause-same g c = subst (λ (s : Standing). IsSame s (record { page = c.self.inside.page; calls = c.self.inside.calls; laid = false; steps = steps_of c.self.inside.journal })) c.self.view_is (record { document = refl; steps = refl; calls = refl })

pub returns-in_err-root-clause-same : goal.returns-in_err-root-clause-same
returns-in_err-root-clause-same g c = subst (λ (s : Standing). IsSame s (record { page = c.lay_out.new.page; calls = c.self.inside.calls; laid = false; steps = steps_of c.self.inside.journal })) c.self.view_is (record { document = c.lay_out.ensures.document; steps = refl; calls = refl })

pub returns-clause-same : goal.returns-clause-same
returns-clause-same g c = subst (λ (s : Standing). IsSame s (record { page = c.lay_out.new.page; calls = c.self.inside.calls; laid = true; steps = steps_of c.self.inside.journal })) c.self.view_is (record { document = c.lay_out.ensures.document; steps = refl; calls = refl })
