use Rattle.std.proofs.Common.{◌≡◌, [], ◌∷◌, ap, sym, subst, ◌∙◌}
use Rattle.node_arena.specs.Numbers.{IsDistinct, top_numbers}
use Rattle.node_arena.specs.Plain.{Nodes}
use Rattle.page_tree.specs.Boxes as defined
use Rattle.page_tree.specs.Pages.{document_of}
use Rattle.placing.specs.declared.node.Node.{Node}
use Rattle.std.specs.List.{All}
use Rattle.session.specs.Printing.{IsPrintableBox}
use Rattle.session.proofs.Spares.{spares_laid}
use Rattle.session.proofs.Grounds.{laid_by}
use Rattle.session.proofs.Lain.{measures, keeps, keeps_some, printable, hidden, walks_page}
use Rattle.session.proofs.laying.lay_out.Goals as goal

pub returns-clause-boxes : goal.returns-clause-boxes
returns-clause-boxes g c = hidden (g.T.BoxSink.adds c.args.told.now c.lay_out.new.told) c.lay_out.result (document_of c.args.page.now) c.lay_out.ensures.boxes

pub returns-clause-printable : goal.returns-clause-printable
returns-clause-printable g c = hidden (All IsPrintableBox) c.lay_out.result (document_of c.args.page.now) (printable c.lay_out.result (defined.boxes_of (document_of c.args.page.now)) c.lay_out.ensures.near)

pub returns-clause-measures : goal.returns-clause-measures
returns-clause-measures g c =
    measures c.args.page.now c.lay_out.new.self c.args.tally.now c.lay_out.new.tally c.args.passes.now c.lay_out.new.passes (g.R.Ruler.log c.args.ruler.now) (g.R.Ruler.log c.lay_out.new.ruler) c.root.result
    (ap (λ (a : Nodes Node). top_numbers a.tree) (sym c.tree.ensures) ∙ c.root.ensures.root) c.lay_out.result c.lay_out.ensures.laid c.lay_out.ensures.cut

pub returns-clause-keeps : goal.returns-clause-keeps
returns-clause-keeps g c =
    keeps c.args.page.now c.lay_out.new.self c.args.tally.now c.lay_out.new.tally c.args.passes.now c.lay_out.new.passes (g.R.Ruler.log c.args.ruler.now) (g.R.Ruler.log c.lay_out.new.ruler) c.root.result
    (ap (λ (a : Nodes Node). top_numbers a.tree) (sym c.tree.ensures) ∙ c.root.ensures.root) c.lay_out.result c.lay_out.ensures.laid

pub returns-clause-keeps_some : goal.returns-clause-keeps_some
returns-clause-keeps_some g c =
    keeps_some c.args.page.now c.lay_out.new.self c.args.tally.now c.lay_out.new.tally c.args.passes.now c.lay_out.new.passes (g.R.Ruler.log c.args.ruler.now) (g.R.Ruler.log c.lay_out.new.ruler) c.root.result
    (ap (λ (a : Nodes Node). top_numbers a.tree) (sym c.tree.ensures) ∙ c.root.ensures.root) c.lay_out.result c.lay_out.ensures.cut

pub returns-clause-spares : goal.returns-clause-spares
returns-clause-spares g c touches before p =
    let root : top_numbers c.args.page.now.nodes.tree ≡ c.root.result ∷ [] = ap (λ (a : Nodes Node). top_numbers a.tree) (sym c.tree.ensures) ∙ c.root.ensures.root in
    let distinct : IsDistinct c.args.page.now.nodes.tree = subst (λ (a : Nodes Node). IsDistinct a.tree) c.tree.ensures c.root.ensures.sound.distinct in
    spares_laid touches before (g.R.Ruler.log c.args.ruler.now) (g.R.Ruler.log c.lay_out.new.ruler) c.args.page.now c.lay_out.new.self c.args.tally.now c.lay_out.new.tally c.args.passes.now c.lay_out.new.passes c.root.result root distinct c.requires.sound p c.lay_out.result
    c.lay_out.ensures.bare c.lay_out.ensures.laid c.lay_out.ensures.cut

pub returns-clause-walked : goal.returns-clause-walked
returns-clause-walked g c =
    walks_page c.args.page.now c.lay_out.new.self c.args.tally.now c.lay_out.new.tally c.args.passes.now c.lay_out.new.passes (g.R.Ruler.log c.args.ruler.now) (g.R.Ruler.log c.lay_out.new.ruler) c.root.result
    (ap (λ (a : Nodes Node). top_numbers a.tree) (sym c.tree.ensures) ∙ c.root.ensures.root) c.lay_out.result c.lay_out.ensures.laid c.lay_out.ensures.right c.lay_out.ensures.paths c.lay_out.ensures.leaves c.layouts_of_pages.ensures.bounded c.requires.sound.valid

pub returns-clause-root : goal.returns-clause-root
returns-clause-root g c =
    laid_by c.args.page.now c.lay_out.new.self c.lay_out.new.tally c.lay_out.new.passes (g.R.Ruler.log c.lay_out.new.ruler) c.lay_out.ensures.bare c.lay_out.ensures.document c.lay_out.result c.lay_out.ensures.root c.lay_out.ensures.paths
