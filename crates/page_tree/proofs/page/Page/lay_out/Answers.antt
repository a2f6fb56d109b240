use Rattle.std.specs.Prelude.{IfOk, OnOk}
use Rattle.placing.specs.Walks.{state}
use Rattle.box_layout.specs.BoxesSeen.{AreNear}
use Rattle.box_layout.specs.FoundRoots.{IsRootFrame}
use Rattle.box_layout.specs.LastBoxes.{AreFound}
use Rattle.box_layout.specs.LeafHeights.{AreMeasured}
use Rattle.box_layout.specs.Paths.{IsPathKept}
use Rattle.std.proofs.Common.{ap, sym, subst, ◌∙◌}
use Rattle.placing.specs.Kept.{kept_at}
use Rattle.placing.specs.Nodes.{bare}
use Rattle.placing.specs.Ranges.{AreReadable}
use Rattle.page_tree.specs.Pages.{Held}
use Rattle.page_tree.specs.Pages.{document_of, plain_root}
use Rattle.page_tree.proofs.Bares.{same_page, same_plain}
use Rattle.page_tree.proofs.Laying.{boxes_told, page_boxes}
use Rattle.page_tree.proofs.page.Page.lay_out.Goals as goal

pub invariant_of-self : goal.invariant_of-self
invariant_of-self g c = same_page _ c.self.inside.nodes.tree c.lay_out.ensures.bare c.self.invariant

pub returns-clause-document : goal.returns-clause-document
returns-clause-document g c =
    (λ i. record { version = c.self.inside.version; width = c.self.inside.width; height = c.self.inside.height; root = plain_root (same_plain c.lay_out.new.self.tree c.self.inside.nodes.tree c.lay_out.ensures.bare i) })
    ∙ ap document_of c.self.view_is

pub lay_out-requires-clause-readable : goal.lay_out-requires-clause-readable
lay_out-requires-clause-readable g c = subst (λ (h : Held). AreReadable (bare h.nodes.tree)) (sym c.self.view_is) (c.valid_documents_are_readable.ensures c.requires.valid)

pub returns-clause-boxes : goal.returns-clause-boxes
returns-clause-boxes g c =
    let held : Held = record { version = c.self.inside.version; width = c.self.inside.width; height = c.self.inside.height; nodes = c.self.inside.nodes } in
    boxes_told (g.T.BoxSink.adds c.args.told.now c.lay_out.new.told) c.lay_out.result held c.args.self.now c.self.view_is (page_boxes held c.self.invariant) c.lay_out.ensures.value

pub returns-clause-near : goal.returns-clause-near
returns-clause-near g c =
    let held : Held = record { version = c.self.inside.version; width = c.self.inside.width; height = c.self.inside.height; nodes = c.self.inside.nodes } in
    boxes_told AreNear c.lay_out.result held c.args.self.now c.self.view_is (page_boxes held c.self.invariant) c.lay_out.ensures.near

pub returns-clause-paths : goal.returns-clause-paths
returns-clause-paths g c =
    subst (λ (h : Held). OnOk c.lay_out.result (IsPathKept (bare h.nodes.tree) h.width h.height (state c.lay_out.new.self c.lay_out.new.tally c.lay_out.new.passes (g.R.Ruler.log c.lay_out.new.ruler)))) c.self.view_is c.lay_out.ensures.paths

pub returns-clause-leaves : goal.returns-clause-leaves
returns-clause-leaves g c =
    subst (λ (h : Held). OnOk c.lay_out.result (AreMeasured (bare h.nodes.tree) h.width h.height (state h.nodes c.args.tally.now c.args.passes.now (g.R.Ruler.log c.args.ruler.now)) (state c.lay_out.new.self c.lay_out.new.tally c.lay_out.new.passes (g.R.Ruler.log c.lay_out.new.ruler))))
    c.self.view_is c.lay_out.ensures.leaves

pub lay_out-requires-clause-last : goal.lay_out-requires-clause-last
lay_out-requires-clause-last g c = subst (λ (h : Held). AreFound (bare h.nodes.tree) (kept_at h.nodes.tree) c.args.last.now) (sym c.self.view_is) c.requires.last

pub returns-clause-root : goal.returns-clause-root
returns-clause-root g c = subst (λ (h : Held). IfOk c.lay_out.result (λ root. IsRootFrame (bare h.nodes.tree) h.width h.height root)) c.self.view_is c.lay_out.ensures.root
