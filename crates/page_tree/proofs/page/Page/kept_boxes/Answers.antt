use Rattle.std.proofs.Common.{sym, subst, ap, ◌∙◌}
use Rattle.node_arena.specs.Plain.{Nodes}
use Rattle.placing.specs.declared.node.Node.{Node}
use Rattle.placing.specs.Kept.{kept_at}
use Rattle.placing.specs.Nodes.{bare}
use Rattle.placing.specs.Ranges.{AreReadable}
use Rattle.box_layout.specs.BoxesSeen.{AreNear}
use Rattle.box_layout.specs.FoundRoots.{IsRootFrame}
use Rattle.box_layout.specs.LastBoxes.{AreFound}
use Rattle.box_layout.specs.Paths.{IsPathKept, kept_state}
use Rattle.page_tree.specs.Pages.{Held, IsPage}
use Rattle.page_tree.proofs.Laying.{boxes_told, framed_told, page_boxes, path_framed, root_framed}
use Rattle.page_tree.proofs.page.Page.kept_boxes.Goals as goal

pub invariant_of-self : goal.invariant_of-self
invariant_of-self g c = subst (λ (n : Nodes Node). IsPage n.tree) (sym c.kept_boxes.ensures.same) c.self.invariant

pub kept_boxes-requires-clause-readable : goal.kept_boxes-requires-clause-readable
kept_boxes-requires-clause-readable g c = subst (λ (h : Held). AreReadable (bare h.nodes.tree)) (sym c.self.view_is) (c.valid_documents_are_readable.ensures c.requires.valid)

pub kept_boxes-requires-clause-last : goal.kept_boxes-requires-clause-last
kept_boxes-requires-clause-last g c = subst (λ (h : Held). AreFound (bare h.nodes.tree) (kept_at h.nodes.tree) c.args.last.now) (sym c.self.view_is) c.requires.last

pub kept_boxes-requires-clause-root : goal.kept_boxes-requires-clause-root
kept_boxes-requires-clause-root g c =
    subst (λ (h : Held). IsRootFrame (bare h.nodes.tree) c.args.root_frame.now.width c.args.root_frame.now.height c.args.root_frame.now) (sym c.self.view_is)
    (root_framed (bare c.args.self.now.nodes.tree) c.args.self.now.width c.args.self.now.height c.args.root_frame.now c.requires.root)

pub kept_boxes-requires-clause-kept : goal.kept_boxes-requires-clause-kept
kept_boxes-requires-clause-kept g c =
    subst (λ (h : Held). IsPathKept (bare h.nodes.tree) c.args.root_frame.now.width c.args.root_frame.now.height (kept_state h.nodes)) (sym c.self.view_is)
    (path_framed (bare c.args.self.now.nodes.tree) c.args.self.now.width c.args.self.now.height c.args.root_frame.now (kept_state c.args.self.now.nodes) c.requires.root c.requires.kept)

pub returns-clause-boxes : goal.returns-clause-boxes
returns-clause-boxes g c =
    let held : Held = record { version = c.self.inside.version; width = c.self.inside.width; height = c.self.inside.height; nodes = c.self.inside.nodes } in
    let root = subst (λ (h : Held). IsRootFrame (bare h.nodes.tree) h.width h.height c.args.root_frame.now) (sym c.self.view_is) c.requires.root in
    boxes_told (g.T.BoxSink.adds c.args.told.now c.kept_boxes.new.told) c.kept_boxes.result held c.args.self.now c.self.view_is (page_boxes held c.self.invariant)
    (framed_told (g.T.BoxSink.adds c.args.told.now c.kept_boxes.new.told) c.kept_boxes.result held c.args.root_frame.now root c.kept_boxes.ensures.value)

pub returns-clause-near : goal.returns-clause-near
returns-clause-near g c =
    let held : Held = record { version = c.self.inside.version; width = c.self.inside.width; height = c.self.inside.height; nodes = c.self.inside.nodes } in
    let root = subst (λ (h : Held). IsRootFrame (bare h.nodes.tree) h.width h.height c.args.root_frame.now) (sym c.self.view_is) c.requires.root in
    boxes_told AreNear c.kept_boxes.result held c.args.self.now c.self.view_is (page_boxes held c.self.invariant) (framed_told AreNear c.kept_boxes.result held c.args.root_frame.now root c.kept_boxes.ensures.near)

pub returns-clause-same : goal.returns-clause-same
returns-clause-same g c = ap (λ n. record { version = c.self.inside.version; width = c.self.inside.width; height = c.self.inside.height; nodes = n }) c.kept_boxes.ensures.same ∙ c.self.view_is
