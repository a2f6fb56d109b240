use Rattle.std.proofs.Common.{true, false, refl, sym, subst, ◌≡◌, ◌∙◌, ◌≤◌, [], pos, ℤ}
use Rattle.placing.specs.Kept.{frame_of, kept_at}
use Rattle.placing.specs.Nodes.{BareTrees, level_at, sight_at}
use Rattle.placing.proofs.Leaves.{on_err}
use Rattle.box_layout.specs.Asking.{frames_asked}
use Rattle.box_layout.specs.BoxesSeen.{AreNear, IsNearAt}
use Rattle.tree_rules.specs.Queries.{Fits, is_container}
use Rattle.box_layout.specs.LastBoxes.{AreFound}
use Rattle.box_layout.specs.LeafHeights.{MeasuresBelow}
use Rattle.box_layout.specs.Paths.{AreKeptBelow, IsAllKept, IsChildLaid, IsChildPart}
use Rattle.box_layout.proofs.BelowSteps.{child_same, part_same}
use Rattle.box_layout.proofs.FoundRoots.{root_found}
use Rattle.box_layout.proofs.FoundWalks.{still_found}
use Rattle.box_layout.proofs.KeptPaths.{path_of_root}
use Rattle.box_layout.proofs.LaidWalks.{cut_boxes, walk_boxes}
use Rattle.box_layout.proofs.LeafSteps.{measured_root}
use Rattle.box_layout.proofs.RootBoxes.{first_of_root, level_some, quiet_all, value_all}
use Rattle.walker.specs.Walkers.{nodes, seen}
use Rattle.walker.proofs.Parts.{parts_then}
use Rattle.box_layout.proofs.layout.boxes_of_tree.Goals as goal

pub returns-in_err-frame-clause-quiet : goal.returns-in_err-frame-clause-quiet
returns-in_err-frame-clause-quiet g c =
    (λ (kept : IsAllKept (nodes c.args.walk.now) c.args.width c.args.height (seen g.R.Ruler.log c.args.walk.now)). c.root_frame.ensures.quiet (kept.inline c.root-id.result c.root-id.ensures.root)
    (kept.block c.root-id.result c.root-id.ensures.root))

pub boxes_of-requires-clause-fits : goal.boxes_of-requires-clause-fits
boxes_of-requires-clause-fits g c =
    subst (λ (z : BareTrees). is_container (sight_at z c.root-id.result).label.kind ≡ true → Fits (sight_at z c.root-id.result) (frames_asked [] c.in_ok-frame.frame.inline c.in_ok-frame.frame.block)) (sym c.root_frame.ensures.bare)
    c.in_ok-frame.ensures.fits

pub boxes_of-requires-clause-level : goal.boxes_of-requires-clause-level
boxes_of-requires-clause-level g c = subst (λ (z : BareTrees). 1 ≤ level_at z c.root-id.result) (sym c.root_frame.ensures.bare) (level_some (nodes c.args.walk.now) c.root-id.result c.root-id.ensures.root)

pub boxes_of-requires-clause-near : goal.boxes_of-requires-clause-near
boxes_of-requires-clause-near g c =
    let level : 1 ≤ level_at (nodes c.root_frame.new.walk) c.root-id.result = subst (λ (z : BareTrees). 1 ≤ level_at z c.root-id.result) (sym c.root_frame.ensures.bare) (level_some (nodes c.args.walk.now) c.root-id.result c.root-id.ensures.root) in
    subst (λ (z : ℤ). IsNearAt (level_at (nodes c.root_frame.new.walk) c.root-id.result) z c.of-y.result (frame_of c.in_ok-frame.frame)) (sym c.of-x.ensures)
    (subst (λ (z : ℤ). IsNearAt (level_at (nodes c.root_frame.new.walk) c.root-id.result) (pos 0) z (frame_of c.in_ok-frame.frame)) (sym c.of-y.ensures) (c.in_ok-frame.ensures.near (level_at (nodes c.root_frame.new.walk) c.root-id.result) level))

pub returns-in_err-boxes_of-clause-bare : goal.returns-in_err-boxes_of-clause-bare
returns-in_err-boxes_of-clause-bare g c =
    part_same (nodes c.root_frame.new.walk) c.root-id.result (frames_asked [] c.in_ok-frame.frame.inline c.in_ok-frame.frame.block) (seen g.R.Ruler.log c.root_frame.new.walk)
    (seen g.R.Ruler.log c.boxes_of.new.walk) c.in_err-boxes_of.ensures.part ∙ c.root_frame.ensures.bare

pub returns-in_err-boxes_of-clause-cut : goal.returns-in_err-boxes_of-clause-cut
returns-in_err-boxes_of-clause-cut g c =
    on_err _ _
    (cut_boxes c.args.width c.args.height c.root-id.result (seen g.R.Ruler.log c.args.walk.now) c.root-id.ensures.root
    (seen g.R.Ruler.log c.root_frame.new.walk) c.in_ok-frame.ensures.laid (frames_asked [] c.in_ok-frame.frame.inline c.in_ok-frame.frame.block)
    (λ k. first_of_root (nodes c.args.walk.now) c.root-id.result c.args.width c.args.height (frame_of c.in_ok-frame.frame) k c.in_ok-frame.ensures.value) (seen g.R.Ruler.log c.boxes_of.new.walk)
    (subst
    (λ (z : BareTrees). IsChildPart z c.root-id.result (frames_asked [] c.in_ok-frame.frame.inline c.in_ok-frame.frame.block) (seen g.R.Ruler.log c.root_frame.new.walk)
    (seen g.R.Ruler.log c.boxes_of.new.walk)) c.root_frame.ensures.bare c.in_err-boxes_of.ensures.part))

pub returns-in_err-boxes_of-clause-quiet : goal.returns-in_err-boxes_of-clause-quiet
returns-in_err-boxes_of-clause-quiet g c =
    quiet_all (nodes c.args.walk.now) (nodes c.root_frame.new.walk) c.root-id.result c.args.width c.args.height (frame_of c.in_ok-frame.frame) (seen g.R.Ruler.log c.args.walk.now)
    (seen g.R.Ruler.log c.root_frame.new.walk) (seen g.R.Ruler.log c.boxes_of.new.walk) c.root_frame.ensures.bare c.root-id.ensures.root
    c.in_ok-frame.ensures.value
    (λ (kept : IsAllKept (nodes c.args.walk.now) c.args.width c.args.height (seen g.R.Ruler.log c.args.walk.now)). c.root_frame.ensures.quiet (kept.inline c.root-id.result c.root-id.ensures.root)
    (kept.block c.root-id.result c.root-id.ensures.root)) c.boxes_of.ensures.quiet

pub returns-clause-value : goal.returns-clause-value
returns-clause-value g c =
    subst (g.T.BoxSink.adds c.args.out.now.told.now c.boxes_of.new.out.told.now)
    (value_all (nodes c.args.walk.now) (nodes c.root_frame.new.walk) c.root-id.result c.args.width c.args.height [] (frame_of c.in_ok-frame.frame) c.of-x.result c.of-y.result [] _ c.root_frame.ensures.bare c.root-id.ensures.root c.root-id.ensures.top refl c.of-x.ensures
    c.of-y.ensures refl c.in_ok-frame.ensures.value refl)
    (g.met.T.BoxSink.adds_both c.args.out.now.told.now c.make_room.new.self c.boxes_of.new.out.told.now [] _ c.make_room.ensures c.in_ok-boxes_of.ensures.value)

pub returns-clause-near : goal.returns-clause-near
returns-clause-near g c =
    subst AreNear
    (value_all (nodes c.args.walk.now) (nodes c.root_frame.new.walk) c.root-id.result c.args.width c.args.height [] (frame_of c.in_ok-frame.frame) c.of-x.result c.of-y.result [] _ c.root_frame.ensures.bare c.root-id.ensures.root c.root-id.ensures.top refl c.of-x.ensures
    c.of-y.ensures refl c.in_ok-frame.ensures.value refl)
    c.in_ok-boxes_of.ensures.near

pub returns-clause-bare : goal.returns-clause-bare
returns-clause-bare g c =
    child_same (nodes c.root_frame.new.walk) c.root-id.result (frames_asked [] c.in_ok-frame.frame.inline c.in_ok-frame.frame.block) (seen g.R.Ruler.log c.root_frame.new.walk)
    (seen g.R.Ruler.log c.boxes_of.new.walk) c.in_ok-boxes_of.ensures.boxed.laid ∙ c.root_frame.ensures.bare

pub returns-clause-laid : goal.returns-clause-laid
returns-clause-laid g c =
    walk_boxes c.args.width c.args.height c.root-id.result (seen g.R.Ruler.log c.args.walk.now) c.root-id.ensures.root
    (seen g.R.Ruler.log c.root_frame.new.walk) c.in_ok-frame.ensures.laid (frames_asked [] c.in_ok-frame.frame.inline c.in_ok-frame.frame.block)
    (λ k. first_of_root (nodes c.args.walk.now) c.root-id.result c.args.width c.args.height (frame_of c.in_ok-frame.frame) k c.in_ok-frame.ensures.value) (seen g.R.Ruler.log c.boxes_of.new.walk)
    (subst
    (λ (z : BareTrees). IsChildLaid z c.root-id.result (frames_asked [] c.in_ok-frame.frame.inline c.in_ok-frame.frame.block) (seen g.R.Ruler.log c.root_frame.new.walk)
    (seen g.R.Ruler.log c.boxes_of.new.walk)) c.root_frame.ensures.bare c.in_ok-boxes_of.ensures.boxed.laid)

pub returns-clause-quiet : goal.returns-clause-quiet
returns-clause-quiet g c =
    quiet_all (nodes c.args.walk.now) (nodes c.root_frame.new.walk) c.root-id.result c.args.width c.args.height (frame_of c.in_ok-frame.frame) (seen g.R.Ruler.log c.args.walk.now)
    (seen g.R.Ruler.log c.root_frame.new.walk) (seen g.R.Ruler.log c.boxes_of.new.walk) c.root_frame.ensures.bare c.root-id.ensures.root
    c.in_ok-frame.ensures.value
    (λ (kept : IsAllKept (nodes c.args.walk.now) c.args.width c.args.height (seen g.R.Ruler.log c.args.walk.now)). c.root_frame.ensures.quiet (kept.inline c.root-id.result c.root-id.ensures.root)
    (kept.block c.root-id.result c.root-id.ensures.root)) c.boxes_of.ensures.quiet

pub returns-clause-paths : goal.returns-clause-paths
returns-clause-paths g c =
    path_of_root (nodes c.args.walk.now) c.root-id.result c.args.width c.args.height (frame_of c.in_ok-frame.frame) (seen g.R.Ruler.log c.boxes_of.new.walk) c.root-id.ensures.root c.in_ok-frame.ensures.value
    (subst
    (λ (z : BareTrees). is_container (sight_at z c.root-id.result).label.kind ≡ true →
    AreKeptBelow z c.root-id.result (frames_asked [] c.in_ok-frame.frame.inline c.in_ok-frame.frame.block) (seen g.R.Ruler.log c.boxes_of.new.walk)) c.root_frame.ensures.bare c.in_ok-boxes_of.ensures.boxed.paths)

pub returns-clause-leaves : goal.returns-clause-leaves
returns-clause-leaves g c =
    measured_root (nodes c.args.walk.now) c.root-id.result c.args.width c.args.height (frame_of c.in_ok-frame.frame) (seen g.R.Ruler.log c.args.walk.now)
    (seen g.R.Ruler.log c.root_frame.new.walk) (seen g.R.Ruler.log c.boxes_of.new.walk) c.root-id.ensures.root c.in_ok-frame.ensures.value
    c.in_ok-frame.ensures.frames
    (subst
    (λ (z : BareTrees). is_container (sight_at z c.root-id.result).label.kind ≡ true →
    MeasuresBelow z c.root-id.result (frames_asked [] c.in_ok-frame.frame.inline c.in_ok-frame.frame.block) (seen g.R.Ruler.log c.root_frame.new.walk)
    (seen g.R.Ruler.log c.boxes_of.new.walk)) c.root_frame.ensures.bare c.in_ok-boxes_of.ensures.boxed.leaves)

pub boxes_of-requires-clause-last : goal.boxes_of-requires-clause-last
boxes_of-requires-clause-last g c =
    subst (λ (z : BareTrees). c.root_frame.new.walk.tally.now.lost ≡ false → AreFound z (kept_at c.root_frame.new.walk.tree.now.tree) c.args.out.now.last.now) (sym c.root_frame.ensures.bare)
    (still_found (nodes c.args.walk.now) c.args.out.now.last.now _ _ c.in_ok-frame.ensures.laid (λ none. c.requires.last))

pub returns-in_err-frame-clause-last : goal.returns-in_err-frame-clause-last
returns-in_err-frame-clause-last g c = still_found (nodes c.args.walk.now) c.args.out.now.last.now _ _ c.in_err-frame.ensures.cut.walk (λ none. c.requires.last)

pub returns-in_err-boxes_of-clause-last : goal.returns-in_err-boxes_of-clause-last
returns-in_err-boxes_of-clause-last g c =
    subst (λ (z : BareTrees). c.boxes_of.new.walk.tally.now.lost ≡ false → AreFound z (kept_at c.boxes_of.new.walk.tree.now.tree) c.boxes_of.new.out.last.now) c.root_frame.ensures.bare c.boxes_of.ensures.last

pub returns-clause-last : goal.returns-clause-last
returns-clause-last g c =
    subst (λ (z : BareTrees). c.boxes_of.new.walk.tally.now.lost ≡ false → AreFound z (kept_at c.boxes_of.new.walk.tree.now.tree) c.boxes_of.new.out.last.now) c.root_frame.ensures.bare c.boxes_of.ensures.last

pub returns-clause-root : goal.returns-clause-root
returns-clause-root g c = root_found (nodes c.args.walk.now) c.root-id.result c.args.width c.args.height c.in_ok-frame.frame c.root-id.ensures.root c.in_ok-frame.ensures.child c.in_ok-frame.ensures.value c.in_ok-frame.ensures.fits c.in_ok-frame.ensures.near

pub returns-in_err-frame-clause-parts : goal.returns-in_err-frame-clause-parts
returns-in_err-frame-clause-parts g c = c.root_frame.ensures.parts

pub returns-in_err-frame-clause-stands : goal.returns-in_err-frame-clause-stands
returns-in_err-frame-clause-stands g c = c.root_frame.ensures.stands

pub returns-in_err-boxes_of-clause-parts : goal.returns-in_err-boxes_of-clause-parts
returns-in_err-boxes_of-clause-parts g c = parts_then _ _ _ c.root_frame.ensures.parts c.boxes_of.ensures.parts

pub returns-in_err-boxes_of-clause-stands : goal.returns-in_err-boxes_of-clause-stands
returns-in_err-boxes_of-clause-stands g c = c.boxes_of.ensures.stands

pub returns-clause-parts : goal.returns-clause-parts
returns-clause-parts g c = parts_then _ _ _ c.root_frame.ensures.parts c.boxes_of.ensures.parts

pub returns-clause-stands : goal.returns-clause-stands
returns-clause-stands g c = c.boxes_of.ensures.stands
