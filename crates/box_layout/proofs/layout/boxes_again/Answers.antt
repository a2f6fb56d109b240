use Rattle.std.proofs.Common.{refl, sym, ap, subst, ◌≡◌, ◌∙◌, ◌≤◌, [], pos, ℤ}
use Rattle.placing.specs.Kept.{frame_of}
use Rattle.placing.specs.Nodes.{level_at}
use Rattle.placing.specs.Walks.{State}
use Rattle.box_layout.specs.BoxesSeen.{AreNear, IsNearAt}
use Rattle.box_layout.proofs.BelowSteps.{ok_then}
use Rattle.box_layout.proofs.FoundRoots.{fits_here, last_still, still, value_here}
use Rattle.box_layout.proofs.RootBoxes.{level_some, value_all}
use Rattle.walker.specs.Walkers.{nodes, seen}
use Rattle.box_layout.proofs.layout.boxes_again.Goals as goal

pub boxes_of-requires-clause-fits : goal.boxes_of-requires-clause-fits
boxes_of-requires-clause-fits g c = fits_here (nodes c.args.walk.now) c.root-id.result c.args.root_frame.now.width c.args.root_frame.now.height c.args.root_frame.now c.root-id.ensures.root c.requires.root

pub boxes_of-requires-clause-level : goal.boxes_of-requires-clause-level
boxes_of-requires-clause-level g c = level_some (nodes c.args.walk.now) c.root-id.result c.root-id.ensures.root

pub boxes_of-requires-clause-near : goal.boxes_of-requires-clause-near
boxes_of-requires-clause-near g c =
    let level : 1 ≤ level_at (nodes c.args.walk.now) c.root-id.result = level_some (nodes c.args.walk.now) c.root-id.result c.root-id.ensures.root in
    subst (λ (z : ℤ). IsNearAt (level_at (nodes c.args.walk.now) c.root-id.result) z c.of-y.result (frame_of c.args.root_frame.now.frame)) (sym c.of-x.ensures)
    (subst (λ (z : ℤ). IsNearAt (level_at (nodes c.args.walk.now) c.root-id.result) (pos 0) z (frame_of c.args.root_frame.now.frame)) (sym c.of-y.ensures) (c.requires.root.near (level_at (nodes c.args.walk.now) c.root-id.result) level))

pub returns-clause-value : goal.returns-clause-value
returns-clause-value g c =
    ok_then c.boxes_of.result _ _
    (λ more. subst (g.T.BoxSink.adds c.args.out.now.told.now c.boxes_of.new.out.told.now)
    (value_all (nodes c.args.walk.now) (nodes c.args.walk.now) c.root-id.result c.args.root_frame.now.width c.args.root_frame.now.height [] (frame_of c.args.root_frame.now.frame) c.of-x.result c.of-y.result [] _ refl c.root-id.ensures.root c.root-id.ensures.top refl
    c.of-x.ensures c.of-y.ensures refl (value_here (nodes c.args.walk.now) c.root-id.result c.args.root_frame.now.width c.args.root_frame.now.height c.args.root_frame.now c.root-id.ensures.root c.requires.root) refl)
    (g.met.T.BoxSink.adds_both c.args.out.now.told.now c.make_room.new.self c.boxes_of.new.out.told.now [] _ c.make_room.ensures more))
    c.boxes_of.ensures.value

pub returns-clause-near : goal.returns-clause-near
returns-clause-near g c =
    ok_then c.boxes_of.result _ _
    (λ near. subst AreNear
    (value_all (nodes c.args.walk.now) (nodes c.args.walk.now) c.root-id.result c.args.root_frame.now.width c.args.root_frame.now.height [] (frame_of c.args.root_frame.now.frame) c.of-x.result c.of-y.result [] _ refl c.root-id.ensures.root c.root-id.ensures.top refl
    c.of-x.ensures c.of-y.ensures refl (value_here (nodes c.args.walk.now) c.root-id.result c.args.root_frame.now.width c.args.root_frame.now.height c.args.root_frame.now c.root-id.ensures.root c.requires.root) refl)
    near)
    c.boxes_of.ensures.near

pub returns-clause-same : goal.returns-clause-same
returns-clause-same g c =
    let same : seen g.R.Ruler.log c.boxes_of.new.walk ≡
    seen g.R.Ruler.log c.args.walk.now = still (nodes c.args.walk.now) c.root-id.result c.args.root_frame.now.width c.args.root_frame.now.height c.args.root_frame.now (seen g.R.Ruler.log c.args.walk.now)
    (seen g.R.Ruler.log c.boxes_of.new.walk) c.root-id.ensures.root c.requires.root c.requires.kept c.boxes_of.ensures.quiet in
    ap (λ (s : State). s.arena) same

pub returns-clause-passes : goal.returns-clause-passes
returns-clause-passes g c =
    let same : seen g.R.Ruler.log c.boxes_of.new.walk ≡
    seen g.R.Ruler.log c.args.walk.now = still (nodes c.args.walk.now) c.root-id.result c.args.root_frame.now.width c.args.root_frame.now.height c.args.root_frame.now (seen g.R.Ruler.log c.args.walk.now)
    (seen g.R.Ruler.log c.boxes_of.new.walk) c.root-id.ensures.root c.requires.root c.requires.kept c.boxes_of.ensures.quiet in
    ap (λ (s : State). s.passes) same

pub returns-clause-last : goal.returns-clause-last
returns-clause-last g c =
    let same : seen g.R.Ruler.log c.boxes_of.new.walk ≡
    seen g.R.Ruler.log c.args.walk.now = still (nodes c.args.walk.now) c.root-id.result c.args.root_frame.now.width c.args.root_frame.now.height c.args.root_frame.now (seen g.R.Ruler.log c.args.walk.now)
    (seen g.R.Ruler.log c.boxes_of.new.walk) c.root-id.ensures.root c.requires.root c.requires.kept c.boxes_of.ensures.quiet in
    last_still (seen g.R.Ruler.log c.args.walk.now) (seen g.R.Ruler.log c.boxes_of.new.walk) c.boxes_of.new.out.last.now same c.requires.none c.boxes_of.ensures.last
