use Rattle.std.proofs.Common.{rules, refl, sym, subst, inl, inr, ◌∷◌, [], ◌≡◌, ◌∙◌, ◌≤◌, true, false}
use Rattle.lunit.specs.declared.geometry.Rect.{Rect}
use Rattle.placing.specs.Kept.{frame_of, kept_at}
use Rattle.placing.specs.Nodes.{level_at, sight_at}
use Rattle.placing.specs.declared.contexts.Above.TheVariants as above
use Rattle.tree_rules.specs.Queries.{Fits, is_container}
use Rattle.box_layout.specs.Asking.{frames_asked}
use Rattle.box_layout.specs.BoxesSeen.{AreNear, boxes_seen, reach}
use Rattle.box_layout.specs.LastBoxes.{AreFound}
use Rattle.box_layout.specs.Ranges.{IsWithin}
use Rattle.box_layout.specs.Stands.{IsGivenNear}
use Rattle.box_layout.proofs.BelowSteps.{below_told, kind_is, leaf_told, near_told, ok_then}
use Rattle.box_layout.proofs.NearBoxes.{long}
use Rattle.std.proofs.lemmas.Bool.{false≢true}
use Rattle.walker.specs.Walkers.{nodes, seen}
use Rattle.box_layout.specs.Boxed.{IsBoxed}
use Rattle.box_layout.proofs.walk.boxes_of.Goals as goal

pub moved_by-rect-requires-clause-x : goal.moved_by-rect-requires-clause-x
moved_by-rect-requires-clause-x g c = long (level_at (nodes c.args.walk.now) c.args.id) _ c.requires.near.x

pub moved_by-rect-requires-clause-y : goal.moved_by-rect-requires-clause-y
moved_by-rect-requires-clause-y g c = long (level_at (nodes c.args.walk.now) c.args.id) _ c.requires.near.y

pub returns-then-not-container-clause-value : goal.returns-then-not-container-clause-value
returns-then-not-container-clause-value g c =
    subst (g.T.BoxSink.adds c.args.out.now.told.now c.take.new.self)
    (leaf_told (nodes c.args.walk.now) c.args.id c.args.seat.now.reps.now (frame_of c.args.spot.now.frame.now) (c.args.spot.now.x, c.args.spot.now.y) c.node_at-node.result.now.name c.moved_by-rect.result
    (kind_is c.node_at-node.result.now.kind (sight_at (nodes c.args.walk.now) c.args.id).label.kind c.is_container-container.result c.node_at-node.ensures.kind c.is_container-container.ensures ∙ c.if-not-container.true) c.node_at-node.ensures.name c.moved_by-rect.ensures)
    c.in_ok-take.ensures

pub returns-then-not-container-clause-near : goal.returns-then-not-container-clause-near
returns-then-not-container-clause-near g c =
    subst AreNear
    (leaf_told (nodes c.args.walk.now) c.args.id c.args.seat.now.reps.now (frame_of c.args.spot.now.frame.now) (c.args.spot.now.x, c.args.spot.now.y) c.node_at-node.result.now.name c.moved_by-rect.result
    (kind_is c.node_at-node.result.now.kind (sight_at (nodes c.args.walk.now) c.args.id).label.kind c.is_container-container.result c.node_at-node.ensures.kind c.is_container-container.ensures ∙ c.if-not-container.true) c.node_at-node.ensures.name c.moved_by-rect.ensures)
    ((near_told (level_at (nodes c.args.walk.now) c.args.id) c.args.spot.now.x c.args.spot.now.y (frame_of c.args.spot.now.frame.now) c.moved_by-rect.result c.moved_by-rect.ensures c.requires.near), tt)

pub boxes_below-requires : goal.boxes_below-requires
boxes_below-requires g c =
    let container : is_container (sight_at (nodes c.args.walk.now) c.args.id).label.kind ≡
    true = kind_is c.node_at-node.result.now.kind (sight_at (nodes c.args.walk.now) c.args.id).label.kind c.is_container-container.result c.node_at-node.ensures.kind c.is_container-container.ensures ∙ c.if-not-container.false in
    let fits : Fits (sight_at (nodes c.args.walk.now) c.args.id) (frames_asked c.args.seat.now.reps.now c.args.spot.now.frame.now.inline c.args.spot.now.frame.now.block) = c.requires.fits container in
    let level : 1 ≤ level_at (nodes c.args.walk.now) c.args.id = c.requires.level in
    let columns : IsGivenNear (level_at (nodes c.args.walk.now) c.args.id) c.args.spot.now.frame.now.inline = c.requires.near.inline in
    let rows : IsGivenNear (level_at (nodes c.args.walk.now) c.args.id) c.args.spot.now.frame.now.block = c.requires.near.block in
    let x : IsWithin (reach (level_at (nodes c.args.walk.now) c.args.id)) c.moved_by-rect.result.x = subst (λ (r : Rect). IsWithin (reach (level_at (nodes c.args.walk.now) c.args.id)) r.x) (sym c.moved_by-rect.ensures) c.requires.near.x in
    let y : IsWithin (reach (level_at (nodes c.args.walk.now) c.args.id)) c.moved_by-rect.result.y = subst (λ (r : Rect). IsWithin (reach (level_at (nodes c.args.walk.now) c.args.id)) r.y) (sym c.moved_by-rect.ensures) c.requires.near.y in
    let nothing : c.args.nothing.now ≡ above.Nothing = c.requires.nothing in
    let last : c.args.walk.now.tally.now.lost ≡ false → AreFound (nodes c.args.walk.now) (kept_at c.args.walk.now.tree.now.tree) c.args.out.now.last.now = c.requires.last in
    search rules

pub returns-clause-near : goal.returns-clause-near
returns-clause-near g c =
    ok_then c.boxes_below.result _ _
    (λ more. subst AreNear
    (below_told (nodes c.args.walk.now) c.args.id c.args.seat.now.reps.now c.args.seat.now.reps.now refl (frame_of c.args.spot.now.frame.now) (c.args.spot.now.x, c.args.spot.now.y) c.node_at-node.result.now.name c.moved_by-rect.result c.node_at-node.ensures.name c.moved_by-rect.ensures)
    ((near_told (level_at (nodes c.args.walk.now) c.args.id) c.args.spot.now.x c.args.spot.now.y (frame_of c.args.spot.now.frame.now) c.moved_by-rect.result c.moved_by-rect.ensures c.requires.near), more))
    c.boxes_below.ensures.near

pub returns-clause-value : goal.returns-clause-value
returns-clause-value g c =
    ok_then c.boxes_below.result _ _
    (λ more. subst (g.T.BoxSink.adds c.args.out.now.told.now c.boxes_below.new.out.told.now)
    (below_told (nodes c.args.walk.now) c.args.id c.args.seat.now.reps.now c.args.seat.now.reps.now refl (frame_of c.args.spot.now.frame.now) (c.args.spot.now.x, c.args.spot.now.y) c.node_at-node.result.now.name c.moved_by-rect.result c.node_at-node.ensures.name c.moved_by-rect.ensures)
    (g.met.T.BoxSink.adds_both c.args.out.now.told.now c.take.new.self c.boxes_below.new.out.told.now ((c.node_at-node.result.now.name, c.moved_by-rect.result) ∷ [])
    (boxes_seen (nodes c.args.walk.now) c.args.id (frames_asked c.args.seat.now.reps.now c.args.spot.now.frame.now.inline c.args.spot.now.frame.now.block) (c.moved_by-rect.result.x, c.moved_by-rect.result.y)) c.in_ok-take.ensures more))
    c.boxes_below.ensures.value

pub returns-then-not-container-clause-boxed : goal.returns-then-not-container-clause-boxed
returns-then-not-container-clause-boxed g c =
    record {
      laid = inl refl;
      leaves = λ container. absurd (false≢true (sym (kind_is c.node_at-node.result.now.kind (sight_at (nodes c.args.walk.now) c.args.id).label.kind c.is_container-container.result c.node_at-node.ensures.kind c.is_container-container.ensures ∙ c.if-not-container.true) ∙ container));
      paths = λ container. absurd (false≢true (sym (kind_is c.node_at-node.result.now.kind (sight_at (nodes c.args.walk.now) c.args.id).label.kind c.is_container-container.result c.node_at-node.ensures.kind c.is_container-container.ensures ∙ c.if-not-container.true) ∙ container));
    }

pub returns-clause-boxed : goal.returns-clause-boxed
returns-clause-boxed g c =
    ok_then c.boxes_below.result _ _
    (λ (done : IsBoxed (nodes c.args.walk.now) c.args.id (frames_asked c.args.seat.now.reps.now c.args.spot.now.frame.now.inline c.args.spot.now.frame.now.block) (seen g.R.Ruler.log c.args.walk.now) (seen g.R.Ruler.log c.boxes_below.new.walk)). record {
      laid = inr ((kind_is c.node_at-node.result.now.kind (sight_at (nodes c.args.walk.now) c.args.id).label.kind c.is_container-container.result c.node_at-node.ensures.kind c.is_container-container.ensures ∙ c.if-not-container.false), done.laid);
      leaves = λ container. done.leaves;
      paths = λ container. done.paths;
    })
    c.boxes_below.ensures.boxed
