use Rattle.std.proofs.Common.{rules, arith, refl, sym, ap, subst, ◌≡◌, ◌∙◌, ◌+◌, ◌*◌, ◌<◌, ◌≤◌, ◌++◌, ◌∷◌, [], List, true, length, map, inr, false, inl, Some}
use Rattle.std.specs.Prelude.{Option, get_or}
use Rattle.std.proofs.lemmas.Bool.{false≢true}
use Rattle.std.proofs.lemmas.List.{length-map}
use Rattle.lunit.specs.declared.geometry.Rect.{Rect}
use Rattle.placing.specs.Kept.{frame_of, kept_at}
use Rattle.placing.specs.Children.{IsTree}
use Rattle.placing.specs.Nodes.{BareTrees, IsLive, children_at, kids_at, level_at, sight_at, size_at}
use Rattle.placing.specs.Seats.{IsSeat}
use Rattle.placing.specs.declared.contexts.Above.TheVariants as above
use Rattle.placing.specs.declared.node.Frame.{Frame as NodeFrame}
use Rattle.inline_sizes.proofs.Asked.{on_ok}
use Rattle.placing.proofs.Leaves.{on_err}
use Rattle.tree_rules.specs.Answers.{Box, Pair}
use Rattle.tree_rules.specs.Queries.{Fits, is_container}
use Rattle.box_layout.specs.Asking.{frames_asked}
use Rattle.box_layout.specs.Beneath.{AreSeats, AreTelling, HasPairs, IsSeatTo, above_to, pairs_to}
use Rattle.box_layout.specs.BoxesSeen.{AreNear, IsNearAt, boxes_seen, boxes_with, frames_seen, pairs_seen, reach}
use Rattle.box_layout.specs.LastBoxes.{AddsFew, AreFound, IsFound, boxes_now}
use Rattle.box_layout.specs.LeafHeights.{MeasuresBelow}
use Rattle.box_layout.specs.Paths.{AreKeptBelow, IsChildLaid, IsChildPart, its_own}
use Rattle.box_layout.specs.Ranges.{IsWithin}
use Rattle.box_layout.specs.Stands.{IsGivenNear}
use Rattle.box_layout.proofs.BelowSteps.{IsBelow, IsTurn, below_told, child_same, fit_seen, frames_counted, given_some, kind_is, laid_next, leaf_told, near_told, ok_then, part_next, quiet_next, seat_of, seat_to, to_pairs, turn_of, value_next}
use Rattle.box_layout.proofs.BoxSteps.{boxes_all, boxes_are, frames_told}
use Rattle.box_layout.proofs.FoundBoxes.{few_both, few_none}
use Rattle.box_layout.proofs.FoundWalks.{boxes_again, found_more, kept_again, measured_again, still_found}
use Rattle.box_layout.proofs.KeptPaths.{all_done, asked_kept, done_next, none_done, outside_same, own_next}
use Rattle.box_layout.proofs.Lower.{tell_seen}
use Rattle.box_layout.proofs.Seating.{number_there}
use Rattle.box_layout.proofs.LaidWalks.{laid_first, part_first, part_laid}
use Rattle.box_layout.proofs.LeafSteps.{absent_next, all_absent, all_measured, measured_next, none_measured, own_measured, untold}
use Rattle.box_layout.proofs.NearBoxes.{given_spread, long, near_both, stand_seen}
use Rattle.box_layout.specs.Boxed.{IsChildBoxed}
use Rattle.box_layout.proofs.Sinks.{same_sinks, sinks_then}
use Rattle.walker.specs.Walkers.{nodes, seen}
use Rattle.walker.proofs.Parts.{parts_then}
use Rattle.box_layout.proofs.walk.+boxes.Goals as goal

-- ---- one node

pub child_boxes-moved_by-rect-requires-clause-x : goal.child_boxes-moved_by-rect-requires-clause-x
child_boxes-moved_by-rect-requires-clause-x g t c = long (level_at (nodes c.args.walk.now) c.args.id) _ c.requires.near.x

pub child_boxes-moved_by-rect-requires-clause-y : goal.child_boxes-moved_by-rect-requires-clause-y
child_boxes-moved_by-rect-requires-clause-y g t c = long (level_at (nodes c.args.walk.now) c.args.id) _ c.requires.near.y

-- ---- the boxes that were found last

pub child_boxes-returns-in-Some-clause-value : goal.child_boxes-returns-in-Some-clause-value
child_boxes-returns-in-Some-clause-value g t c =
    let found : IsFound (nodes c.args.walk.now) (kept_at c.args.walk.now.tree.now.tree)
    (record { id = c.args.id; query = frames_asked c.pairs_for-reps.result.now c.args.spot.now.frame.now.inline c.args.spot.now.frame.now.block; boxes = c.in-Some.boxes.now }) = c.requires.last c.in-Some.ensures.lasts _
    c.in-Some.ensures.found c.requires.live in
    let same : boxes_now c.in-Some.boxes.now c.moved_by-rect.result ≡
    boxes_with (nodes c.args.walk.now) c.args.id (pairs_to c.args.seats.now (frame_of c.args.spot.now.frame.now)) (frame_of c.args.spot.now.frame.now)
    (c.args.spot.now.x, c.args.spot.now.y) = boxes_again c.boxes_move_along.ensures (nodes c.args.walk.now) (kept_at c.args.walk.now.tree.now.tree) c.args.id
    c.pairs_for-reps.result.now (pairs_to c.args.seats.now (frame_of c.args.spot.now.frame.now)) (to_pairs c.args.seats.now (frame_of c.args.spot.now.frame.now) c.is_lower-lower.result c.is_lower-lower.ensures c.pairs_for-reps.result.now c.pairs_for-reps.ensures) (frame_of c.args.spot.now.frame.now)
    (c.args.spot.now.x, c.args.spot.now.y) c.in-Some.boxes.now c.moved_by-rect.result c.moved_by-rect.ensures found in
    ok_then c.hand_over.result _ _ (subst (g.T.BoxSink.adds c.args.out.now.told.now c.hand_over.new.told) same) c.hand_over.ensures.value

pub child_boxes-returns-in-Some-clause-near : goal.child_boxes-returns-in-Some-clause-near
child_boxes-returns-in-Some-clause-near g t c =
    let found : IsFound (nodes c.args.walk.now) (kept_at c.args.walk.now.tree.now.tree)
    (record { id = c.args.id; query = frames_asked c.pairs_for-reps.result.now c.args.spot.now.frame.now.inline c.args.spot.now.frame.now.block; boxes = c.in-Some.boxes.now }) = c.requires.last c.in-Some.ensures.lasts _
    c.in-Some.ensures.found c.requires.live in
    let same : boxes_now c.in-Some.boxes.now c.moved_by-rect.result ≡
    boxes_with (nodes c.args.walk.now) c.args.id (pairs_to c.args.seats.now (frame_of c.args.spot.now.frame.now)) (frame_of c.args.spot.now.frame.now)
    (c.args.spot.now.x, c.args.spot.now.y) = boxes_again c.boxes_move_along.ensures (nodes c.args.walk.now) (kept_at c.args.walk.now.tree.now.tree) c.args.id
    c.pairs_for-reps.result.now (pairs_to c.args.seats.now (frame_of c.args.spot.now.frame.now)) (to_pairs c.args.seats.now (frame_of c.args.spot.now.frame.now) c.is_lower-lower.result c.is_lower-lower.ensures c.pairs_for-reps.result.now c.pairs_for-reps.ensures) (frame_of c.args.spot.now.frame.now)
    (c.args.spot.now.x, c.args.spot.now.y) c.in-Some.boxes.now c.moved_by-rect.result c.moved_by-rect.ensures found in
    ok_then c.hand_over.result _ _ (subst (AreNear) same) c.hand_over.ensures.near

pub child_boxes-returns-in-Some-clause-few : goal.child_boxes-returns-in-Some-clause-few
child_boxes-returns-in-Some-clause-few g t c =
    let found : IsFound (nodes c.args.walk.now) (kept_at c.args.walk.now.tree.now.tree)
    (record { id = c.args.id; query = frames_asked c.pairs_for-reps.result.now c.args.spot.now.frame.now.inline c.args.spot.now.frame.now.block; boxes = c.in-Some.boxes.now }) = c.requires.last c.in-Some.ensures.lasts _
    c.in-Some.ensures.found c.requires.live in
    let same : boxes_now c.in-Some.boxes.now c.moved_by-rect.result ≡
    boxes_with (nodes c.args.walk.now) c.args.id (pairs_to c.args.seats.now (frame_of c.args.spot.now.frame.now)) (frame_of c.args.spot.now.frame.now)
    (c.args.spot.now.x, c.args.spot.now.y) = boxes_again c.boxes_move_along.ensures (nodes c.args.walk.now) (kept_at c.args.walk.now.tree.now.tree) c.args.id
    c.pairs_for-reps.result.now (pairs_to c.args.seats.now (frame_of c.args.spot.now.frame.now)) (to_pairs c.args.seats.now (frame_of c.args.spot.now.frame.now) c.is_lower-lower.result c.is_lower-lower.ensures c.pairs_for-reps.result.now c.pairs_for-reps.ensures) (frame_of c.args.spot.now.frame.now)
    (c.args.spot.now.x, c.args.spot.now.y) c.in-Some.boxes.now c.moved_by-rect.result c.moved_by-rect.ensures found in
    ok_then c.hand_over.result _ _ (subst (λ (l : List Box). AddsFew l c.args.few.now c.hand_over.new.few) same) c.hand_over.ensures.few

pub child_boxes-returns-in-Some-clause-boxed : goal.child_boxes-returns-in-Some-clause-boxed
child_boxes-returns-in-Some-clause-boxed g t c =
    let found : IsFound (nodes c.args.walk.now) (kept_at c.args.walk.now.tree.now.tree)
    (record { id = c.args.id; query = frames_asked c.pairs_for-reps.result.now c.args.spot.now.frame.now.inline c.args.spot.now.frame.now.block; boxes = c.in-Some.boxes.now }) = c.requires.last c.in-Some.ensures.lasts _
    c.in-Some.ensures.found c.requires.live in
    let all : IsChildBoxed (nodes c.args.walk.now) c.args.id (frames_asked (pairs_to c.args.seats.now (frame_of c.args.spot.now.frame.now)) c.args.spot.now.frame.now.inline c.args.spot.now.frame.now.block) (seen g.R.Ruler.log c.args.walk.now) (seen g.R.Ruler.log c.args.walk.now) =
    record {
      laid = inl refl;
      leaves = λ container. measured_again (nodes c.args.walk.now) c.args.id
          (frames_asked (pairs_to c.args.seats.now (frame_of c.args.spot.now.frame.now)) c.args.spot.now.frame.now.inline c.args.spot.now.frame.now.block) (seen g.R.Ruler.log c.args.walk.now)
          (kept_again (nodes c.args.walk.now) (seen g.R.Ruler.log c.args.walk.now) c.args.id c.pairs_for-reps.result.now (pairs_to c.args.seats.now (frame_of c.args.spot.now.frame.now))
          (to_pairs c.args.seats.now (frame_of c.args.spot.now.frame.now) c.is_lower-lower.result c.is_lower-lower.ensures c.pairs_for-reps.result.now c.pairs_for-reps.ensures) (frame_of c.args.spot.now.frame.now) c.in-Some.boxes.now found);
      paths = λ container.
          kept_again (nodes c.args.walk.now) (seen g.R.Ruler.log c.args.walk.now) c.args.id c.pairs_for-reps.result.now (pairs_to c.args.seats.now (frame_of c.args.spot.now.frame.now))
          (to_pairs c.args.seats.now (frame_of c.args.spot.now.frame.now) c.is_lower-lower.result c.is_lower-lower.ensures c.pairs_for-reps.result.now c.pairs_for-reps.ensures) (frame_of c.args.spot.now.frame.now) c.in-Some.boxes.now found;
    } in
    on_ok _ _ all

pub child_boxes-returns-in-Some-clause-part : goal.child_boxes-returns-in-Some-clause-part
child_boxes-returns-in-Some-clause-part g t c =
    on_err _ _ (inl refl)

-- ---- else

pub child_boxes-returns-then-not-container-clause-value : goal.child_boxes-returns-then-not-container-clause-value
child_boxes-returns-then-not-container-clause-value g t c =
    subst (g.T.BoxSink.adds c.args.out.now.told.now c.tell.new.told)
    (leaf_told (nodes c.args.walk.now) c.args.id (pairs_to c.args.seats.now (frame_of c.args.spot.now.frame.now)) (frame_of c.args.spot.now.frame.now) (c.args.spot.now.x, c.args.spot.now.y) c.node_at-node.result.now.name c.moved_by-rect.result
    (kind_is c.node_at-node.result.now.kind (sight_at (nodes c.args.walk.now) c.args.id).label.kind c.is_container-container.result c.node_at-node.ensures.kind c.is_container-container.ensures ∙ c.if-not-container.true) c.node_at-node.ensures.name c.moved_by-rect.ensures)
    c.in_ok-tell.ensures.value

pub child_boxes-returns-then-not-container-clause-near : goal.child_boxes-returns-then-not-container-clause-near
child_boxes-returns-then-not-container-clause-near g t c =
    subst AreNear
    (leaf_told (nodes c.args.walk.now) c.args.id (pairs_to c.args.seats.now (frame_of c.args.spot.now.frame.now)) (frame_of c.args.spot.now.frame.now) (c.args.spot.now.x, c.args.spot.now.y) c.node_at-node.result.now.name c.moved_by-rect.result
    (kind_is c.node_at-node.result.now.kind (sight_at (nodes c.args.walk.now) c.args.id).label.kind c.is_container-container.result c.node_at-node.ensures.kind c.is_container-container.ensures ∙ c.if-not-container.true) c.node_at-node.ensures.name c.moved_by-rect.ensures)
    ((near_told (level_at (nodes c.args.walk.now) c.args.id) c.args.spot.now.x c.args.spot.now.y (frame_of c.args.spot.now.frame.now) c.moved_by-rect.result c.moved_by-rect.ensures c.requires.near), tt)

pub child_boxes-returns-then-not-container-clause-few : goal.child_boxes-returns-then-not-container-clause-few
child_boxes-returns-then-not-container-clause-few g t c =
    subst (λ (l : List Box). AddsFew l c.args.few.now c.tell.new.few)
    (leaf_told (nodes c.args.walk.now) c.args.id (pairs_to c.args.seats.now (frame_of c.args.spot.now.frame.now)) (frame_of c.args.spot.now.frame.now) (c.args.spot.now.x, c.args.spot.now.y) c.node_at-node.result.now.name c.moved_by-rect.result
    (kind_is c.node_at-node.result.now.kind (sight_at (nodes c.args.walk.now) c.args.id).label.kind c.is_container-container.result c.node_at-node.ensures.kind c.is_container-container.ensures ∙ c.if-not-container.true) c.node_at-node.ensures.name c.moved_by-rect.ensures)
    c.in_ok-tell.ensures.few

pub child_boxes-returns-then-not-container-clause-boxed : goal.child_boxes-returns-then-not-container-clause-boxed
child_boxes-returns-then-not-container-clause-boxed g t c =
    record {
      laid = inl refl;
      leaves = λ container. absurd (false≢true (sym (kind_is c.node_at-node.result.now.kind (sight_at (nodes c.args.walk.now) c.args.id).label.kind c.is_container-container.result c.node_at-node.ensures.kind c.is_container-container.ensures ∙ c.if-not-container.true) ∙ container));
      paths = λ container. absurd (false≢true (sym (kind_is c.node_at-node.result.now.kind (sight_at (nodes c.args.walk.now) c.args.id).label.kind c.is_container-container.result c.node_at-node.ensures.kind c.is_container-container.ensures ∙ c.if-not-container.true) ∙ container));
    }

pub child_boxes-boxes_below-requires : goal.child_boxes-boxes_below-requires
child_boxes-boxes_below-requires g t c =
    let container : is_container (sight_at (nodes c.args.walk.now) c.args.id).label.kind ≡
    true = kind_is c.node_at-node.result.now.kind (sight_at (nodes c.args.walk.now) c.args.id).label.kind c.is_container-container.result c.node_at-node.ensures.kind c.is_container-container.ensures ∙ c.if-not-container.false in
    let fits : Fits (sight_at (nodes c.args.walk.now) c.args.id) (frames_asked c.pairs_for-reps.result.now c.args.spot.now.frame.now.inline c.args.spot.now.frame.now.block) = subst
    (λ (r : List Pair). Fits (sight_at (nodes c.args.walk.now) c.args.id) (frames_asked r c.args.spot.now.frame.now.inline c.args.spot.now.frame.now.block))
    (sym (to_pairs c.args.seats.now (frame_of c.args.spot.now.frame.now) c.is_lower-lower.result c.is_lower-lower.ensures c.pairs_for-reps.result.now c.pairs_for-reps.ensures)) (c.requires.fits container) in
    let seat : IsSeat (sight_at (nodes c.args.walk.now) c.args.id) c.pairs_for-reps.result.now c.above_for.result.now c.area_for.result = seat_to c.args.seats.now (frame_of c.args.spot.now.frame.now) c.is_lower-lower.result c.is_lower-lower.ensures c.pairs_for-reps.result.now
    c.pairs_for-reps.ensures (nodes c.args.walk.now) c.args.id c.args.index c.requires.seat c.above_for.result.now c.above_for.ensures c.area_for.result c.area_for.ensures in
    let level : 1 ≤ level_at (nodes c.args.walk.now) c.args.id = c.requires.level in
    let columns : IsGivenNear (level_at (nodes c.args.walk.now) c.args.id) c.args.spot.now.frame.now.inline = c.requires.near.inline in
    let rows : IsGivenNear (level_at (nodes c.args.walk.now) c.args.id) c.args.spot.now.frame.now.block = c.requires.near.block in
    let x : IsWithin (reach (level_at (nodes c.args.walk.now) c.args.id)) c.moved_by-rect.result.x = subst (λ (r : Rect). IsWithin (reach (level_at (nodes c.args.walk.now) c.args.id)) r.x) (sym c.moved_by-rect.ensures) c.requires.near.x in
    let y : IsWithin (reach (level_at (nodes c.args.walk.now) c.args.id)) c.moved_by-rect.result.y = subst (λ (r : Rect). IsWithin (reach (level_at (nodes c.args.walk.now) c.args.id)) r.y) (sym c.moved_by-rect.ensures) c.requires.near.y in
    let nothing : c.args.nothing.now ≡ above.Nothing = c.requires.nothing in
    let last : c.args.walk.now.tally.now.lost ≡ false → AreFound (nodes c.args.walk.now) (kept_at c.args.walk.now.tree.now.tree) c.args.out.now.last.now = c.requires.last in
    let small : 2 * size_at (nodes c.args.walk.now) c.args.id < 2 * size_at (nodes c.args.walk.now) c.args.id + 1 = omega arith in
    search rules

pub child_boxes-returns-clause-near : goal.child_boxes-returns-clause-near
child_boxes-returns-clause-near g t c =
    subst AreNear
    (below_told (nodes c.args.walk.now) c.args.id c.pairs_for-reps.result.now (pairs_to c.args.seats.now (frame_of c.args.spot.now.frame.now))
    (to_pairs c.args.seats.now (frame_of c.args.spot.now.frame.now) c.is_lower-lower.result c.is_lower-lower.ensures c.pairs_for-reps.result.now c.pairs_for-reps.ensures) (frame_of c.args.spot.now.frame.now) (c.args.spot.now.x, c.args.spot.now.y) c.node_at-node.result.now.name c.moved_by-rect.result
    c.node_at-node.ensures.name c.moved_by-rect.ensures) ((near_told (level_at (nodes c.args.walk.now) c.args.id) c.args.spot.now.x c.args.spot.now.y (frame_of c.args.spot.now.frame.now) c.moved_by-rect.result c.moved_by-rect.ensures c.requires.near), c.in_ok-boxes_below.ensures.near)

pub child_boxes-returns-clause-value : goal.child_boxes-returns-clause-value
child_boxes-returns-clause-value g t c =
    subst (g.T.BoxSink.adds c.args.out.now.told.now c.boxes_below.new.out.told.now)
    (below_told (nodes c.args.walk.now) c.args.id c.pairs_for-reps.result.now (pairs_to c.args.seats.now (frame_of c.args.spot.now.frame.now))
    (to_pairs c.args.seats.now (frame_of c.args.spot.now.frame.now) c.is_lower-lower.result c.is_lower-lower.ensures c.pairs_for-reps.result.now c.pairs_for-reps.ensures) (frame_of c.args.spot.now.frame.now) (c.args.spot.now.x, c.args.spot.now.y) c.node_at-node.result.now.name c.moved_by-rect.result
    c.node_at-node.ensures.name c.moved_by-rect.ensures)
    (g.met.T.BoxSink.adds_both c.args.out.now.told.now c.tell.new.told c.boxes_below.new.out.told.now ((c.node_at-node.result.now.name, c.moved_by-rect.result) ∷ [])
    (boxes_seen (nodes c.args.walk.now) c.args.id (frames_asked c.pairs_for-reps.result.now c.args.spot.now.frame.now.inline c.args.spot.now.frame.now.block) (c.moved_by-rect.result.x, c.moved_by-rect.result.y)) c.in_ok-tell.ensures.value c.in_ok-boxes_below.ensures.value)

pub child_boxes-returns-clause-boxed : goal.child_boxes-returns-clause-boxed
child_boxes-returns-clause-boxed g t c =
    record {
      laid = subst
          (λ (r : List Pair). IsChildLaid (nodes c.args.walk.now) c.args.id (frames_asked r c.args.spot.now.frame.now.inline c.args.spot.now.frame.now.block) (seen g.R.Ruler.log c.args.walk.now)
          (seen g.R.Ruler.log c.boxes_below.new.walk))
          (to_pairs c.args.seats.now (frame_of c.args.spot.now.frame.now) c.is_lower-lower.result c.is_lower-lower.ensures c.pairs_for-reps.result.now c.pairs_for-reps.ensures)
          (inr ((kind_is c.node_at-node.result.now.kind (sight_at (nodes c.args.walk.now) c.args.id).label.kind c.is_container-container.result c.node_at-node.ensures.kind c.is_container-container.ensures ∙ c.if-not-container.false), c.in_ok-boxes_below.ensures.boxed.laid));
      leaves = λ container. subst
          (λ (r : List Pair). MeasuresBelow (nodes c.args.walk.now) c.args.id (frames_asked r c.args.spot.now.frame.now.inline c.args.spot.now.frame.now.block) (seen g.R.Ruler.log c.args.walk.now)
          (seen g.R.Ruler.log c.boxes_below.new.walk))
          (to_pairs c.args.seats.now (frame_of c.args.spot.now.frame.now) c.is_lower-lower.result c.is_lower-lower.ensures c.pairs_for-reps.result.now c.pairs_for-reps.ensures) c.in_ok-boxes_below.ensures.boxed.leaves;
      paths = λ container. subst (λ (r : List Pair). AreKeptBelow (nodes c.args.walk.now) c.args.id (frames_asked r c.args.spot.now.frame.now.inline c.args.spot.now.frame.now.block) (seen g.R.Ruler.log c.boxes_below.new.walk))
          (to_pairs c.args.seats.now (frame_of c.args.spot.now.frame.now) c.is_lower-lower.result c.is_lower-lower.ensures c.pairs_for-reps.result.now c.pairs_for-reps.ensures) c.in_ok-boxes_below.ensures.boxed.paths;
    }

pub child_boxes-returns-in_err-boxes_below-clause-part : goal.child_boxes-returns-in_err-boxes_below-clause-part
child_boxes-returns-in_err-boxes_below-clause-part g t c =
    on_err _ _
    (subst
    (λ (r : List Pair). IsChildPart (nodes c.args.walk.now) c.args.id (frames_asked r c.args.spot.now.frame.now.inline c.args.spot.now.frame.now.block) (seen g.R.Ruler.log c.args.walk.now)
    (seen g.R.Ruler.log c.boxes_below.new.walk))
    (to_pairs c.args.seats.now (frame_of c.args.spot.now.frame.now) c.is_lower-lower.result c.is_lower-lower.ensures c.pairs_for-reps.result.now c.pairs_for-reps.ensures)
    (inr ((kind_is c.node_at-node.result.now.kind (sight_at (nodes c.args.walk.now) c.args.id).label.kind c.is_container-container.result c.node_at-node.ensures.kind c.is_container-container.ensures ∙ c.if-not-container.false), c.in_err-boxes_below.ensures.part)))

pub child_boxes-returns-clause-quiet : goal.child_boxes-returns-clause-quiet
child_boxes-returns-clause-quiet g t c =
    λ kept. c.boxes_below.ensures.quiet
    (subst (λ (r : List Pair). AreKeptBelow (nodes c.args.walk.now) c.args.id (frames_asked r c.args.spot.now.frame.now.inline c.args.spot.now.frame.now.block) (seen g.R.Ruler.log c.args.walk.now))
    (sym (to_pairs c.args.seats.now (frame_of c.args.spot.now.frame.now) c.is_lower-lower.result c.is_lower-lower.ensures c.pairs_for-reps.result.now c.pairs_for-reps.ensures))
    (kept (kind_is c.node_at-node.result.now.kind (sight_at (nodes c.args.walk.now) c.args.id).label.kind c.is_container-container.result c.node_at-node.ensures.kind c.is_container-container.ensures ∙ c.if-not-container.false)))

pub child_boxes-returns-in_err-boxes_below-clause-quiet : goal.child_boxes-returns-in_err-boxes_below-clause-quiet
child_boxes-returns-in_err-boxes_below-clause-quiet g t c =
    λ kept. c.boxes_below.ensures.quiet
    (subst (λ (r : List Pair). AreKeptBelow (nodes c.args.walk.now) c.args.id (frames_asked r c.args.spot.now.frame.now.inline c.args.spot.now.frame.now.block) (seen g.R.Ruler.log c.args.walk.now))
    (sym (to_pairs c.args.seats.now (frame_of c.args.spot.now.frame.now) c.is_lower-lower.result c.is_lower-lower.ensures c.pairs_for-reps.result.now c.pairs_for-reps.ensures))
    (kept (kind_is c.node_at-node.result.now.kind (sight_at (nodes c.args.walk.now) c.args.id).label.kind c.is_container-container.result c.node_at-node.ensures.kind c.is_container-container.ensures ∙ c.if-not-container.false)))

pub child_boxes-returns-clause-few : goal.child_boxes-returns-clause-few
child_boxes-returns-clause-few g t c =
    let seen : AddsFew (boxes_seen (nodes c.args.walk.now) c.args.id (frames_asked c.pairs_for-reps.result.now c.args.spot.now.frame.now.inline c.args.spot.now.frame.now.block) (c.moved_by-rect.result.x, c.moved_by-rect.result.y)) (Some []) c.boxes_below.new.few = subst
    (λ (o : Option (List Box)). AddsFew (boxes_seen (nodes c.args.walk.now) c.args.id (frames_asked c.pairs_for-reps.result.now c.args.spot.now.frame.now.inline c.args.spot.now.frame.now.block) (c.moved_by-rect.result.x, c.moved_by-rect.result.y)) o c.boxes_below.new.few) c.new-own.ensures
    c.in_ok-boxes_below.ensures.few in
    subst (λ (l : List Box). AddsFew l c.args.few.now c.add.new.self)
    (below_told (nodes c.args.walk.now) c.args.id c.pairs_for-reps.result.now (pairs_to c.args.seats.now (frame_of c.args.spot.now.frame.now))
    (to_pairs c.args.seats.now (frame_of c.args.spot.now.frame.now) c.is_lower-lower.result c.is_lower-lower.ensures c.pairs_for-reps.result.now c.pairs_for-reps.ensures) (frame_of c.args.spot.now.frame.now) (c.args.spot.now.x, c.args.spot.now.y) c.node_at-node.result.now.name c.moved_by-rect.result
    c.node_at-node.ensures.name c.moved_by-rect.ensures)
    (few_both ((c.node_at-node.result.now.name, c.moved_by-rect.result) ∷ []) (boxes_seen (nodes c.args.walk.now) c.args.id (frames_asked c.pairs_for-reps.result.now c.args.spot.now.frame.now.inline c.args.spot.now.frame.now.block) (c.moved_by-rect.result.x, c.moved_by-rect.result.y)) c.args.few.now
    c.tell.new.few c.add.new.self c.in_ok-tell.ensures.few (c.add.ensures (boxes_seen (nodes c.args.walk.now) c.args.id (frames_asked c.pairs_for-reps.result.now c.args.spot.now.frame.now.inline c.args.spot.now.frame.now.block) (c.moved_by-rect.result.x, c.moved_by-rect.result.y)) seen))

pub child_boxes-returns-clause-last : goal.child_boxes-returns-clause-last
child_boxes-returns-clause-last g t c =
    let seen : AddsFew (boxes_seen (nodes c.args.walk.now) c.args.id (frames_asked c.pairs_for-reps.result.now c.args.spot.now.frame.now.inline c.args.spot.now.frame.now.block) (c.moved_by-rect.result.x, c.moved_by-rect.result.y)) (Some []) c.boxes_below.new.few = subst
    (λ (o : Option (List Box)). AddsFew (boxes_seen (nodes c.args.walk.now) c.args.id (frames_asked c.pairs_for-reps.result.now c.args.spot.now.frame.now.inline c.args.spot.now.frame.now.block) (c.moved_by-rect.result.x, c.moved_by-rect.result.y)) o c.boxes_below.new.few) c.new-own.ensures
    c.in_ok-boxes_below.ensures.few in
    λ none. found_more (nodes c.args.walk.now) (kept_at c.boxes_below.new.walk.tree.now.tree) c.args.id (frames_asked c.pairs_for-reps.result.now c.args.spot.now.frame.now.inline c.args.spot.now.frame.now.block) c.node_at-node.result.now.name c.moved_by-rect.result c.boxes_below.new.few
    c.boxes_below.new.out.last.now c.keep.new.self (kind_is c.node_at-node.result.now.kind (sight_at (nodes c.args.walk.now) c.args.id).label.kind c.is_container-container.result c.node_at-node.ensures.kind c.is_container-container.ensures ∙ c.if-not-container.false)
    c.node_at-node.ensures.name seen c.in_ok-boxes_below.ensures.boxed.paths c.keep.ensures (c.boxes_below.ensures.last none)

-- ---- below a container

pub boxes_below-frames_at-requires-clause-columns : goal.boxes_below-frames_at-requires-clause-columns
boxes_below-frames_at-requires-clause-columns g t c = given_spread (level_at (nodes c.args.walk.now) c.args.id) c.args.spot.now.frame.now.inline c.requires.columns

pub boxes_below-frames_at-requires-clause-rows : goal.boxes_below-frames_at-requires-clause-rows
boxes_below-frames_at-requires-clause-rows g t c = given_spread (level_at (nodes c.args.walk.now) c.args.id) c.args.spot.now.frame.now.block c.requires.rows

pub boxes_below-returns-in_err-frames-clause-part : goal.boxes_below-returns-in_err-frames-clause-part
boxes_below-returns-in_err-frames-clause-part g t c = on_err _ _ (part_first c.args.id (frames_asked c.args.seat.now.reps.now c.args.spot.now.frame.now.inline c.args.spot.now.frame.now.block) _ _ c.in_err-frames.ensures.stopped)

pub boxes_below-returns-in_err-frames-clause-quiet : goal.boxes_below-returns-in_err-frames-clause-quiet
boxes_below-returns-in_err-frames-clause-quiet g t c = λ kept. c.frames_at.ensures.found
    (kept c.args.id (frames_asked c.args.seat.now.reps.now c.args.spot.now.frame.now.inline c.args.spot.now.frame.now.block) (its_own c.args.id (frames_asked c.args.seat.now.reps.now c.args.spot.now.frame.now.inline c.args.spot.now.frame.now.block)))

pub boxes_below-returns-in_err-frames-clause-last : goal.boxes_below-returns-in_err-frames-clause-last
boxes_below-returns-in_err-frames-clause-last g t c = still_found (nodes c.args.walk.now) c.args.out.now.last.now _ _ c.in_err-frames.ensures.stopped.walk c.requires.last

pub boxes_below-seats_below-requires-clause-live : goal.boxes_below-seats_below-requires-clause-live
boxes_below-seats_below-requires-clause-live g t c = subst (λ (z : BareTrees). IsLive z c.args.id) (sym c.in_ok-frames.ensures.walked.walk.bare_same) c.requires.live

pub boxes_below-seats_below-requires-clause-readable : goal.boxes_below-seats_below-requires-clause-readable
boxes_below-seats_below-requires-clause-readable g t c = c.frames_at.ensures.stands.readable

pub boxes_below-seats_below-requires-clause-reps : goal.boxes_below-seats_below-requires-clause-reps
boxes_below-seats_below-requires-clause-reps g t c = c.requires.fits.reps ∙ ap (λ (z : BareTrees). length (sight_at z c.args.id).chain) (sym c.in_ok-frames.ensures.walked.walk.bare_same)

pub boxes_below-seats_below-requires-clause-seat : goal.boxes_below-seats_below-requires-clause-seat
boxes_below-seats_below-requires-clause-seat g t c = subst (λ (z : BareTrees). IsSeat (sight_at z c.args.id) c.args.seat.now.reps.now c.args.seat.now.above.now c.args.seat.now.area) (sym c.in_ok-frames.ensures.walked.walk.bare_same) c.requires.seat

pub boxes_below-seats_below-requires-clause-width : goal.boxes_below-seats_below-requires-clause-width
boxes_below-seats_below-requires-clause-width g t c = given_some _ _ c.args.spot.now.frame.now.inline c.requires.fits.inline

pub boxes_below-seats_below-requires-clause-tell : goal.boxes_below-seats_below-requires-clause-tell
boxes_below-seats_below-requires-clause-tell g t c =
    subst (λ (z : BareTrees). AreTelling z c.args.id (map frame_of c.as_slice-listed.result.now)) (sym c.in_ok-frames.ensures.walked.walk.bare_same)
    (subst (AreTelling (nodes c.args.walk.now) c.args.id) (frames_told (nodes c.args.walk.now) c.args.id c.args.seat.now.reps.now c.args.spot.now.frame.now.inline c.args.spot.now.frame.now.block c.in_ok-frames.frames c.in_ok-frames.ensures.value ∙ ap (map frame_of) (sym c.as_slice-listed.ensures))
    (tell_seen (nodes c.args.walk.now) c.args.id c.args.seat.now.reps.now c.args.spot.now.frame.now.inline c.args.spot.now.frame.now.block (c.frames_tell_subgrids.ensures c.args.seat.now.reps.now c.args.spot.now.frame.now.inline c.args.spot.now.frame.now.block c.requires.fits)))

pub boxes_below-seats_below-requires-clause-counted : goal.boxes_below-seats_below-requires-clause-counted
boxes_below-seats_below-requires-clause-counted g t c =
    frames_counted (nodes c.args.walk.now) c.args.id c.in_ok-frames.frames c.as_slice-listed.result.now c.in_ok-frames.ensures.children c.as_slice-listed.ensures ∙ ap (λ (z : BareTrees). length (kids_at z c.args.id)) (sym c.in_ok-frames.ensures.walked.walk.bare_same)

pub boxes_below-returns-in_err-seats-clause-part : goal.boxes_below-returns-in_err-seats-clause-part
boxes_below-returns-in_err-seats-clause-part g t c = on_err _ _
    (part_laid c.args.id (frames_asked c.args.seat.now.reps.now c.args.spot.now.frame.now.inline c.args.spot.now.frame.now.block) _ _ (laid_first c.args.id (frames_asked c.args.seat.now.reps.now c.args.spot.now.frame.now.inline c.args.spot.now.frame.now.block) _ _ c.in_ok-frames.ensures.walked))

pub boxes_below-returns-in_err-seats-clause-quiet : goal.boxes_below-returns-in_err-seats-clause-quiet
boxes_below-returns-in_err-seats-clause-quiet g t c = λ kept. c.frames_at.ensures.found
    (kept c.args.id (frames_asked c.args.seat.now.reps.now c.args.spot.now.frame.now.inline c.args.spot.now.frame.now.block) (its_own c.args.id (frames_asked c.args.seat.now.reps.now c.args.spot.now.frame.now.inline c.args.spot.now.frame.now.block)))

pub boxes_below-returns-in_err-seats-clause-last : goal.boxes_below-returns-in_err-seats-clause-last
boxes_below-returns-in_err-seats-clause-last g t c = still_found (nodes c.args.walk.now) c.args.out.now.last.now _ _ c.in_ok-frames.ensures.walked.walk c.requires.last

pub boxes_below-loop-index-init : goal.boxes_below-loop-index-init
boxes_below-loop-index-init g t c =
    record {
      stands = c.frames_at.ensures.stands;
      parts = c.frames_at.ensures.parts;
      sinks = same_sinks c.args.out.now;
      same = c.in_ok-frames.ensures.walked.walk.bare_same;
      laid = laid_first c.args.id (frames_asked c.args.seat.now.reps.now c.args.spot.now.frame.now.inline c.args.spot.now.frame.now.block) _ _ c.in_ok-frames.ensures.walked;
      value = record {
        part = [];
        added = g.met.T.BoxSink.adds_none c.args.out.now.told.now;
        few = few_none c.args.few.now;
        whole = sym (boxes_are (nodes c.args.walk.now) c.args.id (frames_asked c.args.seat.now.reps.now c.args.spot.now.frame.now.inline c.args.spot.now.frame.now.block) (c.args.spot.now.x, c.args.spot.now.y));
        near = tt;
      };
      below = record {
        tree = c.root.ensures.tree;
        seen = frames_told (nodes c.args.walk.now) c.args.id c.args.seat.now.reps.now c.args.spot.now.frame.now.inline c.args.spot.now.frame.now.block c.in_ok-frames.frames c.in_ok-frames.ensures.value ∙ ap (map frame_of) (sym c.as_slice-listed.ensures);
        counted = frames_counted (nodes c.args.walk.now) c.args.id c.in_ok-frames.frames c.as_slice-listed.result.now c.in_ok-frames.ensures.children c.as_slice-listed.ensures;
        stand =
            stand_seen (nodes c.args.walk.now) c.args.id (level_at (nodes c.args.walk.now) c.args.id) c.args.seat.now.reps.now c.args.spot.now.frame.now.inline c.args.spot.now.frame.now.block
            (c.frames_stand_near.ensures (level_at (nodes c.args.walk.now) c.args.id) c.args.seat.now.reps.now c.args.spot.now.frame.now.inline c.args.spot.now.frame.now.block (c.root.ensures.tree.level c.args.id) c.requires.columns c.requires.rows);
        fit = fit_seen (nodes c.args.walk.now) c.args.id c.args.seat.now.reps.now c.args.spot.now.frame.now.inline c.args.spot.now.frame.now.block (c.frames_fit_below.ensures c.args.seat.now.reps.now c.args.spot.now.frame.now.inline c.args.spot.now.frame.now.block c.requires.fits);
        tell = tell_seen (nodes c.args.walk.now) c.args.id c.args.seat.now.reps.now c.args.spot.now.frame.now.inline c.args.spot.now.frame.now.block (c.frames_tell_subgrids.ensures c.args.seat.now.reps.now c.args.spot.now.frame.now.inline c.args.spot.now.frame.now.block c.requires.fits);
        seated = subst (λ (z : BareTrees). AreSeats z c.args.id c.in_ok-seats.seats) c.in_ok-frames.ensures.walked.walk.bare_same c.in_ok-seats.ensures.seats;
        pairs =
            subst (λ (z : BareTrees). HasPairs z c.args.id (frames_asked c.args.seat.now.reps.now c.args.spot.now.frame.now.inline c.args.spot.now.frame.now.block) c.in_ok-seats.seats) c.in_ok-frames.ensures.walked.walk.bare_same
            (c.in_ok-seats.ensures.pairs (frames_asked c.args.seat.now.reps.now c.args.spot.now.frame.now.inline c.args.spot.now.frame.now.block) refl refl);
        some = c.requires.level;
        place_x = c.requires.x;
        place_y = c.requires.y;
      };
      own =
          asked_kept c.args.id (frames_asked c.args.seat.now.reps.now c.args.spot.now.frame.now.inline c.args.spot.now.frame.now.block) (seen g.R.Ruler.log c.args.walk.now)
          (seen g.R.Ruler.log c.frames_at.new.walk) _ c.frames_at.ensures.found c.in_ok-frames.ensures.own;
      done = none_done (nodes c.args.walk.now) c.args.id (frames_asked c.args.seat.now.reps.now c.args.spot.now.frame.now.inline c.args.spot.now.frame.now.block) (seen g.R.Ruler.log c.frames_at.new.walk);
      leaves = c.in_ok-frames.ensures.leaves;
      measured =
          none_measured (nodes c.args.walk.now) c.args.id (frames_asked c.args.seat.now.reps.now c.args.spot.now.frame.now.inline c.args.spot.now.frame.now.block) (seen g.R.Ruler.log c.args.walk.now)
          (seen g.R.Ruler.log c.frames_at.new.walk);
      absent =
          all_absent (nodes c.args.walk.now) c.differ.ensures c.args.id (frames_asked c.args.seat.now.reps.now c.args.spot.now.frame.now.inline c.args.spot.now.frame.now.block) (seen g.R.Ruler.log c.args.walk.now)
          (seen g.R.Ruler.log c.frames_at.new.walk) c.in_ok-frames.ensures.walked;
      last = still_found (nodes c.args.walk.now) c.args.out.now.last.now _ _ c.in_ok-frames.ensures.walked.walk c.requires.last;
      quiet = λ kept. c.frames_at.ensures.found (kept c.args.id (frames_asked c.args.seat.now.reps.now c.args.spot.now.frame.now.inline c.args.spot.now.frame.now.block) (its_own c.args.id (frames_asked c.args.seat.now.reps.now c.args.spot.now.frame.now.inline c.args.spot.now.frame.now.block)));
    }

pub boxes_below-child_of_frame-child-requires-clause-tree : goal.boxes_below-child_of_frame-child-requires-clause-tree
boxes_below-child_of_frame-child-requires-clause-tree g t c = subst IsTree (sym c.loop-index.invariant.same) c.loop-index.invariant.below.tree

pub boxes_below-child_of_frame-child-requires-clause-children : goal.boxes_below-child_of_frame-child-requires-clause-children
boxes_below-child_of_frame-child-requires-clause-children g t c =
    ap (map (λ (f : NodeFrame). f.child)) c.as_slice-listed.ensures ∙ c.in_ok-frames.ensures.children ∙ ap (λ (z : BareTrees). children_at z c.args.id) (sym c.loop-index.invariant.same)

pub boxes_below-child_boxes-requires : goal.boxes_below-child_boxes-requires
boxes_below-child_boxes-requires g t c =
    let turn : IsTurn (nodes c.loop-index.walk) c.args.id (frames_asked c.args.seat.now.reps.now c.args.spot.now.frame.now.inline c.args.spot.now.frame.now.block) c.args.spot.now.x c.args.spot.now.y c.loop-index.index c.child_of_frame-child.result
    (pairs_to c.in_ok-seats.seats (frame_of c.index-listed-index.result))
    (above_to c.in_ok-seats.seats (frame_of c.index-listed-index.result)) (get_or c.in_ok-seats.seats.areas c.loop-index.index c.args.seat.now.area) c.index-listed-index.result = turn_of
    (nodes c.loop-index.walk) c.args.id c.args.seat.now.reps.now c.args.spot.now.frame.now.inline c.args.spot.now.frame.now.block
    c.as_slice-listed.result.now c.in_ok-seats.seats c.args.spot.now.x c.args.spot.now.y
    (subst (λ (z : BareTrees). IsBelow z c.args.id (frames_asked c.args.seat.now.reps.now c.args.spot.now.frame.now.inline c.args.spot.now.frame.now.block) c.as_slice-listed.result.now c.in_ok-seats.seats c.args.spot.now.x c.args.spot.now.y)
    (sym c.loop-index.invariant.same) c.loop-index.invariant.below) c.loop-index.index
    c.child_of_frame-child.result c.child_of_frame-child.ensures
    (omega (arith, c.loop-index-test.true)) c.index-listed-index.result c.index-listed-index.is c.args.seat.now.area in
    let live : IsLive (nodes c.loop-index.walk) c.child_of_frame-child.result = turn.next.live in
    let reps : length (pairs_to c.in_ok-seats.seats (frame_of c.index-listed-index.result)) ≡ length (sight_at (nodes c.loop-index.walk) c.child_of_frame-child.result).chain = turn.counts in
    let seat : IsSeatTo (nodes c.loop-index.walk) c.child_of_frame-child.result c.in_ok-seats.seats c.loop-index.index (frame_of c.index-listed-index.result) = seat_of (nodes c.loop-index.walk) c.args.id c.args.seat.now.reps.now c.args.spot.now.frame.now.inline c.args.spot.now.frame.now.block
    c.as_slice-listed.result.now c.in_ok-seats.seats c.args.spot.now.x c.args.spot.now.y
    (subst (λ (z : BareTrees). IsBelow z c.args.id (frames_asked c.args.seat.now.reps.now c.args.spot.now.frame.now.inline c.args.spot.now.frame.now.block) c.as_slice-listed.result.now c.in_ok-seats.seats c.args.spot.now.x c.args.spot.now.y)
    (sym c.loop-index.invariant.same) c.loop-index.invariant.below) c.loop-index.index
    c.child_of_frame-child.result c.child_of_frame-child.ensures
    (omega (arith, c.loop-index-test.true)) c.index-listed-index.result c.index-listed-index.is in
    let fits : is_container (sight_at (nodes c.loop-index.walk) c.child_of_frame-child.result).label.kind ≡ true →
    Fits (sight_at (nodes c.loop-index.walk) c.child_of_frame-child.result) (frames_asked (pairs_to c.in_ok-seats.seats (frame_of c.index-listed-index.result)) c.index-listed-index.result.inline c.index-listed-index.result.block) = turn.fits in
    let level : 1 ≤ level_at (nodes c.loop-index.walk) c.child_of_frame-child.result = turn.level in
    let near : IsNearAt (level_at (nodes c.loop-index.walk) c.child_of_frame-child.result) c.args.spot.now.x c.args.spot.now.y (frame_of c.index-listed-index.result) = turn.near in
    let nothing : c.args.nothing.now ≡ above.Nothing = c.requires.nothing in
    let last : c.loop-index.walk.tally.now.lost ≡ false →
    AreFound (nodes c.loop-index.walk) (kept_at c.loop-index.walk.tree.now.tree) c.loop-index.out.last.now = λ none. subst (λ (z : BareTrees). AreFound z (kept_at c.loop-index.walk.tree.now.tree) c.loop-index.out.last.now) (sym c.loop-index.invariant.same) (c.loop-index.invariant.last none) in
    let small : 2 * size_at (nodes c.loop-index.walk) c.child_of_frame-child.result + 1 < 2 * size_at (nodes c.args.walk.now) c.args.id = omega (arith, turn.next.smaller, ap (λ (z : BareTrees). size_at z c.args.id) c.loop-index.invariant.same) in
    search rules

pub boxes_below-returns-in_err-child_boxes-clause-part : goal.boxes_below-returns-in_err-child_boxes-clause-part
boxes_below-returns-in_err-child_boxes-clause-part g t c =
    let turn : IsTurn (nodes c.loop-index.walk) c.args.id (frames_asked c.args.seat.now.reps.now c.args.spot.now.frame.now.inline c.args.spot.now.frame.now.block) c.args.spot.now.x c.args.spot.now.y c.loop-index.index c.child_of_frame-child.result
    (pairs_to c.in_ok-seats.seats (frame_of c.index-listed-index.result))
    (above_to c.in_ok-seats.seats (frame_of c.index-listed-index.result)) (get_or c.in_ok-seats.seats.areas c.loop-index.index c.args.seat.now.area) c.index-listed-index.result = turn_of
    (nodes c.loop-index.walk) c.args.id c.args.seat.now.reps.now c.args.spot.now.frame.now.inline c.args.spot.now.frame.now.block
    c.as_slice-listed.result.now c.in_ok-seats.seats c.args.spot.now.x c.args.spot.now.y
    (subst (λ (z : BareTrees). IsBelow z c.args.id (frames_asked c.args.seat.now.reps.now c.args.spot.now.frame.now.inline c.args.spot.now.frame.now.block) c.as_slice-listed.result.now c.in_ok-seats.seats c.args.spot.now.x c.args.spot.now.y)
    (sym c.loop-index.invariant.same) c.loop-index.invariant.below) c.loop-index.index
    c.child_of_frame-child.result c.child_of_frame-child.ensures
    (omega (arith, c.loop-index-test.true)) c.index-listed-index.result c.index-listed-index.is c.args.seat.now.area in
    on_err _ _
    (part_next (nodes c.args.walk.now) (nodes c.loop-index.walk) c.loop-index.invariant.same c.args.id (frames_asked c.args.seat.now.reps.now c.args.spot.now.frame.now.inline c.args.spot.now.frame.now.block) c.args.spot.now.x c.args.spot.now.y c.loop-index.index c.child_of_frame-child.result
    (pairs_to c.in_ok-seats.seats (frame_of c.index-listed-index.result)) (above_to c.in_ok-seats.seats (frame_of c.index-listed-index.result)) (get_or c.in_ok-seats.seats.areas c.loop-index.index c.args.seat.now.area) c.index-listed-index.result turn
    (seen g.R.Ruler.log c.args.walk.now) (seen g.R.Ruler.log c.loop-index.walk)
    (seen g.R.Ruler.log c.child_boxes.new.walk) refl c.loop-index.invariant.laid c.in_err-child_boxes.ensures.part)

pub boxes_below-returns-in_err-child_boxes-clause-quiet : goal.boxes_below-returns-in_err-child_boxes-clause-quiet
boxes_below-returns-in_err-child_boxes-clause-quiet g t c =
    let turn : IsTurn (nodes c.loop-index.walk) c.args.id (frames_asked c.args.seat.now.reps.now c.args.spot.now.frame.now.inline c.args.spot.now.frame.now.block) c.args.spot.now.x c.args.spot.now.y c.loop-index.index c.child_of_frame-child.result
    (pairs_to c.in_ok-seats.seats (frame_of c.index-listed-index.result))
    (above_to c.in_ok-seats.seats (frame_of c.index-listed-index.result)) (get_or c.in_ok-seats.seats.areas c.loop-index.index c.args.seat.now.area) c.index-listed-index.result = turn_of
    (nodes c.loop-index.walk) c.args.id c.args.seat.now.reps.now c.args.spot.now.frame.now.inline c.args.spot.now.frame.now.block
    c.as_slice-listed.result.now c.in_ok-seats.seats c.args.spot.now.x c.args.spot.now.y
    (subst (λ (z : BareTrees). IsBelow z c.args.id (frames_asked c.args.seat.now.reps.now c.args.spot.now.frame.now.inline c.args.spot.now.frame.now.block) c.as_slice-listed.result.now c.in_ok-seats.seats c.args.spot.now.x c.args.spot.now.y)
    (sym c.loop-index.invariant.same) c.loop-index.invariant.below) c.loop-index.index
    c.child_of_frame-child.result c.child_of_frame-child.ensures
    (omega (arith, c.loop-index-test.true)) c.index-listed-index.result c.index-listed-index.is c.args.seat.now.area in
    quiet_next (nodes c.args.walk.now) (nodes c.loop-index.walk) c.loop-index.invariant.same c.args.id (frames_asked c.args.seat.now.reps.now c.args.spot.now.frame.now.inline c.args.spot.now.frame.now.block) c.args.spot.now.x c.args.spot.now.y c.loop-index.index c.child_of_frame-child.result
    (pairs_to c.in_ok-seats.seats (frame_of c.index-listed-index.result)) (above_to c.in_ok-seats.seats (frame_of c.index-listed-index.result)) (get_or c.in_ok-seats.seats.areas c.loop-index.index c.args.seat.now.area) c.index-listed-index.result turn
    (seen g.R.Ruler.log c.args.walk.now) (seen g.R.Ruler.log c.loop-index.walk)
    (seen g.R.Ruler.log c.child_boxes.new.walk) c.loop-index.invariant.quiet c.child_boxes.ensures.quiet

pub boxes_below-returns-in_err-child_boxes-clause-last : goal.boxes_below-returns-in_err-child_boxes-clause-last
boxes_below-returns-in_err-child_boxes-clause-last g t c =
    λ none. subst (λ (z : BareTrees). AreFound z (kept_at c.child_boxes.new.walk.tree.now.tree) c.child_boxes.new.out.last.now) c.loop-index.invariant.same (c.child_boxes.ensures.last none)

pub boxes_below-loop-index-preserved : goal.boxes_below-loop-index-preserved
boxes_below-loop-index-preserved g t c =
    let turn : IsTurn (nodes c.loop-index.walk) c.args.id (frames_asked c.args.seat.now.reps.now c.args.spot.now.frame.now.inline c.args.spot.now.frame.now.block) c.args.spot.now.x c.args.spot.now.y c.loop-index.index c.child_of_frame-child.result
    (pairs_to c.in_ok-seats.seats (frame_of c.index-listed-index.result))
    (above_to c.in_ok-seats.seats (frame_of c.index-listed-index.result)) (get_or c.in_ok-seats.seats.areas c.loop-index.index c.args.seat.now.area) c.index-listed-index.result = turn_of
    (nodes c.loop-index.walk) c.args.id c.args.seat.now.reps.now c.args.spot.now.frame.now.inline c.args.spot.now.frame.now.block
    c.as_slice-listed.result.now c.in_ok-seats.seats c.args.spot.now.x c.args.spot.now.y
    (subst (λ (z : BareTrees). IsBelow z c.args.id (frames_asked c.args.seat.now.reps.now c.args.spot.now.frame.now.inline c.args.spot.now.frame.now.block) c.as_slice-listed.result.now c.in_ok-seats.seats c.args.spot.now.x c.args.spot.now.y)
    (sym c.loop-index.invariant.same) c.loop-index.invariant.below) c.loop-index.index
    c.child_of_frame-child.result c.child_of_frame-child.ensures
    (omega (arith, c.loop-index-test.true)) c.index-listed-index.result c.index-listed-index.is c.args.seat.now.area in
    record {
      stands = c.child_boxes.ensures.stands;
      parts = parts_then _ _ _ c.loop-index.invariant.parts c.child_boxes.ensures.parts;
      sinks = sinks_then _ _ _ c.loop-index.invariant.sinks c.child_boxes.ensures.sinks;
      same = child_same (nodes c.loop-index.walk) c.child_of_frame-child.result _ _ _ c.in_ok-child_boxes.ensures.boxed.laid ∙ c.loop-index.invariant.same;
      laid =
          laid_next (nodes c.args.walk.now) (nodes c.loop-index.walk) c.loop-index.invariant.same c.args.id (frames_asked c.args.seat.now.reps.now c.args.spot.now.frame.now.inline c.args.spot.now.frame.now.block) c.args.spot.now.x c.args.spot.now.y c.loop-index.index c.child_of_frame-child.result
          (pairs_to c.in_ok-seats.seats (frame_of c.index-listed-index.result)) (above_to c.in_ok-seats.seats (frame_of c.index-listed-index.result)) (get_or c.in_ok-seats.seats.areas c.loop-index.index c.args.seat.now.area) c.index-listed-index.result turn
          (seen g.R.Ruler.log c.args.walk.now) (seen g.R.Ruler.log c.loop-index.walk)
          (seen g.R.Ruler.log c.child_boxes.new.walk) refl c.loop-index.invariant.laid c.in_ok-child_boxes.ensures.boxed.laid;
      value = record {
        part = c.loop-index.invariant.value.part ++ (boxes_with (nodes c.loop-index.walk) c.child_of_frame-child.result (pairs_to c.in_ok-seats.seats (frame_of c.index-listed-index.result)) (frame_of c.index-listed-index.result) (c.args.spot.now.x, c.args.spot.now.y));
        added =
            g.met.T.BoxSink.adds_both c.args.out.now.told.now c.loop-index.out.told.now c.child_boxes.new.out.told.now c.loop-index.invariant.value.part
            (boxes_with (nodes c.loop-index.walk) c.child_of_frame-child.result (pairs_to c.in_ok-seats.seats (frame_of c.index-listed-index.result)) (frame_of c.index-listed-index.result) (c.args.spot.now.x, c.args.spot.now.y)) c.loop-index.invariant.value.added c.in_ok-child_boxes.ensures.value;
        few =
            few_both c.loop-index.invariant.value.part (boxes_with (nodes c.loop-index.walk) c.child_of_frame-child.result (pairs_to c.in_ok-seats.seats (frame_of c.index-listed-index.result)) (frame_of c.index-listed-index.result) (c.args.spot.now.x, c.args.spot.now.y)) c.args.few.now
            c.loop-index.few c.child_boxes.new.few c.loop-index.invariant.value.few c.in_ok-child_boxes.ensures.few;
        whole =
            value_next (nodes c.args.walk.now) (nodes c.loop-index.walk) c.loop-index.invariant.same c.args.id (frames_asked c.args.seat.now.reps.now c.args.spot.now.frame.now.inline c.args.spot.now.frame.now.block) c.args.spot.now.x c.args.spot.now.y c.loop-index.index c.child_of_frame-child.result
            (pairs_to c.in_ok-seats.seats (frame_of c.index-listed-index.result)) (above_to c.in_ok-seats.seats (frame_of c.index-listed-index.result)) (get_or c.in_ok-seats.seats.areas c.loop-index.index c.args.seat.now.area) c.index-listed-index.result turn c.loop-index.invariant.value.part
            (c.loop-index.invariant.value.part ++ (boxes_with (nodes c.loop-index.walk) c.child_of_frame-child.result (pairs_to c.in_ok-seats.seats (frame_of c.index-listed-index.result)) (frame_of c.index-listed-index.result) (c.args.spot.now.x, c.args.spot.now.y))) _ refl
            c.loop-index.invariant.value.whole;
        near =
            near_both c.loop-index.invariant.value.part (boxes_with (nodes c.loop-index.walk) c.child_of_frame-child.result (pairs_to c.in_ok-seats.seats (frame_of c.index-listed-index.result)) (frame_of c.index-listed-index.result) (c.args.spot.now.x, c.args.spot.now.y))
            c.loop-index.invariant.value.near c.in_ok-child_boxes.ensures.near;
      };
      below = c.loop-index.invariant.below;
      own =
          own_next (nodes c.args.walk.now) c.differ.ensures c.args.id c.args.seat.now.reps.now c.args.spot.now.frame.now.inline c.args.spot.now.frame.now.block c.args.spot.now.x c.args.spot.now.y c.loop-index.index c.child_of_frame-child.result
          (pairs_to c.in_ok-seats.seats (frame_of c.index-listed-index.result))
          (above_to c.in_ok-seats.seats (frame_of c.index-listed-index.result)) (get_or c.in_ok-seats.seats.areas c.loop-index.index c.args.seat.now.area) c.index-listed-index.result
          (subst
          (λ (z : BareTrees). IsTurn z c.args.id (frames_asked c.args.seat.now.reps.now c.args.spot.now.frame.now.inline c.args.spot.now.frame.now.block) c.args.spot.now.x c.args.spot.now.y c.loop-index.index c.child_of_frame-child.result
          (pairs_to c.in_ok-seats.seats (frame_of c.index-listed-index.result))
          (above_to c.in_ok-seats.seats (frame_of c.index-listed-index.result)) (get_or c.in_ok-seats.seats.areas c.loop-index.index c.args.seat.now.area) c.index-listed-index.result) c.loop-index.invariant.same turn)
          (seen g.R.Ruler.log c.loop-index.walk) (seen g.R.Ruler.log c.child_boxes.new.walk)
          (outside_same (nodes c.args.walk.now) c.child_of_frame-child.result (frames_asked (pairs_to c.in_ok-seats.seats (frame_of c.index-listed-index.result)) c.index-listed-index.result.inline c.index-listed-index.result.block)
          (seen g.R.Ruler.log c.loop-index.walk) (seen g.R.Ruler.log c.child_boxes.new.walk) c.loop-index.invariant.same
          (subst
          (λ (z : BareTrees). IsChildLaid z c.child_of_frame-child.result (frames_asked (pairs_to c.in_ok-seats.seats (frame_of c.index-listed-index.result)) c.index-listed-index.result.inline c.index-listed-index.result.block)
          (seen g.R.Ruler.log c.loop-index.walk) (seen g.R.Ruler.log c.child_boxes.new.walk)) c.loop-index.invariant.same
          c.in_ok-child_boxes.ensures.boxed.laid)) (frames_asked c.args.seat.now.reps.now c.args.spot.now.frame.now.inline c.args.spot.now.frame.now.block) c.loop-index.invariant.own;
      done =
          done_next (nodes c.args.walk.now) c.differ.ensures c.args.id c.args.seat.now.reps.now c.args.spot.now.frame.now.inline c.args.spot.now.frame.now.block c.args.spot.now.x c.args.spot.now.y c.loop-index.index c.child_of_frame-child.result
          (pairs_to c.in_ok-seats.seats (frame_of c.index-listed-index.result))
          (above_to c.in_ok-seats.seats (frame_of c.index-listed-index.result)) (get_or c.in_ok-seats.seats.areas c.loop-index.index c.args.seat.now.area) c.index-listed-index.result
          (subst
          (λ (z : BareTrees). IsTurn z c.args.id (frames_asked c.args.seat.now.reps.now c.args.spot.now.frame.now.inline c.args.spot.now.frame.now.block) c.args.spot.now.x c.args.spot.now.y c.loop-index.index c.child_of_frame-child.result
          (pairs_to c.in_ok-seats.seats (frame_of c.index-listed-index.result))
          (above_to c.in_ok-seats.seats (frame_of c.index-listed-index.result)) (get_or c.in_ok-seats.seats.areas c.loop-index.index c.args.seat.now.area) c.index-listed-index.result) c.loop-index.invariant.same turn)
          (seen g.R.Ruler.log c.loop-index.walk) (seen g.R.Ruler.log c.child_boxes.new.walk)
          (outside_same (nodes c.args.walk.now) c.child_of_frame-child.result (frames_asked (pairs_to c.in_ok-seats.seats (frame_of c.index-listed-index.result)) c.index-listed-index.result.inline c.index-listed-index.result.block)
          (seen g.R.Ruler.log c.loop-index.walk) (seen g.R.Ruler.log c.child_boxes.new.walk) c.loop-index.invariant.same
          (subst
          (λ (z : BareTrees). IsChildLaid z c.child_of_frame-child.result (frames_asked (pairs_to c.in_ok-seats.seats (frame_of c.index-listed-index.result)) c.index-listed-index.result.inline c.index-listed-index.result.block)
          (seen g.R.Ruler.log c.loop-index.walk) (seen g.R.Ruler.log c.child_boxes.new.walk)) c.loop-index.invariant.same
          c.in_ok-child_boxes.ensures.boxed.laid)) c.loop-index.invariant.done
          (subst (λ (z : BareTrees). is_container (sight_at z c.child_of_frame-child.result).label.kind ≡ true →
          AreKeptBelow z c.child_of_frame-child.result (frames_asked (pairs_to c.in_ok-seats.seats (frame_of c.index-listed-index.result)) c.index-listed-index.result.inline c.index-listed-index.result.block)
          (seen g.R.Ruler.log c.child_boxes.new.walk)) c.loop-index.invariant.same c.in_ok-child_boxes.ensures.boxed.paths);
      leaves =
          own_measured (nodes c.args.walk.now) c.differ.ensures c.args.id c.args.seat.now.reps.now c.args.spot.now.frame.now.inline c.args.spot.now.frame.now.block c.args.spot.now.x c.args.spot.now.y c.loop-index.index c.child_of_frame-child.result
          (pairs_to c.in_ok-seats.seats (frame_of c.index-listed-index.result))
          (above_to c.in_ok-seats.seats (frame_of c.index-listed-index.result)) (get_or c.in_ok-seats.seats.areas c.loop-index.index c.args.seat.now.area) c.index-listed-index.result
          (subst
          (λ (z : BareTrees). IsTurn z c.args.id (frames_asked c.args.seat.now.reps.now c.args.spot.now.frame.now.inline c.args.spot.now.frame.now.block) c.args.spot.now.x c.args.spot.now.y c.loop-index.index c.child_of_frame-child.result
          (pairs_to c.in_ok-seats.seats (frame_of c.index-listed-index.result))
          (above_to c.in_ok-seats.seats (frame_of c.index-listed-index.result)) (get_or c.in_ok-seats.seats.areas c.loop-index.index c.args.seat.now.area) c.index-listed-index.result) c.loop-index.invariant.same turn)
          (seen g.R.Ruler.log c.args.walk.now) (seen g.R.Ruler.log c.loop-index.walk)
          (seen g.R.Ruler.log c.child_boxes.new.walk)
          (outside_same (nodes c.args.walk.now) c.child_of_frame-child.result (frames_asked (pairs_to c.in_ok-seats.seats (frame_of c.index-listed-index.result)) c.index-listed-index.result.inline c.index-listed-index.result.block)
          (seen g.R.Ruler.log c.loop-index.walk) (seen g.R.Ruler.log c.child_boxes.new.walk) c.loop-index.invariant.same
          (subst
          (λ (z : BareTrees). IsChildLaid z c.child_of_frame-child.result (frames_asked (pairs_to c.in_ok-seats.seats (frame_of c.index-listed-index.result)) c.index-listed-index.result.inline c.index-listed-index.result.block)
          (seen g.R.Ruler.log c.loop-index.walk) (seen g.R.Ruler.log c.child_boxes.new.walk)) c.loop-index.invariant.same
          c.in_ok-child_boxes.ensures.boxed.laid))
          (untold (nodes c.args.walk.now) c.child_of_frame-child.result (frames_asked (pairs_to c.in_ok-seats.seats (frame_of c.index-listed-index.result)) c.index-listed-index.result.inline c.index-listed-index.result.block)
          (seen g.R.Ruler.log c.loop-index.walk) (seen g.R.Ruler.log c.child_boxes.new.walk)
          (subst
          (λ (z : BareTrees). IsChildLaid z c.child_of_frame-child.result (frames_asked (pairs_to c.in_ok-seats.seats (frame_of c.index-listed-index.result)) c.index-listed-index.result.inline c.index-listed-index.result.block)
          (seen g.R.Ruler.log c.loop-index.walk) (seen g.R.Ruler.log c.child_boxes.new.walk)) c.loop-index.invariant.same
          c.in_ok-child_boxes.ensures.boxed.laid)) c.loop-index.invariant.leaves;
      measured =
          measured_next (nodes c.args.walk.now) c.differ.ensures c.args.id c.args.seat.now.reps.now c.args.spot.now.frame.now.inline c.args.spot.now.frame.now.block c.args.spot.now.x c.args.spot.now.y c.loop-index.index c.child_of_frame-child.result
          (pairs_to c.in_ok-seats.seats (frame_of c.index-listed-index.result))
          (above_to c.in_ok-seats.seats (frame_of c.index-listed-index.result)) (get_or c.in_ok-seats.seats.areas c.loop-index.index c.args.seat.now.area) c.index-listed-index.result
          (subst
          (λ (z : BareTrees). IsTurn z c.args.id (frames_asked c.args.seat.now.reps.now c.args.spot.now.frame.now.inline c.args.spot.now.frame.now.block) c.args.spot.now.x c.args.spot.now.y c.loop-index.index c.child_of_frame-child.result
          (pairs_to c.in_ok-seats.seats (frame_of c.index-listed-index.result))
          (above_to c.in_ok-seats.seats (frame_of c.index-listed-index.result)) (get_or c.in_ok-seats.seats.areas c.loop-index.index c.args.seat.now.area) c.index-listed-index.result) c.loop-index.invariant.same turn)
          (seen g.R.Ruler.log c.args.walk.now) (seen g.R.Ruler.log c.loop-index.walk)
          (seen g.R.Ruler.log c.child_boxes.new.walk)
          (outside_same (nodes c.args.walk.now) c.child_of_frame-child.result (frames_asked (pairs_to c.in_ok-seats.seats (frame_of c.index-listed-index.result)) c.index-listed-index.result.inline c.index-listed-index.result.block)
          (seen g.R.Ruler.log c.loop-index.walk) (seen g.R.Ruler.log c.child_boxes.new.walk) c.loop-index.invariant.same
          (subst
          (λ (z : BareTrees). IsChildLaid z c.child_of_frame-child.result (frames_asked (pairs_to c.in_ok-seats.seats (frame_of c.index-listed-index.result)) c.index-listed-index.result.inline c.index-listed-index.result.block)
          (seen g.R.Ruler.log c.loop-index.walk) (seen g.R.Ruler.log c.child_boxes.new.walk)) c.loop-index.invariant.same
          c.in_ok-child_boxes.ensures.boxed.laid)) c.loop-index.invariant.measured c.loop-index.invariant.absent
          (subst (λ (z : BareTrees). is_container (sight_at z c.child_of_frame-child.result).label.kind ≡ true →
          MeasuresBelow z c.child_of_frame-child.result (frames_asked (pairs_to c.in_ok-seats.seats (frame_of c.index-listed-index.result)) c.index-listed-index.result.inline c.index-listed-index.result.block)
          (seen g.R.Ruler.log c.loop-index.walk) (seen g.R.Ruler.log c.child_boxes.new.walk)) c.loop-index.invariant.same c.in_ok-child_boxes.ensures.boxed.leaves);
      absent =
          absent_next (nodes c.args.walk.now) c.differ.ensures c.args.id c.args.seat.now.reps.now c.args.spot.now.frame.now.inline c.args.spot.now.frame.now.block c.args.spot.now.x c.args.spot.now.y c.loop-index.index c.child_of_frame-child.result
          (pairs_to c.in_ok-seats.seats (frame_of c.index-listed-index.result))
          (above_to c.in_ok-seats.seats (frame_of c.index-listed-index.result)) (get_or c.in_ok-seats.seats.areas c.loop-index.index c.args.seat.now.area) c.index-listed-index.result
          (subst
          (λ (z : BareTrees). IsTurn z c.args.id (frames_asked c.args.seat.now.reps.now c.args.spot.now.frame.now.inline c.args.spot.now.frame.now.block) c.args.spot.now.x c.args.spot.now.y c.loop-index.index c.child_of_frame-child.result
          (pairs_to c.in_ok-seats.seats (frame_of c.index-listed-index.result))
          (above_to c.in_ok-seats.seats (frame_of c.index-listed-index.result)) (get_or c.in_ok-seats.seats.areas c.loop-index.index c.args.seat.now.area) c.index-listed-index.result) c.loop-index.invariant.same turn)
          (seen g.R.Ruler.log c.args.walk.now) (seen g.R.Ruler.log c.loop-index.walk)
          (seen g.R.Ruler.log c.child_boxes.new.walk)
          (outside_same (nodes c.args.walk.now) c.child_of_frame-child.result (frames_asked (pairs_to c.in_ok-seats.seats (frame_of c.index-listed-index.result)) c.index-listed-index.result.inline c.index-listed-index.result.block)
          (seen g.R.Ruler.log c.loop-index.walk) (seen g.R.Ruler.log c.child_boxes.new.walk) c.loop-index.invariant.same
          (subst
          (λ (z : BareTrees). IsChildLaid z c.child_of_frame-child.result (frames_asked (pairs_to c.in_ok-seats.seats (frame_of c.index-listed-index.result)) c.index-listed-index.result.inline c.index-listed-index.result.block)
          (seen g.R.Ruler.log c.loop-index.walk) (seen g.R.Ruler.log c.child_boxes.new.walk)) c.loop-index.invariant.same
          c.in_ok-child_boxes.ensures.boxed.laid)) c.loop-index.invariant.absent;
      last = λ none. subst (λ (z : BareTrees). AreFound z (kept_at c.child_boxes.new.walk.tree.now.tree) c.child_boxes.new.out.last.now) c.loop-index.invariant.same (c.child_boxes.ensures.last none);
      quiet =
          quiet_next (nodes c.args.walk.now) (nodes c.loop-index.walk) c.loop-index.invariant.same c.args.id (frames_asked c.args.seat.now.reps.now c.args.spot.now.frame.now.inline c.args.spot.now.frame.now.block) c.args.spot.now.x c.args.spot.now.y c.loop-index.index c.child_of_frame-child.result
          (pairs_to c.in_ok-seats.seats (frame_of c.index-listed-index.result)) (above_to c.in_ok-seats.seats (frame_of c.index-listed-index.result)) (get_or c.in_ok-seats.seats.areas c.loop-index.index c.args.seat.now.area) c.index-listed-index.result turn
          (seen g.R.Ruler.log c.args.walk.now) (seen g.R.Ruler.log c.loop-index.walk)
          (seen g.R.Ruler.log c.child_boxes.new.walk) c.loop-index.invariant.quiet c.child_boxes.ensures.quiet;
    }

pub boxes_below-returns-clause-value : goal.boxes_below-returns-clause-value
boxes_below-returns-clause-value g t c =
    let few : length (frames_seen (nodes c.args.walk.now) c.args.id (frames_asked c.args.seat.now.reps.now c.args.spot.now.frame.now.inline c.args.spot.now.frame.now.block)) ≤ c.loop-index.index = omega
    (arith, ap length c.loop-index.invariant.below.seen, length-map c.as_slice-listed.result.now frame_of, c.loop-index-test.false) in
    subst (g.T.BoxSink.adds c.args.out.now.told.now c.loop-index.out.told.now)
    (boxes_all (pairs_seen (nodes c.args.walk.now) c.args.id (frames_asked c.args.seat.now.reps.now c.args.spot.now.frame.now.inline c.args.spot.now.frame.now.block)) (c.args.spot.now.x, c.args.spot.now.y) (kids_at (nodes c.args.walk.now) c.args.id)
    (frames_seen (nodes c.args.walk.now) c.args.id (frames_asked c.args.seat.now.reps.now c.args.spot.now.frame.now.inline c.args.spot.now.frame.now.block)) c.loop-index.index c.loop-index.invariant.value.part _ few c.loop-index.invariant.value.whole) c.loop-index.invariant.value.added

pub boxes_below-returns-clause-near : goal.boxes_below-returns-clause-near
boxes_below-returns-clause-near g t c =
    let few : length (frames_seen (nodes c.args.walk.now) c.args.id (frames_asked c.args.seat.now.reps.now c.args.spot.now.frame.now.inline c.args.spot.now.frame.now.block)) ≤ c.loop-index.index = omega
    (arith, ap length c.loop-index.invariant.below.seen, length-map c.as_slice-listed.result.now frame_of, c.loop-index-test.false) in
    subst AreNear
    (boxes_all (pairs_seen (nodes c.args.walk.now) c.args.id (frames_asked c.args.seat.now.reps.now c.args.spot.now.frame.now.inline c.args.spot.now.frame.now.block)) (c.args.spot.now.x, c.args.spot.now.y) (kids_at (nodes c.args.walk.now) c.args.id)
    (frames_seen (nodes c.args.walk.now) c.args.id (frames_asked c.args.seat.now.reps.now c.args.spot.now.frame.now.inline c.args.spot.now.frame.now.block)) c.loop-index.index c.loop-index.invariant.value.part _ few c.loop-index.invariant.value.whole) c.loop-index.invariant.value.near

pub boxes_below-returns-clause-few : goal.boxes_below-returns-clause-few
boxes_below-returns-clause-few g t c =
    let ended : length (frames_seen (nodes c.args.walk.now) c.args.id (frames_asked c.args.seat.now.reps.now c.args.spot.now.frame.now.inline c.args.spot.now.frame.now.block)) ≤ c.loop-index.index = omega
    (arith, ap length c.loop-index.invariant.below.seen, length-map c.as_slice-listed.result.now frame_of, c.loop-index-test.false) in
    subst (λ (l : List Box). AddsFew l c.args.few.now c.loop-index.few)
    (boxes_all (pairs_seen (nodes c.args.walk.now) c.args.id (frames_asked c.args.seat.now.reps.now c.args.spot.now.frame.now.inline c.args.spot.now.frame.now.block)) (c.args.spot.now.x, c.args.spot.now.y) (kids_at (nodes c.args.walk.now) c.args.id)
    (frames_seen (nodes c.args.walk.now) c.args.id (frames_asked c.args.seat.now.reps.now c.args.spot.now.frame.now.inline c.args.spot.now.frame.now.block)) c.loop-index.index c.loop-index.invariant.value.part _ ended c.loop-index.invariant.value.whole) c.loop-index.invariant.value.few

pub boxes_below-returns-clause-last : goal.boxes_below-returns-clause-last
boxes_below-returns-clause-last g t c = c.loop-index.invariant.last

pub boxes_below-returns-clause-boxed : goal.boxes_below-returns-clause-boxed
boxes_below-returns-clause-boxed g t c =
    record {
      laid = c.loop-index.invariant.laid;
      leaves = all_measured (nodes c.args.walk.now) c.args.id (frames_asked c.args.seat.now.reps.now c.args.spot.now.frame.now.inline c.args.spot.now.frame.now.block) (seen g.R.Ruler.log c.args.walk.now)
          (seen g.R.Ruler.log c.loop-index.walk) c.loop-index.invariant.leaves
          (λ k e r child passed. c.loop-index.invariant.measured k e r (omega (arith, number_there (nodes c.args.walk.now) c.args.id e k c.root.ensures.tree child, c.loop-index.invariant.below.counted, c.loop-index-test.false)) child passed);
      paths = all_done (nodes c.args.walk.now) c.args.id (frames_asked c.args.seat.now.reps.now c.args.spot.now.frame.now.inline c.args.spot.now.frame.now.block) (seen g.R.Ruler.log c.loop-index.walk) c.loop-index.invariant.own
          (λ k e r child passed. c.loop-index.invariant.done k e r (omega (arith, number_there (nodes c.args.walk.now) c.args.id e k c.root.ensures.tree child, c.loop-index.invariant.below.counted, c.loop-index-test.false)) child passed);
    }

pub boxes_below-returns-clause-quiet : goal.boxes_below-returns-clause-quiet
boxes_below-returns-clause-quiet g t c = c.loop-index.invariant.quiet

pub child_boxes-returns-in_err-boxes_below-clause-parts : goal.child_boxes-returns-in_err-boxes_below-clause-parts
child_boxes-returns-in_err-boxes_below-clause-parts g t c = c.boxes_below.ensures.parts

pub child_boxes-returns-in_err-boxes_below-clause-stands : goal.child_boxes-returns-in_err-boxes_below-clause-stands
child_boxes-returns-in_err-boxes_below-clause-stands g t c = c.boxes_below.ensures.stands

pub child_boxes-returns-clause-parts : goal.child_boxes-returns-clause-parts
child_boxes-returns-clause-parts g t c = c.boxes_below.ensures.parts

pub child_boxes-returns-clause-stands : goal.child_boxes-returns-clause-stands
child_boxes-returns-clause-stands g t c = c.boxes_below.ensures.stands

pub boxes_below-returns-in_err-frames-clause-parts : goal.boxes_below-returns-in_err-frames-clause-parts
boxes_below-returns-in_err-frames-clause-parts g t c = c.frames_at.ensures.parts

pub boxes_below-returns-in_err-frames-clause-stands : goal.boxes_below-returns-in_err-frames-clause-stands
boxes_below-returns-in_err-frames-clause-stands g t c = c.frames_at.ensures.stands

pub boxes_below-returns-in_err-seats-clause-parts : goal.boxes_below-returns-in_err-seats-clause-parts
boxes_below-returns-in_err-seats-clause-parts g t c = c.frames_at.ensures.parts

pub boxes_below-returns-in_err-seats-clause-stands : goal.boxes_below-returns-in_err-seats-clause-stands
boxes_below-returns-in_err-seats-clause-stands g t c = c.frames_at.ensures.stands

pub boxes_below-returns-in_err-child_boxes-clause-parts : goal.boxes_below-returns-in_err-child_boxes-clause-parts
boxes_below-returns-in_err-child_boxes-clause-parts g t c = parts_then _ _ _ c.loop-index.invariant.parts c.child_boxes.ensures.parts

pub boxes_below-returns-in_err-child_boxes-clause-stands : goal.boxes_below-returns-in_err-child_boxes-clause-stands
boxes_below-returns-in_err-child_boxes-clause-stands g t c = c.child_boxes.ensures.stands

pub boxes_below-returns-clause-parts : goal.boxes_below-returns-clause-parts
boxes_below-returns-clause-parts g t c = c.loop-index.invariant.parts

pub boxes_below-returns-clause-stands : goal.boxes_below-returns-clause-stands
boxes_below-returns-clause-stands g t c = c.loop-index.invariant.stands
