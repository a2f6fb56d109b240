use Rattle.std.proofs.Common.{subst, drop, length, take, ◌-◌, ◌∷◌, []}
use Rattle.tree_rules.specs.Frames.{moved_boxes}
use Rattle.box_layout.specs.BoxesSeen.{AreNear}
use Rattle.box_layout.proofs.BelowSteps.{ok_then}
use Rattle.box_layout.proofs.FoundBoxes.{boxes_there, near_close, some_boxes}
use Rattle.box_layout.proofs.last_boxes.hand_over.Goals as goal

pub returns-clause-value : goal.returns-clause-value
returns-clause-value g c =
    ok_then c.hand_moved.result _ _
    (λ more. subst (g.T.BoxSink.adds c.args.told.now c.hand_moved.new.told)
    (boxes_there c.args.boxes.now c.index-boxes-0.result c.args.rect c.sub.result c.sub-2.result (some_boxes c.args.boxes.now c.is_empty.result c.is_empty.ensures c.if-is_empty.false) c.index-boxes-0.is c.sub.ensures c.sub-2.ensures)
    (g.met.T.BoxSink.adds_both c.args.told.now c.tell.new.told c.hand_moved.new.told ((c.index-boxes-0.result.0, c.args.rect) ∷ []) (moved_boxes (c.sub.result, c.sub-2.result) (take (length c.args.boxes.now - 1) (drop 1 c.args.boxes.now))) c.in_ok-tell.ensures.value more))
    c.hand_moved.ensures.value

pub returns-clause-near : goal.returns-clause-near
returns-clause-near g c =
    ok_then c.hand_moved.result _ _
    (λ more. subst AreNear (boxes_there c.args.boxes.now c.index-boxes-0.result c.args.rect c.sub.result c.sub-2.result (some_boxes c.args.boxes.now c.is_empty.result c.is_empty.ensures c.if-is_empty.false) c.index-boxes-0.is c.sub.ensures c.sub-2.ensures)
    (near_close c.args.rect c.requires.own, more))
    c.hand_moved.ensures.near
