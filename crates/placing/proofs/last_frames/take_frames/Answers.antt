use Rattle.std.proofs.Common.{◌∙◌, refl, sym}
use Rattle.placing.specs.Kept.{past_at, turn_at}
use Rattle.placing.specs.Nodes.{bare}
use Rattle.placing.specs.Told.{HoldsFrames}
use Rattle.placing.proofs.Puts.{changes_alike, changes_right, changes_turn, no_frames}
use Rattle.placing.proofs.LastFrames.{past_frames}
use Rattle.placing.proofs.Stale.{some_holds, turns_as}
use Rattle.placing.proofs.last_frames.take_frames.Goals as goal

pub returns-in_default-clause-right : goal.returns-in_default-clause-right
returns-in_default-clause-right c = changes_right _ _ _ _ c.lose_frames.ensures.lost c.requires.right (no_frames c.args.tree.now.tree c.args.id c.requires.right)

pub returns-in_default-clause-alike : goal.returns-in_default-clause-alike
returns-in_default-clause-alike c = changes_alike _ _ _ _ c.lose_frames.ensures.lost

pub returns-in_default-into_inner-clause-right : goal.returns-in_default-into_inner-clause-right
returns-in_default-into_inner-clause-right c = changes_right _ _ _ _ c.lose_frames.ensures.lost c.requires.right (no_frames c.args.tree.now.tree c.args.id c.requires.right)

pub returns-in_default-into_inner-clause-alike : goal.returns-in_default-into_inner-clause-alike
returns-in_default-into_inner-clause-alike c = changes_alike _ _ _ _ c.lose_frames.ensures.lost

pub frames_of-requires : goal.frames_of-requires
frames_of-requires c =
    let held : HoldsFrames (bare c.args.tree.now.tree) (turn_at c.args.tree.now.tree) c.args.id c.in-Some-into_inner.kept = some_holds (HoldsFrames (bare c.args.tree.now.tree) (turn_at c.args.tree.now.tree) c.args.id) (past_at c.args.tree.now.tree c.args.id).frames c.in-Some.shared
    c.in-Some-into_inner.kept (sym c.lose_frames.ensures.kept ∙ c.in-Some.is) c.in-Some-into_inner.ensures (c.requires.right.past c.args.id).frames in
    turns_as (turn_at c.args.tree.now.tree) (turn_at c.lose_frames.new.tree.tree) c.in-Some-into_inner.kept.base.placed.areas c.in-Some-into_inner.kept.base.placed.areas c.in-Some-into_inner.kept.turns c.in-Some-into_inner.kept.turns (changes_turn _ _ _ _ c.lose_frames.ensures.lost)
    refl refl held.turns

pub returns-clause-frames : goal.returns-clause-frames
returns-clause-frames c =
    past_frames (bare c.args.tree.now.tree) (turn_at c.args.tree.now.tree) (turn_at c.lose_frames.new.tree.tree) c.args.id c.in-Some-into_inner.kept c.frames_of.result (changes_turn _ _ _ _ c.lose_frames.ensures.lost)
    (some_holds (HoldsFrames (bare c.args.tree.now.tree) (turn_at c.args.tree.now.tree) c.args.id) (past_at c.args.tree.now.tree c.args.id).frames c.in-Some.shared c.in-Some-into_inner.kept (sym c.lose_frames.ensures.kept ∙ c.in-Some.is) c.in-Some-into_inner.ensures
    (c.requires.right.past c.args.id).frames) c.frames_of.ensures.parts c.frames_of.ensures.counted c.frames_of.ensures.fresh

pub returns-clause-right : goal.returns-clause-right
returns-clause-right c = changes_right _ _ _ _ c.lose_frames.ensures.lost c.requires.right (no_frames c.args.tree.now.tree c.args.id c.requires.right)

pub returns-clause-alike : goal.returns-clause-alike
returns-clause-alike c = changes_alike _ _ _ _ c.lose_frames.ensures.lost
