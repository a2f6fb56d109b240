use Rattle.std.proofs.Common.{◌∙◌, ap, map, sym}
use Rattle.placing.specs.Kept.{past_at, turn_at}
use Rattle.placing.specs.Nodes.{bare}
use Rattle.placing.specs.Told.{HoldsAlong, along_marked}
use Rattle.placing.proofs.LastMembers.{along_taken}
use Rattle.placing.proofs.Puts.{changes_alike, changes_right, changes_turn, no_along}
use Rattle.placing.proofs.Stale.{some_holds}
use Rattle.placing.proofs.last_along.take_along.Goals as goal

pub returns-in_default-clause-right : goal.returns-in_default-clause-right
returns-in_default-clause-right c = changes_right _ _ _ _ c.lose_along.ensures.lost c.requires.right (no_along c.args.tree.now.tree c.args.id c.requires.right)

pub returns-in_default-clause-alike : goal.returns-in_default-clause-alike
returns-in_default-clause-alike c = changes_alike _ _ _ _ c.lose_along.ensures.lost

pub returns-in_default-into_inner-clause-right : goal.returns-in_default-into_inner-clause-right
returns-in_default-into_inner-clause-right c = changes_right _ _ _ _ c.lose_along.ensures.lost c.requires.right (no_along c.args.tree.now.tree c.args.id c.requires.right)

pub returns-in_default-into_inner-clause-alike : goal.returns-in_default-into_inner-clause-alike
returns-in_default-into_inner-clause-alike c = changes_alike _ _ _ _ c.lose_along.ensures.lost

pub returns-in_err-told-clause-right : goal.returns-in_err-told-clause-right
returns-in_err-told-clause-right c = changes_right _ _ _ _ c.lose_along.ensures.lost c.requires.right (no_along c.args.tree.now.tree c.args.id c.requires.right)

pub returns-in_err-told-clause-alike : goal.returns-in_err-told-clause-alike
returns-in_err-told-clause-alike c = changes_alike _ _ _ _ c.lose_along.ensures.lost

pub returns-clause-told : goal.returns-clause-told
returns-clause-told c =
    along_taken (bare c.args.tree.now.tree) (turn_at c.args.tree.now.tree) (turn_at c.lose_along.new.tree.tree) c.args.id c.in-Some-into_inner.kept c.in_ok-told.told (changes_turn _ _ _ _ c.lose_along.ensures.lost)
    (some_holds (HoldsAlong (bare c.args.tree.now.tree) (turn_at c.args.tree.now.tree) c.args.id) (past_at c.args.tree.now.tree c.args.id).along c.in-Some.shared c.in-Some-into_inner.kept (sym c.lose_along.ensures.kept ∙ c.in-Some.is) c.in-Some-into_inner.ensures
    (c.requires.right.past c.args.id).along)
    (c.in_ok-told.ensures ∙ ap (map (along_marked (turn_at c.lose_along.new.tree.tree))) c.as_slice.ensures)

pub returns-clause-right : goal.returns-clause-right
returns-clause-right c = changes_right _ _ _ _ c.lose_along.ensures.lost c.requires.right (no_along c.args.tree.now.tree c.args.id c.requires.right)

pub returns-clause-alike : goal.returns-clause-alike
returns-clause-alike c = changes_alike _ _ _ _ c.lose_along.ensures.lost
