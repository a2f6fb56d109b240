use Rattle.std.proofs.Common.{◌∙◌, refl, sym}
use Rattle.placing.specs.Kept.{past_at, turn_at}
use Rattle.placing.specs.Nodes.{bare}
use Rattle.placing.specs.Told.{HoldsTold}
use Rattle.placing.proofs.Puts.{changes_alike, changes_right, changes_turn, no_wide}
use Rattle.placing.proofs.Stale.{past_wide, some_holds, turns_as}
use Rattle.placing.proofs.telling.take_wide.Goals as goal

pub returns-in_default-clause-right : goal.returns-in_default-clause-right
returns-in_default-clause-right c = changes_right _ _ _ _ c.lose_wide.ensures.lost c.requires.right (no_wide c.args.tree.now.tree c.args.id c.requires.right)

pub returns-in_default-clause-alike : goal.returns-in_default-clause-alike
returns-in_default-clause-alike c = changes_alike _ _ _ _ c.lose_wide.ensures.lost

pub returns-in_default-into_inner-clause-right : goal.returns-in_default-into_inner-clause-right
returns-in_default-into_inner-clause-right c = changes_right _ _ _ _ c.lose_wide.ensures.lost c.requires.right (no_wide c.args.tree.now.tree c.args.id c.requires.right)

pub returns-in_default-into_inner-clause-alike : goal.returns-in_default-into_inner-clause-alike
returns-in_default-into_inner-clause-alike c = changes_alike _ _ _ _ c.lose_wide.ensures.lost

pub past_of-requires : goal.past_of-requires
past_of-requires c =
    let held : HoldsTold (bare c.args.tree.now.tree) (turn_at c.args.tree.now.tree) c.args.id c.in-Some-into_inner.kept = some_holds (HoldsTold (bare c.args.tree.now.tree) (turn_at c.args.tree.now.tree) c.args.id) (past_at c.args.tree.now.tree c.args.id).wide c.in-Some.shared
    c.in-Some-into_inner.kept (sym c.lose_wide.ensures.kept ∙ c.in-Some.is) c.in-Some-into_inner.ensures (c.requires.right.past c.args.id).wide in
    turns_as (turn_at c.args.tree.now.tree) (turn_at c.lose_wide.new.tree.tree) c.in-Some-into_inner.kept.wide.parts.base.placed.areas c.in-Some-into_inner.kept.wide.parts.base.placed.areas c.in-Some-into_inner.kept.turns c.in-Some-into_inner.kept.turns
    (changes_turn _ _ _ _ c.lose_wide.ensures.lost) refl refl held.turns

pub returns-clause-told : goal.returns-clause-told
returns-clause-told c =
    past_wide (bare c.args.tree.now.tree) (turn_at c.args.tree.now.tree) (turn_at c.lose_wide.new.tree.tree) c.args.id c.in-Some-into_inner.kept c.past_of.result (changes_turn _ _ _ _ c.lose_wide.ensures.lost)
    (some_holds (HoldsTold (bare c.args.tree.now.tree) (turn_at c.args.tree.now.tree) c.args.id) (past_at c.args.tree.now.tree c.args.id).wide c.in-Some.shared c.in-Some-into_inner.kept (sym c.lose_wide.ensures.kept ∙ c.in-Some.is) c.in-Some-into_inner.ensures
    (c.requires.right.past c.args.id).wide) c.past_of.ensures

pub returns-clause-right : goal.returns-clause-right
returns-clause-right c = changes_right _ _ _ _ c.lose_wide.ensures.lost c.requires.right (no_wide c.args.tree.now.tree c.args.id c.requires.right)

pub returns-clause-alike : goal.returns-clause-alike
returns-clause-alike c = changes_alike _ _ _ _ c.lose_wide.ensures.lost
