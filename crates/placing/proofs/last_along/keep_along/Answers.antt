use Rattle.std.proofs.Common.{subst, sym}
use Rattle.placing.specs.Kept.{turn_at}
use Rattle.placing.specs.Nodes.{bare}
use Rattle.placing.specs.Told.{HoldsAlong}
use Rattle.placing.proofs.LastMembers.{along_kept}
use Rattle.placing.proofs.Puts.{changes_alike, changes_right, new_along}
use Rattle.placing.proofs.last_along.keep_along.Goals as goal

pub returns-clause-right : goal.returns-clause-right
returns-clause-right c =
    changes_right _ _ _ _ c.gain_along.ensures c.requires.right (new_along c.args.tree.now.tree c.args.id c.in_ok-shared.shared c.requires.right
    (subst (HoldsAlong (bare c.args.tree.now.tree) (turn_at c.args.tree.now.tree) c.args.id) (sym c.in_ok-shared.ensures)
    (along_kept (bare c.args.tree.now.tree) (turn_at c.args.tree.now.tree) c.args.id c.args.width c.args.told.now c.in_ok-turned.turned c.requires.told c.in_ok-turned.ensures)))

pub returns-clause-alike : goal.returns-clause-alike
returns-clause-alike c = changes_alike _ _ _ _ c.gain_along.ensures
