use Rattle.std.proofs.Common.{◌∙◌}
use Rattle.placing.specs.Kept.{turn_at}
use Rattle.placing.specs.Nodes.{bare}
use Rattle.placing.proofs.LastMembers.{members_kept}
use Rattle.placing.proofs.Puts.{changes_alike, changes_right, new_members}
use Rattle.placing.proofs.last_members.keep_members.Goals as goal

pub returns-clause-right : goal.returns-clause-right
returns-clause-right c =
    changes_right _ _ _ _ c.gain_members.ensures c.requires.right (new_members c.args.tree.now.tree c.args.id c.in_ok-shared.shared c.requires.right
    (members_kept (bare c.args.tree.now.tree) (turn_at c.args.tree.now.tree) c.args.id c.args.told.now c.in_ok-shared.shared c.requires.told (c.in_ok-shared.ensures ∙ c.in_ok-turned.ensures)))

pub returns-clause-alike : goal.returns-clause-alike
returns-clause-alike c = changes_alike _ _ _ _ c.gain_members.ensures
