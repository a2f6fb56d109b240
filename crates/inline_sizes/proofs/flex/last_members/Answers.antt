use Rattle.std.proofs.Common.{subst, sym}
use Rattle.std.specs.Prelude.{IfOk}
use Rattle.placing.specs.Nodes.{BareTrees, IsLive}
use Rattle.placing.specs.Told.{ArePastMembers}
use Rattle.inline_sizes.proofs.flex.last_members.Goals as goal

pub unasked-requires : goal.unasked-requires
unasked-requires g c = subst (λ (z : BareTrees). IsLive z c.args.id) (sym c.take_members.ensures.bare) c.requires.live

pub returns-clause-past : goal.returns-clause-past
returns-clause-past g c = subst (λ (z : BareTrees). IfOk c.unasked.result (ArePastMembers z c.args.id)) c.take_members.ensures.bare c.unasked.ensures
