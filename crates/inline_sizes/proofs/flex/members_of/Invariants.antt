use Rattle.std.proofs.Common.{◌≡◌, map, take}
use Rattle.placing.specs.declared.lined.ToldMember.{ToldMember}
use Rattle.inline_sizes.proofs.flex.members_of.Given as goal

abbrev pub invariant-loop-child : goal.invariant-loop-child
invariant-loop-child l = l.members ≡ map (λ (e : ToldMember). e.member) (take l.child-index l.told)
