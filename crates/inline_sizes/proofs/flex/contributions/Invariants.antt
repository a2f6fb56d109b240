use Rattle.std.proofs.Common.{◌≡◌, map, take}
use Rattle.placing.specs.declared.lined.ToldMember.{ToldMember}
use Rattle.inline_sizes.proofs.flex.contributions.Given as goal

abbrev pub invariant-loop-child : goal.invariant-loop-child
invariant-loop-child l = record {
  low : l.lows.items ≡ map (λ (e : ToldMember). e.low) (take l.child-index l.told);
  high : l.highs.items ≡ map (λ (e : ToldMember). e.high) (take l.child-index l.told);
}
