use Rattle.std.proofs.Common.{refl, subst, sym}
use Rattle.block_sizes.specs.Settling.{HasBlock}
use Rattle.block_sizes.proofs.flex.known_block.Goals as goal

pub returns : goal.returns
returns c = subst (λ o. HasBlock o c.args.size c.in-Some.last.block) (sym c.in-Some.is) (c.same_length.ensures c.if-not-same_length.false, refl)
