use Rattle.std.proofs.Common.{refl, subst, sym}
use Rattle.block_sizes.specs.Settling.{HasItem}
use Rattle.block_sizes.proofs.flex.known_item.Goals as goal

pub returns : goal.returns
returns c = subst (λ o. HasItem o c.args.block c.in-Some.last.item) (sym c.in-Some.is) (c.same_length.ensures c.if-not-same_length.false, refl)
