use Rattle.std.proofs.Common.{arith, subst, pos, ◌≤ℤ◌}
use Rattle.part_rules.specs.declared.share.Share.{Share}
use Rattle.track_sizing.proofs.Grown.{share_at}
use Rattle.track_sizing.proofs.rest.grow_by_shares.Goals as goal

pub grow_base-requires : goal.grow_base-requires
grow_base-requires c = subst (λ (s : Share). pos 0 ≤ℤ s.got) c.index-takers-place.is (share_at c.args.takers.now c.loop-place.place c.index-takers-place.result c.requires.some (omega arith) c.index-takers-place.is)
