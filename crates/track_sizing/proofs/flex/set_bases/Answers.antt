use Rattle.std.proofs.Common.{arith, subst, pos, ◌≤ℤ◌}
use Rattle.part_rules.specs.declared.fraction.FrRow.{FrRow}
use Rattle.track_sizing.proofs.Best.{base_at}
use Rattle.track_sizing.proofs.flex.set_bases.Goals as goal

pub with_base-requires : goal.with_base-requires
with_base-requires c = subst (λ (r : FrRow). pos 0 ≤ℤ r.base) c.index-all-place.is (base_at c.args.all.now c.loop-place.place c.index-all-place.result c.requires.bases (omega arith) c.index-all-place.is)
