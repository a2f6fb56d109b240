use Rattle.std.proofs.Common.{arith, ap, ◌≡◌, ◌∙◌, ℤ, pos, ◌-ℤ◌}
use Rattle.std.specs.Int.{int_max}
use Rattle.std.proofs.lemmas.Int.{ints}
use Rattle.lunit.specs.Units.{clamp}
use Rattle.part_rules.specs.Tracks.{total}
use Rattle.track_sizing.proofs.rest.free_of.Goals as goal

pub returns-clause-value : goal.returns-clause-value
returns-clause-value c =
    c.shared.ensures.value ∙ ap (λ (z : ℤ). clamp (int_max (pos 0) z)) (let e : c.sub-2.result ≡ c.args.space -ℤ total c.args.gap c.args.rows.now = omega (arith, ints, c.base_sum.ensures.value, c.all_gutters.ensures.value, c.sub.ensures, c.sub-2.ensures) in e)
