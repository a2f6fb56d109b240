use Rattle.std.proofs.Common.{rules, ◌≡◌, ◌∙◌, ap, sym, subst, pos, ◌*ℤ◌, ◌≤ℤ◌, ℤ}
use Rattle.std.specs.Int.{int_min}
use Rattle.lunit.specs.Units.{clamp, floor_div, IsUnits}
use Rattle.flex_lines.proofs.Sizes.{given_range, clamp_units}
use Rattle.flex_lines.proofs.space.part_given.Goals as goal

pub returns-clause-value : goal.returns-clause-value
returns-clause-value c =
    let least = int_min c.args.whole (floor_div (c.args.initial *ℤ pos c.args.factors) 1000) in
    let units : IsUnits c.args.whole = subst IsUnits c.wide-2.ensures.value c.wide-2.ensures.range in
    let found : c.min.result ≡ least = search rules in
    c.clamp.ensures ∙ ap clamp found ∙ clamp_units least (given_range c.args.initial c.args.whole c.args.factors c.requires.initial c.requires.whole units).1

pub returns-clause-some : goal.returns-clause-some
returns-clause-some c =
    let least = int_min c.args.whole (floor_div (c.args.initial *ℤ pos c.args.factors) 1000) in
    let units : IsUnits c.args.whole = subst IsUnits c.wide-2.ensures.value c.wide-2.ensures.range in
    let found : c.min.result ≡ least = search rules in
    let value : c.clamp.result ≡ least = c.clamp.ensures ∙ ap clamp found ∙ clamp_units least (given_range c.args.initial c.args.whole c.args.factors c.requires.initial c.requires.whole units).1 in
    let some : pos 0 ≤ℤ least = (given_range c.args.initial c.args.whole c.args.factors c.requires.initial c.requires.whole units).0 in
    subst (λ (z : ℤ). pos 0 ≤ℤ z) (sym value) some
