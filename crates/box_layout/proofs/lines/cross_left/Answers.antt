use Rattle.std.proofs.Common.{ap, ◌∙◌, sym, subst, ◌-ℤ◌, length}
use Rattle.box_layout.specs.Ranges.{IsFree}
use Rattle.box_layout.proofs.Sums.{cross_left_is}
use Rattle.box_layout.proofs.lines.cross_left.Goals as goal

pub returns-clause-range : goal.returns-clause-range
returns-clause-range c =
    subst IsFree (sym (c.sub-2.ensures ∙ ap (λ z. z -ℤ c.total.result) c.sub.ensures))
    (cross_left_is c.wide.result c.gaps.result c.total.result (length c.args.sizes.now) c.wide.ensures.range c.gaps.ensures.range c.total.ensures.range c.requires)
