use Rattle.std.proofs.Common.{ap, ◌∙◌, sym, subst, ◌-ℤ◌, length}
use Rattle.box_layout.specs.Ranges.{IsLineRest}
use Rattle.box_layout.proofs.Sums.{line_rest_is}
use Rattle.box_layout.proofs.line.line_rest.Goals as goal

pub returns-clause-range : goal.returns-clause-range
returns-clause-range c =
    subst IsLineRest (sym (c.sub-2.ensures ∙ ap (λ z. z -ℤ c.outer_sum.result) c.sub.ensures))
    (line_rest_is c.wide.result c.gaps.result c.outer_sum.result (length c.args.line.now) c.wide.ensures.range c.gaps.ensures.range c.outer_sum.ensures.range c.requires)
