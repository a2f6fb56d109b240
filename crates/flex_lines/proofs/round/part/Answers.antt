use Rattle.std.proofs.Common.{◌∙◌, ap}
use Rattle.part_rules.specs.Sharing.{part}
use Rattle.flex_lines.proofs.Sizes.{part_is}
use Rattle.flex_lines.proofs.round.part.Goals as goal

pub returns-clause-value : goal.returns-clause-value
returns-clause-value c = c.exact.ensures ∙ part_is c.number.result c.args.whole c.args.weight ∙ ap (λ z. part z c.args.whole c.args.weight) c.number.ensures.value
