use Rattle.std.proofs.Common.{sym, subst}
use Rattle.box_layout.specs.Ranges.{IsGaps}
use Rattle.box_layout.proofs.Sums.{gaps_are}
use Rattle.box_layout.proofs.line.gaps.Goals as goal

pub returns-clause-range : goal.returns-clause-range
returns-clause-range c = subst IsGaps (sym c.gaps_of.ensures) (gaps_are c.wide.result c.args.count c.wide.ensures.range c.requires)
