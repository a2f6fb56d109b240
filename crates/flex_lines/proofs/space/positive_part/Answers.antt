use Rattle.std.proofs.Common.{rules, ◌≡◌, pos}
use Rattle.std.specs.Int.{int_max}
use Rattle.lunit.specs.Units.{clamp}
use Rattle.flex_lines.proofs.Sizes.{some_size}
use Rattle.flex_lines.proofs.space.positive_part.Goals as goal

pub returns-clause-some : goal.returns-clause-some
returns-clause-some c =
    let value : c.clamp.result ≡ clamp (int_max (pos 0) c.args.number) = search rules in
    some_size c.clamp.result c.args.number value
