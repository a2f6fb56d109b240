use Rattle.std.proofs.Common.{sym}
use Rattle.lunit.specs.Units.{clamp}
use Rattle.track_sizing.proofs.Known.{content_some}
use Rattle.track_sizing.proofs.alone.single_content.Goals as goal

pub returns-in-Some : goal.returns-in-Some
unfolding clamp
returns-in-Some c =
    content_some c.args.most.now c.in-Some.fixed c.args.size c.args.margins c.units-units.result c.of.result c.difference.result c.shorter.result c.longer.result
    (sym c.in-Some.ensures) c.units-units.ensures.value c.units-units.ensures.range c.of.ensures c.difference.ensures c.shorter.ensures c.longer.ensures
