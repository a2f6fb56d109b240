use Rattle.std.proofs.Common.{◌∙◌}
use Rattle.lunit.proofs.Fronts.{eight}
use Rattle.lunit.proofs.name.front.Goals as goal

pub returns : goal.returns
returns c = c.from_be_bytes.ensures ∙ eight c.args.bytes.now c.requires
