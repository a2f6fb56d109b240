use Rattle.std.proofs.Common.{◌∙◌, ap, sym}
use Rattle.std.specs.Option.{option_copied}
use Rattle.placing.proofs.Puts.{turn_none, turn_there}
use Rattle.placing.proofs.telling.turn_of.Goals as goal

pub returns-in-Some : goal.returns-in-Some
returns-in-Some c = turn_there c.args.tree.now.tree c.args.id c.in-Some.node.now (ap option_copied (sym c.in-Some.is) ∙ c.get.ensures)

pub returns-in-None : goal.returns-in-None
returns-in-None c = turn_none c.args.tree.now.tree c.args.id (ap option_copied (sym c.in-None.is) ∙ c.get.ensures)
