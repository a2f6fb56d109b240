use Rattle.session.proofs.Applying.{made_spreads}
use Rattle.session.proofs.made.apply.Goals as goal

pub returns-in-Ok-clause-spreads : goal.returns-in-Ok-clause-spreads
returns-in-Ok-clause-spreads c = made_spreads c.args.edit c.args.engine.now c.apply.new.self c.requires.change c.in-Ok.ensures.applies
