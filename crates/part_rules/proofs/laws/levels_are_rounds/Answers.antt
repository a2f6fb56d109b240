use Rattle.part_rules.proofs.Levels.{level_is}
use Rattle.part_rules.proofs.laws.levels_are_rounds.Goals as goal

pub returns-clause-greatest : goal.returns-clause-greatest
returns-clause-greatest c = level_is c.args.units c.args.rows.now
