use Rattle.part_rules.specs.Placement.{rows_to_search}
use Rattle.part_rules.proofs.Placed.{least_position, free_position_inside}
use Rattle.part_rules.proofs.laws.free_items_take_the_least_place.Goals as goal

pub returns-clause-position : goal.returns-clause-position
returns-clause-position c = λ held columns k l from. least_position held columns k l (rows_to_search held from.row) from

pub returns-clause-inside : goal.returns-clause-inside
returns-clause-inside c = λ held columns k l from starts fits. free_position_inside held columns k l from starts fits
