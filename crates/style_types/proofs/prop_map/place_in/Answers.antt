use Rattle.style_types.proofs.Marks.{position_of, position_of_none}
use Rattle.style_types.proofs.prop_map.place_in.Goals as goal
use Rattle.std.proofs.Common.{rules}

pub returns-in-0 : goal.returns-in-0
returns-in-0 g c = position_of_none c.args.marks.now c.args.entries.now c.args.p c.mark_of.result c.requires c.mark_of.ensures (search rules)

pub returns-in_default : goal.returns-in_default
returns-in_default g c = position_of c.args.marks.now c.args.entries.now c.args.p c.mark_of.result c.requires c.mark_of.ensures (search rules)
