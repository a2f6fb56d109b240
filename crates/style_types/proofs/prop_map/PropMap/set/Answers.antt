use Rattle.std.proofs.Common.{rules}
use Rattle.style_types.proofs.Marks.{marked_after_replace}
use Rattle.style_types.proofs.prop_map.PropMap.set.Goals as goal

pub invariant_of-self : goal.invariant_of-self
invariant_of-self g c = marked_after_replace c.self.inside.marks c.self.inside.entries.items c.replace.new.entries.items c.args.p c.in-Some.place c.args.held c.self.invariant (search rules) c.replace.ensures
