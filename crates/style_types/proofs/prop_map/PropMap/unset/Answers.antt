use Rattle.std.proofs.Common.{rules, ap, sym, ◌∙◌}
use Rattle.std.specs.FinMap as map
use Rattle.style_types.proofs.Marks.{map_without}
use Rattle.style_types.proofs.prop_map.PropMap.unset.Goals as goal

pub returns-in-None : goal.returns-in-None
returns-in-None g c = sym c.self.view_is ∙ map_without c.self.inside.marks c.self.inside.entries.items c.args.p c.self.invariant (search rules) ∙ ap (λ m. map.remove m c.args.p) c.self.view_is
