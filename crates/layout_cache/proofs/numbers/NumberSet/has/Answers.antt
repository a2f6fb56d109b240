use Rattle.std.proofs.Common.{◌∙◌, ap}
use Rattle.node_arena.specs.Numbers.{is_among}
use Rattle.layout_cache.proofs.Sets.{among_any}
use Rattle.layout_cache.proofs.numbers.NumberSet.has.Goals as goal

pub returns : goal.returns
returns c = c.contains.ensures ∙ among_any c.args.id c.self.inside.numbers.keys ∙ ap (is_among c.args.id) c.self.view_is
