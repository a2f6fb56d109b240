use Rattle.std.proofs.Common.{◌∙◌, ap}
use Rattle.std.specs.Prelude.{◌||◌}
use Rattle.node_arena.specs.Numbers.{same, is_among}
use Rattle.layout_cache.proofs.Sets.{among_insert}
use Rattle.layout_cache.proofs.numbers.NumberSet.add.Goals as goal

pub returns : goal.returns
returns c = λ n. ap (is_among n) c.in_ok-insert.ensures.keys ∙ among_insert n c.args.id c.self.inside.numbers.keys ∙ ap (λ keys. same c.args.id n || is_among n keys) c.self.view_is
