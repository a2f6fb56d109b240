use Rattle.std.proofs.Common.{sym, ◌∙◌}
use Rattle.layout_cache.proofs.Reaches.{no_way}
use Rattle.layout_cache.proofs.reaching.add_way.Goals as goal

pub returns-then-not-is_live : goal.returns-then-not-is_live
returns-then-not-is_live g c = λ n. no_way c.args.tree.now.tree c.args.id n _ (sym c.is_live.ensures.live ∙ c.if-not-is_live.true)
