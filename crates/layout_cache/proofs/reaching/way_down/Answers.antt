use Rattle.std.proofs.Common.{◌++◌, ap, sym, ◌∙◌}
use Rattle.std.specs.Prelude.{reverse}
use Rattle.node_arena.specs.Numbers.{way_up}
use Rattle.node_arena.proofs.Reading.{stale_way}
use Rattle.layout_cache.proofs.reaching.way_down.Goals as goal

pub returns-then-not-is_live : goal.returns-then-not-is_live
returns-then-not-is_live g c = c.new-found.ensures.items ∙ sym (ap reverse (stale_way c.args.tree.now.tree c.args.id (sym c.is_live.ensures.live ∙ c.if-not-is_live.true)))

pub returns : goal.returns
returns g c = c.in_ok-add_way_down.ensures ∙ ap (λ l. l ++ reverse (way_up c.args.tree.now.tree c.args.id)) c.new-found.ensures.items
