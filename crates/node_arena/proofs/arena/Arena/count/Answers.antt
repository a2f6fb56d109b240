use Rattle.std.proofs.Common.{sym, ap, ◌∙◌}
use Rattle.node_arena.specs.Numbers.{below_of, count_at}
use Rattle.node_arena.proofs.Reading.{stale_part, live_count}
use Rattle.plain_tree.specs.Trees.{count_of}
use Rattle.node_arena.proofs.arena.Arena.count.Goals as goal

pub returns-in-Some : goal.returns-in-Some
returns-in-Some g c = c.len.ensures ∙ c.in-Some.slot.now.children.ok.0 ∙ sym (live_count _ _ _ _ _ _ c.self.invariant c.args.id _ (sym c.in-Some.ensures)) ∙ ap (λ n. count_at n.tree c.args.id) c.self.view_is

pub returns-in-None : goal.returns-in-None
returns-in-None g c = ap (λ o. count_of (below_of o)) (sym (stale_part _ _ _ _ _ _ c.self.invariant c.args.id (sym c.in-None.ensures))) ∙ ap (λ n. count_at n.tree c.args.id) c.self.view_is
