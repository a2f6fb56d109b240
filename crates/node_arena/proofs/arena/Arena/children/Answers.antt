use Rattle.std.proofs.Common.{sym, ap, ◌∙◌}
use Rattle.node_arena.specs.Numbers.{below_at, below_of, top_numbers}
use Rattle.node_arena.proofs.Reading.{stale_part, live_numbers}
use Rattle.node_arena.proofs.arena.Arena.children.Goals as goal

pub returns-in-Some : goal.returns-in-Some
returns-in-Some g c =
    c.deref.ensures.value ∙ sym (live_numbers _ _ _ _ _ _ c.self.invariant c.args.id _ (sym c.in-Some.ensures))
    ∙ ap (λ n. top_numbers (below_at n.tree c.args.id)) c.self.view_is

pub returns-in-None : goal.returns-in-None
returns-in-None g c =
    ap (λ o. top_numbers (below_of o)) (sym (stale_part _ _ _ _ _ _ c.self.invariant c.args.id (sym c.in-None.ensures)))
    ∙ ap (λ n. top_numbers (below_at n.tree c.args.id)) c.self.view_is
