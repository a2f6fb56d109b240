use Rattle.std.proofs.Common.{sym, ap, ◌∙◌}
use Rattle.node_arena.specs.Numbers.{value_at, value_of}
use Rattle.node_arena.proofs.Reading.{stale_part, live_value}
use Rattle.node_arena.proofs.arena.Arena.get.Goals as goal

pub returns-in-Some : goal.returns-in-Some
returns-in-Some g c = sym (live_value _ _ _ _ _ _ c.self.invariant c.args.id _ (sym c.in-Some.ensures)) ∙ ap (λ n. value_at n.tree c.args.id) c.self.view_is

pub returns-in-None : goal.returns-in-None
returns-in-None g c = ap value_of (sym (stale_part _ _ _ _ _ _ c.self.invariant c.args.id (sym c.in-None.ensures))) ∙ ap (λ n. value_at n.tree c.args.id) c.self.view_is
