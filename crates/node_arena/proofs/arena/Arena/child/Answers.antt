use Rattle.std.proofs.Common.{sym, ap, ◌∙◌}
use Rattle.std.specs.Prelude.{slice_get}
use Rattle.node_arena.specs.Numbers.{below_of, child_at}
use Rattle.node_arena.proofs.Reading.{stale_part, live_child, child_there, numbers}
use Rattle.node_arena.specs.Numbers.{number_of, tops}
use Rattle.node_arena.proofs.arena.Arena.child.Goals as goal

pub returns-in-Some-clause-number : goal.returns-in-Some-clause-number
returns-in-Some-clause-number g c =
    c.nth.ensures ∙ ap (λ l. slice_get l c.args.index) c.deref.ensures.value ∙ sym (live_child _ _ _ _ _ _ c.self.invariant c.args.id _ c.args.index (sym c.in-Some.ensures)) ∙ ap (λ n. child_at n.tree c.args.id c.args.index) c.self.view_is

pub returns-in-Some-clause-child : goal.returns-in-Some-clause-child
returns-in-Some-clause-child g c =
    rw (← c.self.view_is) (child_there _ _ _ _ _ _ c.self.invariant c.args.id c.args.index _ (c.nth.ensures ∙ ap (λ l. slice_get l c.args.index) c.deref.ensures.value ∙ sym (live_child _ _ _ _ _ _ c.self.invariant c.args.id _ c.args.index (sym c.in-Some.ensures))))

pub returns-in-Some-clause-numbered : goal.returns-in-Some-clause-numbered
returns-in-Some-clause-numbered g c = rw (← c.self.view_is) (numbers _ _ _ _ _ _ c.self.invariant)

pub returns-in-None-clause-number : goal.returns-in-None-clause-number
returns-in-None-clause-number g c =
    ap (λ o. number_of (slice_get (tops (below_of o)) c.args.index)) (sym (stale_part _ _ _ _ _ _ c.self.invariant c.args.id (sym c.in-None.ensures))) ∙ ap (λ n. child_at n.tree c.args.id c.args.index) c.self.view_is

pub returns-in-None-clause-numbered : goal.returns-in-None-clause-numbered
returns-in-None-clause-numbered g c = rw (← c.self.view_is) (numbers _ _ _ _ _ _ c.self.invariant)
