use Rattle.std.proofs.Common.{sym, refl, ap, ◌∙◌, is_some}
use Rattle.std.proofs.lemmas.Bool.{false≢true}
use Rattle.node_arena.specs.Numbers.{parent_at}
use Rattle.node_arena.specs.Plain.{is_live}
use Rattle.node_arena.proofs.Reading.{live_parent, root_parent, live_way, parent_live, stale_part, stale_parent}
use Rattle.node_arena.proofs.arena.Arena.parent.Goals as goal

pub returns-in-Some-clause-number : goal.returns-in-Some-clause-number
returns-in-Some-clause-number g c = sym (live_parent _ _ _ _ _ _ c.self.invariant c.args.id _ (sym c.in-Some.ensures)) ∙ ap (λ n. parent_at n.tree c.args.id) c.self.view_is

pub returns-in-Some-clause-live : goal.returns-in-Some-clause-live
returns-in-Some-clause-live g c = rw (← c.self.view_is) (parent_live _ _ _ _ _ _ c.self.invariant c.args.id c.in-Some.slot.now c.in-Some.slot.now.parent (sym c.in-Some.ensures) refl)

pub returns-in-Some-clause-way : goal.returns-in-Some-clause-way
returns-in-Some-clause-way g c = rw (← c.self.view_is) (λ _. live_way _ _ _ _ _ _ c.self.invariant c.args.id c.in-Some.slot.now (sym c.in-Some.ensures))

pub returns-in-None-clause-number : goal.returns-in-None-clause-number
returns-in-None-clause-number g c = sym (stale_parent _ _ _ _ _ _ c.self.invariant c.args.id (sym c.in-None.ensures)) ∙ ap (λ n. parent_at n.tree c.args.id) c.self.view_is

pub returns-in-None-clause-way : goal.returns-in-None-clause-way
returns-in-None-clause-way g c =
    λ live. absurd (false≢true (ap is_some (sym (stale_part _ _ _ _ _ _ c.self.invariant c.args.id (sym c.in-None.ensures))) ∙ ap (λ n. is_live n c.args.id) c.self.view_is ∙ live))

pub returns-in-Some-clause-root : goal.returns-in-Some-clause-root
returns-in-Some-clause-root g c = rw (← c.self.view_is) (λ _. root_parent _ _ _ _ _ _ c.self.invariant c.args.id c.in-Some.slot.now (sym c.in-Some.ensures))

pub returns-in-None-clause-root : goal.returns-in-None-clause-root
returns-in-None-clause-root g c =
    λ live. absurd (false≢true (ap is_some (sym (stale_part _ _ _ _ _ _ c.self.invariant c.args.id (sym c.in-None.ensures))) ∙ ap (λ n. is_live n c.args.id) c.self.view_is ∙ live))
