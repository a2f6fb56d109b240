use Rattle.std.proofs.Common.{sym, ap, ◌∙◌, is_some}
use Rattle.node_arena.specs.Plain.{is_live}
use Rattle.node_arena.proofs.Reading.{live_is, stale_part, way_most}
use Rattle.node_arena.proofs.arena.Arena.is_live.Goals as goal

pub returns-in-Some-clause-live : goal.returns-in-Some-clause-live
returns-in-Some-clause-live g c = sym (live_is _ _ _ _ _ _ c.self.invariant c.args.id _ (sym c.in-Some.ensures)) ∙ ap (λ n. is_live n c.args.id) c.self.view_is

pub returns-in-None-clause-live : goal.returns-in-None-clause-live
returns-in-None-clause-live g c = ap is_some (sym (stale_part _ _ _ _ _ _ c.self.invariant c.args.id (sym c.in-None.ensures))) ∙ ap (λ n. is_live n c.args.id) c.self.view_is

pub returns-in-Some-clause-level : goal.returns-in-Some-clause-level
returns-in-Some-clause-level g c = rw (← c.self.view_is) (way_most _ _ _ _ _ _ c.self.invariant c.args.id)

pub returns-in-None-clause-level : goal.returns-in-None-clause-level
returns-in-None-clause-level g c = rw (← c.self.view_is) (way_most _ _ _ _ _ _ c.self.invariant c.args.id)
