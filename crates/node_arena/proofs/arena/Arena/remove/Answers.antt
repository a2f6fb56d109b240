use Rattle.std.proofs.Common.{sym, ap, ◌∙◌}
use Rattle.node_arena.specs.Numbers.{parent_at}
use Rattle.node_arena.specs.Plain.{is_live, without_node}
use Rattle.node_arena.proofs.Reading.{live_held, live_parent}
use Rattle.node_arena.proofs.Removing.{whole_fits_removed, whole_removed}
use Rattle.node_arena.proofs.arena.Arena.remove.Goals as goal

pub invariant_of-self : goal.invariant_of-self
invariant_of-self g c =
    let held = live_held _ _ _ _ _ _ c.self.invariant c.args.id (ap (λ n. is_live n c.args.id) c.self.view_is ∙ sym c.is_live.ensures.live ∙ c.if-not-is_live.false) in
    let parent = sym (live_parent _ _ _ _ _ _ c.self.invariant c.args.id held.0 held.1) ∙ ap (λ n. parent_at n.tree c.args.id) c.self.view_is ∙ sym c.in-Some.ensures.number in
    rw c.sweep.ensures (whole_fits_removed _ _ _ _ _ _ c.self.invariant c.args.id c.in-Some.parent held.0 held.1 parent c.unlink.new.slots.slots c.unlink.ensures.slots)

pub returns-in-Some-clause-ok : goal.returns-in-Some-clause-ok
returns-in-Some-clause-ok g c =
    let held = live_held _ _ _ _ _ _ c.self.invariant c.args.id (ap (λ n. is_live n c.args.id) c.self.view_is ∙ sym c.is_live.ensures.live ∙ c.if-not-is_live.false) in
    let parent = sym (live_parent _ _ _ _ _ _ c.self.invariant c.args.id held.0 held.1) ∙ ap (λ n. parent_at n.tree c.args.id) c.self.view_is ∙ sym c.in-Some.ensures.number in
    rw c.sweep.ensures ((λ i. record {
      tree = whole_removed _ _ _ _ _ _ c.self.invariant c.args.id c.in-Some.parent held.0 held.1 parent c.unlink.new.slots.slots c.unlink.ensures.slots i;
      made = c.self.inside.made;
      most_nodes = c.self.inside.most_nodes;
      most_children = c.self.inside.most_children;
    }) ∙ ap (without_node c.args.id) c.self.view_is)
