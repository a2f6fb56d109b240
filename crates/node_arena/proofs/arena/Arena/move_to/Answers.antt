use Rattle.std.proofs.Common.{sym, ap, ◌∙◌}
use Rattle.node_arena.specs.Numbers.{parent_at}
use Rattle.node_arena.specs.Plain.{with_move}
use Rattle.node_arena.proofs.Reading.{live_held, live_parent}
use Rattle.node_arena.proofs.Changed.{fits_alike, whole_fits_alike}
use Rattle.node_arena.proofs.Moving.{may_move_in, place_kept, whole_fits_moved, whole_moved}
use Rattle.node_arena.proofs.arena.Arena.move_to.Goals as goal

pub invariant_of-self : goal.invariant_of-self
invariant_of-self g c = whole_fits_alike _ _ _ _ _ _ _ c.self.invariant c.in_err-make_room.ensures.alike

pub link-requires-clause-index : goal.link-requires-clause-index
link-requires-clause-index g c =
    let fits = fits_alike _ _ _ _ _ _ _ c.self.invariant c.in_ok-make_room.ensures.alike in
    let may = may_move_in _ _ _ c.args.id c.args.parent c.args.index c.self.view_is c.in_ok-before.ensures.answer in
    let held = live_held _ _ _ _ _ _ fits c.args.id may.live in
    let parent = sym (live_parent _ _ _ _ _ _ fits c.args.id held.0 held.1) ∙ ap (λ n. parent_at n.tree c.args.id) c.self.view_is ∙ c.in_ok-before.ensures.before in
    place_kept _ _ _ _ _ _ fits c.args.id c.in_ok-before.before held.0 held.1 parent _ c.unlink.ensures.slots c.args.parent c.args.index may _ c.set_parent.ensures.slots

pub invariant_of-self-2 : goal.invariant_of-self-2
invariant_of-self-2 g c =
    let fits = fits_alike _ _ _ _ _ _ _ c.self.invariant c.in_ok-make_room.ensures.alike in
    let may = may_move_in _ _ _ c.args.id c.args.parent c.args.index c.self.view_is c.in_ok-before.ensures.answer in
    let held = live_held _ _ _ _ _ _ fits c.args.id may.live in
    let parent = sym (live_parent _ _ _ _ _ _ fits c.args.id held.0 held.1) ∙ ap (λ n. parent_at n.tree c.args.id) c.self.view_is ∙ c.in_ok-before.ensures.before in
    whole_fits_moved _ _ _ _ _ _ fits c.args.id c.in_ok-before.before held.0 held.1 parent _ c.unlink.ensures.slots c.args.parent c.args.index may _ c.set_parent.ensures.slots _ c.link.ensures

pub returns-clause-ok : goal.returns-clause-ok
returns-clause-ok g c =
    let fits = fits_alike _ _ _ _ _ _ _ c.self.invariant c.in_ok-make_room.ensures.alike in
    let may = may_move_in _ _ _ c.args.id c.args.parent c.args.index c.self.view_is c.in_ok-before.ensures.answer in
    let held = live_held _ _ _ _ _ _ fits c.args.id may.live in
    let parent = sym (live_parent _ _ _ _ _ _ fits c.args.id held.0 held.1) ∙ ap (λ n. parent_at n.tree c.args.id) c.self.view_is ∙ c.in_ok-before.ensures.before in
    let whole = whole_moved _ _ _ _ _ _ fits c.args.id c.in_ok-before.before held.0 held.1 parent _ c.unlink.ensures.slots c.args.parent c.args.index may _ c.set_parent.ensures.slots _ c.link.ensures in
    (λ i. record { tree = whole i; made = c.self.inside.made; most_nodes = c.self.inside.most_nodes; most_children = c.self.inside.most_children }) ∙ ap (with_move c.args.id c.args.parent c.args.index) c.self.view_is
