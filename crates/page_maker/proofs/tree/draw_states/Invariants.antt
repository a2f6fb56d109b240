use Rattle.std.proofs.Common.{◌≡◌, ◌-◌, ◌++◌}
use Rattle.page_maker.specs.Making.{states_from, state_after}
use Rattle.page_maker.proofs.tree.draw_states.Given as goal

abbrev pub invariant-loop-i : goal.invariant-loop-i
invariant-loop-i l =
    (l.begins.items ++ states_from (l.nodes - l.i) l.nodes l.i l.draws.state ≡ states_from l.nodes l.nodes 0 l.seed)
    × (state_after (l.nodes - l.i) l.nodes l.i l.draws.state ≡ state_after l.nodes l.nodes 0 l.seed)
