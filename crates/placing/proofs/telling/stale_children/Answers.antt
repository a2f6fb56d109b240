use Rattle.std.proofs.Common.{◌+◌, ◌∙◌, arith, pos, subst, sym}
use Rattle.lunit.specs.declared.geometry.Area.{Area}
use Rattle.node_arena.specs.declared.number.NodeId.{NodeId}
use Rattle.placing.specs.Kept.{turn_at}
use Rattle.placing.proofs.Stale.{AreStale, fresh_more, stale_more, turns_counted}
use Rattle.placing.proofs.telling.stale_children.Goals as goal
use Rattle.placing.proofs.telling.stale_children.Goals.{then-turns-index+in_ok-push, else-turns-index+else-turn}

abbrev no_child : NodeId × Area
no_child = (record { slot = 0; turn = 0 }, record { columns = record { start = pos 0; end = pos 0 }; rows = record { start = pos 0; end = pos 0 } })

pub bounds-turns-index : goal.bounds-turns-index
bounds-turns-index c = omega (arith, c.loop-index-test.true, turns_counted (turn_at c.args.tree.now.tree) c.args.areas.now c.args.turns.now c.requires)

pub loop-index-preserved : goal.loop-index-preserved
loop-index-preserved c =
    elim c.if-turns-index.branch [
      | then-turns-index+in_ok-push w ↦ stale_more (turn_at c.args.tree.now.tree) c.args.areas.now c.args.turns.now c.loop-index.index c.loop-index.stale c.if-turns-index.stale c.loop-index.invariant c.loop-index-test.true (w.stale-is ∙ w.in_ok-push.ensures.ok)
      | else-turns-index+else-turn w ↦
          subst (AreStale (turn_at c.args.tree.now.tree) c.args.areas.now c.args.turns.now (c.loop-index.index + 1)) (sym w.stale-is)
          (fresh_more (turn_at c.args.tree.now.tree) c.args.areas.now c.args.turns.now c.loop-index.index c.loop-index.stale no_child c.requires c.loop-index.invariant c.loop-index-test.true (w.if-turns-index.false ∙ c.turn_of-turn.ensures)
          (omega (arith, w.if-turns-index.false, w.if-turn.false, c.turn_of-turn.type_inv)))
    ]
