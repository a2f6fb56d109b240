use Rattle.std.proofs.Common.{◌≡◌, ◌∙◌, true, arith, pos, sym}
use Rattle.std.specs.Prelude.{◌==◌, get_or}
use Rattle.std.proofs.lemmas.Bool.{eqb-false, eqb-true, not-true}
use Rattle.lunit.specs.declared.geometry.Area.{Area}
use Rattle.node_arena.specs.declared.number.NodeId.{NodeId}
use Rattle.placing.specs.Kept.{turn_at}
use Rattle.placing.specs.Told.{is_fresh, last_turn}
use Rattle.placing.proofs.LastFrames.{marked_more}
use Rattle.placing.proofs.Stale.{fresh_read, turns_counted}
use Rattle.placing.proofs.last_frames.fresh_children.Goals as goal
use Rattle.placing.proofs.last_frames.fresh_children.Goals.{then-turns-index, else-turns-index}

abbrev no_child : NodeId × Area
no_child = (record { slot = 0; turn = 0 }, record { columns = record { start = pos 0; end = pos 0 }; rows = record { start = pos 0; end = pos 0 } })

pub bounds-turns-index : goal.bounds-turns-index
bounds-turns-index c = omega (arith, c.loop-index-test.true, turns_counted (turn_at c.args.tree.now.tree) c.args.areas.now c.args.turns.now c.requires)

pub loop-index-preserved : goal.loop-index-preserved
loop-index-preserved c =
    let own : c.if-turns-index.push ≡ true → is_fresh (turn_at c.args.tree.now.tree) c.args.areas.now c.args.turns.now c.loop-index.index ≡ true =
    elim c.if-turns-index.branch [
      | then-turns-index w ↦ λ e.
          fresh_read (turn_at c.args.tree.now.tree) c.args.areas.now c.args.turns.now c.loop-index.index no_child (turns_counted (turn_at c.args.tree.now.tree) c.args.areas.now c.args.turns.now c.requires) c.loop-index-test.true (w.if-turns-index.true ∙ c.turn_of-turn.ensures)
          (omega (arith, w.if-turns-index.true, eqb-false c.turn_of-turn.result last_turn (not-true (c.turn_of-turn.result == last_turn) (sym w.push-is ∙ e)), c.turn_of-turn.type_inv))
      | else-turns-index w ↦ λ e. absurd (w.if-turns-index.false (eqb-true (get_or c.args.turns.now c.loop-index.index 0) c.turn_of-turn.result (sym w.push-is ∙ e)))
    ] in
    marked_more (turn_at c.args.tree.now.tree) c.args.areas.now c.args.turns.now c.loop-index.index c.loop-index.fresh.items c.push.new.self.items c.if-turns-index.push c.loop-index.invariant own c.in_ok-push.ensures.items
