use Rattle.std.proofs.Common.{arith, sym, subst, ◌-ℤ◌, List}
use Rattle.lunit.specs.Units.{top}
use Rattle.part_rules.specs.Tracks.{Track}
use Rattle.track_sizing.specs.Here.{AreBelow}
use Rattle.track_sizing.proofs.Turns.{turn_fits}
use Rattle.track_sizing.proofs.turn.hand_out_to.Goals as goal

pub incur_shares-requires-clause-fits : goal.incur_shares-requires-clause-fits
incur_shares-requires-clause-fits c = (turn_fits c.args.rooms.now c.args.space c.hand_out-left.result c.args.rows.now c.set_rooms.new.takers c.hand_out-left.new.rows (omega arith) c.requires.some c.requires.below c.set_rooms.ensures c.hand_out-left.ensures.rows c.hand_out-left.ensures.left).0

pub returns-clause-below : goal.returns-clause-below
returns-clause-below c =
    subst (λ (ts : List Track). AreBelow (top -ℤ c.hand_out-left.result) ts) (sym c.incur_shares.ensures)
    (turn_fits c.args.rooms.now c.args.space c.hand_out-left.result c.args.rows.now c.set_rooms.new.takers c.hand_out-left.new.rows (omega arith) c.requires.some c.requires.below c.set_rooms.ensures c.hand_out-left.ensures.rows c.hand_out-left.ensures.left).1
