use Rattle.std.proofs.Common.{arith, subst, sym, List, length}
use Rattle.part_rules.specs.Tracks.{Track}
use Rattle.track_sizing.specs.Placed.{AreSet}
use Rattle.track_sizing.proofs.Whole.{in_same, set_maximised}
use Rattle.track_sizing.proofs.size.give_rest.Goals as goal

pub flex-requires : goal.flex-requires
flex-requires g c = (
  omega arith,
  (
    omega arith,
    (
      c.requires.gap,
      (
        c.requires.space,
        (
          subst (λ (ts : List Track). AreSet c.args.first ts) (sym c.maximise.ensures) (set_maximised c.args.fit.now.space c.args.first c.args.fit.now.max c.args.fit.now.gap c.args.rows.now c.requires.set),
          in_same c.args.first (length c.args.rows.now) (length c.maximise.new.rows) c.args.items.now (omega arith) c.requires.items,
        ),
      ),
    ),
  ),
)
