use Rattle.std.proofs.Common.{arith, subst, ◌≡◌, sym, List, length}
use Rattle.part_rules.specs.Tracks.{Track, fit_alone}
use Rattle.track_sizing.specs.Placed.{AreSet}
use Rattle.track_sizing.proofs.Whole.{set_alone, in_same}
use Rattle.track_sizing.proofs.content.size_content.Goals as goal

pub size_groups-requires : goal.size_groups-requires
size_groups-requires g c =
    let rows : c.fit_alone.new.rows ≡ fit_alone c.args.space.now c.args.gap c.args.items.now c.args.rows.now = c.in_ok-quiet.ensures.rows in (
      omega arith,
      (
        omega arith,
        (
          omega arith,
          (
            subst (λ (ts : List Track). AreSet c.args.first ts) (sym rows) (set_alone c.args.space.now c.args.gap c.args.first c.args.items.now c.args.rows.now c.requires.set),
            (
              in_same c.args.first (length c.args.rows.now) (length c.fit_alone.new.rows) c.args.items.now (omega arith) c.requires.items,
              c.in_ok-quiet.ensures.quiet,
            ),
          ),
        ),
      ),
    )
