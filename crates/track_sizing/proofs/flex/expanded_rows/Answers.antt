use Rattle.std.proofs.Common.{arith, ap, subst, sym, length}
use Rattle.fr_tracks.specs.Settled.{HaveBases}
use Rattle.track_sizing.proofs.Best.{whole_front}
use Rattle.track_sizing.proofs.Flexed.{bases_expanded}
use Rattle.track_sizing.proofs.flex.expanded_rows.Goals as goal

pub returns-clause-bases : goal.returns-clause-bases
returns-clause-bases c =
    subst HaveBases (sym (whole_front c.in_ok-all.all.len c.expand.new.rows c.in_ok-all.all.items (omega (arith, ap length c.deref_mut.ensures.value, c.deref_mut.ensures.len)) (omega (arith, ap length c.deref_mut.ensures.value, c.expand.auto.rows))))
    (bases_expanded c.args.fraction c.deref_mut.result.now c.expand.new.rows c.requires.weight c.requires.space (subst HaveBases (sym c.deref_mut.ensures.value) c.in_ok-all.ensures.bases) c.expand.ensures)
