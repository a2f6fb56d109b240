use Rattle.std.proofs.Common.{arith, ◌∙◌, sym, ◌-◌, ◌+◌, length}
use Rattle.fr_tracks.proofs.Settled.{starts_first, starts_next}
use Rattle.fr_tracks.proofs.find.last_short.Goals as goal

pub loop-start-init : goal.loop-start-init
loop-start-init c = starts_first c.args.space c.args.rows.now c.of.result (length c.args.rows.now - 0) c.of.ensures (omega arith)

pub loop-start-preserved : goal.loop-start-preserved
loop-start-preserved c =
    starts_next c.args.space c.args.rows.now c.loop-start.last.space c.next_fraction-next.result.space c.loop-start.last.weight c.next_fraction-next.result.weight (length c.args.rows.now - c.loop-start._start) (length c.args.rows.now - (c.loop-start._start + 1)) c.requires.space
    c.requires.bases c.loop-start.invariant (omega arith) c.next_fraction-next.ensures.space c.next_fraction-next.ensures.weight (sym c.some_fall_short.ensures ∙ c.if-not-some_fall_short.false)
