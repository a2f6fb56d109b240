use Rattle.track_sizing.proofs.Evenly.{start_sum}
use Rattle.track_sizing.proofs.even.gain_all_bases.Goals as goal

pub gain_bases-sum-requires-clause-sum : goal.gain_bases-sum-requires-clause-sum
gain_bases-sum-requires-clause-sum c = start_sum c.args.rows.now c.of.result c.requires.fresh c.of.ensures
