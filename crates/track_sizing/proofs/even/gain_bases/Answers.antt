use Rattle.track_sizing.proofs.Evenly.{bases_sum}
use Rattle.track_sizing.proofs.even.gain_bases.Goals as goal

pub returns-clause-sum : goal.returns-clause-sum
returns-clause-sum c =
    bases_sum c.args.rows.now c.gain_evenly.new.rows c.args.sum c.greatest_for-space.result c.wide.result c.add.result
    c.requires.sum c.gain_evenly.ensures c.greatest_for-space.ensures.some c.greatest_for-space.ensures.most c.requires.tracks c.wide.ensures.value c.add.ensures
