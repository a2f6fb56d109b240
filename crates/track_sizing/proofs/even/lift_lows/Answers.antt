use Rattle.track_sizing.proofs.Evenly.{lows_done, lows_sum}
use Rattle.track_sizing.proofs.even.lift_lows.Goals as goal

pub returns-clause-rows : goal.returns-clause-rows
returns-clause-rows c =
    lows_done c.args.gap c.args.items.now c.args.rows.now c.gain_evenly.new.rows c.greatest_for-space.result c.args.sum c.gutters_in.result
    c.gain_evenly.ensures c.greatest_for-space.ensures.value c.requires.plain c.requires.sum c.gutters_in.ensures.value

pub returns-clause-sum : goal.returns-clause-sum
returns-clause-sum c =
    lows_sum c.args.rows.now c.gain_evenly.new.rows c.args.sum c.greatest_for-space.result c.wide.result c.add.result
    c.requires.plain c.requires.sum c.gain_evenly.ensures c.greatest_for-space.ensures.some c.greatest_for-space.ensures.most c.requires.tracks c.wide.ensures.value c.add.ensures
