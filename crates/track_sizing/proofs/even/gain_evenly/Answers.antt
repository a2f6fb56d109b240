use Rattle.std.proofs.Common.{refl, length}
use Rattle.track_sizing.proofs.Evenly.{gains}
use Rattle.track_sizing.proofs.even.gain_evenly.Goals as goal

pub returns : goal.returns
returns c =
    gains c.args.gains.now c.args.space c.length_of.result c.length_of-2.result c.parts_of-parts.result.each c.parts_of-parts.result.more (length c.args.rows.now) c.args.rows.now c.gain_in_parts.new.rows
    c.requires.space refl c.parts_of-parts.ensures.whole c.parts_of-parts.ensures.more c.length_of.ensures c.length_of-2.ensures c.gain_in_parts.ensures
