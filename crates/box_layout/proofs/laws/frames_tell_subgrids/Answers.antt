use Rattle.box_layout.proofs.Lower.{frames_tell}
use Rattle.box_layout.proofs.laws.frames_tell_subgrids.Goals as goal

pub returns : goal.returns
returns c = frames_tell c.args.tree.now.tree c.args.id c.requires c.sound.ensures.numbered c.root.ensures.tree
