use Rattle.box_layout.proofs.BoxesFit.{frames_fit}
use Rattle.box_layout.proofs.laws.frames_fit_below.Goals as goal

pub returns : goal.returns
returns c = frames_fit c.args.tree.now.tree c.args.id c.requires c.sound.ensures.numbered c.root.ensures.tree
