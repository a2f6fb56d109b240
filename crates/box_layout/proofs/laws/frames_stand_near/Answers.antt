use Rattle.box_layout.proofs.BoxesNear.{frames_near}
use Rattle.box_layout.proofs.laws.frames_stand_near.Goals as goal

pub returns : goal.returns
returns c = λ level reps inline block low across down. frames_near c.args.tree.now.tree c.args.id c.requires.live c.requires.readable c.sound.ensures.numbered level reps inline block low across down
