use Rattle.placing.proofs.Bares.{distinct_bare}
use Rattle.box_layout.proofs.walk.differ.Goals as goal

pub returns : goal.returns
returns c = distinct_bare c.args.tree.now.tree c.root.ensures.sound.distinct
