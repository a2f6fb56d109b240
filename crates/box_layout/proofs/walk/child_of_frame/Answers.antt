use Rattle.placing.specs.Nodes.{bare}
use Rattle.box_layout.proofs.BelowSteps.{child_framed}
use Rattle.box_layout.proofs.walk.child_of_frame.Goals as goal

pub returns : goal.returns
returns c = child_framed (bare c.args.tree.now.tree) c.args.id c.args.frames.now c.args.index c.index-frames-index.result c.requires.tree c.requires.children c.requires.index
