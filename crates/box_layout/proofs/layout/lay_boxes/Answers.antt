use Rattle.placing.specs.Kept.{kept_at}
use Rattle.box_layout.proofs.FoundBoxes.{found_left}
use Rattle.walker.specs.Walkers.{nodes}
use Rattle.box_layout.proofs.layout.lay_boxes.Goals as goal

pub returns-clause-last : goal.returns-clause-last
returns-clause-last g c =
    found_left (nodes c.args.walk.now) (nodes c.boxes_of_tree-done.new.walk) c.boxes_of_tree-done.ensures.bare (kept_at c.boxes_of_tree-done.new.walk.tree.now.tree)
    c.boxes_of_tree-done.new.walk.tally.now.lost c.boxes_of_tree-done.new.out.last.now _ c.let_go.ensures c.boxes_of_tree-done.ensures.last
