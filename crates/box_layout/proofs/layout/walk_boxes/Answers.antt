use Rattle.std.proofs.Common.{rules, sym, subst, ◌≡◌, List}
use Rattle.placing.specs.Kept.{kept_at}
use Rattle.placing.specs.Nodes.{NodeTrees, bare}
use Rattle.box_layout.specs.LastBoxes.{AreFound, Found}
use Rattle.box_layout.proofs.layout.walk_boxes.Goals as goal

pub returns-clause-last : goal.returns-clause-last
returns-clause-last g c =
    let same : c.tree-1.given.0.tree ≡ c.lay_boxes.new.walk.tree.now.tree = search rules in
    let last : c.last-1.given.0 ≡ c.lay_boxes.new.out.last.now = search rules in
    subst (λ (l : List Found). AreFound (bare c.tree-1.given.0.tree) (kept_at c.tree-1.given.0.tree) l) (sym last)
    (subst (λ (t : NodeTrees). AreFound (bare t) (kept_at t) c.lay_boxes.new.out.last.now) (sym same) c.lay_boxes.ensures.last)
