use Rattle.std.proofs.Common.{rules, ap, sym, subst, ◌≡◌, List}
use Rattle.outside.specs.declared.tally.Tally.{Tally}
use Rattle.placing.specs.Kept.{kept_at}
use Rattle.placing.specs.Nodes.{NodeTrees, bare}
use Rattle.box_layout.specs.LastBoxes.{AreFound, Found}
use Rattle.box_layout.proofs.layout.kept_boxes.Goals as goal

pub boxes_again-requires-clause-none : goal.boxes_again-requires-clause-none
boxes_again-requires-clause-none g c = ap (λ (t : Tally). t.lost) c.new-tally.ensures

pub boxes_again-requires-clause-kept : goal.boxes_again-requires-clause-kept
boxes_again-requires-clause-kept g c = c.requires.kept

pub returns-clause-last : goal.returns-clause-last
returns-clause-last g c =
    let same : c.tree-1.given.0.tree ≡ c.boxes_again.new.walk.tree.now.tree = search rules in
    let last : c.last-1.given.0 ≡ c.boxes_again.new.out.last.now = search rules in
    subst (λ (l : List Found). AreFound (bare c.tree-1.given.0.tree) (kept_at c.tree-1.given.0.tree) l) (sym last)
    (subst (λ (t : NodeTrees). AreFound (bare t) (kept_at t) c.boxes_again.new.out.last.now) (sym same) c.boxes_again.ensures.last)
