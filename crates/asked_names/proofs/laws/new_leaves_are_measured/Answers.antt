use Rattle.placing.proofs.Bares.{distinct_bare}
use Rattle.placing.specs.Nodes.{bare}
use Rattle.asked_names.proofs.LeafEvents.{leaf_measured}
use Rattle.asked_names.proofs.laws.new_leaves_are_measured.Goals as goal

pub returns : goal.returns
returns c =
    λ width height old new added named grown measured leaf fresh box there its. leaf_measured (bare c.args.tree.now.tree) (distinct_bare c.args.tree.now.tree c.stands.ensures.distinct) named width height c.root.result c.root.ensures.root old new added grown measured leaf fresh box there its
