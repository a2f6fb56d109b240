use Rattle.placing.proofs.Bares.{distinct_bare}
use Rattle.placing.specs.Nodes.{bare}
use Rattle.asked_names.proofs.Containers.{least_answers}
use Rattle.asked_names.proofs.laws.each_container_is_answered.Goals as goal

pub returns : goal.returns
returns c =
    λ test width height old new added leaves right here kept grown empty. least_answers test (bare c.args.tree.now.tree) (distinct_bare c.args.tree.now.tree c.stands.ensures.distinct) width height c.root.result c.root.ensures.root leaves old new right here kept added grown empty
