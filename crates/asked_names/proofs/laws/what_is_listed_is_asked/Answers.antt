use Rattle.placing.proofs.Bares.{distinct_bare}
use Rattle.placing.specs.Nodes.{bare}
use Rattle.asked_names.proofs.Listed.{listed_asked, listed_path}
use Rattle.asked_names.proofs.laws.what_is_listed_is_asked.Goals as goal

pub returns-clause-asked : goal.returns-clause-asked
returns-clause-asked c = λ width height t there. listed_asked (bare c.args.tree.now.tree) (distinct_bare c.args.tree.now.tree c.stands.ensures.distinct) width height c.root.result c.root.ensures.root t there

pub returns-clause-path : goal.returns-clause-path
returns-clause-path c = λ width height t there. listed_path (bare c.args.tree.now.tree) (distinct_bare c.args.tree.now.tree c.stands.ensures.distinct) width height c.root.result c.root.ensures.root t there
