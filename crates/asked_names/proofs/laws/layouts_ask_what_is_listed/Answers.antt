use Rattle.placing.proofs.Bares.{distinct_bare}
use Rattle.placing.specs.Nodes.{bare}
use Rattle.asked_names.proofs.Spreads.{asked_listed, asked_live, path_listed}
use Rattle.asked_names.proofs.laws.layouts_ask_what_is_listed.Goals as goal

pub returns-clause-asked : goal.returns-clause-asked
returns-clause-asked c =
    let d = distinct_bare c.args.tree.now.tree c.stands.ensures.distinct in
    λ width height m q may. record { live = asked_live (bare c.args.tree.now.tree) d width height m q may; listed = asked_listed (bare c.args.tree.now.tree) d width height m q may }

pub returns-clause-path : goal.returns-clause-path
returns-clause-path c = path_listed (bare c.args.tree.now.tree) (distinct_bare c.args.tree.now.tree c.stands.ensures.distinct)
