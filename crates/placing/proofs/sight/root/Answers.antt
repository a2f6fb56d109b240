use Rattle.std.proofs.Common.{◌∙◌, arith}
use Rattle.placing.specs.Nodes.{bare}
use Rattle.placing.proofs.Bares.{distinct_bare, height_bare, live_from, narrow_bare, tops_bare}
use Rattle.placing.proofs.Parents.{level_most, top_live}
use Rattle.placing.proofs.Sights.{next_there, top_chain}
use Rattle.placing.proofs.Walks.{step_there}
use Rattle.placing.proofs.sight.root.Goals as goal

pub returns-clause-root : goal.returns-clause-root
returns-clause-root c = tops_bare c.args.tree.now.tree ∙ c.stands.ensures.root

pub returns-clause-live : goal.returns-clause-live
returns-clause-live c = live_from c.args.tree.now.tree c.stands.result (top_live c.args.tree.now.tree c.stands.result c.stands.ensures.root)

pub returns-clause-top : goal.returns-clause-top
returns-clause-top c = top_chain (bare c.args.tree.now.tree) c.stands.result (tops_bare c.args.tree.now.tree ∙ c.stands.ensures.root)

pub returns-clause-tree : goal.returns-clause-tree
returns-clause-tree c =
    record {
      low = omega (arith, height_bare c.args.tree.now.tree, c.stands.ensures.sound.low);
      level = λ n. omega (arith, height_bare c.args.tree.now.tree, c.stands.ensures.sound.low, level_most (bare c.args.tree.now.tree) n);
      next = next_there (bare c.args.tree.now.tree) (distinct_bare c.args.tree.now.tree c.stands.ensures.sound.distinct);
    }

pub returns-clause-steps : goal.returns-clause-steps
returns-clause-steps c = λ n child index e.
    step_there (bare c.args.tree.now.tree) n child index (next_there (bare c.args.tree.now.tree) (distinct_bare c.args.tree.now.tree c.stands.ensures.sound.distinct) n child index e)

pub returns-clause-narrow : goal.returns-clause-narrow
returns-clause-narrow c = narrow_bare c.args.tree.now.most_children c.args.tree.now.tree c.stands.ensures.sound.narrow
