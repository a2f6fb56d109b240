use Rattle.std.proofs.Common.{◌∙◌, sym}
use Rattle.placing.specs.Nodes.{bare}
use Rattle.placing.proofs.Bares.{live_bare}
use Rattle.placing.proofs.Parents.{no_chain, no_parent, parent_there}
use Rattle.placing.proofs.sight.parent.Goals as goal

pub returns-clause-some : goal.returns-clause-some
returns-clause-some c =
    parent_there c.args.tree.now.tree c.stands.ensures.sound.distinct c.args.id c.requires c.parent.result (c.parent.ensures.way (sym (live_bare c.args.tree.now.tree c.args.id) ∙ c.requires)) c.parent.ensures.live

pub returns-clause-none : goal.returns-clause-none
returns-clause-none c =
    no_chain (bare c.args.tree.now.tree) c.args.id c.parent.result
    (no_parent c.args.tree.now.tree c.stands.ensures.sound.distinct c.args.id c.requires c.stands.result c.parent.result c.stands.ensures.root (c.parent.ensures.root (sym (live_bare c.args.tree.now.tree c.args.id) ∙ c.requires)))

pub returns-clause-root : goal.returns-clause-root
returns-clause-root c =
    no_parent c.args.tree.now.tree c.stands.ensures.sound.distinct c.args.id c.requires c.stands.result c.parent.result c.stands.ensures.root (c.parent.ensures.root (sym (live_bare c.args.tree.now.tree c.args.id) ∙ c.requires))
