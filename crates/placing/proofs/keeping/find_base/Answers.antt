use Rattle.std.proofs.Common.{◌∙◌, ap}
use Rattle.placing.specs.Bases.{base_with}
use Rattle.placing.specs.declared.told.Past.{Past}
use Rattle.placing.proofs.Founds.{base_holds, base_pairs}
use Rattle.placing.proofs.keeping.find_base.Goals as goal

pub returns-clause-kept : goal.returns-clause-kept
returns-clause-kept c = c.find.ensures ∙ ap (base_with c.args.pairs.now) (ap (λ (p : Past). p.bases) c.node_at.ensures.past)

pub returns-clause-pairs : goal.returns-clause-pairs
returns-clause-pairs c = base_pairs c.args.tree.now.tree c.args.id c.args.pairs.now _ (c.find.ensures ∙ ap (base_with c.args.pairs.now) (ap (λ (p : Past). p.bases) c.node_at.ensures.past))

pub returns-clause-holds : goal.returns-clause-holds
returns-clause-holds c = base_holds c.args.tree.now.tree c.args.id c.args.pairs.now _ c.requires.right (c.find.ensures ∙ ap (base_with c.args.pairs.now) (ap (λ (p : Past). p.bases) c.node_at.ensures.past))
