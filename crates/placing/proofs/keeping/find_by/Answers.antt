use Rattle.std.proofs.Common.{◌∙◌, ap, subst, sym}
use Rattle.layout_cache.specs.Kept.{answer_to}
use Rattle.tree_rules.specs.KeptAnswers.{IsAbsent}
use Rattle.placing.specs.Kept.{IsRight}
use Rattle.placing.proofs.Founds.{found_children, found_value, none_then}
use Rattle.placing.proofs.Walks.{found_walked, walked_none}
use Rattle.placing.proofs.keeping.find_by.Goals as goal

pub returns-clause-kept : goal.returns-clause-kept
returns-clause-kept c = c.find_by.ensures.value ∙ ap (answer_to (record { ask = c.args.ask; reps = c.args.reps.now; inline = c.args.inline.now; block = c.args.block.now })) c.node_at.ensures.kept

pub returns-clause-value : goal.returns-clause-value
returns-clause-value c =
    found_value c.args.tree.now.tree c.args.id (record { ask = c.args.ask; reps = c.args.reps.now; inline = c.args.inline.now; block = c.args.block.now }) _ c.requires.right
    (c.find_by.ensures.value ∙ ap (answer_to (record { ask = c.args.ask; reps = c.args.reps.now; inline = c.args.inline.now; block = c.args.block.now })) c.node_at.ensures.kept)

pub returns-clause-children : goal.returns-clause-children
returns-clause-children c =
    found_children c.args.tree.now.tree c.args.id (record { ask = c.args.ask; reps = c.args.reps.now; inline = c.args.inline.now; block = c.args.block.now }) _ c.requires.right
    (c.find_by.ensures.value ∙ ap (answer_to (record { ask = c.args.ask; reps = c.args.reps.now; inline = c.args.inline.now; block = c.args.block.now })) c.node_at.ensures.kept)

pub returns-clause-absent : goal.returns-clause-absent
returns-clause-absent c = none_then _ _ (λ none. subst (IsAbsent (record { ask = c.args.ask; reps = c.args.reps.now; inline = c.args.inline.now; block = c.args.block.now })) c.node_at.ensures.kept (c.find_by.ensures.absent.0 none))

pub returns-clause-start : goal.returns-clause-start
returns-clause-start c = λ s e. walked_none c.args.id (record { ask = c.args.ask; reps = c.args.reps.now; inline = c.args.inline.now; block = c.args.block.now }) s (subst (λ a. IsRight a.tree) (sym e) c.requires.right)

pub returns-clause-found : goal.returns-clause-found
returns-clause-found c = λ s e. found_walked c.args.id (record { ask = c.args.ask; reps = c.args.reps.now; inline = c.args.inline.now; block = c.args.block.now }) s (subst (λ a. IsRight a.tree) (sym e) c.requires.right)
