use Rattle.std.proofs.Common.{ap, ◌∙◌, List, [], ◌∷◌, ◌++◌}
use Rattle.edit_journal.specs.declared.change.Step.{Step}
use Rattle.session.proofs.Applying.{edits_once, well_edited}
use Rattle.session.proofs.tracing.edit.Goals as goal

pub returns-in-Ok-turn-clause-well : goal.returns-in-Ok-turn-clause-well
returns-in-Ok-turn-clause-well c =
    well_edited c.args.edit c.in-Ok.step c.args.page.now c.turn.new.self c.args.last.now c.turn.new.last c.args.journal.now c.note.new.self c.requires.change c.requires.named c.requires.told c.requires.well c.in-Ok.ensures c.in-Ok-turn.ensures.document
    (c.note.ensures.done ∙ ap (λ (l : List Step). l ++ c.in-Ok.step ∷ []) c.reserve.ensures.lists.0) c.note.ensures.undone (c.turn.ensures.right c.requires.well.sound.right) c.turn.ensures.last

pub returns-in-Ok-turn-clause-edits : goal.returns-in-Ok-turn-clause-edits
returns-in-Ok-turn-clause-edits c =
    edits_once c.args.edit c.in-Ok.step c.args.page.now c.turn.new.self c.args.last.now c.turn.new.last c.args.journal.now c.note.new.self c.requires.change c.requires.named c.requires.told c.requires.well c.in-Ok.ensures c.in-Ok-turn.ensures.document
    (c.note.ensures.done ∙ ap (λ (l : List Step). l ++ c.in-Ok.step ∷ []) c.reserve.ensures.lists.0) c.note.ensures.undone c.in-Ok-turn.ensures.kept
