use Rattle.std.proofs.Common.{◌≡◌, Err, Ok, ap, sym, subst, ◌∙◌}
use Rattle.std.specs.Prelude.{Result}
use Rattle.std.proofs.lemmas.Result.{err_from_is_err_and}
use Rattle.doc_text.specs.Edits.{edited}
use Rattle.edit_journal.specs.declared.change.Change.{Change}
use Rattle.edit_journal.specs.declared.change.Step.{Step}
use Rattle.page_tree.specs.Answered.{Applies}
use Rattle.page_tree.specs.Pages.{document_of}
use Rattle.page_tree.specs.Reach.{LeavesOthers}
use Rattle.page_tree.specs.declared.error.EditError.{EditError}
use Rattle.page_tree.proofs.Turned.{turned_not}
use Rattle.page_tree.proofs.page.Page.apply.Goals as goal

pub returns-clause-applies : goal.returns-clause-applies
returns-clause-applies c = c.in_ok-step.ensures.made ∙ ap Ok (sym c.in_ok-turn.ensures.document)

pub returns-clause-kept : goal.returns-clause-kept
returns-clause-kept c = subst (λ (change : Change). LeavesOthers change c.args.self.now c.turn.new.self) (ap (λ (s : Step). s.forward) c.in_ok-step.ensures.is) c.in_ok-turn.ensures.kept

pub returns-in_err-turn-clause-applies : goal.returns-in_err-turn-clause-applies
returns-in_err-turn-clause-applies c =
    let p = err_from_is_err_and c.from_residual-in_err-turn.result c.from_residual-in_err-turn.ensures.1 in
    let same = turned_not c.args.edit c.in_ok-step.step.forward c.args.self.now c.turn.new.self (ap (λ (s : Step). s.forward) c.in_ok-step.ensures.is) c.in_err-turn.ensures.err in
    subst (λ (r : Result (Unit {0}) EditError). Applies r (edited c.args.edit (document_of c.args.self.now)) c.args.self.now c.turn.new.self) (sym (p.1 ∙ ap Err p.2)) same
