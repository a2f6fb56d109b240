use Rattle.std.proofs.Common.{subst, sym}
use Rattle.doc_text.specs.Edits.{applied}
use Rattle.edit_journal.specs.declared.change.Step.{Step}
use Rattle.edit_journal.specs.Laws.{Leads}
use Rattle.edit_journal.proofs.Stepping.{step_leads}
use Rattle.edit_journal.proofs.steps.step_of.Goals as goal

pub returns-clause-leads : goal.returns-clause-leads
returns-clause-leads c =
    let doc = c.args.doc.now in
    let edit = c.args.edit.now in
    subst (λ (s : Step). Leads s doc (applied edit doc)) (sym (λ i. record { forward = c.in_ok-forward_of.ensures i; back = c.in_ok-back_of.ensures i }))
    (step_leads edit doc (applied edit doc) c.requires.sound c.requires.change c.requires.named c.requires.accepted)
