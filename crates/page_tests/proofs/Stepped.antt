-- A page after a step and its return.
use Rattle.std.proofs.Common.{◌≡◌, sym, ap, subst, ◌∙◌}
use Rattle.doc_text.specs.declared.document.Doc.{Doc}
use Rattle.doc_text.specs.declared.edit.Edit.{Edit}
use Rattle.doc_text.specs.Valid.{IsValid}
use Rattle.edit_journal.specs.declared.change.Step.{Step}
use Rattle.edit_journal.specs.Changes.{turned}
use Rattle.edit_journal.specs.Laws.{Leads}
use Rattle.edit_journal.specs.Steps.{step_for}
use Rattle.page_tree.specs.Fits.{Fits, FitsBothWays}
use Rattle.page_tree.specs.Pages.{Held, document_of}
use Rattle.placing.specs.Kept.{IsRight}
use Rattle.page_tests.specs.Ready.{IsReady}

-- the return fits the document that the change made
pub back_fits : (e : Edit) (doc mid : Doc) (step : Step) → step ≡ step_for doc e → FitsBothWays (step_for doc e) doc (turned step.forward doc) → mid ≡ turned step.forward doc → Fits step.back mid
back_fits e doc mid step is fits made = subst (λ (d : Doc). Fits step.back d) (sym made) (subst (λ (s : Step). Fits s.back (turned step.forward doc)) (sym is) fits.back)

-- the document after the return is as it was
pub ready_again : (e : Edit) (old mid new : Held) (step : Step) → step ≡ step_for (document_of old) e → Leads (step_for (document_of old) e) (document_of old) (turned step.forward (document_of old)) →
    document_of mid ≡ turned step.forward (document_of old) → document_of new ≡ turned step.back (document_of mid) → IsRight new.nodes.tree → IsReady old → IsReady new
ready_again e old mid new step is leads made back right ready = record { valid = subst IsValid (sym same) ready.valid; right = right }
  where
    same : document_of new ≡ document_of old
    same = back ∙ ap (turned step.back) made ∙ ap (λ (s : Step). turned s.back (turned step.forward (document_of old))) is ∙ leads.back
