-- What is said of steps.
use Rattle.std.specs.Prelude.{◌≡◌}
use Rattle.doc_text.specs.declared.document.Doc.{Doc}
use Rattle.edit_journal.specs.declared.change.Change.{Change}
use Rattle.edit_journal.specs.declared.change.Step.{Step}
use Rattle.edit_journal.specs.Changes.{turned, IsSound, CanTurn}

-- a step leads from one document to another, and back
pub record Leads (step : Step) (from to : Doc) : Type 0 where
  pub goes : CanTurn step.forward from
  pub made : turned step.forward from ≡ to
  pub returns : CanTurn step.back to
  pub back : turned step.back to ≡ from

-- a change leads from a valid document back to an earlier one
pub record LeadsBack (change : Change) (from to : Doc) : Type 0 where
  pub sound : IsSound from
  pub returns : CanTurn change from
  pub back : turned change from ≡ to
