use Rattle.edit_journal.proofs.Stepping.{step_leads}
use Rattle.edit_journal.proofs.laws.steps_lead_back.Goals as goal

pub returns : goal.returns
returns c = step_leads
