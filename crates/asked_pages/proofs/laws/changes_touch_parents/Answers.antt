use Rattle.asked_pages.proofs.Above.{touched_up, touched_with}
use Rattle.asked_pages.proofs.laws.changes_touch_parents.Goals as goal

pub returns-clause-alone : goal.returns-clause-alone
returns-clause-alone c = λ change old before can. touched_up change old before can.sound

pub returns-clause-joined : goal.returns-clause-joined
returns-clause-joined c = λ change old test before can up. touched_with change old before can.sound test up
