use Rattle.asked_pages.proofs.Above.{edit_touched_up}
use Rattle.asked_pages.proofs.laws.edits_touch_parents.Goals as goal

pub returns : goal.returns
returns c = λ e old new before names made. edit_touched_up e old new before names made
