use Rattle.page_maker.proofs.Edited.{edit_stays}
use Rattle.page_maker.proofs.laws.made_edits_are_accepted.Goals as goal

pub returns : goal.returns
returns c = edit_stays
