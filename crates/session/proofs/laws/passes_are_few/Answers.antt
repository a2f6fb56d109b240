use Rattle.session.proofs.Replies.{passes_few}
use Rattle.session.proofs.laws.passes_are_few.Goals as goal

pub returns : goal.returns
returns c = λ stats held held' events events' passes passes' touches k made r few. passes_few stats touches held held' events events' passes passes' k made r few
