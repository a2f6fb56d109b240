use Rattle.session.proofs.Calls.{calls_spare}
use Rattle.session.proofs.laws.layouts_spare_leaves.Goals as goal

pub returns : goal.returns
returns c = λ touches s log calls none a. calls_spare touches s log calls none a
