use Rattle.page_tree.proofs.Fitting.{step_fits}
use Rattle.page_tree.proofs.laws.steps_fit.Goals as goal

pub returns : goal.returns
returns c = step_fits
