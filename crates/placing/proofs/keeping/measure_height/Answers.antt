use Rattle.std.proofs.Common.{ap}
use Rattle.placing.proofs.Leaves.{counts_none, on_err}
use Rattle.placing.proofs.keeping.measure_height.Goals as goal

pub returns-in_err-height-clause-some : goal.returns-in_err-height-clause-some
returns-in_err-height-clause-some g c = on_err _ _ (counts_none _ _ _ _ c.in_err-height.ensures.log)

pub returns-clause-counts : goal.returns-clause-counts
returns-clause-counts g c = record { added = ap (λ t. t.added) c.count_measured.ensures; lost = ap (λ t. t.lost) c.count_measured.ensures; measured = ap (λ t. t.measured) c.count_measured.ensures; log = c.in_ok-height.ensures.log }
