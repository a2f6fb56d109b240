use Rattle.placing.proofs.Leaves.{counts_both, counts_first, counts_none, on_err}
use Rattle.placing.proofs.keeping.measure_widths.Goals as goal

pub returns-in_err-low-clause-some : goal.returns-in_err-low-clause-some
returns-in_err-low-clause-some g c = on_err _ _ (counts_none _ _ _ _ c.in_err-low.ensures.log)

pub returns-in_err-high-clause-some : goal.returns-in_err-high-clause-some
returns-in_err-high-clause-some g c = on_err _ _ (counts_first _ _ _ _ _ _ _ c.count_measured.ensures c.in_ok-low.ensures.log c.in_err-high.ensures.log)

pub returns-clause-counts : goal.returns-clause-counts
returns-clause-counts g c = counts_both _ _ _ _ _ _ _ _ c.count_measured.ensures c.count_measured-2.ensures c.in_ok-low.ensures.log c.in_ok-high.ensures.log
