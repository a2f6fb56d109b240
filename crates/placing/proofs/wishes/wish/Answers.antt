use Rattle.placing.specs.Nodes.{label_of_bare}
use Rattle.placing.proofs.wishes.wish.Goals as goal

pub returns-clause-value : goal.returns-clause-value
unfolding label_of_bare
returns-clause-value c = λ i. record { column = c.spot-column.ensures.value i; row = c.spot-row.ensures.value i }
