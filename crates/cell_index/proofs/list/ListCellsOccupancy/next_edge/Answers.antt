use Rattle.std.proofs.Common.{arith}
use Rattle.std.proofs.lemmas.Int.{ints}
use Rattle.cell_index.proofs.Found.{next_is_steady}
use Rattle.cell_index.proofs.list.ListCellsOccupancy.next_edge.Goals as goal

pub returns : goal.returns
returns c = next_is_steady _ _ _ (omega (arith, ints))
