use Rattle.std.proofs.Common.{arith, w32}
use Rattle.std.proofs.lemmas.Int.{ints, to_z-of_z}
use Rattle.cell_index.proofs.Found.{kept_is_steady, next_is_steady}
use Rattle.cell_index.proofs.intervals.IntervalCellsOccupancy.next_edge.Goals as goal

pub returns-then-self : goal.returns-then-self
returns-then-self c =
    kept_is_steady c.self.inside.areas.items c.args.self.now c.self.inside.blocks c.args.row _ _ _ c.self.view_is (to_z-of_z w32 c.args.row c.ranges.row) (omega (arith, ints)) (c.self.invariant.told c.if-self.true) c.next_edge.ensures

pub returns : goal.returns
returns c = next_is_steady _ _ _ (omega (arith, ints))
