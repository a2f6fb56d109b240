use Rattle.std.proofs.Common.{arith, w32}
use Rattle.std.proofs.lemmas.Int.{ints, to_z-of_z}
use Rattle.cell_index.proofs.BlocksPassed.{reached_there, taken_begins, taken_goes_on}
use Rattle.cell_index.proofs.blocks.Blocks.next_column.Goals as goal

pub search-init : goal.search-init
search-init c = taken_begins _ _ _ _ (omega (arith, ints))

pub search-preserved : goal.search-preserved
search-preserved c = taken_goes_on _ _ _ _ _ _ _ (omega (arith, ints)) (omega (arith, ints)) c.search.invariant c.pass_columns-next.ensures

pub returns-then-next-line : goal.returns-then-next-line
returns-then-next-line c = reached_there _ _ c.args.start _ _ _ _ _ (to_z-of_z w32 c.args.start c.ranges.start) (omega (arith, ints)) (omega (arith, ints)) c.search.invariant c.pass_columns-next.ensures (omega (arith, ints))
