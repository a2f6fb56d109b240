use Rattle.std.proofs.Common.{arith, w32}
use Rattle.std.proofs.lemmas.Int.{ints, to_z-of_z}
use Rattle.cell_index.proofs.Found.{shut_begins, shut_ends, shut_goes_on}
use Rattle.cell_index.proofs.list.next_listed.Goals as goal

pub search-init : goal.search-init
search-init c = shut_begins _ _ _ _ (omega (arith, ints))

pub search-preserved : goal.search-preserved
search-preserved c = shut_goes_on c.args.down c.args.across c.args.tracks c.args.areas.now _ _ _ c.areas_passed-next.result _ c.requires (omega (arith, ints)) (omega (arith, ints)) c.search.invariant c.areas_passed-next.ensures

pub returns-then-next-line : goal.returns-then-next-line
returns-then-next-line c =
    shut_ends c.args.down c.args.across c.args.tracks c.args.areas.now c.args.start _ _ _ c.areas_passed-next.result _ (to_z-of_z w32 c.args.start c.ranges.start) (omega (arith, ints)) (omega (arith, ints)) c.search.invariant c.areas_passed-next.ensures (omega (arith, ints))
