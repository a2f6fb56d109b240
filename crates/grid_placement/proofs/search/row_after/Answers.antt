use Rattle.std.proofs.Common.{arith, refl}
use Rattle.std.proofs.lemmas.Int.{ints, clamps}
use Rattle.grid_placement.proofs.InRow.{none_below, none_next}
use Rattle.grid_placement.proofs.search.row_after.Goals as goal

pub returns-then-area-sought-clause-none : goal.returns-then-area-sought-clause-none
returns-then-area-sought-clause-none g c = none_next _ _ _ _ _ _ _ (omega (arith, ints))

pub returns-clause-none : goal.returns-clause-none
returns-clause-none g c =
    let least = c.min.ensures in
    none_below _ _ _ c.args.area.rows c.args.area.columns.start _ _ c.args.area.rows.start _ c.next_edge.result _ refl (omega (arith, ints)) c.requires.rows (omega (arith, ints)) c.requires.none c.next_edge.ensures (omega (arith, ints, clamps, least))

pub returns-clause-later : goal.returns-clause-later
returns-clause-later g c =
    let later = c.next_edge.ensures.later in
    let least = c.min.ensures in
    omega (arith, ints, clamps, later, least)
