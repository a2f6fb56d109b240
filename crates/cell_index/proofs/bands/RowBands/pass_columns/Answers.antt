use Rattle.std.proofs.Common.{rules, refl, to_z, of_z, w32, SFits}
use Rattle.std.proofs.lemmas.Int.{to_z-of_z}
use Rattle.cell_index.proofs.BandsPassed.{columns_found, over_next}
use Rattle.cell_index.proofs.bands.RowBands.pass_columns.Goals as goal

pub loop-taken-preserved : goal.loop-taken-preserved
loop-taken-preserved c =
    let fits : SFits w32 c.pass-line.result = search rules in
    over_next c.into_iter-taken-iterator.result c.loop-taken.taken-iterator c.next.new.self (c.in-Some.field-0-0.now, c.in-Some.taken.now) c.args.columns (to_z w32 (of_z w32 c.pass_at-line.result)) (to_z w32 c.loop-taken.line-bits) (to_z w32 c.loop-taken.line-bits) c.pass-line.result
    (to_z w32 (of_z w32 c.pass-line.result)) c.loop-taken.invariant c.in-Some.ensures.steps refl (to_z-of_z w32 c.pass-line.result fits) c.pass-line.ensures

pub returns : goal.returns
returns c =
    let fits : SFits w32 c.pass_at-line.result = search rules in
    let row : SFits w32 c.args.rows.start = search rules in
    let last : SFits w32 c.args.rows.end = search rules in
    columns_found c.args.self.now c.args.rows (to_z w32 (of_z w32 c.args.rows.start)) (to_z w32 (of_z w32 c.args.rows.end)) c.args.start (to_z w32 (of_z w32 c.args.start)) c.pass_at-line.result (to_z w32 (of_z w32 c.pass_at-line.result))
    (to_z w32 c.loop-taken.line-bits) c.args.columns _ c.into_iter-taken-iterator.result c.loop-taken.taken-iterator c.range-taken-items.ensures.ordered c.requires.rows c.requires.columns (to_z-of_z w32 c.args.rows.start row) (to_z-of_z w32 c.args.rows.end last)
    (to_z-of_z w32 c.args.start c.ranges.start) (to_z-of_z w32 c.pass_at-line.result fits) c.pass_at-line.ensures (c.range-taken-items.ensures.between tt) c.into_iter-taken-iterator.ensures.into_iter_gives c.in-None.ensures.steps.0 c.loop-taken.invariant
