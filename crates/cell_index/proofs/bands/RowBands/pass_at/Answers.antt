use Rattle.std.proofs.Common.{rules, to_z, of_z, w32, SFits}
use Rattle.std.proofs.lemmas.Int.{to_z-of_z}
use Rattle.cell_index.proofs.BandsPassed.{passed_at}
use Rattle.cell_index.proofs.bands.RowBands.pass_at.Goals as goal

pub returns-in-Some : goal.returns-in-Some
returns-in-Some c =
    let fits : SFits w32 c.pass.result = search rules in
    passed_at c.args.self.now c.args.row (to_z w32 (of_z w32 c.args.row)) c.args.start (to_z w32 (of_z w32 c.args.start)) c.pass.result (to_z w32 (of_z w32 c.pass.result)) c.args.columns c.in-Some.taken.now c.requires (to_z-of_z w32 c.args.row c.ranges.row)
    (to_z-of_z w32 c.args.start c.ranges.start) (to_z-of_z w32 c.pass.result fits) c.in-Some.ensures.value c.pass.ensures
