use Rattle.std.proofs.Common.{rules, sym, ◌∙◌, pos, to_z, of_z, w32, SFits}
use Rattle.std.proofs.lemmas.Int.{to_z-of_z}
use Rattle.cell_index.proofs.BandsPassed.{kept_for_good, kept_up_to}
use Rattle.cell_index.proofs.bands.RowBands.next_edge.Goals as goal

pub returns-in-Some : goal.returns-in-Some
returns-in-Some c =
    let fits : SFits w32 c.in-Some.next.now = search rules in
    kept_up_to c.args.self.now c.args.row (to_z w32 (of_z w32 c.args.row)) c.in-Some.next.now (to_z w32 (of_z w32 c.in-Some.next.now)) c.in-Some.field-0-1.now c.next.new.self c.range.ensures.ordered (to_z-of_z w32 c.args.row c.ranges.row)
    (to_z-of_z w32 c.in-Some.next.now fits) (sym (c.range.ensures.between tt) ∙ c.in-Some.ensures.steps)

pub returns-in-None : goal.returns-in-None
returns-in-None c =
    kept_for_good c.args.self.now c.args.row (to_z w32 (of_z w32 c.args.row)) (pos 2147483647) c.range.ensures.ordered (to_z-of_z w32 c.args.row c.ranges.row) c.requires (sym (c.range.ensures.between tt) ∙ c.in-None.ensures.steps.0)
