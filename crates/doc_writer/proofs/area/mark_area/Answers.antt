use Rattle.std.proofs.Common.{arith, ◌≤◌, ◌∙◌, length}
use Rattle.doc_writer.proofs.Marks.{no_rows, one_row, room_in_row, area_set, at_most}
use Rattle.doc_writer.proofs.area.mark_area.Goals as goal

pub loop-row-preserved : goal.loop-row-preserved
loop-row-preserved c =
    let low : c.first_of-top.result ≤ c.loop-row.row = c.loop-row.invariant.low in
    let few : c.end_of-right.result ≤ c.args.columns = at_most c.end_of-right.result c.args.columns c.args.area.columns.end c.end_of-right.ensures in
    record {
      low = omega (arith, low);
      reach = omega (arith, c.loop-row-test.true);
      cells = c.mark_run.ensures.same ∙ c.loop-row.invariant.cells;
      sets = one_row c.args.rows c.args.columns c.first_of-left.result c.end_of-right.result c.first_of-top.result c.loop-row.row c.args.mark c.args.marks.now c.loop-row.marks c.mark_run.new.marks c.requires few low c.loop-row.invariant.sets c.mark_run.ensures;
    }

pub returns : goal.returns
returns c =
    area_set c.args.rows c.args.columns c.first_of-left.result c.end_of-right.result c.first_of-top.result c.end_of-bottom.result c.loop-row.row c.args.mark c.args.area c.args.marks.now c.loop-row.marks c.requires
    c.first_of-left.ensures c.end_of-right.ensures c.first_of-top.ensures c.end_of-bottom.ensures c.loop-row-test.false c.loop-row.invariant.reach c.loop-row.invariant.sets

pub loop-row-init : goal.loop-row-init
loop-row-init c = record {
  low = omega arith;
  reach = omega arith;
  cells = c.requires;
  sets = no_rows c.args.columns c.first_of-left.result c.end_of-right.result c.first_of-top.result c.args.mark c.args.marks.now;
}

pub mark_run-requires : goal.mark_run-requires
mark_run-requires c =
    let few : c.end_of-right.result ≤ c.args.columns = at_most c.end_of-right.result c.args.columns c.args.area.columns.end c.end_of-right.ensures in
    let rows : c.end_of-bottom.result ≤ c.args.rows = at_most c.end_of-bottom.result c.args.rows c.args.area.rows.end c.end_of-bottom.ensures in
    room_in_row c.args.rows c.args.columns c.end_of-right.result c.loop-row.row (length c.loop-row.marks) c.loop-row.invariant.cells few (omega (arith, rows, c.loop-row-test.true))
