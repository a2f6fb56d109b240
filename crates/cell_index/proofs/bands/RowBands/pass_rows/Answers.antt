use Rattle.std.proofs.Common.{arith, sym, ap, ◌∙◌, not, pos, to_z, of_z, w32}
use Rattle.std.proofs.lemmas.Int.{ints, clamps, to_z-of_z}
use Rattle.cell_index.proofs.BandsPassed.{bands_end, bands_in, bands_never, bands_out, bands_stop, rows_found}
use Rattle.cell_index.proofs.bands.RowBands.pass_rows.Goals as goal
use Rattle.cell_index.proofs.bands.RowBands.pass_rows.Goals.{then-shut, else-shut+else-next-row}

pub returns-then-next-row : goal.returns-then-next-row
returns-then-next-row c =
    rows_found c.args.self.now c.args.columns c.args.start (to_z w32 (of_z w32 c.args.start)) (to_z w32 c.loop-next.row-bits) c.args.rows c.is_shut_at-shut.result _ c.into_iter-next-iterator.result c.range-next-items.ensures.ordered c.requires.columns c.requires.rows
    (to_z-of_z w32 c.args.start c.ranges.start) (c.range-next-items.ensures.between tt) c.into_iter-next-iterator.ensures.into_iter_gives c.is_shut_at-shut.ensures
    (sym (bands_stop c.args.columns c.loop-next.shut c.loop-next.next-iterator c.next.new.self c.in-Some.next.now c.in-Some.taken.now (to_z w32 c.loop-next.row-bits) c.args.rows c.if-shut.false c.in-Some.ensures.steps (omega (arith, ints, c.if-next-row.true)))
    ∙ c.loop-next.invariant)

pub loop-next-preserved : goal.loop-next-preserved
loop-next-preserved c = elim c.if-shut.branch [
  | then-shut w ↦
      bands_in c.args.columns c.loop-next.shut (not c.is_open-shut.result) c.loop-next.next-iterator c.next.new.self c.in-Some.next.now c.in-Some.taken.now (to_z w32 c.loop-next.row-bits) (to_z w32 c.if-shut.row-bits) c.args.rows w.if-shut.true c.in-Some.ensures.steps
      (ap not c.is_open-shut.ensures) (omega (arith, ints, clamps))
      ∙ c.loop-next.invariant
  | else-shut+else-next-row w ↦
      bands_out c.args.columns c.loop-next.shut (not c.is_open-shut.result) c.loop-next.next-iterator c.next.new.self c.in-Some.next.now c.in-Some.taken.now (to_z w32 c.loop-next.row-bits) (to_z w32 c.if-shut.row-bits) c.args.rows w.if-shut.false c.in-Some.ensures.steps
      (ap not c.is_open-shut.ensures) (omega (arith, ints, w.if-next-row.false)) (omega (arith, ints))
      ∙ c.loop-next.invariant
]

pub returns-then-shut-2 : goal.returns-then-shut-2
returns-then-shut-2 c =
    rows_found c.args.self.now c.args.columns c.args.start (to_z w32 (of_z w32 c.args.start)) (pos 2147483647) c.args.rows c.is_shut_at-shut.result _ c.into_iter-next-iterator.result c.range-next-items.ensures.ordered c.requires.columns c.requires.rows
    (to_z-of_z w32 c.args.start c.ranges.start) (c.range-next-items.ensures.between tt) c.into_iter-next-iterator.ensures.into_iter_gives c.is_shut_at-shut.ensures
    (sym (bands_never c.args.columns c.loop-next.shut c.loop-next.next-iterator (to_z w32 c.loop-next.row-bits) c.args.rows c.if-shut-2.true c.in-None.ensures.steps.0 (omega (arith, ints))) ∙ c.loop-next.invariant)

pub returns-else-shut-2 : goal.returns-else-shut-2
returns-else-shut-2 c =
    rows_found c.args.self.now c.args.columns c.args.start (to_z w32 (of_z w32 c.args.start)) (to_z w32 c.loop-next.row-bits) c.args.rows c.is_shut_at-shut.result _ c.into_iter-next-iterator.result c.range-next-items.ensures.ordered c.requires.columns c.requires.rows
    (to_z-of_z w32 c.args.start c.ranges.start) (c.range-next-items.ensures.between tt) c.into_iter-next-iterator.ensures.into_iter_gives c.is_shut_at-shut.ensures
    (sym (bands_end c.args.columns c.loop-next.shut c.loop-next.next-iterator (to_z w32 c.loop-next.row-bits) c.args.rows c.if-shut-2.false c.in-None.ensures.steps.0) ∙ c.loop-next.invariant)
