use Rattle.std.proofs.Common.{arith, sym, ◌∙◌, true}
use Rattle.std.proofs.lemmas.Int.{ints}
use Rattle.cell_index.proofs.BlocksPassed.{bands_passed_too, block_rows, no_bands_passed, run_rows}
use Rattle.cell_index.proofs.blocks.Blocks.pass_rows.Goals as goal

pub returns-then-meets : goal.returns-then-meets
returns-then-meets c = run_rows c.args.columns c.args.rows _ _ _ c.args.self.now c.requires.rows (omega (arith, ints)) (sym c.meets.ensures ∙ c.if-meets.true) (omega (arith, ints))

pub returns-then-meets-2 : goal.returns-then-meets-2
returns-then-meets-2 c = block_rows c.args.columns c.args.rows _ _ _ c.args.self.now c.requires.rows (omega (arith, ints)) (sym c.meets-2.ensures ∙ c.if-meets-2.true) (omega (arith, ints))

pub returns-then-is_empty : goal.returns-then-is_empty
returns-then-is_empty c = no_bands_passed true c.args.columns c.args.rows _ _ _ _ c.args.self.now (omega (arith, ints)) (omega (arith, ints)) (sym c.meets.ensures ∙ c.if-meets.false) (sym c.meets-2.ensures ∙ c.if-meets-2.false) (c.is_empty.ensures c.if-is_empty.true) (omega (arith, ints))

pub returns : goal.returns
returns c = bands_passed_too true c.args.columns c.args.rows _ _ _ _ _ c.pass_rows.result c.args.self.now (omega (arith, ints)) (omega (arith, ints)) (omega (arith, ints)) (omega (arith, ints)) (sym c.meets.ensures ∙ c.if-meets.false) (sym c.meets-2.ensures ∙ c.if-meets-2.false) c.pass_rows.ensures
