use Rattle.std.proofs.Common.{arith, sym, ◌∙◌, false}
use Rattle.std.proofs.lemmas.Int.{ints}
use Rattle.cell_index.proofs.BlocksPassed.{bands_passed_too, block_columns, no_bands_passed, run_columns}
use Rattle.cell_index.proofs.blocks.Blocks.pass_columns.Goals as goal

pub returns-then-meets : goal.returns-then-meets
returns-then-meets c = run_columns c.args.rows c.args.columns _ _ _ c.args.self.now c.requires.columns (omega (arith, ints)) (sym c.meets.ensures ∙ c.if-meets.true) (omega (arith, ints))

pub returns-then-meets-2 : goal.returns-then-meets-2
returns-then-meets-2 c = block_columns c.args.rows c.args.columns _ _ _ c.args.self.now c.requires.columns (omega (arith, ints)) (sym c.meets-2.ensures ∙ c.if-meets-2.true) (omega (arith, ints))

pub returns-then-is_empty : goal.returns-then-is_empty
returns-then-is_empty c = no_bands_passed false c.args.rows c.args.columns _ _ _ _ c.args.self.now (omega (arith, ints)) (omega (arith, ints)) (sym c.meets.ensures ∙ c.if-meets.false) (sym c.meets-2.ensures ∙ c.if-meets-2.false) (c.is_empty.ensures c.if-is_empty.true) (omega (arith, ints))

pub returns : goal.returns
returns c =
    bands_passed_too false c.args.rows c.args.columns _ _ _ _ _ c.pass_columns.result c.args.self.now (omega (arith, ints)) (omega (arith, ints)) (omega (arith, ints)) (omega (arith, ints)) (sym c.meets.ensures ∙ c.if-meets.false) (sym c.meets-2.ensures ∙ c.if-meets-2.false)
    c.pass_columns.ensures
