use Rattle.std.proofs.Common.{sym, ◌∙◌, arith}
use Rattle.page_tree.proofs.Positions.{next_place, place_here, place_nowhere}
use Rattle.page_tree.proofs.step.place_of.Goals as goal

pub loop-index-preserved : goal.loop-index-preserved
loop-index-preserved c = next_place c.args.id (record { slot = 0; turn = 0 }) c.args.numbers.now c.loop-index.index (omega (arith, c.loop-index-test.true)) (sym c.is.ensures ∙ c.if-is.false) c.loop-index.invariant

pub returns-then-is : goal.returns-then-is
returns-then-is c = place_here c.args.id (record { slot = 0; turn = 0 }) c.args.numbers.now c.loop-index.index (omega (arith, c.loop-index-test.true)) (sym c.is.ensures ∙ c.if-is.true) c.loop-index.invariant

pub returns : goal.returns
returns c = place_nowhere c.args.id c.args.numbers.now c.loop-index.index (omega (arith, c.loop-index-test.false)) (omega (arith, c.loop-index.auto.index-end)) c.loop-index.invariant
