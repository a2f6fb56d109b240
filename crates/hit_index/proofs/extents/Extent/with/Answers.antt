use Rattle.std.proofs.Common.{arith}
use Rattle.std.proofs.lemmas.Int.{ints, clamps}
use Rattle.hit_index.proofs.Runs.{around_box, wider}
use Rattle.hit_index.proofs.extents.Extent.with.Goals as goal

pub returns-clause-wider : goal.returns-clause-wider
returns-clause-wider c = wider c.args.self _ c.args.rect (omega (arith, ints, clamps)) (omega (arith, ints, clamps)) (omega (arith, ints, clamps)) (omega (arith, ints, clamps))

pub returns-clause-around : goal.returns-clause-around
returns-clause-around c = around_box c.args.self _ c.args.rect (omega (arith, ints, clamps)) (omega (arith, ints, clamps)) (omega (arith, ints, clamps)) (omega (arith, ints, clamps))
