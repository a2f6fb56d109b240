use Rattle.std.proofs.Common.{◌-◌, arith}
use Rattle.hit_index.specs.Hits.{hits}
use Rattle.hit_index.proofs.Lasts.{run_last}
use Rattle.hit_index.proofs.extents.last_hit.Goals as goal

pub returns-in-Some : goal.returns-in-Some
returns-in-Some c = run_last (hits c.args.boxes.now c.args.x c.args.y) c.args.numbers.now c.run_of.result.now (c.loop-run.run - 1) c.loop-run.run c.in-Some.number c.last_hit.result (omega arith) c.run_of.ensures c.in-Some.is c.last_hit.ensures c.loop-run.invariant.none
