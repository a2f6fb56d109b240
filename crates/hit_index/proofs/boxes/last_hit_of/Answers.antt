use Rattle.std.proofs.Common.{◌-◌, arith, get_or, refl}
use Rattle.hit_index.specs.Hits.{hits}
use Rattle.hit_index.proofs.Lasts.{last_is}
use Rattle.hit_index.proofs.boxes.last_hit_of.Goals as goal

pub returns-then-hits : goal.returns-then-hits
returns-then-hits c = last_is (hits c.args.rects.now c.args.x c.args.y) c.args.numbers.now (c.loop-end.end - 1) c.loop-end.end (get_or c.args.numbers.now (c.loop-end.end - 1) 0) c.hits.result (omega arith) (omega arith) refl c.if-hits.true c.hits.ensures c.loop-end.invariant.none
