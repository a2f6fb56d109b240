use Rattle.std.proofs.Common.{sym}
use Rattle.hit_index.proofs.Contained.{passed_by}
use Rattle.hit_index.proofs.boxes.hits.Goals as goal

pub returns-then-not-has : goal.returns-then-not-has
returns-then-not-has c = passed_by c.args.rects.now c.args.x c.args.y c.args.ranges.now c.args.column c.args.number record { first = 0; more = 0 } c.requires.within c.requires.column (sym c.if-not-has.ensures)
