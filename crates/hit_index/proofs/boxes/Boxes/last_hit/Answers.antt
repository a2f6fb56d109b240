use Rattle.std.proofs.Common.{◌∙◌, ap, arith}
use Rattle.std.proofs.lemmas.Int.{ints}
use Rattle.hit_index.specs.Columns.{column_of}
use Rattle.hit_index.proofs.Ranges.{column_tells}
use Rattle.hit_index.proofs.boxes.Boxes.last_hit.Goals as goal

pub last_hit_of-requires-clause-column : goal.last_hit_of-requires-clause-column
last_hit_of-requires-clause-column c =
    rw (c.as_slice.ensures.value, c.as_slice-2.ensures.value) (column_tells c.self.inside.grid c.self.inside.rects.items c.self.inside.ranges.items c.args.x c.args.y c.column.result c.self.invariant.ranges (c.column.ensures ∙ ap (column_of c.self.inside.grid) (omega (arith, ints))))
