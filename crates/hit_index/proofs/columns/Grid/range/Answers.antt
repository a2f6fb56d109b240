use Rattle.std.proofs.Common.{◌∙◌, ap, arith}
use Rattle.std.proofs.lemmas.Int.{ints}
use Rattle.hit_index.specs.Columns.{column_of}
use Rattle.hit_index.proofs.Ranges.{range_is}
use Rattle.hit_index.proofs.columns.Grid.range.Goals as goal

pub returns : goal.returns
returns c =
    range_is c.args.self c.args.rect.now record { first = c.column-first.result; more = c.saturating_sub.result } c.column-last.result c.right_of.result
    (c.column-first.ensures ∙ ap (column_of c.args.self) (omega (arith, ints)))
    (c.column-last.ensures ∙ ap (column_of c.args.self) (omega (arith, ints)))
    c.right_of.ensures
    c.saturating_sub.ensures
