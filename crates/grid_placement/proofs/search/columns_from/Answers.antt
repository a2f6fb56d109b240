use Rattle.std.proofs.Common.{arith, refl, ap, ◌∙◌, ◌≡◌, pos}
use Rattle.std.proofs.lemmas.Int.{ints}
use Rattle.part_rules.specs.Placement.{free_column, to_end}
use Rattle.grid_placement.proofs.Least.{column_near, column_told}
use Rattle.grid_placement.proofs.search.columns_from.Goals as goal

pub tracks_from-requires-clause-near : goal.tracks_from-requires-clause-near
tracks_from-requires-clause-near g c =
    let told : c.next_column-column.result ≡ free_column (g.O.Occupancy.areas c.args.cells.now) c.args.tracks c.args.rows c.args.from = column_told _ _ _ c.args.from _ _ _ (omega (arith, ints)) c.tracks_from-columns.ensures refl c.next_column-column.ensures in
    let near = column_near (pos 1310805536) (g.O.Occupancy.areas c.args.cells.now) c.args.tracks c.args.rows c.args.from c.requires.ends c.requires.near in
    omega (arith, ints, told, near)

pub returns : goal.returns
returns g c =
    let told : c.next_column-column.result ≡ free_column (g.O.Occupancy.areas c.args.cells.now) c.args.tracks c.args.rows c.args.from = column_told _ _ _ c.args.from _ _ _ (omega (arith, ints)) c.tracks_from-columns.ensures refl c.next_column-column.ensures in
    c.tracks_from.ensures ∙ ap (λ z. to_end z c.args.tracks) (omega (arith, ints, told))
