use Rattle.std.proofs.Common.{arith, refl, ap, ◌∙◌, ◌≡◌, pos}
use Rattle.std.proofs.lemmas.Int.{ints}
use Rattle.part_rules.specs.Placement.{free_row, to_end}
use Rattle.grid_placement.proofs.Least.{row_near, row_told}
use Rattle.grid_placement.proofs.search.rows_from.Goals as goal

pub tracks_from-requires-clause-near : goal.tracks_from-requires-clause-near
tracks_from-requires-clause-near g c =
    let told : c.next_row-row.result ≡ free_row (g.O.Occupancy.areas c.args.cells.now) c.args.columns c.args.tracks c.args.from = row_told _ _ _ c.args.from _ _ _ (omega (arith, ints)) c.tracks_from-rows.ensures refl c.next_row-row.ensures in
    let near = row_near (pos 1310805536) (g.O.Occupancy.areas c.args.cells.now) c.args.columns c.args.tracks c.args.from c.requires.ends c.requires.near in
    omega (arith, ints, told, near)

pub returns : goal.returns
returns g c =
    let told : c.next_row-row.result ≡ free_row (g.O.Occupancy.areas c.args.cells.now) c.args.columns c.args.tracks c.args.from = row_told _ _ _ c.args.from _ _ _ (omega (arith, ints)) c.tracks_from-rows.ensures refl c.next_row-row.ensures in
    c.tracks_from.ensures ∙ ap (λ z. to_end z c.args.tracks) (omega (arith, ints, told))
