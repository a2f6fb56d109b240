use Rattle.std.proofs.Common.{arith, refl, ◌≡◌, pos}
use Rattle.std.proofs.lemmas.Int.{ints}
use Rattle.part_rules.specs.Placement.{free_column}
use Rattle.grid_placement.proofs.InRow.{first_found, none_found}
use Rattle.grid_placement.proofs.Least.{column_near, column_told}
use Rattle.grid_placement.proofs.search.columns_before.Goals as goal

pub tracks_from-columns-requires-clause-near : goal.tracks_from-columns-requires-clause-near
tracks_from-columns-requires-clause-near g c =
    let told : c.next_column.result ≡ free_column (g.O.Occupancy.areas c.args.cells.now) c.args.sought.columns c.args.area.rows c.args.area.columns.start = column_told _ _ _ _ _ _ c.args.area refl c.requires.span refl c.next_column.ensures in
    let near = column_near (pos 1310805536) (g.O.Occupancy.areas c.args.cells.now) c.args.sought.columns c.args.area.rows c.args.area.columns.start c.requires.ends c.requires.near in
    omega (arith, ints, told, near)

pub returns-then-columns-sought : goal.returns-then-columns-sought
returns-then-columns-sought g c =
    let told : c.next_column.result ≡ free_column (g.O.Occupancy.areas c.args.cells.now) c.args.sought.columns c.args.area.rows c.args.area.columns.start = column_told _ _ _ _ _ _ c.args.area refl c.requires.span refl c.next_column.ensures in
    first_found _ _ _ _ _ _ _ c.tracks_from-columns.ensures (omega (arith, ints, told)) (omega (arith, ints))

pub returns-else-columns-sought : goal.returns-else-columns-sought
returns-else-columns-sought g c =
    let told : c.next_column.result ≡ free_column (g.O.Occupancy.areas c.args.cells.now) c.args.sought.columns c.args.area.rows c.args.area.columns.start = column_told _ _ _ _ _ _ c.args.area refl c.requires.span refl c.next_column.ensures in
    none_found _ _ _ _ _ _ c.tracks_from-columns.result c.tracks_from-columns.ensures (omega (arith, ints, told)) (omega (arith, ints))
