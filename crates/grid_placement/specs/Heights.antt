-- Items of one height that are free in both axes. In sparse mode they fill bands of rows, one band after another.
use Rattle.std.specs.Prelude.{ℕ, max, ◌==◌, ℤ, pos, ◌+ℤ◌, Bool, false, ◌&&◌, int_le, nat_le, List, [], ◌∷◌, if◌then◌else◌}
use Rattle.std.specs.List.{list_all}
use Rattle.lunit.specs.declared.geometry.Area.{Area}
use Rattle.lunit.specs.declared.geometry.Spot.{Spot}
use Rattle.lunit.specs.declared.geometry.Spot.TheVariants.{At, Free}
use Rattle.part_rules.specs.declared.wish.Wish.{Wish}
use Rattle.part_rules.specs.Placement.{area_at, free_length}
use Rattle.grid_placement.specs.Wishes.{wish_in_flow}

-- an item is free in both axes, of a column at least, and of so many rows
abbrev pub has_height : ℕ → Spot → Spot → Bool
has_height l (Free k) (Free m) = nat_le 1 k && (m == l)
has_height l (Free k) (At r) = false
has_height l (At c) row = false

-- each of these items is so, as the flow sees it
abbrev pub have_height : Bool → ℕ → List Wish → Bool
have_height flow l items = list_all (λ (w : Wish). has_height l (wish_in_flow flow w).column (wish_in_flow flow w).row) items

-- the greatest span of these items in the flow's columns
abbrev pub widest : Bool → List Wish → ℕ
widest flow [] = 0
widest flow (w ∷ ws) = max (free_length (wish_in_flow flow w).column) (widest flow ws)

-- The area of the item that comes after one that ends at a column of a band of rows: beside it, or at the first column of the next band
-- where it would pass the last column.
abbrev pub area_after : ℤ → ℤ → ℤ → ℕ → ℕ → Area
area_after last column row k l =
    if int_le (column +ℤ pos k) last
    then area_at (record { column = column; row = row }) k l
    else area_at (record { column = pos 0; row = row +ℤ pos l }) k l

-- the areas of all of these items, the first of which comes at a column of a band of rows
abbrev pub in_bands : ℤ → ℤ → ℤ → List Wish → List Area
in_bands last column row [] = []
in_bands last column row (w ∷ ws) =
    let a = area_after last column row (free_length w.column) (free_length w.row) in
    a ∷ in_bands last a.columns.end a.rows.start ws
