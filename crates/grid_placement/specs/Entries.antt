-- The entries of the code, and how many of them each step places.
use Rattle.std.specs.Prelude.{ℕ, ◌+◌, ℤ, pos, ◌*◌, Bool, List, [], ◌∷◌, ◌++◌, map, option_to_list, unwrap_or}
use Rattle.std.specs.List.{list_all}
use Rattle.lunit.specs.declared.geometry.Area.{Area}
use Rattle.lunit.specs.declared.geometry.Spot.{Spot}
use Rattle.lunit.specs.declared.geometry.Spot.TheVariants.{At, Free}
use Rattle.part_rules.specs.Placement as rules
use Rattle.part_rules.specs.Placement.{row_area, with_area, no_area}
use Rattle.grid_placement.specs.declared.entry.Entry.{Entry}
use Rattle.grid_placement.specs.Wishes.{is_placeable, area_in_flow}

-- the entry as the rules see it
abbrev pub seen : Entry → rules.Entry
seen e = record { wish = e.wish; area = e.area }

-- all entries as the rules see them
abbrev pub all_seen : List Entry → List rules.Entry
all_seen entries = map seen entries

-- the areas that the step of the definite rows adds
abbrev pub rows_added : Bool → List Area → List Area → List rules.Entry → List Area
rows_added dense placed mine [] = []
rows_added dense placed mine (e ∷ rest) =
    let new = option_to_list (row_area dense placed mine e.wish.column e.wish.row) in
    new ++ rows_added dense (placed ++ new) (mine ++ new) rest

-- one for an item with a definite row and a free column, else none
abbrev pub one_in_row : Spot → Spot → ℕ
one_in_row (Free k) (At r) = 1
one_in_row (Free k) (Free l) = 0
one_in_row (At c) r = 0

-- how many items have a definite row and a free column
abbrev pub count_in_rows : List rules.Entry → ℕ
count_in_rows [] = 0
count_in_rows (e ∷ rest) = one_in_row e.wish.column e.wish.row + count_in_rows rest

-- one for an item with a free row, else none
abbrev pub one_left : Spot → ℕ
one_left (At r) = 0
one_left (Free l) = 1

-- how many items have a free row
abbrev pub count_left : List rules.Entry → ℕ
count_left [] = 0
count_left (e ∷ rest) = one_left e.wish.row + count_left rest

-- the items are ones that can be placed
abbrev pub can_be_placed : List rules.Entry → Bool
can_be_placed entries = list_all (λ (e : rules.Entry). is_placeable e.wish) entries

-- the line that so many areas end by
abbrev pub reach : ℕ → ℤ
reach n = pos (20000 + 20001 * n)

-- the area in the end, as the grid sees it
abbrev pub final_area : Bool → rules.Entry → Area
final_area flow e = area_in_flow flow (unwrap_or e.area no_area)
