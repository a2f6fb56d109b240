-- Each item has an area that fits it in the end.
use Rattle.std.proofs.Common.{◌≡◌, refl, sym, subst, ℕ, Bool, true, false, List, [], ◌∷◌, ◌++◌, map, if◌then◌else◌}
use Rattle.std.specs.Prelude.{Option, Some, None, option_to_list, unwrap_or}
use Rattle.lunit.specs.declared.geometry.Area.{Area}
use Rattle.lunit.specs.declared.geometry.Spot.{Spot}
use Rattle.lunit.specs.declared.geometry.Spot.TheVariants.{At, Free}
use Rattle.part_rules.specs.declared.wish.Wish.{Wish}
use Rattle.part_rules.specs.declared.wish.Shape.{Shape}
use Rattle.part_rules.specs.Placement as rules
use Rattle.part_rules.specs.Placement.{Field, Position, areas_of, begun, columns_for, cursor_after, first_row, fixed_area, next_area, no_area, placed, placed_by_rows, rest_placed, row_area, rows_placed, turned_area, turned_wish, with_area}
use Rattle.grid_placement.specs.Fitting.{FitWishes, FitsWish, HasSpot}

-- an area, if there is one, fits its item; and an item with a definite row has one
abbrev IsHad : Spot → Spot → Option Area → Type 0
IsHad column row (Some a) = HasSpot column a.columns × HasSpot row a.rows
IsHad column (At lines) None = ⊥
IsHad column (Free tracks) None = Unit {0}

-- so each of these
abbrev AllHad : List Wish → List rules.Entry → Type 0
AllHad [] [] = Unit {0}
AllHad [] (e ∷ es) = ⊥
AllHad (w ∷ ws) [] = ⊥
AllHad (w ∷ ws) (e ∷ es) = (e.wish ≡ w) × IsHad w.column w.row e.area × AllHad ws es

-- the area of an item with a definite row, once these are placed
row_had : (dense : Bool) (held mine : List Area) (w : Wish) (column row : Spot) → (let e : rules.Entry = record { wish = w; area = fixed_area column row } in IsHad column row (with_area e (row_area dense held mine column row)).area)
row_had dense held mine w (At s) (At t) = (refl, refl)
row_had dense held mine w (At s) (Free l) = tt
row_had dense held mine w (Free k) (At t) = (refl, refl)
row_had dense held mine w (Free k) (Free l) = tt

same_wish : (e : rules.Entry) (o : Option Area) → (with_area e o).wish ≡ e.wish
same_wish e None = refl
same_wish e (Some a) = refl

rows_had : (dense : Bool) (held mine : List Area) (ws : List Wish) → AllHad ws (rows_placed dense held mine (map begun ws))
rows_had dense held mine [] = tt
rows_had dense held mine (w ∷ ws) =
    let new : List Area = option_to_list (row_area dense held mine w.column w.row) in
    (same_wish (begun w) (row_area dense held mine w.column w.row), row_had dense held mine w w.column w.row, rows_had dense (held ++ new) (mine ++ new) ws)

-- and of each other item in the end
left_fits : (f : Field) (held : List Area) (cursor : Position) (w : Wish) (column row : Spot) (area : Option Area) → IsHad column row area
    → (let e : rules.Entry = record { wish = w; area = area } in let a : Area = unwrap_or (with_area e (next_area f held cursor column row)).area no_area in HasSpot column a.columns × HasSpot row a.rows)
left_fits f held cursor w (At s) (At t) (Some a) h = h
left_fits f held cursor w (At s) (At t) None h = absurd h
left_fits f held cursor w (Free k) (At t) (Some a) h = h
left_fits f held cursor w (Free k) (At t) None h = absurd h
left_fits f held cursor w (At s) (Free l) area h = (refl, refl)
left_fits f held cursor w (Free k) (Free l) area h = (refl, refl)

all_fit : (f : Field) (held : List Area) (cursor : Position) (ws : List Wish) (es : List rules.Entry) → AllHad ws es → FitWishes ws (map (λ (e : rules.Entry). unwrap_or e.area no_area) (rest_placed f held cursor es))
all_fit f held cursor [] [] h = tt
all_fit f held cursor [] (e ∷ es) h = absurd h
all_fit f held cursor (w ∷ ws) [] h = absurd h
all_fit f held cursor (w ∷ ws) (e ∷ es) h =
    let area : Option Area = next_area f held cursor e.wish.column e.wish.row in
    let had : IsHad e.wish.column e.wish.row e.area = subst (λ (v : Wish). IsHad v.column v.row e.area) (sym h.0) h.1 in
    let fits = left_fits f held cursor e.wish e.wish.column e.wish.row e.area had in
    (subst (λ (v : Wish). FitsWish v (unwrap_or (with_area e area).area no_area)) h.0 (record { columns = fits.0; rows = fits.1 }), all_fit f (held ++ option_to_list area) (cursor_after cursor area) ws es h.2)

by_rows_fit : (columns rows : ℕ) (dense : Bool) (ws : List Wish) → FitWishes ws (placed_by_rows columns rows dense ws)
unfolding placed_by_rows
by_rows_fit columns rows dense ws =
    let both = map begun ws in
    let with_rows = rows_placed dense (areas_of both) [] both in
    let field : Field = record { columns = columns_for columns with_rows; first = first_row rows with_rows; dense = dense } in
    let start : Position = record { column = field.columns.start; row = field.first } in
    all_fit field (areas_of with_rows) start ws with_rows (rows_had dense (areas_of both) [] ws)

turned_fit : (ws : List Wish) (areas : List Area) → FitWishes (map turned_wish ws) areas → FitWishes ws (map turned_area areas)
turned_fit [] [] h = tt
turned_fit [] (a ∷ areas) h = absurd h
turned_fit (w ∷ ws) [] h = absurd h
turned_fit (w ∷ ws) (a ∷ areas) h = (record { columns = h.0.rows; rows = h.0.columns }, turned_fit ws areas h.1)

pub placed_fit : (items : List Wish) (shape : Shape) → FitWishes items (placed items shape)
placed_fit items shape = by shape.column_flow
  where
    by : (flow : Bool) → FitWishes items (if flow then map turned_area (placed_by_rows shape.rows shape.columns shape.dense (map turned_wish items)) else placed_by_rows shape.columns shape.rows shape.dense items)
    by true = turned_fit items (placed_by_rows shape.rows shape.columns shape.dense (map turned_wish items)) (by_rows_fit shape.rows shape.columns shape.dense (map turned_wish items))
    by false = by_rows_fit shape.columns shape.rows shape.dense items
