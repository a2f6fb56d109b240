-- Dense mode fills holes.
use Rattle.std.proofs.Common.{ap, subst, ◌≡◌, refl, sym, ◌∙◌, ℕ, ℤ, pos, ◌-ℤ◌, Bool, true, false, List, [], ◌∷◌, ◌++◌, map}
use Rattle.std.specs.Prelude.{Some, None, option_to_list, unwrap_or}
use Rattle.lunit.specs.declared.geometry.Area.{Area}
use Rattle.lunit.specs.declared.geometry.Span.{Span}
use Rattle.lunit.specs.declared.geometry.Spot.{Spot}
use Rattle.lunit.specs.declared.geometry.Spot.TheVariants.{At, Free}
use Rattle.part_rules.specs.declared.wish.Wish.{Wish}
use Rattle.part_rules.specs.declared.wish.Shape.{Shape}
use Rattle.part_rules.specs.Lists.{above_zero}
use Rattle.part_rules.specs.Placement as rules
use Rattle.part_rules.specs.Placement.{Field, Position, areas_of, begun, columns_for, cursor_after, far_column, far_row, first_row, free_column, next_area, no_area, placed, placed_by_rows, rest_placed, row_area, rows_placed, rows_to_search, to_end, turned_area, turned_wish}
use Rattle.part_rules.proofs.Placed.{least_position, none_before}
use Rattle.grid_placement.specs.Dense.{FillsHoles, FirstInRows, FirstOfLeft, IsDense, before_last}
use Rattle.grid_placement.specs.Wishes.{area_in_flow, explicit_columns, explicit_rows, wish_in_flow}
use Rattle.grid_placement.proofs.Whole.{all_same, in_flow, map_twice}

abbrev final : rules.Entry → Area
final e = unwrap_or e.area no_area

-- the areas in the end, of items that stand as after the definite rows
abbrev ends : Field → List Area → Position → Bool → List Area → List Area → List Wish → List Area
ends f taken cursor dense held mine ws = map final (rest_placed f taken cursor (rows_placed dense held mine (map begun ws)))

none_added : (held : List Area) → held ++ [] ≡ held
none_added [] = refl
none_added (a ∷ held) = ap (λ (h : List Area). a ∷ h) (none_added held)

before_is : (f : Field) (taken : List Area) (cursor : Position) (dense : Bool) (held mine : List Area) (ws : List Wish) → before_last ws (ends f taken cursor dense held mine ws) ≡ rows_placed dense held mine (map begun ws)
before_is f taken cursor dense held mine [] = refl
before_is f taken cursor dense held mine (w ∷ ws) = go w.column w.row (λ t c h m. before_is f t c dense h m ws)
  where
    go : (column row : Spot) → ((t : List Area) (c : Position) (h m : List Area) → before_last ws (ends f t c dense h m ws) ≡ rows_placed dense h m (map begun ws))
        → (let v : Wish = record { column = column; row = row } in before_last (v ∷ ws) (ends f taken cursor dense held mine (v ∷ ws)) ≡ rows_placed dense held mine (begun v ∷ map begun ws))
    go (At c) (At r) later = λ i. record { wish = record { column = At c; row = At r }; area = Some (record { columns = c; rows = r }) } ∷ later (taken ++ []) cursor (held ++ []) (mine ++ []) i
    go (At c) (Free l) later =
        let area = next_area f taken cursor (At c) (Free l) in
        λ i. record { wish = record { column = At c; row = Free l }; area = None } ∷ later (taken ++ option_to_list area) (cursor_after cursor area) (held ++ []) (mine ++ []) i
    go (Free k) (Free l) later =
        let area = next_area f taken cursor (Free k) (Free l) in
        λ i. record { wish = record { column = Free k; row = Free l }; area = None } ∷ later (taken ++ option_to_list area) (cursor_after cursor area) (held ++ []) (mine ++ []) i
    go (Free k) (At r) later =
        let area = row_area dense held mine (Free k) (At r) in
        λ i. record { wish = record { column = Free k; row = At r }; area = area } ∷ later (taken ++ []) cursor (held ++ option_to_list area) (mine ++ option_to_list area) i

rows_first : (f : Field) (taken : List Area) (cursor : Position) (held mine : List Area) (ws : List Wish) → FirstInRows held ws (ends f taken cursor true held mine ws)
rows_first f taken cursor held mine [] = tt
rows_first f taken cursor held mine (w ∷ ws) = go w.column w.row (λ t c h m. rows_first f t c h m ws)
  where
    go : (column row : Spot) → ((t : List Area) (c : Position) (h m : List Area) → FirstInRows h ws (ends f t c true h m ws))
        → (let v : Wish = record { column = column; row = row } in FirstInRows held (v ∷ ws) (ends f taken cursor true held mine (v ∷ ws)))
    go (At c) (At r) later = (tt, subst (λ (h : List Area). FirstInRows h ws (ends f (taken ++ []) cursor true (held ++ []) (mine ++ []) ws)) (none_added held) (later (taken ++ []) cursor (held ++ []) (mine ++ [])))
    go (At c) (Free l) later =
        let area = next_area f taken cursor (At c) (Free l) in
        (tt, subst (λ (h : List Area). FirstInRows h ws (ends f (taken ++ option_to_list area) (cursor_after cursor area) true (held ++ []) (mine ++ []) ws)) (none_added held) (later (taken ++ option_to_list area) (cursor_after cursor area) (held ++ []) (mine ++ [])))
    go (Free k) (Free l) later =
        let area = next_area f taken cursor (Free k) (Free l) in
        (tt, subst (λ (h : List Area). FirstInRows h ws (ends f (taken ++ option_to_list area) (cursor_after cursor area) true (held ++ []) (mine ++ []) ws)) (none_added held) (later (taken ++ option_to_list area) (cursor_after cursor area) (held ++ []) (mine ++ [])))
    go (Free k) (At r) later =
        let area = row_area true held mine (Free k) (At r) in
        ((λ x low high. none_before (λ c. record { columns = to_end c k; rows = r }) held (above_zero (far_column held (pos 0) -ℤ pos 0)) (pos 0) x low high), later (taken ++ []) cursor (held ++ option_to_list area) (mine ++ option_to_list area))

left_first : (columns : Span) (first : ℤ) (taken : List Area) (cursor : Position) (dense : Bool) (held mine : List Area) (ws : List Wish) → FirstOfLeft columns first taken ws (ends (record { columns = columns; first = first; dense = true }) taken cursor dense held mine ws)
left_first columns first taken cursor dense held mine [] = tt
left_first columns first taken cursor dense held mine (w ∷ ws) = go w.column w.row (λ t c h m. left_first columns first t c dense h m ws)
  where
    f : Field
    f = record { columns = columns; first = first; dense = true }

    go : (column row : Spot) → ((t : List Area) (c : Position) (h m : List Area) → FirstOfLeft columns first t ws (ends (record { columns = columns; first = first; dense = true }) t c dense h m ws))
        → (let v : Wish = record { column = column; row = row } in FirstOfLeft columns first taken (v ∷ ws) (ends (record { columns = columns; first = first; dense = true }) taken cursor dense held mine (v ∷ ws)))
    go (At c) (At r) later = (tt, subst (λ (t : List Area). FirstOfLeft columns first t ws (ends (record { columns = columns; first = first; dense = true }) (taken ++ []) cursor dense (held ++ []) (mine ++ []) ws)) (none_added taken) (later (taken ++ []) cursor (held ++ []) (mine ++ [])))
    go (Free k) (At r) later =
        let area = row_area dense held mine (Free k) (At r) in (
          tt,
          subst (λ (t : List Area). FirstOfLeft columns first t ws (ends (record { columns = columns; first = first; dense = true }) (taken ++ []) cursor dense (held ++ option_to_list area) (mine ++ option_to_list area) ws)) (none_added taken)
              (later (taken ++ []) cursor (held ++ option_to_list area) (mine ++ option_to_list area)),
        )
    go (At c) (Free l) later =
        let area = next_area (record { columns = columns; first = first; dense = true }) taken cursor (At c) (Free l) in
        ((λ x low high. none_before (λ r. record { columns = c; rows = to_end r l }) taken (above_zero (far_row taken first -ℤ first)) first x low high), later (taken ++ option_to_list area) (cursor_after cursor area) (held ++ []) (mine ++ []))
    go (Free k) (Free l) later =
        let area = next_area (record { columns = columns; first = first; dense = true }) taken cursor (Free k) (Free l) in
        (least_position taken columns k l (rows_to_search taken first) (record { column = columns.start; row = first }), later (taken ++ option_to_list area) (cursor_after cursor area) (held ++ []) (mine ++ []))

by_rows : (columns rows : ℕ) (ws : List Wish) → IsDense columns rows ws (placed_by_rows columns rows true ws)
unfolding placed_by_rows
by_rows columns rows ws =
    let es = rows_placed true (areas_of (map begun ws)) [] (map begun ws) in
    let range = columns_for columns es in
    let first = first_row rows es in
    let f : Field = record { columns = range; first = first; dense = true } in
    let start : Position = record { column = range.start; row = first } in
    let same : before_last ws (ends f (areas_of es) start true (areas_of (map begun ws)) [] ws) ≡ es = before_is f (areas_of es) start true (areas_of (map begun ws)) [] ws in
    record {
      in_rows = rows_first f (areas_of es) start (areas_of (map begun ws)) [] ws;
      left = subst (λ (x : List rules.Entry). FirstOfLeft (columns_for columns x) (first_row rows x) (areas_of x) ws (ends f (areas_of es) start true (areas_of (map begun ws)) [] ws)) (sym same)
          (left_first range first (areas_of es) start true (areas_of (map begun ws)) [] ws);
    }

turned_back : (flow : Bool) (a : Area) → area_in_flow flow (area_in_flow flow a) ≡ a
turned_back true a = refl
turned_back false a = refl

pub fills_holes : (items : List Wish) (shape : Shape) → FillsHoles items shape (placed items shape)
fills_holes items shape = record {
  dense = λ e.
      let flow = shape.column_flow in
      let ws = map (wish_in_flow flow) items in
      let columns = explicit_columns flow shape in
      let rows = explicit_rows flow shape in
      let seen : map (area_in_flow flow) (placed items shape) ≡ placed_by_rows columns rows shape.dense ws =
      ap (map (area_in_flow flow)) (sym (in_flow flow items shape)) ∙ sym (map_twice (area_in_flow flow) (area_in_flow flow) (placed_by_rows columns rows shape.dense ws)) ∙
      all_same (λ (a : Area). area_in_flow flow (area_in_flow flow a)) (placed_by_rows columns rows shape.dense ws) (turned_back flow) in
      subst (λ (areas : List Area). IsDense columns rows ws areas) (sym (seen ∙ ap (λ (d : Bool). placed_by_rows columns rows d ws) e)) (by_rows columns rows ws);
}
