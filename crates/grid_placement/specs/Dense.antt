-- In dense mode each item stands at the first place that was free where its search began.
use Rattle.std.specs.Prelude.{◌≡◌, ℕ, ℤ, pos, ◌≤ℤ◌, ◌<ℤ◌, true, false, List, [], ◌∷◌, ◌++◌, map, Option, Some, None}
use Rattle.lunit.specs.Areas.{is_free}
use Rattle.lunit.specs.declared.geometry.Area.{Area}
use Rattle.lunit.specs.declared.geometry.Span.{Span}
use Rattle.lunit.specs.declared.geometry.Spot.{Spot}
use Rattle.lunit.specs.declared.geometry.Spot.TheVariants.{At, Free}
use Rattle.part_rules.specs.declared.wish.Wish.{Wish}
use Rattle.part_rules.specs.declared.wish.Shape.{Shape}
use Rattle.part_rules.specs.Placement as rules
use Rattle.part_rules.specs.Placement.{IsLeast, areas_of, begun, columns_for, first_row, to_end}
use Rattle.grid_placement.specs.Wishes.{area_in_flow, explicit_columns, explicit_rows, wish_in_flow}

-- an area that is had before the last step: that of an item with a definite row
abbrev pub had_before : Spot → Area → Option Area
had_before (At r) a = Some a
had_before (Free l) a = None

-- the items as the last step finds them
abbrev pub before_last : List Wish → List Area → List rules.Entry
before_last [] areas = []
before_last (w ∷ ws) [] = []
before_last (w ∷ ws) (a ∷ areas) = record { wish = w; area = had_before w.row a } ∷ before_last ws areas

-- from column 0 on no column before the one that the item got in its definite row was free
abbrev pub FirstInRow : List Area → Spot → Spot → Area → Type 0
FirstInRow held (Free k) (At rows) a = (x : ℤ) → pos 0 ≤ℤ x → x <ℤ a.columns.start → is_free (record { columns = to_end x k; rows = rows }) held ≡ false
FirstInRow held (Free k) (Free l) a = Unit {0}
FirstInRow held (At c) row a = Unit {0}

-- what is taken after an item with a definite row
abbrev pub after_row : List Area → Spot → Spot → Area → List Area
after_row held (Free k) (At rows) a = held ++ a ∷ []
after_row held (Free k) (Free l) a = held
after_row held (At c) row a = held

-- so for each item with a definite row, in their order
abbrev pub FirstInRows : List Area → List Wish → List Area → Type 0
FirstInRows held [] areas = Unit {0}
FirstInRows held (w ∷ ws) [] = ⊥
FirstInRows held (w ∷ ws) (a ∷ areas) = FirstInRow held w.column w.row a × FirstInRows (after_row held w.column w.row a) ws areas

-- from the first row on no row before the one that an item got in its definite columns was free, and from the first position on no position
-- within the columns before the one that an item got that is free in both axes
abbrev pub FirstLeft : Span → ℤ → List Area → Spot → Spot → Area → Type 0
FirstLeft columns first held column (At rows) a = Unit {0}
FirstLeft columns first held (At c) (Free l) a = (x : ℤ) → first ≤ℤ x → x <ℤ a.rows.start → is_free (record { columns = c; rows = to_end x l }) held ≡ false
FirstLeft columns first held (Free k) (Free l) a =
    IsLeast held columns k l (record { column = columns.start; row = first }) (record { column = a.columns.start; row = a.rows.start })

-- what is taken after an item that is left
abbrev pub after_left : List Area → Spot → Area → List Area
after_left held (At rows) a = held
after_left held (Free l) a = held ++ a ∷ []

-- so for each item that is left, in their order
abbrev pub FirstOfLeft : Span → ℤ → List Area → List Wish → List Area → Type 0
FirstOfLeft columns first held [] areas = Unit {0}
FirstOfLeft columns first held (w ∷ ws) [] = ⊥
FirstOfLeft columns first held (w ∷ ws) (a ∷ areas) =
    FirstLeft columns first held w.column w.row a × FirstOfLeft columns first (after_left held w.row a) ws areas

-- In the flow's axes: the items with a definite row, each among all that are definite in both axes and those before it; and then the others,
-- each among all with a definite row and those before it.
pub record IsDense (columns rows : ℕ) (items : List Wish) (areas : List Area) : Type 0 where
  pub in_rows : FirstInRows (areas_of (map begun items)) items areas
  pub left : FirstOfLeft (columns_for columns (before_last items areas)) (first_row rows (before_last items areas))
      (areas_of (before_last items areas)) items areas

-- the items are dense in the axes of the grid, where the shape is
pub record FillsHoles (items : List Wish) (shape : Shape) (areas : List Area) : Type 0 where
  pub dense : shape.dense ≡ true →
      IsDense (explicit_columns shape.column_flow shape) (explicit_rows shape.column_flow shape) (map (wish_in_flow shape.column_flow) items)
      (map (area_in_flow shape.column_flow) areas)
