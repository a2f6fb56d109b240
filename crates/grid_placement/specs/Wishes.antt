-- Which wishes are placed, and in which flow.
use Rattle.std.specs.Prelude.{ℕ, pos, Bool, true, false, ◌&&◌, int_lt, int_le, nat_le, List}
use Rattle.std.specs.List.{list_all}
use Rattle.lunit.specs.declared.geometry.Area.{Area}
use Rattle.lunit.specs.declared.geometry.Spot.{Spot}
use Rattle.lunit.specs.declared.geometry.Spot.TheVariants.{At, Free}
use Rattle.part_rules.specs.declared.wish.Wish.{Wish}
use Rattle.part_rules.specs.declared.wish.Shape.{Shape}
use Rattle.part_rules.specs.Placement.{turned_wish, turned_area}

-- a definite span begins before it ends, at line 20,000 or before; a free span is of at most 20,000 tracks
abbrev pub is_within : Spot → Bool
is_within (At s) = int_lt s.start s.end && int_le s.end (pos 20000)
is_within (Free k) = nat_le k 20000

-- an item can be placed in both axes
abbrev pub is_placeable : Wish → Bool
is_placeable w = is_within w.column && is_within w.row

-- each of these items can be placed
abbrev pub are_placeable : List Wish → Bool
are_placeable items = list_all is_placeable items

-- the item as the flow sees it
abbrev pub wish_in_flow : Bool → Wish → Wish
wish_in_flow true w = turned_wish w
wish_in_flow false w = w

-- the area as the grid sees it, of one that the flow sees
abbrev pub area_in_flow : Bool → Area → Area
area_in_flow true a = turned_area a
area_in_flow false a = a

-- the explicit columns as the flow sees them
abbrev pub explicit_columns : Bool → Shape → ℕ
explicit_columns true shape = shape.rows
explicit_columns false shape = shape.columns

-- the explicit rows as the flow sees them
abbrev pub explicit_rows : Bool → Shape → ℕ
explicit_rows true shape = shape.columns
explicit_rows false shape = shape.rows
