-- Each area has the definite lines of its item, and in an axis in which the item is free so many tracks as it spans.
use Rattle.std.specs.Prelude.{◌≡◌, pos, ◌+ℤ◌, List, [], ◌∷◌}
use Rattle.lunit.specs.declared.geometry.Area.{Area}
use Rattle.lunit.specs.declared.geometry.Span.{Span}
use Rattle.lunit.specs.declared.geometry.Spot.{Spot}
use Rattle.lunit.specs.declared.geometry.Spot.TheVariants.{At, Free}
use Rattle.part_rules.specs.declared.wish.Wish.{Wish}

-- a span has the lines of a definite place, or as many tracks as a free one
abbrev pub HasSpot : Spot → Span → Type 0
HasSpot (At lines) span = span ≡ lines
HasSpot (Free tracks) span = span.end ≡ span.start +ℤ pos tracks

-- the area has the item's places in both axes
pub record FitsWish (w : Wish) (a : Area) : Type 0 where
  pub columns : HasSpot w.column a.columns
  pub rows : HasSpot w.row a.rows

-- there are as many areas as items, and each fits its item
abbrev pub FitWishes : List Wish → List Area → Type 0
FitWishes [] [] = Unit {0}
FitWishes [] (a ∷ areas) = ⊥
FitWishes (w ∷ wishes) [] = ⊥
FitWishes (w ∷ wishes) (a ∷ areas) = FitsWish w a × FitWishes wishes areas
