-- Spans and areas of at least one track, and those within the lines of a context (CSS Grid 2, 8.5).
use Rattle.std.specs.Prelude.{◌≡◌, ◌≤◌, ℤ, pos, ◌≤ℤ◌, ◌<ℤ◌, List, [], ◌∷◌}
use Rattle.lunit.specs.declared.geometry.Area.{Area}
use Rattle.lunit.specs.declared.geometry.Span.{Span}
use Rattle.lunit.specs.declared.geometry.Spot.{Spot}
use Rattle.lunit.specs.declared.geometry.Spot.TheVariants.{At, Free}
use Rattle.part_rules.specs.declared.wish.Wish.{Wish}
use Rattle.part_rules.specs.LineNames.{cut_span}
use Rattle.tree_rules.specs.Contexts as rules

-- a span of at least one track, which lies within a limit
pub record IsWithin (first last : ℤ) (s : Span) : Type 0 where
  pub low : first ≤ℤ s.start
  pub some : s.start <ℤ s.end
  pub high : s.end ≤ℤ last

-- an area of at least one track in both axes, which lies within the limits of a context
pub record IsInside (c : rules.Context) (a : Area) : Type 0 where
  pub columns : IsWithin c.columns.table.low c.columns.table.high a.columns
  pub rows : IsWithin c.rows.table.low c.rows.table.high a.rows

-- each of these areas
abbrev pub AreInside : rules.Context → List Area → Type 0
AreInside c [] = Unit {0}
AreInside c (a ∷ rest) = IsInside c a × AreInside c rest

-- a place of at least one track, which ends at line 20,000 or before, or spans no more tracks
abbrev pub IsFilled : Spot → Type 0
IsFilled (At s) = (s.start <ℤ s.end) × (s.end ≤ℤ pos 20000)
IsFilled (Free k) = (1 ≤ k) × (k ≤ 20000)

-- each of these items has such places
abbrev pub AreFilled : List Wish → Type 0
AreFilled [] = Unit {0}
AreFilled (w ∷ rest) = (IsFilled w.column × IsFilled w.row) × AreFilled rest

-- an area of at least one cell
pub record IsFull (a : Area) : Type 0 where
  pub columns : a.columns.start <ℤ a.columns.end
  pub rows : a.rows.start <ℤ a.rows.end

-- each of these areas
abbrev pub AreFull : List Area → Type 0
AreFull [] = Unit {0}
AreFull (a ∷ rest) = IsFull a × AreFull rest

-- an area cut to limits
abbrev pub cut_to : Area → Area → Area
cut_to limits a = record { columns = cut_span limits.columns.start limits.columns.end a.columns; rows = cut_span limits.rows.start limits.rows.end a.rows }

-- an area that limits leave as it is
pub record IsUncut (limits a : Area) : Type 0 where
  pub same : a ≡ cut_to limits a
