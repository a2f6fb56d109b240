-- Spans of grid lines and areas of cells that overlap.
use Rattle.std.specs.Prelude.{ℤ, ◌≤ℤ◌, ◌<ℤ◌, Bool, not, ◌&&◌, int_lt, List}
use Rattle.std.specs.Int.{int_max, int_min}
use Rattle.std.specs.List.{list_all}
use Rattle.lunit.specs.declared.geometry.Area.{Area}
use Rattle.lunit.specs.declared.geometry.Span.{Span}

-- some track lies in both: what they have in common begins before it ends
abbrev pub spans_overlap : Span → Span → Bool
spans_overlap a b = int_lt (int_max a.start b.start) (int_min a.end b.end)

-- some cell lies in both (CSS Grid 2, 8.5)
abbrev pub areas_overlap : Area → Area → Bool
areas_overlap a b = spans_overlap a.columns b.columns && spans_overlap a.rows b.rows

-- the area overlaps none of these
abbrev pub is_free : Area → List Area → Bool
is_free a held = list_all (λ b. not (areas_overlap a b)) held

-- the track from a line to the next one lies in the span
abbrev pub IsTrackOf : Span → ℤ → Type 0
IsTrackOf span track = (span.start ≤ℤ track) × (track <ℤ span.end)

-- some cell lies in both areas
pub record HaveCell (a b : Area) : Type 0 where
  pub column : ℤ
  pub row : ℤ
  pub first_column : IsTrackOf a.columns column
  pub first_row : IsTrackOf a.rows row
  pub second_column : IsTrackOf b.columns column
  pub second_row : IsTrackOf b.rows row
