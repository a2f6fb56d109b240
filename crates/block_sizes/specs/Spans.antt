-- Spans of tracks.
use Rattle.std.specs.Prelude.{ℕ, pos, ◌-ℤ◌, ◌≤ℤ◌}
use Rattle.lunit.specs.declared.geometry.Span.{Span}

-- A span of lines of some tracks, which are at most 131,072: the explicit ones of a grid, at most 65,536, and those that items reach, at most
-- 10,000 on each side.
pub record LiesIn (tracks span : Span) : Type 0 where
  pub start : tracks.start ≤ℤ span.start
  pub order : span.start ≤ℤ span.end
  pub end : span.end ≤ℤ tracks.end
  pub few : (tracks.end -ℤ tracks.start) ≤ℤ pos 131072

-- the tracks from line 0 to this one
abbrev pub tracks_to : ℕ → Span
tracks_to n = record { start = pos 0; end = pos n }

-- line 0 lies in a range of tracks
pub record HasZero (r : Span) : Type 0 where
  pub start : r.start ≤ℤ pos 0
  pub end : pos 0 ≤ℤ r.end
