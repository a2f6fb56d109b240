-- Tracks whose edges are moved.
use Rattle.std.specs.Prelude.{ℕ, zero, suc, ℤ, pos, ◌+ℤ◌, List, [], ◌∷◌}
use Rattle.lunit.specs.Units.{IsUnits}
use Rattle.part_rules.specs.Views.{track_between}
use Rattle.subgrid_view.specs.Ranges.{IsMove}
use Rattle.subgrid_view.specs.declared.view.Moves.{Moves}

-- what the edges are moved by, in range
pub record AreMoves (m : Moves) : Type 0 where
  pub start : IsMove m.start
  pub end : IsMove m.end
  pub last : IsUnits m.last

-- where a track begins that began there and has so many before it: the first at 0, and another where it is moved to
abbrev pub start_moved : Moves → ℕ → ℤ → ℤ
start_moved m zero start = pos 0
start_moved m (suc k) start = start +ℤ m.start

-- where a track ends that ended there and has these after it
abbrev pub end_moved : Moves → ℤ → List (ℤ × ℤ) → ℤ
end_moved m end [] = m.last
end_moved m end (f ∷ rest) = end +ℤ m.end

-- the tracks after so many
abbrev pub moved_from : Moves → ℕ → List (ℤ × ℤ) → List (ℤ × ℤ)
moved_from m k [] = []
moved_from m k (e ∷ rest) = track_between (start_moved m k e.0) (end_moved m e.1 rest) ∷ moved_from m (suc k) rest
