-- Lines of a subgrid as lines of the grid that sizes its tracks.
use Rattle.std.specs.Prelude.{ℤ, pos, neg_ℤ, ◌+ℤ◌, ◌-ℤ◌, ◌≤ℤ◌, List, [], ◌∷◌}
use Rattle.lunit.specs.declared.geometry.Span.{Span}
use Rattle.part_rules.specs.declared.view.Level.{Level}
use Rattle.tree_rules.specs.LentItems.{offset_of}

-- the number of a line, from -2^31 to 2^31 - 1
pub record IsLine (line : ℤ) : Type 0 where
  pub low : neg_ℤ (pos 2147483648) ≤ℤ line
  pub high : line ≤ℤ pos 2147483647

-- both ends of a span of a subgrid's lines have such numbers in the grid that sizes the tracks
pub record IsLifted (levels : List Level) (span : Span) : Type 0 where
  pub start : IsLine (span.start +ℤ offset_of levels)
  pub end : IsLine (span.end +ℤ offset_of levels)

-- so has the span of the subgrid itself, where it is one
abbrev pub IsSelfLifted : List Level → Type 0
IsSelfLifted [] = Unit {0}
IsSelfLifted (l ∷ outer) = IsLifted outer l.span

-- a span of lines of a subgrid that lies within them
pub record IsInside (level : Level) (span : Span) : Type 0 where
  pub start : pos 0 ≤ℤ span.start
  pub order : span.start ≤ℤ span.end
  pub end : span.end ≤ℤ (level.span.end -ℤ level.span.start)

-- a span that lies within another one
pub record IsCovered (outer inner : Span) : Type 0 where
  pub start : outer.start ≤ℤ inner.start
  pub end : inner.end ≤ℤ outer.end
