-- The tracks that a subgrid was given, which the next one can share (CSS Grid 2, section 9).
use Rattle.std.specs.Prelude.{◌≡◌, ◌≤ℤ◌, ◌-ℤ◌, ◌&&◌, ℕ, ℤ, Bool, List, Option, None, Some, length, pos}
use Rattle.std.specs.Ordering.{int_eq}
use Rattle.lunit.specs.declared.geometry.Span.{Span}
use Rattle.part_rules.specs.declared.view.View.{View}
use Rattle.part_rules.specs.Views.{first_start, seen, view_of}
use Rattle.tree_rules.specs.Labels.{GridAxis}
use Rattle.tree_rules.specs.NodeSizes.{inner, margins, outer_end, outer_start}
use Rattle.tree_rules.specs.Queries.{same_items}
use Rattle.block_sizes.specs.declared.last_tracks.LastTracks.{LastTracks}
use Rattle.block_sizes.specs.declared.last_tracks.ViewParts.{ViewParts}

-- a track lies where another one does, moved by so much
abbrev pub is_moved : ℤ → ℤ × ℤ → ℤ × ℤ → Bool
is_moved by track other = int_eq (other.0 -ℤ track.0) by && int_eq (other.1 -ℤ track.1) by

-- some tracks lie as others do, from the start of the first of each
abbrev pub lie_alike : List (ℤ × ℤ) → List (ℤ × ℤ) → Bool
lie_alike tracks others = same_items (is_moved (first_start others -ℤ first_start tracks)) tracks others

-- a subgrid sees the same of both
pub record AreSeenAlike (tracks others : List (ℤ × ℤ)) : Type 0 where
  pub same : (d before after : ℤ) → seen d before after tracks ≡ seen d before after others

-- a span of tracks that there are, counted from the first one
pub record IsSpanIn (edges : List (ℤ × ℤ)) (span : Span) : Type 0 where
  pub start : pos 0 ≤ℤ span.start
  pub order : span.start ≤ℤ span.end
  pub end : span.end ≤ℤ pos (length edges)

-- There are neither margins nor borders and paddings.
pub record HasNoSides (g : GridAxis) : Type 0 where
  pub start : outer_start g ≡ pos 0
  pub end : outer_end g ≡ pos 0
  pub inner : inner g ≡ pos 0
  pub margins : margins g ≡ pos 0

-- the parts of two views have the same gap and the same sums at the two sides
abbrev pub same_sides : ViewParts → ViewParts → Bool
same_sides p q = int_eq p.gap q.gap && (int_eq p.before q.before && int_eq p.after q.after)

-- the view that is made of these parts and of the parent's view
abbrev pub view_made : {axis : ℕ} → View axis → ViewParts → View axis
view_made outer p = view_of outer p.span p.gap p.before p.after

-- the tracks of that view
pub record AreTracksOf {axis : ℕ} (outer : View axis) (p : ViewParts) (tracks : List (ℤ × ℤ)) : Type 0 where
  pub same : tracks ≡ (view_made outer p).edges

-- The tracks are what is made of their parts and of this view.
pub record AreMadeIn {axis : ℕ} (outer : View axis) (last : LastTracks) : Type 0 where
  pub span : IsSpanIn outer.edges last.parts.span
  pub tracks : AreTracksOf outer last.parts last.tracks

-- What was given last, if anything, was made of this view.
abbrev pub IsLastIn : {axis : ℕ} → View axis → Option LastTracks → Type 0
IsLastIn outer None = Unit {0}
IsLastIn outer (Some last) = AreMadeIn outer last
