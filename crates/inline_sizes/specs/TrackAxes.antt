-- What the tracks of one axis of a grid are sized by, and what comes of it, as the code holds them (CSS Grid 2, section 12).
use Rattle.std.specs.Prelude.{◌≡◌, ℕ, ℤ, pos, ◌-ℤ◌, ◌≤ℤ◌, Bool, List, Option, Some, None, length, option_map}
use Rattle.std.specs.Int.{int_max}
use Rattle.lunit.specs.declared.geometry.Span.{Span}
use Rattle.lunit.specs.declared.item.Item.{Item}
use Rattle.part_rules.specs.declared.track.Fit.{Fit}
use Rattle.part_rules.specs.declared.track.Space.{Space}
use Rattle.part_rules.specs.declared.track.Space.TheVariants.{MinContent, MaxContent}
use Rattle.part_rules.specs.Lists.{above_zero}
use Rattle.placing.specs.Covered.{IsNear}
use Rattle.placing.specs.Ranges.{IsGridAxis}
use Rattle.style_types.specs.Styles.{StyleMap}
use Rattle.track_sizing.specs.Placed.{AreIn}
use Rattle.tree_rules.specs.Distribution as rules
use Rattle.tree_rules.specs.GridSizes.{TrackAxis, total_for}
use Rattle.tree_rules.specs.Labels.{ContentAxis, GridAxis, content_of}
use Rattle.tree_rules.specs.NodeSizes.{bounds_of, stretches}
use Rattle.tree_rules.specs.Templates.{written}
use Rattle.inline_sizes.specs.declared.tracks.SizedTracks.{SizedTracks}
use Rattle.inline_sizes.specs.Styled.{content_at, grid_at}

-- The axis of a grid with this style, whose automatic repeat stands so often, by the spans of its children, all its tracks, and its items.
abbrev pub track_axis : ℕ → StyleMap → ℕ → List Span → Span → List Item → TrackAxis
track_axis axis style count spans tracks items = record {
  border_box = (content_of style).border_box;
  grid = grid_at axis style;
  content = content_at axis style;
  written = written (grid_at axis style).template count;
  spans = spans;
  tracks = tracks;
  items = items;
}

-- what the tracks are sized for, by the values of the grid along the axis
abbrev pub fit_in : {axis : ℕ} → Bool → GridAxis → ContentAxis → Space axis → ℤ → Fit axis
fit_in border_box g c space gap =
    let b = bounds_of None border_box g c in
    record {
      space = space;
      min = option_map (λ v. v -ℤ b.inner) b.least;
      max = option_map (λ v. v -ℤ b.inner) b.most;
      gap = gap;
      stretch = stretches
          c.distribution.mode;
    }

-- the sized tracks of the definitions
abbrev pub sized_of : SizedTracks → rules.Sized
sized_of s = record { rules = s.rules; sizes = s.sizes; gap = s.gap }

-- how many tracks a span has
abbrev pub track_count : Span → ℕ
track_count tracks = above_zero (tracks.end -ℤ tracks.start)

-- The values along the axis are ones that a text reads as, the tracks are near, and each item spans some of them and no others.
pub record CanSize (axis : ℕ) (style : StyleMap) (tracks : Span) (items : List Item) : Type 0 where
  pub grid : IsGridAxis (grid_at axis style)
  pub near : IsNear tracks
  pub inside : AreIn tracks.start (track_count tracks) items

-- the totals for a min-content and a max-content space, the second at least the first
abbrev pub intrinsic_totals : TrackAxis → ℤ × ℤ
intrinsic_totals a =
    let low_space : Space 0 = MinContent in
    let high_space : Space 0 = MaxContent in
    let low = total_for a low_space in
    (low, int_max low (total_for a high_space))

-- a size that percentages are of is not below 0
abbrev pub IsBase : Option ℤ → Type 0
IsBase None = Unit {0}
IsBase (Some x) = pos 0 ≤ℤ x

-- there are as many rules and as many sizes as tracks, and the gap is not below 0
pub record IsCounted (tracks : Span) (s : SizedTracks) : Type 0 where
  pub rules : length s.rules ≡ track_count tracks
  pub sizes : length s.sizes ≡ track_count tracks
  pub gap : pos 0 ≤ℤ s.gap
