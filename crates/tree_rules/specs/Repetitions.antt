-- How often the automatic repeats of a grid stand (CSS Grid 2, 7.2.3.2).
use Rattle.std.specs.Prelude.{refl, ℕ, ℤ, pos, ◌-ℤ◌, Bool, List, map, Option, Some, None, unwrap_or, [], false, true, ◌≡◌, ◌∷◌}
use Rattle.std.specs.Int.{int_max}
use Rattle.lunit.specs.Units.{percent, clamp, floor_div}
use Rattle.part_rules.specs.declared.names.RepeatSpace.{RepeatSpace}
use Rattle.part_rules.specs.declared.names.RepeatSpace.TheVariants.{Fits, Fills, Endless}
use Rattle.part_rules.specs.Repetition.{counted, repetitions_by_division}
use Rattle.style_types.specs.declared.track.Breadth.{Breadth}
use Rattle.style_types.specs.declared.track.Breadth.TheVariants as breadth
use Rattle.style_types.specs.declared.track.Repeat.{Repeat}
use Rattle.style_types.specs.declared.track.Template.{Template}
use Rattle.style_types.specs.declared.track.Template.TheVariants as template
use Rattle.style_types.specs.declared.track.TrackFn.{TrackFn}
use Rattle.style_types.specs.declared.value.Size.{Size}
use Rattle.style_types.specs.declared.value.Size.TheVariants as size
use Rattle.tree_rules.specs.declared.query.Given.{Given}
use Rattle.tree_rules.specs.declared.query.Given.TheVariants as given
use Rattle.tree_rules.specs.Answers.{Pair}
use Rattle.tree_rules.specs.Labels.{Label, GridAxis, ContentAxis}
use Rattle.tree_rules.specs.NodeSizes.{Bounds, bounds_of, fitted}
use Rattle.tree_rules.specs.Labels.{plain_axis, plain_content_axis}

-- ---- gaps (CSS Box Alignment 3, section 8)

-- The gap between two tracks. `normal` is this length; a percentage is of a size, and 0 where there is none.
abbrev pub gap_by : Option ℤ → ℤ → Size → ℤ
gap_by base normal size.Normal = normal
gap_by base normal (size.Length x) = x
gap_by None normal (size.Percent t) = pos 0
gap_by (Some x) normal (size.Percent t) = percent x t
gap_by base normal s = pos 0

-- ---- the size that is counted against (CSS Grid 2, 7.2.3.2)

-- Border-box sizes that are declared as lengths: the size as the limits leave it; else the maximum, raised to the minimum; else the minimum, as a
-- size to be reached. Each is then a content size (they could also be content sizes as they are declared). A percentage is none of them (own rule).
abbrev pub declared_space : Bounds → RepeatSpace
declared_space b = elim b.size [
  | Some v ↦ Fits (fitted b v -ℤ b.inner)
  | None ↦ elim b.most [
    | Some most ↦ Fits (int_max most (unwrap_or b.least (pos 0)) -ℤ b.inner)
    | None ↦ elim b.least [ Some least ↦ Fills (least -ℤ b.inner) | None ↦ Endless ]
  ]
]

-- by the declared sizes of a node in one axis
abbrev pub space_of : Bool → GridAxis → ContentAxis → RepeatSpace
space_of border_box g c = declared_space (bounds_of None border_box g c)

-- the size itself, of which percentages are
abbrev pub size_of_space : RepeatSpace → ℤ
size_of_space (Fits x) = x
size_of_space (Fills x) = x
size_of_space Endless = pos 0

-- ---- counting (CSS Grid 2, 7.2.3.2)

-- the length of a track function, a percentage being of this size
abbrev pub counted_breadth : ℤ → Breadth → Option ℤ
counted_breadth x (breadth.Length v) = Some v
counted_breadth x (breadth.Percent t) = Some (percent x t)
counted_breadth x b = None

-- the length as which a track counts
abbrev pub counted_track : ℤ → TrackFn → ℤ
counted_track x f = counted (counted_breadth x f.least) (counted_breadth x f.most)

-- how often the repeat of a list stands
abbrev pub list_count : GridAxis → List TrackFn → Option Repeat → RepeatSpace → ℕ
list_count g sizes None space = 1
list_count g sizes (Some r) space =
    let x = size_of_space space in
    repetitions_by_division (map (counted_track x) sizes) (map (counted_track x) r.sizes) (gap_by (Some x) (pos 0) g.gap) space

-- How often the automatic repeat of a template stands; without one the count is 1, so also for `subgrid`. A percentage gap is here
-- of the size that is counted against, for rows too (it could also count 0, as it does where content is summed up).
abbrev pub template_count : GridAxis → Template → RepeatSpace → ℕ
template_count g template.Absent space = 1
template_count g (template.Subgrid sets) space = 1
template_count g (template.Tracks l) space = list_count g l.sizes l.repeat space

-- Columns are counted against the content width once it is given, and else by the declared sizes (own rule).
abbrev pub columns_space : Label → Given → RepeatSpace
columns_space x (given.Size width) = Fits width
columns_space x (given.Tracks edges gap) = Endless
columns_space x given.None = space_of x.content.border_box x.grid.columns x.content.inline

-- The counts of a grid that is given this in the inline axis. Rows are always counted by the declared sizes, also once the height is given
-- (own rule).
abbrev pub own_pair : Label → Given → Pair
own_pair x width = (
  template_count x.grid.columns x.grid.columns.template (columns_space x width),
  template_count x.grid.rows x.grid.rows.template
      (space_of x.content.border_box x.grid.rows x.content.block),
)

-- ---- worked rows, in units

abbrev of_sizes : Size → Size → Size → ContentAxis
of_sizes s least most = record plain_content_axis { size = s; least = least; most = most }

-- A width of 100 is limited to the maximum of 80.
by_width : space_of false plain_axis (of_sizes (size.Length (pos 100)) size.Auto (size.Length (pos 80))) ≡ Fits (pos 80)
by_width = refl

-- Without a width the maximum counts, raised to the minimum.
by_maximum : space_of false plain_axis (of_sizes size.Auto (size.Length (pos 90)) (size.Length (pos 80))) ≡ Fits (pos 90)
by_maximum = refl

-- The minimum alone is to be reached; a percentage width is none.
by_minimum : space_of false plain_axis (of_sizes (size.Percent 50000) (size.Length (pos 90)) size.Absent) ≡ Fills (pos 90)
by_minimum = refl

by_nothing : space_of false plain_axis (of_sizes (size.Percent 50000) (size.Percent 50000) (size.Percent 50000)) ≡ Endless
by_nothing = refl

-- Under `border-box` 100 less paddings of 30 are left.
by_border_box : space_of true (record plain_axis { padding_start = pos 10; padding_end = pos 20 })
    (of_sizes (size.Length (pos 100)) size.Auto size.Absent) ≡ Fits (pos 70)
by_border_box = refl

abbrev repeating : Breadth → Breadth → Template
repeating a b =
    template.Tracks
    (record {
      sizes = [];
      names = [] ∷ [] ∷
          [];
      repeat = Some
          (record { before = 0; auto_fit = false; sizes = record { least = a; most = b; fit = None } ∷ []; names = [] ∷ [] ∷ [] });
    })

-- Tracks of 10% of 6400, which are 640, with gaps of 5%, which are 320: six and five gaps are 5440, seven and six are 6400, and eight are 7360.
percentages : template_count (record plain_axis { gap = size.Percent 5000 }) (repeating (breadth.Percent 10000) (breadth.Percent 10000)) (Fits (pos 6400)) ≡ 7
unfolding clamp floor_div
percentages = refl

-- minmax(200px, 1fr) counts as 200px: four of them with gaps of 20px fit 980px, and five do not.
by_least : template_count (record plain_axis { gap = size.Length (pos 1280) }) (repeating (breadth.Length (pos 12800)) (breadth.Flex 1000))
    (Fits (pos 62720)) ≡ 4
unfolding clamp floor_div
by_least = refl

no_repeat : template_count plain_axis (template.Subgrid []) (Fits (pos 6400)) ≡ 1
no_repeat = refl

-- The parent's gap stands for `normal`, and nothing for a percentage of nothing.
normal_gap : gap_by None (pos 7) size.Normal ≡ pos 7
normal_gap = refl

no_gap : gap_by None (pos 7) (size.Percent 50000) ≡ pos 0
no_gap = refl
