-- The sizes of one node in one axis: margins, borders and paddings, declared sizes, contributions, and the sizes that are used.
use Rattle.std.specs.Prelude.{refl, ℤ, pos, ◌+ℤ◌, ◌-ℤ◌, Bool, true, false, ◌&&◌, Option, Some, None, option_map, is_some, unwrap_or, if◌then◌else◌, ◌≡◌}
use Rattle.std.specs.Int.{int_max, int_min}
use Rattle.lunit.specs.Units.{clamp, percent, floor_div}
use Rattle.lunit.specs.declared.item.Floor.{Floor}
use Rattle.lunit.specs.declared.item.Floor.TheVariants.{Known, Content}
use Rattle.lunit.specs.declared.item.Item.{Item}
use Rattle.lunit.specs.declared.geometry.Span.{Span}
use Rattle.part_rules.specs.Lists.{at_most}
use Rattle.style_types.specs.declared.value.Align.{Align}
use Rattle.style_types.specs.declared.value.AlignMode.{AlignMode}
use Rattle.style_types.specs.declared.value.AlignMode.TheVariants as align_mode
use Rattle.style_types.specs.declared.value.Size.{Size}
use Rattle.style_types.specs.declared.value.Size.TheVariants as size
use Rattle.tree_rules.specs.Labels.{GridAxis, ContentAxis, length_or_zero, plain_axis, plain_content_axis}

-- ---- margins, borders and paddings (CSS 2, section 8)

-- a margin, `auto` counting 0
abbrev pub margin : Option ℤ → ℤ
margin = length_or_zero

-- the two margins
abbrev pub margins : GridAxis → ℤ
margins g = margin g.margin_start +ℤ margin g.margin_end

-- border and padding at the start
abbrev pub inner_start : GridAxis → ℤ
inner_start g = g.border_start +ℤ g.padding_start

-- border and padding at the end
abbrev pub inner_end : GridAxis → ℤ
inner_end g = g.border_end +ℤ g.padding_end

-- borders and paddings
abbrev pub inner : GridAxis → ℤ
inner g = inner_start g +ℤ inner_end g

-- margin, border and padding at the start
abbrev pub outer_start : GridAxis → ℤ
outer_start g = margin g.margin_start +ℤ inner_start g

-- margin, border and padding at the end
abbrev pub outer_end : GridAxis → ℤ
outer_end g = margin g.margin_end +ℤ inner_end g

-- ---- declared sizes (CSS Sizing 3, sections 3 and 5)

-- a declared length, or a percentage of a size, where there is one
abbrev pub resolved : Option ℤ → Size → Option ℤ
resolved base (size.Length x) = Some x
resolved base (size.Percent t) = option_map (λ x. percent x t) base
resolved base s = None

-- a percentage
abbrev pub is_percentage : Size → Bool
is_percentage (size.Percent t) = true
is_percentage s = false

-- `auto`
abbrev pub is_auto : Size → Bool
is_auto size.Auto = true
is_auto s = false

-- The border-box size of a declared size (CSS Sizing 3, section 3.3). It is exact: the range limits it where it is used.
abbrev pub border_size : Bool → ℤ → ℤ → ℤ
border_size border_box p v = if border_box then int_max v p else v +ℤ p

-- A node's declared sizes in one axis, as border-box sizes.
pub record Bounds : Type 0 where
  -- the sum of borders and paddings
  pub inner : ℤ
  -- the preferred size
  pub size : Option ℤ
  -- the minimum size
  pub least : Option ℤ
  -- the maximum size
  pub most : Option ℤ

-- The declared sizes, where percentages are of this size; without one they are none: a percentage size behaves as `auto`, a percentage
-- minimum as 0, and a percentage maximum as `none` (own rule).
abbrev pub bounds_of : Option ℤ → Bool → GridAxis → ContentAxis → Bounds
bounds_of base border_box g c =
    let p = inner g in
    record {
      inner = p;
      size = option_map (border_size border_box p) (resolved base c.size);
      least = option_map (border_size border_box p)
          (resolved base c.least);
      most = option_map (border_size border_box p) (resolved base c.most);
    }

-- A border-box size limited by the maximum, then by the minimum, and by borders and paddings (CSS Sizing 3, section 5.2). The minimum
-- `auto` is 0 here.
abbrev pub fitted : Bounds → ℤ → ℤ
fitted b x = int_max b.inner (int_max (unwrap_or b.least (pos 0)) (at_most b.most x))

-- ---- contributions (CSS Grid 2, 12.5; CSS Sizing 3, section 5.2)

-- The contribution of a node with these margins whose content has this size: its declared size, else that of its content with borders and
-- paddings, within its limits.
abbrev pub contribution : Bounds → ℤ → ℤ → ℤ
contribution b m content = clamp (m +ℤ fitted b (unwrap_or b.size (content +ℤ b.inner)))

-- The minimum by a declared minimum: 0 for a percentage; for `auto` the automatic minimum, which is 0 for a scroll container and else
-- depends on the spanned tracks (CSS Grid 2, 6.6). The content size and the margins are limited where they are kept for that (own rule:
-- they could also be exact, which tells only beyond the range of lengths).
abbrev pub floor_by : Size → Bool → Bounds → ℤ → ℤ → Floor
floor_by (size.Length x) scrolls b m content = Known (clamp (m +ℤ int_max b.inner (unwrap_or b.least (pos 0))))
floor_by size.Auto false b m content = Content (clamp (at_most b.most (content +ℤ b.inner))) (clamp m) b.inner
floor_by s scrolls b m content = Known (clamp (m +ℤ b.inner))

-- The minimum contribution (CSS Grid 2, 12.5): with a declared length it is the min-content contribution.
abbrev pub floor_of : Size → Bool → Bounds → ℤ → ℤ → Floor
floor_of least scrolls b m content =
    let declared = Known (contribution b m content) in
    let automatic = floor_by least scrolls b m content in
    if is_some b.size then declared else automatic

-- An item of a grid along one axis, over this span of lines, with these margins, extra margins included, and these two content sizes.
abbrev pub item_of : Bool → Bool → GridAxis → ContentAxis → Span → ℤ → ℤ × ℤ → Item
item_of border_box scrolls g c span m content =
    let b = bounds_of None border_box g c in
    record { span = span; low = contribution b m content.0; high = contribution b m content.1; floor = floor_of c.least scrolls b m content.0 }

-- ---- alignment of a node in its container (CSS Box Alignment 3, section 6)

-- `auto`
abbrev pub is_auto_mode : AlignMode → Bool
is_auto_mode align_mode.Auto = true
is_auto_mode m = false

-- `normal` or `stretch`
abbrev pub stretches : AlignMode → Bool
stretches align_mode.Normal = true
stretches align_mode.Stretch = true
stretches m = false

-- the self value of a node: `auto` takes the container's value for its items
abbrev pub self_align : Align → Align → Align
self_align own items = if is_auto_mode own.mode then items else own

-- a margin that is `auto`
abbrev pub is_auto_margin : Option ℤ → Bool
is_auto_margin None = true
is_auto_margin (Some x) = false

-- A node is stretched where its self value says so, its size in this axis is `auto`, and neither of its margins there is.
abbrev pub is_stretched : Align → GridAxis → ContentAxis → Bool
is_stretched a g c = stretches a.mode && (is_auto c.size && (is_some g.margin_start && is_some g.margin_end))

-- ---- the sizes that are used, as border-box sizes (CSS Grid 2, 6.2; CSS Sizing 3, section 5)

-- the size of a node that is fit to a room by its two content sizes
abbrev pub fit_to : Bounds → ℤ → ℤ → ℤ × ℤ → ℤ
fit_to b m room content = int_min (int_max (content.0 +ℤ b.inner) (room -ℤ m)) (content.1 +ℤ b.inner)

-- The inline size of a node in a room of this size, where percentages are of that size (they could also be of it less the margins): its
-- declared size; else, where it is stretched, the
-- room less its margins; else fit to its content; within its limits (CSS Grid 2, 6.2).
abbrev pub inline_used : Bounds → Bool → ℤ → ℤ → ℤ × ℤ → ℤ
inline_used b stretched m room content =
    let stretch = room -ℤ m in
    let fit = fit_to b m room content in
    let automatic = if stretched then stretch else fit in
    clamp (fitted b (unwrap_or b.size automatic))

-- The block size of a node in a room of this size: its declared size; else, where it is stretched, the room less its margins; else
-- the block size of its content; within its limits.
abbrev pub block_used : Bounds → Bool → ℤ → ℤ → ℤ → ℤ
block_used b stretched m room content =
    let stretch = room -ℤ m in
    let fit = content +ℤ b.inner in
    let automatic = if stretched then stretch else fit in
    clamp (fitted b (unwrap_or b.size automatic))

-- the content size of a border-box size
abbrev pub content_of_box : ℤ → ℤ → ℤ
content_of_box p box = clamp (box -ℤ p)

-- ---- worked rows, in units

abbrev sized : Size → Size → Size → ContentAxis
sized s least most = record plain_content_axis { size = s; least = least; most = most }

-- borders and paddings of 6 and 4, margins of 3 and `auto`
abbrev thick : GridAxis
thick =
    record plain_axis
    { margin_start = Some (pos 3); margin_end = None; border_start = pos 1; border_end = pos 2; padding_start = pos 5; padding_end = pos 2 }

auto_counts_0 : margins thick ≡ pos 3
auto_counts_0 = refl

-- A width of 20 is 30 with its borders and paddings under `content-box`, and 20 under `border-box`, where it is at least 10.
content_box : border_size false (inner thick) (pos 20) ≡ pos 30
content_box = refl

border_box : border_size true (inner thick) (pos 20) ≡ pos 20
border_box = refl

least_border_box : border_size true (inner thick) (pos 4) ≡ pos 10
least_border_box = refl

-- The minimum of 50 wins over the maximum of 40.
minimum_wins : fitted (bounds_of None true plain_axis (sized size.Auto (size.Length (pos 50)) (size.Length (pos 40)))) (pos 45) ≡ pos 50
minimum_wins = refl

-- A maximum of 5 does not go below borders and paddings of 10.
inner_wins : fitted (bounds_of None true thick (sized size.Auto size.Auto (size.Length (pos 5)))) (pos 45) ≡ pos 10
inner_wins = refl

-- 50% of 31 is 15, and of nothing it is `auto`.
half : (bounds_of (Some (pos 31)) false plain_axis (sized (size.Percent 50000) size.Auto size.Absent)).size ≡ Some (pos 15)
unfolding clamp floor_div
half = refl

half_of_nothing : (bounds_of None false plain_axis (sized (size.Percent 50000) size.Auto size.Absent)).size ≡ None
half_of_nothing = refl

-- Contents of 20 and 30 with inner 10 and margins of 3 and a maximum of 32 as content size, which is 42: 33, 43, and a minimum by content of 30.
an_item : item_of false false thick (sized size.Auto size.Auto (size.Length (pos 32))) (record { start = pos 0; end = pos 1 }) (pos 3) (pos 20, pos 30)
    ≡ record { span = record { start = pos 0; end = pos 1 }; low = pos 33; high = pos 43; floor = Content (pos 30) (pos 3) (pos 10) }
unfolding clamp
an_item = refl

-- A scroll container has no automatic minimum but its borders and paddings: 3 + 10.
scrolling : floor_of size.Auto true (bounds_of None false thick (sized size.Auto size.Auto size.Absent)) (pos 3) (pos 20) ≡ Known (pos 13)
unfolding clamp
scrolling = refl

-- A percentage minimum counts 0.
percentage_minimum : floor_of (size.Percent 100000) false (bounds_of None false thick (sized size.Auto (size.Percent 100000) size.Absent)) (pos 3)
    (pos 20) ≡ Known (pos 13)
unfolding clamp
percentage_minimum = refl

-- A declared minimum of 7 is 17 with inner 10; with a declared size of 8 the minimum is the whole contribution, 3 + 18.
declared_minimum : floor_of (size.Length (pos 7)) false (bounds_of None false thick (sized size.Auto (size.Length (pos 7)) size.Absent)) (pos 3)
    (pos 20) ≡ Known (pos 20)
unfolding clamp
declared_minimum = refl

declared_size : floor_of size.Auto false (bounds_of None false thick (sized (size.Length (pos 8)) size.Auto size.Absent)) (pos 3) (pos 20) ≡ Known (pos 21)
unfolding clamp
declared_size = refl

-- In a room of 100 less margins of 3: stretched 97; fit to contents of 20 and 30 the greater one with inner 10; in a room of 35 what is left of it,
-- 32; and in one of 10 no less than 30.
stretched_inline : inline_used (bounds_of None false thick plain_content_axis) true (pos 3) (pos 100) (pos 20, pos 30) ≡ pos 97
unfolding clamp
stretched_inline = refl

fit_inline : inline_used (bounds_of None false thick plain_content_axis) false (pos 3) (pos 100) (pos 20, pos 30) ≡ pos 40
unfolding clamp
fit_inline = refl

narrow_inline : inline_used (bounds_of None false thick plain_content_axis) false (pos 3) (pos 35) (pos 20, pos 30) ≡ pos 32
unfolding clamp
narrow_inline = refl

too_narrow_inline : inline_used (bounds_of None false thick plain_content_axis) false (pos 3) (pos 10) (pos 20, pos 30) ≡ pos 30
unfolding clamp
too_narrow_inline = refl

-- The content decides the block size, where it is not stretched, also in a smaller room.
content_block : block_used (bounds_of None false thick plain_content_axis) false (pos 3) (pos 10) (pos 20) ≡ pos 30
unfolding clamp
content_block = refl

-- An `auto` margin keeps a node from being stretched, and so does a size.
not_by_margin : is_stretched (record { mode = align_mode.Stretch; safe = None }) thick plain_content_axis ≡ false
not_by_margin = refl

not_by_size : is_stretched (record { mode = align_mode.Stretch; safe = None }) plain_axis (sized (size.Percent 0) size.Auto size.Absent) ≡ false
not_by_size = refl

by_container : self_align (record { mode = align_mode.Auto; safe = None }) (record { mode = align_mode.Center; safe = Some true }) ≡
    record { mode = align_mode.Center; safe = Some true }
by_container = refl
