-- The items of a flex container, and the intrinsic sizes of its content (CSS Flexbox 1, section 9).
use Rattle.std.specs.Prelude.{◌≡◌, refl, ℕ, ℤ, pos, ◌+ℤ◌, Bool, true, false, not, ◌&&◌, List, [], map, length, Option, Some, None, option_map, unwrap_or, if◌then◌else◌, ◌∷◌}
use Rattle.std.specs.Int.{int_max}
use Rattle.lunit.specs.Units.{clamp}
use Rattle.part_rules.specs.declared.flex.FlexItem.{FlexItem}
use Rattle.part_rules.specs.FlexLines.{gaps, line_crosses, line_ranges, main_sizes, outer_hypothetical}
use Rattle.part_rules.specs.Lists.{at_most, greatest_with, sum_of, zipped}
use Rattle.style_types.specs.declared.value.Align.{Align}
use Rattle.style_types.specs.declared.value.Size.{Size}
use Rattle.style_types.specs.declared.value.Size.TheVariants as size
use Rattle.tree_rules.specs.declared.query.Given.{Given}
use Rattle.tree_rules.specs.declared.query.Given.TheVariants as given
use Rattle.tree_rules.specs.Answers.{Down, Kid}
use Rattle.tree_rules.specs.Labels.{ContentAxis, GridAxis, Label, ContentStyle}
use Rattle.tree_rules.specs.NodeSizes.{Bounds, block_used, border_size, bounds_of, content_of_box, contribution, inline_used, is_stretched, margins, resolved, self_align, stretches}
use Rattle.tree_rules.specs.Orders.{in_order}
use Rattle.tree_rules.specs.Repetitions.{gap_by}
use Rattle.std.specs.Prelude.{negsuc}
use Rattle.lunit.specs.Units.{floor_div}
use Rattle.tree_rules.specs.declared.kind.NodeKind.TheVariants as kind
use Rattle.tree_rules.specs.Labels.{plain_axis, plain_content, plain_content_axis, plain_grid}

-- ---- axes (CSS Flexbox 1, sections 2 and 5.1)

-- the grid-class values along the main axis, which in a column is the block axis
abbrev pub main_grid : Bool → Label → GridAxis
main_grid column x = if column then x.grid.rows else x.grid.columns

-- the content-class values along the main axis
abbrev pub main_content : Bool → Label → ContentAxis
main_content column x = if column then x.content.block else x.content.inline

-- the grid-class values along the cross axis
abbrev pub cross_grid : Bool → Label → GridAxis
cross_grid column x = if column then x.grid.columns else x.grid.rows

-- the content-class values along the cross axis
abbrev pub cross_content : Bool → Label → ContentAxis
cross_content column x = if column then x.content.inline else x.content.block

-- how an item is aligned in its line: by `align-self`, whatever the axis (`justify-self` and `justify-items` have no effect)
abbrev pub line_align : Label → Label → Align
line_align container x = self_align x.content.block.own container.content.block.items

-- an item that is stretched across its line: its size there is `auto`, and none of its margins there is
abbrev pub is_stretched_across : Bool → Label → Label → Bool
is_stretched_across column container x = is_stretched (line_align container x) (cross_grid column x) (cross_content column x)

-- ---- items (CSS Flexbox 1, 4.5 and 9.2)

-- A child of a flex container with its intrinsic inline sizes.
pub record Member : Type 0 where
  pub number : ℕ
  pub kid : Kid
  pub inline : ℤ × ℤ

-- A flex container; its children stand in order-modified document order.
pub record Flex : Type 0 where
  pub label : Label
  pub members : List Member

-- a child with its number; the children of a flex container see no grid above them
abbrev pub member_of : ℕ × Kid → Member
member_of k = record { number = k.0; kid = k.1; inline = k.1.answers.inline [] }

-- the flex container with these children
abbrev pub flex_by : Label → List Kid → Flex
flex_by x kids = record { label = x; members = map member_of (in_order (λ (k : Kid). k.label.grid.order) kids) }

-- The flex base size as a border-box size (CSS Flexbox 1, 9.2): the basis, where it is a length or a percentage of the main size; else,
-- unless it is `content`, the declared main size; else that of the content.
abbrev pub base_size : Option ℤ → Bool → Size → Bounds → ℤ → ℤ
base_size main border_box size.Content b content = content +ℤ b.inner
base_size main border_box basis b content =
    unwrap_or (option_map (border_size border_box b.inner) (resolved main basis)) (unwrap_or b.size (content +ℤ b.inner))

-- The automatic minimum (CSS Flexbox 1, 4.5): the content size, but at most a declared main size and a declared maximum; 0 for a scroll
-- container.
abbrev pub automatic_minimum : Bool → Bounds → ℤ → ℤ
automatic_minimum true b content = pos 0
automatic_minimum false b content = at_most b.size (at_most b.most (content +ℤ b.inner))

-- An item along the main axis, with its two content sizes there, where percentages are of the main size; where that is not known they
-- are `auto`, a percentage minimum too (it could also be 0, as in other contributions), and a percentage maximum is `none`.
abbrev pub flex_item : Bool → Option ℤ → Label → ℤ × ℤ → FlexItem
flex_item column main x content =
    let b = bounds_of main x.content.border_box (main_grid column x) (main_content column x) in
    record {
      base = clamp (int_max b.inner (base_size main x.content.border_box x.content.basis b content.1));
      min = clamp (unwrap_or b.least (automatic_minimum x.content.scrolls b content.0));
      max = option_map clamp b.most;
      margins = margins (main_grid column x);
      inner = b.inner;
      grow = x.content.grow;
      shrink = x.content.shrink;
    }

-- ---- intrinsic inline sizes (own rule; the flex basis plays no part)

-- the inline contribution of a child by this one of its content sizes
abbrev pub inline_contribution : Member → ℤ → ℤ
inline_contribution m content =
    let x = m.kid.label in
    contribution (bounds_of None x.content.border_box x.grid.columns x.content.inline) (margins x.grid.columns) content

-- sizes after one another with gaps between them, at least 0
abbrev pub in_a_row : ℤ → List ℤ → ℤ
in_a_row gap sizes = clamp (int_max (pos 0) (sum_of sizes +ℤ gaps gap (length sizes)))

-- the greatest of some sizes and 0
abbrev pub greatest_of : List ℤ → ℤ
greatest_of sizes = clamp (greatest_with (pos 0) sizes)

-- Of a column the greatest contributions; of a row the sums with the gaps, the first one with wrapping the greatest min-content contribution.
-- The second is not raised to the first (it could be, as for a grid).
abbrev pub flex_inline : Flex → ℤ × ℤ
flex_inline f =
    let x = f.label in
    let lows = map (λ (m : Member). inline_contribution m m.inline.0) f.members in
    let highs = map (λ (m : Member). inline_contribution m m.inline.1) f.members in
    let gap = gap_by None (pos 0) x.grid.columns.gap in
    let across : ℤ × ℤ = (greatest_of lows, greatest_of highs) in
    let low = if x.content.wrap then greatest_of lows else in_a_row gap lows in
    let along : ℤ × ℤ = (low, in_a_row gap highs) in
    if x.content.column then across else along

-- ---- once the inline size is known (CSS Flexbox 1, 9.3 and 9.4)

-- A child with its inline size.
pub record Settled : Type 0 where
  pub member : Member
  -- the inline size of its border box, and what it is given
  pub box : ℤ
  pub inline : Given
  pub down : Down

-- the child with a border box of this inline size
abbrev pub settled_at : Member → ℤ → Settled
settled_at m box =
    let x = m.kid.label in
    let b = bounds_of None x.content.border_box x.grid.columns x.content.inline in
    let width : Given = given.Size (content_of_box b.inner box) in
    record { member = m; box = box; inline = width; down = m.kid.answers.down [] width }

-- The lines of a container, as ranges of its items, and the main sizes of the items.
pub record Lines : Type 0 where
  pub ranges : List (ℕ × ℕ)
  pub mains : List ℤ

-- by the main size of the container
abbrev pub lines_by : Label → ℤ → ℤ → List FlexItem → Lines
lines_by x main gap items =
    let ranges = line_ranges main gap x.content.wrap items in
    record { ranges = ranges; mains = main_sizes main gap items ranges }

-- The lines of a row in a container of this inline size.
abbrev pub row_lines : Flex → ℤ → Lines
row_lines f width =
    lines_by f.label width (gap_by (Some width) (pos 0) f.label.grid.columns.gap)
    (map (λ (m : Member). flex_item false (Some width) m.kid.label m.inline) f.members)

-- The children of a row have their main sizes.
abbrev pub row_settled : Flex → Lines → List Settled
row_settled f lines = zipped settled_at f.members lines.mains

-- The inline size of a child of a column, before its line is known: a declared one; else the container's less the margins, where it does not
-- wrap and the child is stretched; else fit to its content.
abbrev pub column_box : Label → ℤ → Member → ℤ
column_box container width m =
    let x = m.kid.label in
    let b = bounds_of (Some width) x.content.border_box x.grid.columns x.content.inline in
    inline_used b (not container.content.wrap && is_stretched_across true container x) (margins x.grid.columns) width m.inline

-- The children of a column in a container of this inline size.
abbrev pub column_settled : Flex → ℤ → List Settled
column_settled f width = map (λ (m : Member). settled_at m (column_box f.label width m)) f.members

-- a child of a column along the main axis
abbrev pub column_item : Option ℤ → Settled → FlexItem
column_item main s = flex_item true main s.member.kid.label (s.down.block, s.down.block)

-- The hypothetical cross size of a child as a border-box size: in a row its block size, where percentages are of the container's cross
-- size, or of none; in a column its inline size.
abbrev pub cross_box : Bool → Option ℤ → Settled → ℤ
cross_box true cross s = s.box
cross_box false cross s =
    let x = s.member.kid.label in
    block_used (bounds_of cross x.content.border_box x.grid.rows x.content.block) false (pos 0) (pos 0) s.down.block

-- with its margins
abbrev pub outer_cross : Bool → Option ℤ → Settled → ℤ
outer_cross column cross s = clamp (cross_box column cross s +ℤ margins (cross_grid column s.member.kid.label))

-- The cross sizes of the lines.
abbrev pub crosses_of : Bool → Label → List Settled → List (ℕ × ℕ) → Option ℤ → List ℤ
crosses_of column x settled ranges cross =
    let gap = gap_by cross (pos 0) (cross_grid column x).gap in
    line_crosses (map (outer_cross column cross) settled) ranges cross gap x.content.wrap (stretches x.content.block.distribution.mode)

-- The block size of a row: the cross sizes of its lines and the gaps between them, where the cross size is not known, also where a height is
-- declared (own rule: a declared height could also count).
abbrev pub row_block : Flex → Lines → List Settled → ℤ
row_block f lines settled = in_a_row (gap_by None (pos 0) f.label.grid.rows.gap) (crosses_of false f.label settled lines.ranges None)

-- The block size of a column: the outer hypothetical main sizes and the gaps between them, on one line also with wrapping (own rule).
abbrev pub column_block : Flex → List Settled → ℤ
column_block f settled = in_a_row (gap_by None (pos 0) f.label.grid.rows.gap) (map (λ s. outer_hypothetical (column_item None s)) settled)

-- ---- worked rows, in units

-- a node with these content-class values, borders and paddings of 4 and margins of 3 in both axes
abbrev a_child : ContentStyle → Label
a_child c = record {
  name = [];
  kind = kind.Flex;
  grid = record plain_grid {
    columns = record plain_axis { padding_start = pos 4; margin_end = Some (pos 3) };
    rows = record plain_axis { padding_start = pos 4; margin_end = Some (pos 3) };
  };
  content = c;
}

-- Contents of 20 and 30 with 4: the basis is 34 and the least size 24.
by_content : flex_item false (Some (pos 100)) (a_child plain_content) (pos 20, pos 30) ≡
    record { base = pos 34; min = pos 24; max = None; margins = pos 3; inner = pos 4; grow = 0; shrink = 1000 }
unfolding clamp
by_content = refl

-- A width of 10 is 14 with 4; so is the basis, and the least size too, since that is less than the content.
by_width : flex_item false (Some (pos 100))
    (a_child (record plain_content { inline = record plain_content_axis { size = size.Length (pos 10) } })) (pos 20, pos 30) ≡
    record { base = pos 14; min = pos 14; max = None; margins = pos 3; inner = pos 4; grow = 0; shrink = 1000 }
unfolding clamp
by_width = refl

-- The basis `content` passes over the width.
by_basis_content : (flex_item false (Some (pos 100))
    (a_child (record plain_content { inline = record plain_content_axis { size = size.Length (pos 10) }; basis = size.Content })) (pos 20, pos 30)).base
    ≡ pos 34
unfolding clamp
by_basis_content = refl

-- A basis of 50% of 100 is 54 with 4; of nothing it is `auto`.
by_percentage : (flex_item false (Some (pos 100)) (a_child (record plain_content { basis = size.Percent 50000 })) (pos 20, pos 30)).base ≡ pos 54
unfolding clamp floor_div
by_percentage = refl

by_percentage_of_nothing : (flex_item true None (a_child (record plain_content { basis = size.Percent 50000 })) (pos 20, pos 30)).base ≡ pos 34
unfolding clamp
by_percentage_of_nothing = refl

-- A scroll container has no automatic minimum; a percentage minimum of nothing is automatic.
scrolling : (flex_item false (Some (pos 100)) (a_child (record plain_content { scrolls = true })) (pos 20, pos 30)).min ≡ pos 0
unfolding clamp
scrolling = refl

minimum_of_nothing :
    (flex_item true None (a_child (record plain_content { block = record plain_content_axis { least = size.Percent 50000 } })) (pos 20, pos 30)).min
    ≡ pos 24
unfolding clamp
minimum_of_nothing = refl

-- Three sizes and two gaps; sizes below zero in sum are 0.
row_of_three : in_a_row (pos 5) (pos 10 ∷ pos 20 ∷ pos 30 ∷ []) ≡ pos 70
unfolding clamp
row_of_three = refl

row_below_zero : in_a_row (pos 5) (negsuc 9 ∷ []) ≡ pos 0
unfolding clamp
row_below_zero = refl

greatest_of_three : greatest_of (pos 10 ∷ pos 30 ∷ pos 20 ∷ []) ≡ pos 30
unfolding clamp
greatest_of_three = refl
