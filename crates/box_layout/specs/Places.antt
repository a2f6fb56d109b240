-- The place and the size of a child along one axis, from its style and its parent's.
use Rattle.std.specs.Prelude.{ℕ, ℤ, pos, ◌+ℤ◌, Bool, [], Some, if◌then◌else◌}
use Rattle.style_types.specs.Styles.{StyleMap}
use Rattle.style_types.specs.declared.value.Align.{Align}
use Rattle.tree_rules.specs.Answers.{Frame}
use Rattle.tree_rules.specs.Distribution.{aligned_at, subgrid_box}
use Rattle.tree_rules.specs.Frames.{Extent, down_of, framed_at}
use Rattle.tree_rules.specs.Labels.{content_of}
use Rattle.tree_rules.specs.NodeSizes.{block_used, bounds_of, is_stretched, margin, margins, self_align}
use Rattle.inline_sizes.specs.Styled.{content_at, grid_at, styled}

-- how a child of a grid is aligned along an axis: by its own value, or by the grid's for its items
abbrev pub self_value : ℕ → StyleMap → StyleMap → Align
self_value axis container style = self_align (content_at axis style).own (content_at axis container).items

-- Where the border box of a child starts in an area of this start and size: a subgrid after its margin, another child by its self value
-- (CSS Grid 2, section 9; CSS Box Alignment 3, section 6).
abbrev pub place_in_area : ℕ → Bool → StyleMap → StyleMap → ℤ → ℤ → ℤ → ℤ
place_in_area axis shares container style start size box =
    let shared = start +ℤ margin (grid_at axis style).margin_start in
    let own = aligned_at (self_value axis container style) (grid_at axis style) start size box in
    if shares then shared else own

-- The block size of the border box of a child in an area of this size, by the block size of its content (CSS Grid 2, 6.2 and section 9).
abbrev pub box_in_rows : Bool → StyleMap → StyleMap → ℤ → ℤ → ℤ
box_in_rows shares container style size content =
    let b = bounds_of (Some size) (content_of style).border_box (grid_at 1 style) (content_at 1 style) in
    let stretched = is_stretched (self_value 1 container style) (grid_at 1 style) (content_at 1 style) in
    let own = block_used b stretched (margins (grid_at 1 style)) size content in
    if shares then subgrid_box (grid_at 1 style) size else own

-- the frame of a child with these places and sizes in the content box of a parent of this style
abbrev pub frame_in : StyleMap → Extent → Extent → Frame
frame_in parent i b = (framed_at (styled parent) (styled parent) i b (down_of (pos 0) [] (λ height. []))).frame

-- the frame of a child with these places and sizes in a content box that starts here in the border box of its parent
abbrev pub frame_from : ℤ × ℤ → Extent → Extent → Frame
frame_from origin i b = record
    { rect = record { x = origin.0 +ℤ i.at; y = origin.1 +ℤ b.at; width = i.size; height = b.size }; inline = i.given; block = b.given }
