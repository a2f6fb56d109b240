-- A child of a grid along one axis, by the values that its size and what it is given there depend on.
use Rattle.std.specs.Prelude.{ℤ, Bool, Some, if◌then◌else◌}
use Rattle.lunit.specs.declared.geometry.Span.{Span}
use Rattle.part_rules.specs.declared.view.View.{View}
use Rattle.placing.specs.Told.{inline_told}
use Rattle.part_rules.specs.Views.{area_size, tracks_over}
use Rattle.style_types.specs.declared.value.Align.{Align}
use Rattle.tree_rules.specs.declared.query.Given.{Given}
use Rattle.tree_rules.specs.Distribution.{given_view, subgrid_box, view_in}
use Rattle.tree_rules.specs.Frames.{Extent, given_box}
use Rattle.tree_rules.specs.Labels.{Label}
use Rattle.tree_rules.specs.NodeSizes.{block_used, bounds_of, inline_used, is_stretched, margins, self_align}

-- The inline size of the border box of a child that is no subgrid in the columns, in an area of this width, where the container aligns its items
-- so (CSS Grid 2, 6.2).
abbrev pub own_inline : Align → Label → ℤ → ℤ × ℤ → ℤ
own_inline items x room sizes =
    let b = bounds_of (Some room) x.content.border_box x.grid.columns x.content.inline in
    inline_used b (is_stretched (self_align x.content.inline.own items) x.grid.columns x.content.inline) (margins x.grid.columns) room sizes

-- The block size of the border box of a child that is no subgrid in the rows.
abbrev pub own_block : Align → Label → ℤ → ℤ → ℤ
own_block items x room content =
    let b = bounds_of (Some room) x.content.border_box x.grid.rows x.content.block in
    block_used b (is_stretched (self_align x.content.block.own items) x.grid.rows x.content.block) (margins x.grid.rows) room content

-- The border box of a child over these columns, and what it is given there.
abbrev pub inline_of_child : Align → View 0 → Span → Label → Bool → ℤ × ℤ → ℤ × Given
inline_of_child items columns span x shares sizes = inline_told items columns span x shares sizes

-- The border box of a child over these rows, and what it is given there.
abbrev pub block_of_child : Align → View 1 → Span → Label → Bool → ℤ → ℤ × Given
block_of_child items rows span x shares content =
    let room = area_size (tracks_over rows.edges span) in
    let own : ℤ × Given = (own_block items x room content, given_box x.grid.rows (own_block items x room content)) in
    let shared : ℤ × Given = (subgrid_box x.grid.rows room, given_view (view_in rows span x.grid.rows)) in
    if shares then shared else own

-- the size of an extent and what is given there
abbrev pub size_and_given : Extent → ℤ × Given
size_and_given e = (e.size, e.given)
