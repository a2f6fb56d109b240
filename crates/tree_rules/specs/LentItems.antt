-- The items of a grid along one axis, and those that a subgrid lends (CSS Grid 2, 12.5 and section 9).
use Rattle.std.specs.Prelude.{refl, ℤ, pos, ◌+ℤ◌, Bool, List, [], ◌∷◌, ◌≡◌}
use Rattle.lunit.specs.Units.{clamp}
use Rattle.lunit.specs.declared.geometry.Span.{Span}
use Rattle.lunit.specs.declared.item.Floor.TheVariants.{Known, Content}
use Rattle.lunit.specs.declared.item.Item.{Item}
use Rattle.part_rules.specs.declared.view.Level.{Level}
use Rattle.part_rules.specs.Views.{extra_before, extra_after}
use Rattle.tree_rules.specs.Labels.{GridAxis, ContentAxis}
use Rattle.tree_rules.specs.NodeSizes.{item_of, margins}
use Rattle.lunit.specs.Units.{floor_div}
use Rattle.std.specs.Prelude.{negsuc, false, Some}
use Rattle.tree_rules.specs.Labels.{plain_axis, plain_content_axis}

-- where line 0 of a subgrid lies among the lines of the grid that sizes the tracks
abbrev pub offset_of : List Level → ℤ
offset_of [] = pos 0
offset_of (l ∷ outer) = l.span.start +ℤ offset_of outer

-- a span of a subgrid's lines in those of the grid that sizes the tracks
abbrev pub lifted : List Level → Span → Span
lifted levels s =
    let by = offset_of levels in
    record { start = s.start +ℤ by; end = s.end +ℤ by }

-- the extra margins of an item over this span of a subgrid's lines
abbrev pub extra_margins : List Level → Span → ℤ
extra_margins levels s = extra_before levels s.start +ℤ extra_after levels s.end

-- A child of a grid with these levels as an item of the grid that sizes the tracks, by its span in its parent's lines and its two content
-- sizes.
abbrev pub child_item : List Level → Bool → Bool → GridAxis → ContentAxis → Span → ℤ × ℤ → Item
child_item levels border_box scrolls g c span content = item_of border_box scrolls g c (lifted levels span) (margins g +ℤ extra_margins levels span) content

-- The item that stands for a subgrid itself: over its whole span, with its margins, extra margins, borders and paddings (own rule: it could
-- also lend nothing but its items).
abbrev pub empty_item : List Level → List Item
empty_item [] = []
empty_item (l ∷ outer) =
    let size = clamp (l.before +ℤ l.after +ℤ extra_margins outer l.span) in
    record { span = lifted outer l.span; low = size; high = size; floor = Known size } ∷ []

-- ---- worked rows, in units

-- a subgrid over the lines 1 to 3 of one over the lines 4 to 8, with gaps of 10, 4 and 0, and margins, borders and paddings of 1 and 2, and of 5
-- and 7
abbrev two_levels : List Level
two_levels = record { span = record { start = pos 1; end = pos 3 }; gap = pos 10; outer_gap = pos 4; before = pos 1; after = pos 2 } ∷
    record { span = record { start = pos 4; end = pos 8 }; gap = pos 4; outer_gap = pos 0; before = pos 5; after = pos 7 } ∷ []

-- Its line 0 is line 5 of the grid that sizes the tracks.
lifted_span : lifted two_levels (record { start = pos 0; end = pos 2 }) ≡ record { start = pos 5; end = pos 7 }
lifted_span = refl

not_lifted : lifted [] (record { start = negsuc 1; end = pos 2 }) ≡ record { start = negsuc 1; end = pos 2 }
not_lifted = refl

-- In its first track: before it 1 of its own and 2 as half of 4, since that line is an inner one of the outer subgrid; after it 3 as half of 6 and 2
-- as half of 4.
extra_inside : extra_margins two_levels (record { start = pos 0; end = pos 1 }) ≡ pos 8
unfolding clamp floor_div
extra_inside = refl

-- An item of contents 20 and 30 there with margins of 4 is 32 and 42 wide.
lent_child : child_item two_levels false false (record plain_axis { margin_start = Some (pos 4) }) plain_content_axis
    (record { start = pos 0; end = pos 1 }) (pos 20, pos 30)
    ≡ record { span = record { start = pos 5; end = pos 6 }; low = pos 32; high = pos 42; floor = Content (pos 20) (pos 12) (pos 0) }
unfolding clamp floor_div
lent_child = refl

-- The subgrid itself: 1 and 2 of its own, 2 before it and 2 after it.
empty_of_two : empty_item two_levels ≡ record { span = record { start = pos 5; end = pos 7 }; low = pos 7; high = pos 7; floor = Known (pos 7) } ∷ []
unfolding clamp floor_div
empty_of_two = refl

-- A grid that sizes the tracks itself lends nothing.
no_empty : empty_item [] ≡ []
no_empty = refl
