-- A node without margins, borders, paddings and declared sizes along an axis.
use Rattle.std.specs.Prelude.{◌≡◌, ℤ, pos, Bool, true, false, ◌&&◌, Option, Some, None, int_le}
use Rattle.lunit.specs.declared.geometry.Span.{Span}
use Rattle.lunit.specs.declared.item.Item.{Item}
use Rattle.style_types.specs.declared.value.Align.{Align}
use Rattle.style_types.specs.declared.value.Size.{Size}
use Rattle.style_types.specs.declared.value.Size.TheVariants as keyword
use Rattle.tree_rules.specs.Labels.{ContentAxis, GridAxis}
use Rattle.tree_rules.specs.NodeSizes.{Bounds, bounds_of, contribution, floor_of, is_auto, is_stretched, margins, stretches}

-- a length of 0
abbrev pub is_zero : ℤ → Bool
is_zero z = int_le z (pos 0) && int_le (pos 0) z

-- a margin of 0, which is not `auto`
abbrev pub is_no_margin : Option ℤ → Bool
is_no_margin None = false
is_no_margin (Some z) = is_zero z

-- `none`
abbrev pub is_absent : Size → Bool
is_absent keyword.Absent = true
is_absent s = false

-- neither a size nor a minimum nor a maximum is declared
abbrev pub has_no_size : ContentAxis → Bool
has_no_size c = (is_auto c.size && is_auto c.least) && is_absent c.most

-- no borders and paddings
abbrev pub has_no_inner : GridAxis → Bool
has_no_inner g = ((is_zero g.border_start && is_zero g.border_end) && is_zero g.padding_start) && is_zero g.padding_end

-- no margins
abbrev pub has_no_margins : GridAxis → Bool
has_no_margins g = is_no_margin g.margin_start && is_no_margin g.margin_end

-- none of these
abbrev pub is_plain : GridAxis → ContentAxis → Bool
is_plain g c = (has_no_size c && has_no_inner g) && has_no_margins g

-- no declared sizes, and no borders and paddings
abbrev pub no_bounds : Bounds
no_bounds = record { inner = pos 0; size = None; least = None; most = None }

-- What its sizes depend on, then: its limits are none whatever percentages are of, and whether it is stretched is told by its self value alone.
pub record IsPlain (g : GridAxis) (c : ContentAxis) : Type 0 where
  pub bounds : (base : Option ℤ) (border_box : Bool) → bounds_of base border_box g c ≡ no_bounds
  pub margins : margins g ≡ pos 0
  pub least : c.least ≡ keyword.Auto
  pub stretched : (a : Align) → is_stretched a g c ≡ stretches a.mode

-- It as an item of a grid that sizes its tracks itself, over this span of lines, with these two content sizes.
abbrev pub plain_item : Bool → Span → ℤ × ℤ → Item
plain_item scrolls span content = record {
  span = span;
  low = contribution no_bounds (pos 0) content.0;
  high = contribution no_bounds (pos 0) content.1;
  floor = floor_of keyword.Auto
      scrolls no_bounds (pos 0) content.0;
}
