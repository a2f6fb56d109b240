-- What the rules read of a node: its name, its kind and the values of its properties, sorted by axis. They are the computed values
-- (of the W3C sections that the properties name; which of them lines and areas depend on is an own rule).
use Rattle.std.specs.Prelude.{◌≡◌, refl, ℕ, ℤ, pos, Bool, true, false, List, [], Option, Some, None}
use Rattle.lunit.specs.declared.line_value.LineValue.{LineValue}
use Rattle.lunit.specs.declared.line_value.LineValue.TheVariants as line
use Rattle.style_types.specs.Styles.{StyleMap, value_of}
use Rattle.style_types.specs.Table.{initial}
use Rattle.style_types.specs.declared.prop.Prop.TheVariants as prop
use Rattle.style_types.specs.declared.track.Template.{Template}
use Rattle.style_types.specs.declared.track.Template.TheVariants as template
use Rattle.style_types.specs.declared.track.TrackFn.{TrackFn}
use Rattle.style_types.specs.declared.value.Align.{Align}
use Rattle.style_types.specs.declared.value.AlignMode.TheVariants as align_mode
use Rattle.style_types.specs.declared.value.Areas.{Areas}
use Rattle.style_types.specs.declared.value.Scroll.{Scroll}
use Rattle.style_types.specs.declared.value.Scroll.TheVariants as scroll
use Rattle.style_types.specs.declared.value.Size.{Size}
use Rattle.style_types.specs.declared.value.Size.TheVariants as size
use Rattle.style_types.specs.declared.value.Value.{Value}
use Rattle.style_types.specs.declared.value.Value.TheVariants as value
use Rattle.tree_rules.specs.declared.kind.NodeKind.{NodeKind}
use Rattle.std.specs.Prelude.{negsuc}

-- ---- records

-- The values of the grid-class properties of one axis: those that lines, areas and the edges of subgrids depend on.
pub record GridAxis : Type 0 where
  -- the template of the tracks of this axis, and the sizes of the tracks after and before it
  pub template : Template
  pub autos : List TrackFn
  -- the two line values of the node as an item
  pub start_line : LineValue
  pub end_line : LineValue
  -- the gap between two tracks of this axis
  pub gap : Size
  -- the margins at the start and the end; None is `auto`
  pub margin_start : Option ℤ
  pub margin_end : Option ℤ
  pub border_start : ℤ
  pub border_end : ℤ
  pub padding_start : ℤ
  pub padding_end : ℤ

-- The values of all grid-class properties. Along the inline axis lie the columns, and along the block axis the rows.
pub record GridStyle : Type 0 where
  pub columns : GridAxis
  pub rows : GridAxis
  pub areas : Option Areas
  -- `grid-auto-flow`: `column`, and `dense`
  pub column_flow : Bool
  pub dense : Bool
  pub order : ℤ

-- The values of the content-class properties of one axis: of the inline axis `width`, `min-width`, `max-width` and the three
-- of `justify`, of the block axis `height`, `min-height`, `max-height` and the three of `align`.
pub record ContentAxis : Type 0 where
  pub size : Size
  -- `min-width` or `min-height`
  pub least : Size
  -- `max-width` or `max-height`
  pub most : Size
  -- `justify-content` or `align-content`
  pub distribution : Align
  -- `justify-items` or `align-items`
  pub items : Align
  -- `justify-self` or `align-self`
  pub own : Align

-- The values of all content-class properties.
pub record ContentStyle : Type 0 where
  pub inline : ContentAxis
  pub block : ContentAxis
  pub border_box : Bool
  -- `overflow` makes it a scroll container (CSS Overflow 3, section 3.1)
  pub scrolls : Bool
  -- `flex-direction: column`, and `flex-wrap: wrap`
  pub column : Bool
  pub wrap : Bool
  -- the flex factors, in thousandths
  pub grow : ℕ
  pub shrink : ℕ
  pub basis : Size

-- A node without its children.
pub record Label : Type 0 where
  pub name : List ℕ
  pub kind : NodeKind
  pub grid : GridStyle
  pub content : ContentStyle

-- ---- the records of a style

-- the template that a value is
abbrev pub template_in : Value → Template
template_in (value.Template t) = t
template_in v = template.Absent

-- the named areas that a value is
abbrev pub areas_in : Value → Option Areas
areas_in (value.Areas a) = a
areas_in v = None

-- the track sizes that a value is
abbrev pub sizes_in : Value → List TrackFn
sizes_in (value.Sizes sizes) = sizes
sizes_in v = []

-- the line value that a value is
abbrev pub line_in : Value → LineValue
line_in (value.Line l) = l
line_in v = line.Auto

-- the size that a value is
abbrev pub size_in : Value → Size
size_in (value.Size s) = s
size_in v = size.Auto

-- the length that a size is
abbrev pub length_of : Size → Option ℤ
length_of (size.Length x) = Some x
length_of s = None

-- the length of a value, and 0 for another
abbrev pub length_or_zero : Option ℤ → ℤ
length_or_zero None = pos 0
length_or_zero (Some x) = x

-- the length that a value is
abbrev pub length_in : Value → ℤ
length_in v = length_or_zero (length_of (size_in v))

-- the margin that a value is
abbrev pub margin_in : Value → Option ℤ
margin_in v = length_of (size_in v)

-- the alignment that a value is
abbrev pub align_in : Value → Align
align_in (value.Align a) = a
align_in v = record { mode = align_mode.Normal; safe = None }

-- `grid-auto-flow`: whether it is `column`, and whether `dense`
abbrev pub flow_in : Value → Bool × Bool
flow_in (value.Flow column dense) = (column, dense)
flow_in v = (false, false)

-- `order`
abbrev pub order_in : Value → ℤ
order_in (value.Order n) = n
order_in v = pos 0

-- `box-sizing: border-box`
abbrev pub border_box_in : Value → Bool
border_box_in (value.BorderBox b) = b
border_box_in v = false

-- the values of `overflow` that make a scroll container (CSS Overflow 3, section 3.1)
abbrev pub makes_scroll_container : Scroll → Bool
makes_scroll_container scroll.Visible = false
makes_scroll_container scroll.Clip = false
makes_scroll_container scroll.Hidden = true
makes_scroll_container scroll.Scroll = true
makes_scroll_container scroll.Auto = true

-- whether `overflow` makes a scroll container
abbrev pub scrolls_in : Value → Bool
scrolls_in (value.Overflow s) = makes_scroll_container s
scrolls_in v = false

-- `flex-direction: column`
abbrev pub column_in : Value → Bool
column_in (value.Column b) = b
column_in v = false

-- `flex-wrap: wrap`
abbrev pub wrap_in : Value → Bool
wrap_in (value.Wrap b) = b
wrap_in v = false

-- the factor that a value is
abbrev pub factor_in : Value → ℕ
factor_in (value.Factor n) = n
factor_in v = 0

-- The grid-class values along the inline axis.
abbrev pub columns_of : StyleMap → GridAxis
columns_of style = record {
  template = template_in (value_of style prop.GridTemplateColumns);
  autos = sizes_in (value_of style prop.GridAutoColumns);
  start_line = line_in (value_of style prop.GridColumnStart);
  end_line = line_in (value_of style prop.GridColumnEnd);
  gap = size_in (value_of style prop.ColumnGap);
  margin_start = margin_in (value_of style prop.MarginLeft);
  margin_end = margin_in (value_of style prop.MarginRight);
  border_start = length_in (value_of style prop.BorderLeftWidth);
  border_end = length_in (value_of style prop.BorderRightWidth);
  padding_start = length_in (value_of style prop.PaddingLeft);
  padding_end = length_in (value_of style prop.PaddingRight);
}

-- The grid-class values along the block axis.
abbrev pub rows_of : StyleMap → GridAxis
rows_of style = record {
  template = template_in (value_of style prop.GridTemplateRows);
  autos = sizes_in (value_of style prop.GridAutoRows);
  start_line = line_in (value_of style prop.GridRowStart);
  end_line = line_in (value_of style prop.GridRowEnd);
  gap = size_in (value_of style prop.RowGap);
  margin_start = margin_in (value_of style prop.MarginTop);
  margin_end = margin_in (value_of style prop.MarginBottom);
  border_start = length_in (value_of style prop.BorderTopWidth);
  border_end = length_in (value_of style prop.BorderBottomWidth);
  padding_start = length_in (value_of style prop.PaddingTop);
  padding_end = length_in (value_of style prop.PaddingBottom);
}

-- All grid-class values.
abbrev pub grid_of : StyleMap → GridStyle
grid_of style = record {
  columns = columns_of style;
  rows = rows_of style;
  areas = areas_in (value_of style prop.GridTemplateAreas);
  column_flow = (flow_in (value_of style prop.GridAutoFlow)).0;
  dense = (flow_in (value_of style prop.GridAutoFlow)).1;
  order = order_in (value_of style prop.Order);
}

-- The content-class values along the inline axis.
abbrev pub inline_of : StyleMap → ContentAxis
inline_of style = record {
  size = size_in (value_of style prop.Width);
  least = size_in (value_of style prop.MinWidth);
  most = size_in (value_of style prop.MaxWidth);
  distribution = align_in (value_of style prop.JustifyContent);
  items = align_in (value_of style prop.JustifyItems);
  own = align_in (value_of style prop.JustifySelf);
}

-- The content-class values along the block axis.
abbrev pub block_of : StyleMap → ContentAxis
block_of style = record {
  size = size_in (value_of style prop.Height);
  least = size_in (value_of style prop.MinHeight);
  most = size_in (value_of style prop.MaxHeight);
  distribution = align_in (value_of style prop.AlignContent);
  items = align_in (value_of style prop.AlignItems);
  own = align_in (value_of style prop.AlignSelf);
}

-- All content-class values.
abbrev pub content_of : StyleMap → ContentStyle
content_of style = record {
  inline = inline_of style;
  block = block_of style;
  border_box = border_box_in (value_of style prop.BoxSizing);
  scrolls = scrolls_in (value_of style prop.Overflow);
  column = column_in (value_of style prop.FlexDirection);
  wrap = wrap_in (value_of style prop.FlexWrap);
  grow = factor_in (value_of style prop.FlexGrow);
  shrink = factor_in (value_of style prop.FlexShrink);
  basis = size_in (value_of style prop.FlexBasis);
}

-- The label of a node with this computed style.
abbrev pub label_of : List ℕ → NodeKind → StyleMap → Label
label_of name k style = record { name = name; kind = k; grid = grid_of style; content = content_of style }

-- ---- labels in examples: initial values, of which some are then replaced

abbrev pub plain_align : Align
plain_align = record { mode = align_mode.Normal; safe = None }

abbrev pub auto_align : Align
auto_align = record { mode = align_mode.Auto; safe = None }

-- where no grid-class property of an axis is set
abbrev pub plain_axis : GridAxis
plain_axis = record {
  template = template_in (initial prop.GridTemplateColumns);
  autos = sizes_in (initial prop.GridAutoColumns);
  start_line = line.Auto;
  end_line = line.Auto;
  gap = size.Normal;
  margin_start = Some (pos 0);
  margin_end = Some (pos 0);
  border_start = pos 0;
  border_end = pos 0;
  padding_start = pos 0;
  padding_end = pos 0;
}

-- where no grid-class property is set
abbrev pub plain_grid : GridStyle
plain_grid = record { columns = plain_axis; rows = plain_axis; areas = None; column_flow = false; dense = false; order = pos 0 }

-- where no content-class property of an axis is set
abbrev pub plain_content_axis : ContentAxis
plain_content_axis = record { size = size.Auto; least = size.Auto; most = size.Absent; distribution = plain_align; items = plain_align; own = auto_align }

-- where no content-class property is set
abbrev pub plain_content : ContentStyle
plain_content = record {
  inline = plain_content_axis;
  block = plain_content_axis;
  border_box = false;
  scrolls = false;
  column = false;
  wrap = false;
  grow = 0;
  shrink
      = 1000;
  basis = size.Auto;
}

-- ---- worked rows

an_auto_margin : margin_in (value.Size size.Auto) ≡ None
an_auto_margin = refl

a_margin_below_zero : margin_in (value.Size (size.Length (negsuc 3))) ≡ Some (negsuc 3)
a_margin_below_zero = refl

a_padding : length_in (value.Size (size.Length (pos 7))) ≡ pos 7
a_padding = refl

clip_scrolls_not : scrolls_in (value.Overflow scroll.Clip) ≡ false
clip_scrolls_not = refl

hidden_scrolls : scrolls_in (value.Overflow scroll.Hidden) ≡ true
hidden_scrolls = refl

flow_column_dense : flow_in (value.Flow true true) ≡ (true, true)
flow_column_dense = refl
