-- The forms of values, one row a property.
use Rattle.std.specs.Prelude.{true, false}
use Rattle.style_types.specs.declared.prop.Prop.{Prop}
use Rattle.style_types.specs.declared.prop.Prop.TheVariants as prop
use Rattle.value_text.specs.declared.form.Form.{Form}
use Rattle.value_text.specs.declared.form.Form.TheVariants as form
use Rattle.value_text.specs.declared.form.Refused.{Refused}
use Rattle.value_text.specs.declared.form.Refused.TheVariants as refused
use Rattle.value_text.specs.declared.keyword.AlignForm.{AlignForm}
use Rattle.value_text.specs.declared.size.SizeForm.{SizeForm}
use Rattle.value_text.specs.declared.property.Shorthand.{Shorthand}
use Rattle.value_text.specs.declared.property.Shorthand.TheVariants as shorthand

-- ---- which sizes a property takes

-- a length of at least 0
abbrev pub edge_form : SizeForm
edge_form = record { auto = false; none = false; normal = false; content = false; percent = false; below_zero = false }

-- `auto` or a length
abbrev pub margin_form : SizeForm
margin_form = record edge_form { auto = true; below_zero = true }

-- `normal`, a length of at least 0, or a percentage
abbrev pub gap_form : SizeForm
gap_form = record edge_form { normal = true; percent = true }

-- `auto`, a length of at least 0, or a percentage
abbrev pub size_form : SizeForm
size_form = record edge_form { auto = true; percent = true }

-- `none`, a length of at least 0, or a percentage
abbrev pub max_form : SizeForm
max_form = record edge_form { none = true; percent = true }

-- `auto`, `content`, a length of at least 0, or a percentage
abbrev pub basis_form : SizeForm
basis_form = record edge_form { auto = true; content = true; percent = true }

-- ---- which alignments a property takes beside `normal`, `stretch` and positions

abbrev pub content_form : AlignForm
content_form = record { auto = false; spaces = true }

abbrev pub items_form : AlignForm
items_form = record { auto = false; spaces = false }

abbrev pub self_form : AlignForm
self_form = record { auto = true; spaces = false }

-- ---- the table

abbrev pub form_of : Prop → Form
form_of prop.GridTemplateColumns = form.Template
form_of prop.GridTemplateRows = form.Template
form_of prop.GridTemplateAreas = form.Areas
form_of prop.GridAutoColumns = form.Tracks
form_of prop.GridAutoRows = form.Tracks
form_of prop.GridAutoFlow = form.Flow
form_of prop.GridColumnStart = form.Line
form_of prop.GridColumnEnd = form.Line
form_of prop.GridRowStart = form.Line
form_of prop.GridRowEnd = form.Line
form_of prop.Order = form.Order
form_of prop.RowGap = form.Size gap_form
form_of prop.ColumnGap = form.Size gap_form
form_of prop.MarginTop = form.Size margin_form
form_of prop.MarginRight = form.Size margin_form
form_of prop.MarginBottom = form.Size margin_form
form_of prop.MarginLeft = form.Size margin_form
form_of prop.PaddingTop = form.Size edge_form
form_of prop.PaddingRight = form.Size edge_form
form_of prop.PaddingBottom = form.Size edge_form
form_of prop.PaddingLeft = form.Size edge_form
form_of prop.BorderTopWidth = form.Size edge_form
form_of prop.BorderRightWidth = form.Size edge_form
form_of prop.BorderBottomWidth = form.Size edge_form
form_of prop.BorderLeftWidth = form.Size edge_form
form_of prop.Width = form.Size size_form
form_of prop.Height = form.Size size_form
form_of prop.MinWidth = form.Size size_form
form_of prop.MinHeight = form.Size size_form
form_of prop.MaxWidth = form.Size max_form
form_of prop.MaxHeight = form.Size max_form
form_of prop.BoxSizing = form.BoxSizing
form_of prop.Overflow = form.Overflow
form_of prop.JustifyContent = form.Align content_form
form_of prop.AlignContent = form.Align content_form
form_of prop.JustifyItems = form.Align items_form
form_of prop.AlignItems = form.Align items_form
form_of prop.JustifySelf = form.Align self_form
form_of prop.AlignSelf = form.Align self_form
form_of prop.FlexDirection = form.Direction
form_of prop.FlexWrap = form.Wrap
form_of prop.FlexGrow = form.Factor
form_of prop.FlexShrink = form.Factor
form_of prop.FlexBasis = form.Size basis_form
form_of prop.FontSize = form.Size edge_form

-- ---- which words a property refuses as unsupported beside those that every property does (own rule)

abbrev pub refused_by_prop : Prop → Refused
refused_by_prop prop.GridTemplateColumns = refused.Template
refused_by_prop prop.GridTemplateRows = refused.Template
refused_by_prop prop.MarginTop = refused.Percentages
refused_by_prop prop.MarginRight = refused.Percentages
refused_by_prop prop.MarginBottom = refused.Percentages
refused_by_prop prop.MarginLeft = refused.Percentages
refused_by_prop prop.PaddingTop = refused.Percentages
refused_by_prop prop.PaddingRight = refused.Percentages
refused_by_prop prop.PaddingBottom = refused.Percentages
refused_by_prop prop.PaddingLeft = refused.Percentages
refused_by_prop prop.Width = refused.Contents
refused_by_prop prop.Height = refused.Contents
refused_by_prop prop.MinWidth = refused.Contents
refused_by_prop prop.MinHeight = refused.Contents
refused_by_prop prop.MaxWidth = refused.Contents
refused_by_prop prop.MaxHeight = refused.Contents
refused_by_prop prop.JustifyContent = refused.Baselines
refused_by_prop prop.AlignContent = refused.Baselines
refused_by_prop prop.JustifyItems = refused.Baselines
refused_by_prop prop.AlignItems = refused.Baselines
refused_by_prop prop.JustifySelf = refused.Baselines
refused_by_prop prop.AlignSelf = refused.Baselines
refused_by_prop prop.FlexDirection = refused.Reversed
refused_by_prop prop.FlexWrap = refused.Reversed
refused_by_prop prop.FlexBasis = refused.Contents
refused_by_prop p = refused.Nothing

abbrev pub refused_by_shorthand : Shorthand → Refused
refused_by_shorthand shorthand.Margin = refused.Percentages
refused_by_shorthand shorthand.Padding = refused.Percentages
refused_by_shorthand s = refused.Nothing
