-- The table of properties: of each its class (own rule) and its initial value (of the W3C section that the property
-- names; those of the border widths, of `justify-items` and of `font-size` are own).
use Rattle.std.specs.Prelude.{pos, false, [], ◌∷◌, None}
use Rattle.lunit.specs.declared.line_value.LineValue.TheVariants as line
use Rattle.style_types.specs.declared.prop.Class.{Class}
use Rattle.style_types.specs.declared.prop.Class.TheVariants as class
use Rattle.style_types.specs.declared.prop.Prop.{Prop}
use Rattle.style_types.specs.declared.prop.Prop.TheVariants as prop
use Rattle.style_types.specs.declared.track.Breadth.TheVariants as breadth
use Rattle.style_types.specs.declared.track.Template.TheVariants as template
use Rattle.style_types.specs.declared.track.TrackFn.{TrackFn}
use Rattle.style_types.specs.declared.value.AlignMode.TheVariants as mode
use Rattle.style_types.specs.declared.value.Scroll.TheVariants as scroll
use Rattle.style_types.specs.declared.value.Size.TheVariants as size
use Rattle.style_types.specs.declared.value.Value.{Value}
use Rattle.style_types.specs.declared.value.Value.TheVariants as value

-- the track size `auto`, which is `minmax(auto, auto)` (CSS Grid 2, section 7.2.1)
abbrev pub auto_track : TrackFn
auto_track = record { least = breadth.Auto; most = breadth.Auto; fit = None }

-- a row of the table: the class and the initial value of a property
abbrev pub row_of : Prop → Class × Value
row_of prop.GridTemplateColumns = (class.Grid, value.Template template.Absent)
row_of prop.GridTemplateRows = (class.Grid, value.Template template.Absent)
row_of prop.GridTemplateAreas = (class.Grid, value.Areas None)
row_of prop.GridAutoColumns = (class.Grid, value.Sizes (auto_track ∷ []))
row_of prop.GridAutoRows = (class.Grid, value.Sizes (auto_track ∷ []))
row_of prop.GridAutoFlow = (class.Grid, value.Flow false false)
row_of prop.GridColumnStart = (class.Grid, value.Line line.Auto)
row_of prop.GridColumnEnd = (class.Grid, value.Line line.Auto)
row_of prop.GridRowStart = (class.Grid, value.Line line.Auto)
row_of prop.GridRowEnd = (class.Grid, value.Line line.Auto)
row_of prop.Order = (class.Grid, value.Order (pos 0))
row_of prop.RowGap = (class.Grid, value.Size size.Normal)
row_of prop.ColumnGap = (class.Grid, value.Size size.Normal)
row_of prop.MarginTop = (class.Grid, value.Size (size.Length (pos 0)))
row_of prop.MarginRight = (class.Grid, value.Size (size.Length (pos 0)))
row_of prop.MarginBottom = (class.Grid, value.Size (size.Length (pos 0)))
row_of prop.MarginLeft = (class.Grid, value.Size (size.Length (pos 0)))
row_of prop.PaddingTop = (class.Grid, value.Size (size.Length (pos 0)))
row_of prop.PaddingRight = (class.Grid, value.Size (size.Length (pos 0)))
row_of prop.PaddingBottom = (class.Grid, value.Size (size.Length (pos 0)))
row_of prop.PaddingLeft = (class.Grid, value.Size (size.Length (pos 0)))
row_of prop.BorderTopWidth = (class.Grid, value.Size (size.Length (pos 0)))
row_of prop.BorderRightWidth = (class.Grid, value.Size (size.Length (pos 0)))
row_of prop.BorderBottomWidth = (class.Grid, value.Size (size.Length (pos 0)))
row_of prop.BorderLeftWidth = (class.Grid, value.Size (size.Length (pos 0)))
row_of prop.Width = (class.Content, value.Size size.Auto)
row_of prop.Height = (class.Content, value.Size size.Auto)
row_of prop.MinWidth = (class.Content, value.Size size.Auto)
row_of prop.MinHeight = (class.Content, value.Size size.Auto)
row_of prop.MaxWidth = (class.Content, value.Size size.Absent)
row_of prop.MaxHeight = (class.Content, value.Size size.Absent)
row_of prop.BoxSizing = (class.Content, value.BorderBox false)
row_of prop.Overflow = (class.Content, value.Overflow scroll.Visible)
row_of prop.JustifyContent = (class.Content, value.Align (record { mode = mode.Normal; safe = None }))
row_of prop.AlignContent = (class.Content, value.Align (record { mode = mode.Normal; safe = None }))
row_of prop.JustifyItems = (class.Content, value.Align (record { mode = mode.Normal; safe = None }))
row_of prop.AlignItems = (class.Content, value.Align (record { mode = mode.Normal; safe = None }))
row_of prop.JustifySelf = (class.Content, value.Align (record { mode = mode.Auto; safe = None }))
row_of prop.AlignSelf = (class.Content, value.Align (record { mode = mode.Auto; safe = None }))
row_of prop.FlexDirection = (class.Content, value.Column false)
row_of prop.FlexWrap = (class.Content, value.Wrap false)
row_of prop.FlexGrow = (class.Content, value.Factor 0)
row_of prop.FlexShrink = (class.Content, value.Factor 1000)
row_of prop.FlexBasis = (class.Content, value.Size size.Auto)
row_of prop.FontSize = (class.Font, value.Size (size.Length (pos 1024)))

abbrev pub class_in_table : Prop → Class
class_in_table p = (row_of p).0

abbrev pub initial : Prop → Value
initial p = (row_of p).1

-- the value is a list of track sizes
abbrev pub IsTrackSizes : Value → Type 0
IsTrackSizes (value.Sizes sizes) = Unit {0}
IsTrackSizes v = ⊥
