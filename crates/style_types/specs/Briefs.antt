-- What a style tells at a glance.
use Rattle.std.specs.Prelude.{◌≡◌, Bool, true, false, None}
use Rattle.lunit.specs.declared.line_value.LineValue.TheVariants as line
use Rattle.style_types.specs.Styles.{StyleMap, value_of}
use Rattle.style_types.specs.declared.brief.Brief.{Brief}
use Rattle.style_types.specs.declared.brief.Glance.{Glance}
use Rattle.style_types.specs.declared.brief.Glance.TheVariants as glance
use Rattle.style_types.specs.declared.prop.Prop.TheVariants as prop
use Rattle.style_types.specs.declared.track.Template.TheVariants as template
use Rattle.style_types.specs.declared.value.Size.{Size}
use Rattle.style_types.specs.declared.value.Size.TheVariants as size
use Rattle.style_types.specs.declared.value.Value.{Value}
use Rattle.style_types.specs.declared.value.Value.TheVariants as value

-- the value is a template that is `subgrid` (CSS Grid 2, section 9)
abbrev pub is_subgrid_value : Value → Bool
is_subgrid_value (value.Template (template.Subgrid sets)) = true
is_subgrid_value v = false

-- the size that the value of a gap is (CSS Box Alignment 3, section 8.1)
abbrev pub gap_value : Value → Size
gap_value (value.Size s) = s
gap_value v = size.Auto

-- what a glance tells of a value
abbrev pub IsGlance : Glance → Value → Type 0
IsGlance glance.Read v = Unit {0}
IsGlance glance.Auto v = v ≡ value.Line line.Auto
IsGlance (glance.Span n) v = v ≡ value.Line (line.Reach n None)

-- what is told at a glance is so
pub record IsBrief (b : Brief) (s : StyleMap) : Type 0 where
  pub subgrid_columns : b.subgrid_columns ≡ is_subgrid_value (value_of s prop.GridTemplateColumns)
  pub subgrid_rows : b.subgrid_rows ≡ is_subgrid_value (value_of s prop.GridTemplateRows)
  pub column_start : IsGlance b.column_start (value_of s prop.GridColumnStart)
  pub column_end : IsGlance b.column_end (value_of s prop.GridColumnEnd)
  pub row_start : IsGlance b.row_start (value_of s prop.GridRowStart)
  pub row_end : IsGlance b.row_end (value_of s prop.GridRowEnd)
  pub column_gap : b.column_gap ≡ gap_value (value_of s prop.ColumnGap)
  pub row_gap : b.row_gap ≡ gap_value (value_of s prop.RowGap)
