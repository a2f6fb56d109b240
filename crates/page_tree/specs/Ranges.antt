-- Values that are in the ranges which layout asks, by property; and declared values whose computed values are, whatever the font sizes (own rule).
use Rattle.std.specs.Prelude.{◌≡◌, pos, int_le, Bool, true, false, ◌&&◌, IsTrue, List, [], ◌∷◌, Option, Some, None, ⊤}
use Rattle.std.specs.FinMap as map
use Rattle.style_types.specs.Computed.{DeclaredMap}
use Rattle.style_types.specs.declared.declared.DeclaredValue.{DeclaredValue}
use Rattle.style_types.specs.declared.prop.Prop.{Prop}
use Rattle.style_types.specs.declared.prop.Prop.TheVariants as prop
use Rattle.style_types.specs.declared.track.Breadth.{Breadth}
use Rattle.style_types.specs.declared.track.Breadth.TheVariants as breadth
use Rattle.style_types.specs.declared.track.Repeat.{Repeat}
use Rattle.style_types.specs.declared.track.Template.{Template}
use Rattle.style_types.specs.declared.track.Template.TheVariants as template
use Rattle.style_types.specs.declared.track.TrackFn.{TrackFn}
use Rattle.style_types.specs.declared.track.TrackList.{TrackList}
use Rattle.style_types.specs.declared.unit.Unit.{Unit}
use Rattle.style_types.specs.declared.unit.Unit.TheVariants as unit
use Rattle.style_types.specs.declared.value.Size.{Size}
use Rattle.style_types.specs.declared.value.Size.TheVariants as size
use Rattle.style_types.specs.declared.value.Value.{Value}
use Rattle.style_types.specs.declared.value.Value.TheVariants as value
use Rattle.tree_rules.specs.Labels.{areas_in, length_in, line_in, margin_in, size_in, sizes_in, template_in}
use Rattle.placing.specs.Ranges.{AreAreas, IsEdge, IsLine, IsMargin, IsSize, IsTemplate, are_tracks}

-- ---- computed values

-- what layout asks of the value of a property
abbrev pub IsRange : Prop → Value → Type 0
IsRange prop.GridTemplateColumns v = IsTemplate (template_in v)
IsRange prop.GridTemplateRows v = IsTemplate (template_in v)
IsRange prop.GridTemplateAreas v = AreAreas (areas_in v)
IsRange prop.GridAutoColumns v = IsTrue (are_tracks (sizes_in v))
IsRange prop.GridAutoRows v = IsTrue (are_tracks (sizes_in v))
IsRange prop.GridColumnStart v = IsLine (line_in v)
IsRange prop.GridColumnEnd v = IsLine (line_in v)
IsRange prop.GridRowStart v = IsLine (line_in v)
IsRange prop.GridRowEnd v = IsLine (line_in v)
IsRange prop.RowGap v = IsSize (size_in v)
IsRange prop.ColumnGap v = IsSize (size_in v)
IsRange prop.MarginTop v = IsMargin (margin_in v)
IsRange prop.MarginRight v = IsMargin (margin_in v)
IsRange prop.MarginBottom v = IsMargin (margin_in v)
IsRange prop.MarginLeft v = IsMargin (margin_in v)
IsRange prop.PaddingTop v = IsEdge (length_in v)
IsRange prop.PaddingRight v = IsEdge (length_in v)
IsRange prop.PaddingBottom v = IsEdge (length_in v)
IsRange prop.PaddingLeft v = IsEdge (length_in v)
IsRange prop.BorderTopWidth v = IsEdge (length_in v)
IsRange prop.BorderRightWidth v = IsEdge (length_in v)
IsRange prop.BorderBottomWidth v = IsEdge (length_in v)
IsRange prop.BorderLeftWidth v = IsEdge (length_in v)
IsRange prop.Width v = IsSize (size_in v)
IsRange prop.Height v = IsSize (size_in v)
IsRange prop.MinWidth v = IsSize (size_in v)
IsRange prop.MinHeight v = IsSize (size_in v)
IsRange prop.MaxWidth v = IsSize (size_in v)
IsRange prop.MaxHeight v = IsSize (size_in v)
IsRange prop.FlexBasis v = IsSize (size_in v)
IsRange prop.FontSize v = IsSize (size_in v)
IsRange p v = ⊤

-- ---- units

-- the unit of a length that is not below 0
abbrev pub is_unit : Unit → Bool
is_unit unit.Px = true
is_unit (unit.Em millionths) = int_le (pos 0) millionths
is_unit (unit.Rem millionths) = int_le (pos 0) millionths

-- Whether the lengths of a value have such units, which are taken one after another; an argument of `fit-content` may be below 0. Beside it the units that are
-- left.

abbrev pub next_unit : List Unit → Bool × List Unit
next_unit [] = (true, [])
next_unit (u ∷ units) = (is_unit u, units)

abbrev pub breadth_units : Breadth → List Unit → Bool × List Unit
breadth_units (breadth.Length px) units = next_unit units
breadth_units b units = (true, units)

abbrev pub fit_units : Option Breadth → List Unit → List Unit
fit_units None units = units
fit_units (Some b) units = (breadth_units b units).1

abbrev pub track_units : TrackFn → List Unit → Bool × List Unit
track_units track units =
    let least = breadth_units track.least units in
    let most = breadth_units track.most least.1 in
    (least.0 && most.0, fit_units track.fit most.1)

abbrev pub tracks_units : List TrackFn → List Unit → Bool × List Unit
tracks_units [] units = (true, units)
tracks_units (track ∷ tracks) units =
    let first = track_units track units in
    let rest = tracks_units tracks first.1 in
    (first.0 && rest.0, rest.1)

abbrev pub repeat_units : Option Repeat → List Unit → Bool
repeat_units None units = true
repeat_units (Some r) units = (tracks_units r.sizes units).0

abbrev pub list_units : TrackList → List Unit → Bool
list_units list units =
    let sizes = tracks_units list.sizes units in
    sizes.0 && repeat_units list.repeat sizes.1

abbrev pub template_units : Template → List Unit → Bool
template_units (template.Tracks list) units = list_units list units
template_units t units = true

abbrev pub size_units : Size → List Unit → Bool
size_units (size.Length px) units = (next_unit units).0
size_units s units = true

abbrev pub value_units : Value → List Unit → Bool
value_units (value.Template t) units = template_units t units
value_units (value.Sizes tracks) units = (tracks_units tracks units).0
value_units (value.Size s) units = size_units s units
value_units v units = true

-- a margin may be below 0
abbrev pub is_margin : Prop → Bool
is_margin prop.MarginTop = true
is_margin prop.MarginRight = true
is_margin prop.MarginBottom = true
is_margin prop.MarginLeft = true
is_margin p = false

-- ---- declared values

-- the value is in range where its relative lengths stand as 0, and its lengths are not below 0 but in margins
pub record IsInRange (p : Prop) (d : DeclaredValue) : Type 0 where
  pub value : IsRange p d.value
  pub units : is_margin p ≡ false → value_units d.value d.units ≡ true

-- each declared value is
abbrev pub AreInRange : DeclaredMap → Type 0
AreInRange declared = (p : Prop) (d : DeclaredValue) → map.get declared p ≡ Some d → IsInRange p d
