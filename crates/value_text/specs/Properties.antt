-- The properties by their names, and the form of the value of each. One row a property.
use Rattle.std.specs.Prelude.{Bool, false, List, [], ◌∷◌, if◌then◌else◌, Option, Some, None, codes}
use Rattle.std.specs.Str.{bytes_eq}
use Rattle.style_types.specs.declared.prop.Prop.{Prop}
use Rattle.style_types.specs.declared.prop.Prop.TheVariants as prop
use Rattle.track_text.specs.Words.{Word, bind}
use Rattle.value_text.specs.declared.property.Property.{Property}
use Rattle.value_text.specs.declared.property.Property.TheVariants as property
use Rattle.value_text.specs.declared.property.Shorthand.{Shorthand}
use Rattle.value_text.specs.declared.property.Shorthand.TheVariants as shorthand

-- the entry of the first row that has the name
abbrev pub first_named : {R A : Type 0} → (R → Word) → (R → A) → List R → Word → Option A
first_named name entry [] word = None
first_named name entry (row ∷ rows) word = if bytes_eq word (name row) then Some (entry row) else first_named name entry rows word

abbrev pub named : {A : Type 0} → List (Word × A) → Word → Option A
named rows word = first_named (λ row. row.0) (λ row. row.1) rows word

unfoldable pub properties_10 : List (Word × Property)
properties_10 =
    (codes "border", property.Unsupported) ∷
    (codes "break-before", property.Unsupported) ∷
    (codes "break-after", property.Unsupported) ∷
    (codes "break-inside", property.Unsupported) ∷
    []

unfoldable pub properties_9 : List (Word × Property)
properties_9 =
    (codes "visibility", property.Unsupported) ∷
    (codes "display", property.Unsupported) ∷
    (codes "grid", property.Unsupported) ∷
    (codes "grid-template", property.Unsupported) ∷
    (codes "place-content", property.Unsupported) ∷
    (codes "place-items", property.Unsupported) ∷
    (codes "place-self", property.Unsupported) ∷
    (codes "flex-flow", property.Unsupported) ∷
    properties_10

unfoldable pub properties_8 : List (Word × Property)
properties_8 =
    (codes "bottom", property.Unsupported) ∷
    (codes "left", property.Unsupported) ∷
    (codes "inset", property.Unsupported) ∷
    (codes "float", property.Unsupported) ∷
    (codes "clear", property.Unsupported) ∷
    (codes "writing-mode", property.Unsupported) ∷
    (codes "direction", property.Unsupported) ∷
    (codes "aspect-ratio", property.Unsupported) ∷
    properties_9

unfoldable pub properties_7 : List (Word × Property)
properties_7 =
    (codes "gap", property.Shorthand shorthand.Gap) ∷
    (codes "margin", property.Shorthand shorthand.Margin) ∷
    (codes "padding", property.Shorthand shorthand.Padding) ∷
    (codes "border-width", property.Shorthand shorthand.BorderWidth) ∷
    (codes "flex", property.Shorthand shorthand.Flex) ∷
    (codes "position", property.Unsupported) ∷
    (codes "top", property.Unsupported) ∷
    (codes "right", property.Unsupported) ∷
    properties_8

unfoldable pub properties_6 : List (Word × Property)
properties_6 =
    (codes "flex-wrap", property.Longhand prop.FlexWrap) ∷
    (codes "flex-grow", property.Longhand prop.FlexGrow) ∷
    (codes "flex-shrink", property.Longhand prop.FlexShrink) ∷
    (codes "flex-basis", property.Longhand prop.FlexBasis) ∷
    (codes "font-size", property.Longhand prop.FontSize) ∷
    (codes "grid-column", property.Shorthand shorthand.GridColumn) ∷
    (codes "grid-row", property.Shorthand shorthand.GridRow) ∷
    (codes "grid-area", property.Shorthand shorthand.GridArea) ∷
    properties_7

unfoldable pub properties_5 : List (Word × Property)
properties_5 =
    (codes "overflow", property.Longhand prop.Overflow) ∷
    (codes "justify-content", property.Longhand prop.JustifyContent) ∷
    (codes "align-content", property.Longhand prop.AlignContent) ∷
    (codes "justify-items", property.Longhand prop.JustifyItems) ∷
    (codes "align-items", property.Longhand prop.AlignItems) ∷
    (codes "justify-self", property.Longhand prop.JustifySelf) ∷
    (codes "align-self", property.Longhand prop.AlignSelf) ∷
    (codes "flex-direction", property.Longhand prop.FlexDirection) ∷
    properties_6

unfoldable pub properties_4 : List (Word × Property)
properties_4 =
    (codes "border-left-width", property.Longhand prop.BorderLeftWidth) ∷
    (codes "width", property.Longhand prop.Width) ∷
    (codes "height", property.Longhand prop.Height) ∷
    (codes "min-width", property.Longhand prop.MinWidth) ∷
    (codes "min-height", property.Longhand prop.MinHeight) ∷
    (codes "max-width", property.Longhand prop.MaxWidth) ∷
    (codes "max-height", property.Longhand prop.MaxHeight) ∷
    (codes "box-sizing", property.Longhand prop.BoxSizing) ∷
    properties_5

unfoldable pub properties_3 : List (Word × Property)
properties_3 =
    (codes "margin-left", property.Longhand prop.MarginLeft) ∷
    (codes "padding-top", property.Longhand prop.PaddingTop) ∷
    (codes "padding-right", property.Longhand prop.PaddingRight) ∷
    (codes "padding-bottom", property.Longhand prop.PaddingBottom) ∷
    (codes "padding-left", property.Longhand prop.PaddingLeft) ∷
    (codes "border-top-width", property.Longhand prop.BorderTopWidth) ∷
    (codes "border-right-width", property.Longhand prop.BorderRightWidth) ∷
    (codes "border-bottom-width", property.Longhand prop.BorderBottomWidth) ∷
    properties_4

unfoldable pub properties_2 : List (Word × Property)
properties_2 =
    (codes "grid-row-start", property.Longhand prop.GridRowStart) ∷
    (codes "grid-row-end", property.Longhand prop.GridRowEnd) ∷
    (codes "order", property.Longhand prop.Order) ∷
    (codes "row-gap", property.Longhand prop.RowGap) ∷
    (codes "column-gap", property.Longhand prop.ColumnGap) ∷
    (codes "margin-top", property.Longhand prop.MarginTop) ∷
    (codes "margin-right", property.Longhand prop.MarginRight) ∷
    (codes "margin-bottom", property.Longhand prop.MarginBottom) ∷
    properties_3

unfoldable pub properties : List (Word × Property)
properties =
    (codes "grid-template-columns", property.Longhand prop.GridTemplateColumns) ∷
    (codes "grid-template-rows", property.Longhand prop.GridTemplateRows) ∷
    (codes "grid-template-areas", property.Longhand prop.GridTemplateAreas) ∷
    (codes "grid-auto-columns", property.Longhand prop.GridAutoColumns) ∷
    (codes "grid-auto-rows", property.Longhand prop.GridAutoRows) ∷
    (codes "grid-auto-flow", property.Longhand prop.GridAutoFlow) ∷
    (codes "grid-column-start", property.Longhand prop.GridColumnStart) ∷
    (codes "grid-column-end", property.Longhand prop.GridColumnEnd) ∷
    properties_2

-- without relative lengths `font-size` is not supported
abbrev pub with_version : Bool → Property → Property
with_version false (property.Longhand prop.FontSize) = property.Unsupported
with_version relative p = p

-- the property of a name; `None` where it is in no table
abbrev pub property_of : Bool → Word → Option Property
property_of relative word = bind (named properties word) (λ p. Some (with_version relative p))

-- the properties that a shorthand sets, in order
abbrev pub parts_of_shorthand : Shorthand → List Prop
parts_of_shorthand shorthand.GridColumn = prop.GridColumnStart ∷ prop.GridColumnEnd ∷ []
parts_of_shorthand shorthand.GridRow = prop.GridRowStart ∷ prop.GridRowEnd ∷ []
parts_of_shorthand shorthand.GridArea = prop.GridRowStart ∷ prop.GridColumnStart ∷ prop.GridRowEnd ∷ prop.GridColumnEnd ∷ []
parts_of_shorthand shorthand.Gap = prop.RowGap ∷ prop.ColumnGap ∷ []
parts_of_shorthand shorthand.Margin = prop.MarginTop ∷ prop.MarginRight ∷ prop.MarginBottom ∷ prop.MarginLeft ∷ []
parts_of_shorthand shorthand.Padding = prop.PaddingTop ∷ prop.PaddingRight ∷ prop.PaddingBottom ∷ prop.PaddingLeft ∷ []
parts_of_shorthand shorthand.BorderWidth = prop.BorderTopWidth ∷ prop.BorderRightWidth ∷ prop.BorderBottomWidth ∷ prop.BorderLeftWidth ∷ []
parts_of_shorthand shorthand.Flex = prop.FlexGrow ∷ prop.FlexShrink ∷ prop.FlexBasis ∷ []
