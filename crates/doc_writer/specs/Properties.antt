-- The names of the properties, and the order in which they are written: that of their table (own rule).
use Rattle.std.specs.Prelude.{List, [], ◌∷◌, codes}
use Rattle.style_types.specs.declared.prop.Prop.{Prop}
use Rattle.style_types.specs.declared.prop.Prop.TheVariants as prop
use Rattle.track_text.specs.Words.{Word}

abbrev pub property_word : Prop → Word
property_word prop.GridTemplateColumns = codes "grid-template-columns"
property_word prop.GridTemplateRows = codes "grid-template-rows"
property_word prop.GridTemplateAreas = codes "grid-template-areas"
property_word prop.GridAutoColumns = codes "grid-auto-columns"
property_word prop.GridAutoRows = codes "grid-auto-rows"
property_word prop.GridAutoFlow = codes "grid-auto-flow"
property_word prop.GridColumnStart = codes "grid-column-start"
property_word prop.GridColumnEnd = codes "grid-column-end"
property_word prop.GridRowStart = codes "grid-row-start"
property_word prop.GridRowEnd = codes "grid-row-end"
property_word prop.Order = codes "order"
property_word prop.RowGap = codes "row-gap"
property_word prop.ColumnGap = codes "column-gap"
property_word prop.MarginTop = codes "margin-top"
property_word prop.MarginRight = codes "margin-right"
property_word prop.MarginBottom = codes "margin-bottom"
property_word prop.MarginLeft = codes "margin-left"
property_word prop.PaddingTop = codes "padding-top"
property_word prop.PaddingRight = codes "padding-right"
property_word prop.PaddingBottom = codes "padding-bottom"
property_word prop.PaddingLeft = codes "padding-left"
property_word prop.BorderTopWidth = codes "border-top-width"
property_word prop.BorderRightWidth = codes "border-right-width"
property_word prop.BorderBottomWidth = codes "border-bottom-width"
property_word prop.BorderLeftWidth = codes "border-left-width"
property_word prop.Width = codes "width"
property_word prop.Height = codes "height"
property_word prop.MinWidth = codes "min-width"
property_word prop.MinHeight = codes "min-height"
property_word prop.MaxWidth = codes "max-width"
property_word prop.MaxHeight = codes "max-height"
property_word prop.BoxSizing = codes "box-sizing"
property_word prop.Overflow = codes "overflow"
property_word prop.JustifyContent = codes "justify-content"
property_word prop.AlignContent = codes "align-content"
property_word prop.JustifyItems = codes "justify-items"
property_word prop.AlignItems = codes "align-items"
property_word prop.JustifySelf = codes "justify-self"
property_word prop.AlignSelf = codes "align-self"
property_word prop.FlexDirection = codes "flex-direction"
property_word prop.FlexWrap = codes "flex-wrap"
property_word prop.FlexGrow = codes "flex-grow"
property_word prop.FlexShrink = codes "flex-shrink"
property_word prop.FlexBasis = codes "flex-basis"
property_word prop.FontSize = codes "font-size"

-- the sides of a box stand in the order top, right, bottom, left
abbrev pub all_properties : List Prop
all_properties =
    prop.GridTemplateColumns ∷
    prop.GridTemplateRows ∷
    prop.GridTemplateAreas ∷
    prop.GridAutoColumns ∷
    prop.GridAutoRows ∷
    prop.GridAutoFlow ∷
    prop.GridColumnStart ∷
    prop.GridColumnEnd ∷
    prop.GridRowStart ∷
    prop.GridRowEnd ∷
    prop.Order ∷
    prop.RowGap ∷
    prop.ColumnGap ∷
    prop.MarginTop ∷
    prop.MarginRight ∷
    prop.MarginBottom ∷
    prop.MarginLeft ∷
    prop.PaddingTop ∷
    prop.PaddingRight ∷
    prop.PaddingBottom ∷
    prop.PaddingLeft ∷
    prop.BorderTopWidth ∷
    prop.BorderRightWidth ∷
    prop.BorderBottomWidth ∷
    prop.BorderLeftWidth ∷
    prop.Width ∷
    prop.Height ∷
    prop.MinWidth ∷
    prop.MinHeight ∷
    prop.MaxWidth ∷
    prop.MaxHeight ∷
    prop.BoxSizing ∷
    prop.Overflow ∷
    prop.JustifyContent ∷
    prop.AlignContent ∷
    prop.JustifyItems ∷
    prop.AlignItems ∷
    prop.JustifySelf ∷
    prop.AlignSelf ∷
    prop.FlexDirection ∷
    prop.FlexWrap ∷
    prop.FlexGrow ∷
    prop.FlexShrink ∷
    prop.FlexBasis ∷
    prop.FontSize ∷
    []
