-- Declarations and what they set, worked by hand. They hold by computation.
use Rattle.std.specs.Prelude.{◌≡◌, refl, ℕ, ℤ, pos, neg_ℤ, Bool, true, false, List, [], ◌∷◌, map, Option, Some, None, Result, Ok, Err, codes}
use Rattle.lunit.specs.declared.line_value.LineValue.{LineValue}
use Rattle.lunit.specs.declared.line_value.LineValue.TheVariants as line
use Rattle.text_scan.specs.declared.line.Fault.{Fault}
use Rattle.text_scan.specs.declared.line.Place.{Place}
use Rattle.style_types.specs.declared.prop.Prop.{Prop}
use Rattle.style_types.specs.declared.prop.Prop.TheVariants as prop
use Rattle.style_types.specs.declared.unit.Unit.{Unit}
use Rattle.style_types.specs.declared.unit.Unit.TheVariants as unit
use Rattle.style_types.specs.declared.track.Breadth.TheVariants as breadth
use Rattle.style_types.specs.declared.value.AlignMode.{AlignMode}
use Rattle.style_types.specs.declared.value.AlignMode.TheVariants as mode
use Rattle.style_types.specs.declared.value.Scroll.TheVariants as scroll
use Rattle.style_types.specs.declared.value.Size.{Size}
use Rattle.style_types.specs.declared.value.Size.TheVariants as size
use Rattle.style_types.specs.declared.value.Value.{Value}
use Rattle.style_types.specs.declared.value.Value.TheVariants as value
use Rattle.track_text.specs.Words.{Word}
use Rattle.value_text.specs.ValueText.{Settings}
use Rattle.value_text.specs.Declarations.{declaration}
use Rattle.value_text.specs.Properties.{properties as property_rows, properties_2, properties_3, properties_4, properties_5, properties_6, properties_7, properties_8, properties_9, properties_10}
use Rattle.value_text.specs.Lines.{name_of, line_number, span_count}
use Rattle.value_text.specs.Sizes.{size_of}

abbrev at : Place
at = record { line = 1; column = 1 }

abbrev settings : Result Settings Fault → Option Settings
settings (Ok all) = Some all
settings (Err fault) = None

abbrev values : Settings → List Value
values [] = []
values (setting ∷ all) = setting.1.value ∷ values all

abbrev units : Settings → List (List Unit)
units [] = []
units (setting ∷ all) = setting.1.units ∷ units all

abbrev props : Settings → List Prop
props [] = []
props (setting ∷ all) = setting.0 ∷ props all

abbrev of : {A : Type 0} → (Settings → List A) → Option Settings → List A
of f None = []
of f (Some all) = f all

-- the values, the units and the properties that a text sets; none where it has a fault
abbrev read : ℕ → List ℕ → List Value
read version text = of values (settings (declaration version at text))

abbrev read_units : ℕ → List ℕ → List (List Unit)
read_units version text = of units (settings (declaration version at text))

abbrev sets : List ℕ → List Prop
sets text = of props (settings (declaration 1 at text))

abbrev alone : Value → List Value
alone v = v ∷ []

abbrev px : ℤ → Value
px n = value.Size (size.Length n)

abbrev word : Size → Value
word s = value.Size s

-- ---- which property each name is

all_longhands : map sets
    (codes "grid-template-columns: none" ∷ codes "grid-template-rows: none" ∷ codes "grid-template-areas: none" ∷
    codes "grid-auto-columns: auto" ∷ codes "grid-auto-rows: auto" ∷ codes "grid-auto-flow: row"
    ∷ codes "grid-column-start: 1" ∷ codes "grid-column-end: 1" ∷ codes "grid-row-start: 1" ∷ codes "grid-row-end: 1" ∷ codes "order: 1" ∷
    codes "row-gap: 0" ∷ codes "column-gap: 0" ∷ codes "margin-top: 0" ∷ codes "margin-right: 0"
    ∷ codes "margin-bottom: 0" ∷ codes "margin-left: 0" ∷ codes "padding-top: 0" ∷ codes "padding-right: 0" ∷ codes "padding-bottom: 0" ∷
    codes "padding-left: 0" ∷ codes "border-top-width: 0" ∷ codes "border-right-width: 0"
    ∷ codes "border-bottom-width: 0" ∷ codes "border-left-width: 0" ∷ codes "width: 0" ∷ codes "height: 0" ∷ codes "min-width: 0" ∷
    codes "min-height: 0" ∷ codes "max-width: 0" ∷ codes "max-height: 0" ∷ codes "box-sizing: border-box"
    ∷ codes "overflow: clip" ∷ codes "justify-content: end" ∷ codes "align-content: end" ∷ codes "justify-items: end" ∷ codes "align-items: end" ∷
    codes "justify-self: end" ∷ codes "align-self: end" ∷ codes "flex-direction: row"
    ∷ codes "flex-wrap: wrap" ∷ codes "flex-grow: 1" ∷ codes "flex-shrink: 1" ∷ codes "flex-basis: 0" ∷ [])
    ≡ map (λ p. p ∷ [])
    (prop.GridTemplateColumns ∷ prop.GridTemplateRows ∷ prop.GridTemplateAreas ∷ prop.GridAutoColumns ∷
    prop.GridAutoRows ∷ prop.GridAutoFlow ∷ prop.GridColumnStart ∷ prop.GridColumnEnd ∷ prop.GridRowStart
    ∷ prop.GridRowEnd ∷ prop.Order ∷ prop.RowGap ∷ prop.ColumnGap ∷ prop.MarginTop ∷ prop.MarginRight ∷ prop.MarginBottom ∷ prop.MarginLeft ∷
    prop.PaddingTop ∷ prop.PaddingRight ∷ prop.PaddingBottom ∷ prop.PaddingLeft
    ∷ prop.BorderTopWidth ∷ prop.BorderRightWidth ∷ prop.BorderBottomWidth ∷ prop.BorderLeftWidth ∷ prop.Width ∷ prop.Height ∷ prop.MinWidth ∷
    prop.MinHeight ∷ prop.MaxWidth ∷ prop.MaxHeight ∷ prop.BoxSizing ∷ prop.Overflow
    ∷ prop.JustifyContent ∷ prop.AlignContent ∷ prop.JustifyItems ∷ prop.AlignItems ∷ prop.JustifySelf ∷ prop.AlignSelf ∷ prop.FlexDirection ∷
    prop.FlexWrap ∷ prop.FlexGrow ∷ prop.FlexShrink ∷ prop.FlexBasis ∷ [])
unfolding property_rows properties_2 properties_3 properties_4 properties_5 properties_6 properties_7 properties_8 properties_9 properties_10
    name_of line_number span_count size_of
all_longhands = refl

all_shorthands : map sets
    (codes "grid-column: 1" ∷ codes "grid-row: 1" ∷ codes "grid-area: 1" ∷ codes "gap: 0" ∷ codes "margin: 0" ∷ codes "padding: 0" ∷
    codes "border-width: 0" ∷ codes "flex: 1" ∷ [])
    ≡ (prop.GridColumnStart ∷ prop.GridColumnEnd ∷ []) ∷ (prop.GridRowStart ∷ prop.GridRowEnd ∷ []) ∷
    (prop.GridRowStart ∷ prop.GridColumnStart ∷ prop.GridRowEnd ∷ prop.GridColumnEnd ∷ []) ∷ (prop.RowGap ∷ prop.ColumnGap ∷ [])
    ∷ (prop.MarginTop ∷ prop.MarginRight ∷ prop.MarginBottom ∷ prop.MarginLeft ∷ []) ∷
    (prop.PaddingTop ∷ prop.PaddingRight ∷ prop.PaddingBottom ∷ prop.PaddingLeft ∷ [])
    ∷ (prop.BorderTopWidth ∷ prop.BorderRightWidth ∷ prop.BorderBottomWidth ∷ prop.BorderLeftWidth ∷ []) ∷
    (prop.FlexGrow ∷ prop.FlexShrink ∷ prop.FlexBasis ∷ []) ∷ []
unfolding property_rows properties_2 properties_3 properties_4 properties_5 properties_6 properties_7 properties_8 properties_9 properties_10
    name_of line_number span_count size_of
all_shorthands = refl

-- ---- sizes

sizes : map (read 1)
    (codes "width: auto" ∷ codes "width:10px" ∷ codes " height :  1.5px " ∷ codes "min-width: 50%" ∷ codes "min-height: 0" ∷
    codes "max-width: none" ∷ codes "max-height: 1048576px" ∷ codes "width: 1000%" ∷ codes "width: 0.0009%"
    ∷ codes "width: -0px" ∷ codes "width: +.5px" ∷ codes "row-gap: normal" ∷ codes "column-gap: 2%" ∷ codes "margin-top: auto" ∷
    codes "margin-left: -1048576px" ∷ codes "padding-top: 3px" ∷ codes "border-top-width: 0.02px"
    ∷ codes "flex-basis: content" ∷ codes "flex-basis: auto" ∷ codes "margin-right: -0.001px" ∷ [])
    ≡ map alone
    (word size.Auto ∷ px (pos 640) ∷ px (pos 96) ∷ word (size.Percent 50000) ∷ px (pos 0) ∷ word size.Absent ∷ px (pos 67108864) ∷
    word (size.Percent 1000000) ∷ word (size.Percent 0)
    ∷ px (pos 0) ∷ px (pos 32) ∷ word size.Normal ∷ word (size.Percent 2000) ∷ word size.Auto ∷ px (neg_ℤ (pos 67108864)) ∷ px (pos 192) ∷ px (pos 1)
    ∷ word size.Content ∷ word size.Auto ∷ px (pos 0) ∷ [])
unfolding property_rows properties_2 properties_3 properties_4 properties_5 properties_6 properties_7 properties_8 properties_9 properties_10
    name_of line_number span_count size_of
sizes = refl

relative_sizes : map (read_units 2)
    (codes "width: 2em" ∷ codes "width: 0.5rem" ∷ codes "width: 0em" ∷ codes "width: 0" ∷ codes "width: 1px" ∷
    codes "width: 50%" ∷ codes "width: auto" ∷ codes "margin-left: -1.5em" ∷ codes "font-size: 0.0000019em"
    ∷ codes "font-size: 10000rem" ∷ codes "gap: 1em 2px" ∷ codes "flex: 1 1 3em" ∷ codes "flex: 1" ∷ codes "margin: 1px 2em auto" ∷ [])
    ≡ ((unit.Em (pos 2000000) ∷ []) ∷ []) ∷ ((unit.Rem (pos 500000) ∷ []) ∷ []) ∷ ((unit.Em (pos 0) ∷ []) ∷ []) ∷ ((unit.Px ∷ []) ∷ []) ∷
    ((unit.Px ∷ []) ∷ []) ∷ ([] ∷ []) ∷ ([] ∷ []) ∷ ((unit.Em (neg_ℤ (pos 1500000)) ∷ []) ∷ [])
    ∷ ((unit.Em (pos 1) ∷ []) ∷ []) ∷ ((unit.Rem (pos 10000000000) ∷ []) ∷ []) ∷ ((unit.Em (pos 1000000) ∷ []) ∷ (unit.Px ∷ []) ∷ []) ∷
    ([] ∷ [] ∷ (unit.Em (pos 3000000) ∷ []) ∷ []) ∷ ([] ∷ [] ∷ (unit.Px ∷ []) ∷ [])
    ∷ ((unit.Px ∷ []) ∷ (unit.Em (pos 2000000) ∷ []) ∷ [] ∷ (unit.Em (pos 2000000) ∷ []) ∷ []) ∷ []
unfolding property_rows properties_2 properties_3 properties_4 properties_5 properties_6 properties_7 properties_8 properties_9 properties_10
    name_of line_number span_count size_of
relative_sizes = refl

relative_stand_as_0 : map (read 2) (codes "width: 2em" ∷ codes "margin: 1rem auto" ∷ codes "font-size: 20px" ∷ []) ≡
    (px (pos 0) ∷ []) ∷ (px (pos 0) ∷ word size.Auto ∷ px (pos 0) ∷ word size.Auto ∷ []) ∷ (px (pos 1280) ∷ []) ∷ []
unfolding property_rows properties_2 properties_3 properties_4 properties_5 properties_6 properties_7 properties_8 properties_9 properties_10
    name_of line_number span_count size_of
relative_stand_as_0 = refl

-- ---- lists of sizes

size_lists : map (read 1)
    (codes "gap: 1px" ∷ codes "gap: normal 5%" ∷ codes "margin: 1px" ∷ codes "margin: 1px auto" ∷ codes "margin: 1px 2px 3px" ∷
    codes "margin: 1px 2px 3px -4px" ∷ codes "padding: 1px 2px 3px" ∷ codes "border-width: 0 1px 2px 3px" ∷ [])
    ≡ (px (pos 64) ∷ px (pos 64) ∷ []) ∷ (word size.Normal ∷ word (size.Percent 5000) ∷ []) ∷
    (px (pos 64) ∷ px (pos 64) ∷ px (pos 64) ∷ px (pos 64) ∷ []) ∷ (px (pos 64) ∷ word size.Auto ∷ px (pos 64) ∷ word size.Auto ∷ [])
    ∷ (px (pos 64) ∷ px (pos 128) ∷ px (pos 192) ∷ px (pos 128) ∷ []) ∷ (px (pos 64) ∷ px (pos 128) ∷ px (pos 192) ∷ px (neg_ℤ (pos 256)) ∷ []) ∷
    (px (pos 64) ∷ px (pos 128) ∷ px (pos 192) ∷ px (pos 128) ∷ [])
    ∷ (px (pos 0) ∷ px (pos 64) ∷ px (pos 128) ∷ px (pos 192) ∷ []) ∷ []
unfolding property_rows properties_2 properties_3 properties_4 properties_5 properties_6 properties_7 properties_8 properties_9 properties_10
    name_of line_number span_count size_of
size_lists = refl

-- ---- flex

abbrev flex : ℕ → ℕ → Value → List Value
flex grow shrink basis = value.Factor grow ∷ value.Factor shrink ∷ basis ∷ []

flexes : map (read 1)
    (codes "flex: none" ∷ codes "flex: auto" ∷ codes "flex: 1" ∷ codes "flex: 2 3" ∷ codes "flex: 2 3 4px" ∷
    codes "flex: 2 4px" ∷ codes "flex: 10%" ∷ codes "flex: content" ∷ codes "flex: 0" ∷ codes "flex: 1 0" ∷ codes "flex: 1 1 0"
    ∷ codes "flex: 0.0005 auto" ∷ codes "flex: 10000" ∷ codes "flex: 0px" ∷ [])
    ≡ flex 0 0 (word size.Auto) ∷ flex 1000 1000 (word size.Auto) ∷ flex 1000 1000 (px (pos 0)) ∷ flex 2000 3000 (px (pos 0)) ∷
    flex 2000 3000 (px (pos 256)) ∷ flex 2000 1000 (px (pos 256)) ∷ flex 1000 1000 (word (size.Percent 10000))
    ∷ flex 1000 1000 (word size.Content) ∷ flex 0 1000 (px (pos 0)) ∷ flex 1000 0 (px (pos 0)) ∷ flex 1000 1000 (px (pos 0)) ∷
    flex 0 1000 (word size.Auto) ∷ flex 10000000 1000 (px (pos 0)) ∷ flex 1000 1000 (px (pos 0)) ∷ []
unfolding property_rows properties_2 properties_3 properties_4 properties_5 properties_6 properties_7 properties_8 properties_9 properties_10
    name_of line_number span_count size_of
flexes = refl

-- ---- lines

abbrev a : Word
a = codes "a"

abbrev lines : List LineValue → List Value
lines all = map value.Line all

line_values : map (read 1)
    (codes "grid-column-start: auto" ∷ codes "grid-column-start: 3" ∷ codes "grid-column-start: -1" ∷
    codes "grid-column-start: 2 a" ∷ codes "grid-column-start: a 2" ∷ codes "grid-column-start: a" ∷ codes "grid-column-start: span 2"
    ∷ codes "grid-column-start: span a" ∷ codes "grid-column-start: span 2 a" ∷ codes "grid-column-start: span a 2" ∷
    codes "grid-column-start: +1000000" ∷ codes "grid-column-start: none" ∷ codes "grid-column-start: dense" ∷ [])
    ≡ map alone
    (lines
    (line.Auto ∷ line.Line (pos 3) None ∷ line.Line (neg_ℤ (pos 1)) None ∷ line.Line (pos 2) (Some a) ∷ line.Line (pos 2) (Some a) ∷
    line.Named a ∷ line.Reach 2 None ∷ line.Reach 1 (Some a) ∷ line.Reach 2 (Some a) ∷ line.Reach 2 (Some a)
    ∷ line.Line (pos 1000000) None ∷ line.Named (codes "none") ∷ line.Named (codes "dense") ∷ []))
unfolding property_rows properties_2 properties_3 properties_4 properties_5 properties_6 properties_7 properties_8 properties_9 properties_10
    name_of line_number span_count size_of
line_values = refl

line_lists : map (read 1)
    (codes "grid-column: 1 / 3" ∷ codes "grid-column: 1" ∷ codes "grid-column: a" ∷ codes "grid-row: a 2" ∷
    codes "grid-row: span 2/span a" ∷ codes "grid-area: a" ∷ codes "grid-area: 1" ∷ codes "grid-area: 1 / a" ∷ codes "grid-area: a / 2"
    ∷ codes "grid-area: a / 2 / 3" ∷ codes "grid-area: 1 / 2 / 3 / 4" ∷ codes "grid-column: auto / a" ∷ [])
    ≡ lines (line.Line (pos 1) None ∷ line.Line (pos 3) None ∷ []) ∷ lines (line.Line (pos 1) None ∷ line.Auto ∷ []) ∷
    lines (line.Named a ∷ line.Named a ∷ []) ∷ lines (line.Line (pos 2) (Some a) ∷ line.Auto ∷ [])
    ∷ lines (line.Reach 2 None ∷ line.Reach 1 (Some a) ∷ []) ∷ lines (line.Named a ∷ line.Named a ∷ line.Named a ∷ line.Named a ∷ []) ∷
    lines (line.Line (pos 1) None ∷ line.Auto ∷ line.Auto ∷ line.Auto ∷ [])
    ∷ lines (line.Line (pos 1) None ∷ line.Named a ∷ line.Auto ∷ line.Named a ∷ []) ∷
    lines (line.Named a ∷ line.Line (pos 2) None ∷ line.Named a ∷ line.Auto ∷ [])
    ∷ lines (line.Named a ∷ line.Line (pos 2) None ∷ line.Line (pos 3) None ∷ line.Auto ∷ []) ∷
    lines (line.Line (pos 1) None ∷ line.Line (pos 2) None ∷ line.Line (pos 3) None ∷ line.Line (pos 4) None ∷ []) ∷
    lines (line.Auto ∷ line.Named a ∷ []) ∷ []
unfolding property_rows properties_2 properties_3 properties_4 properties_5 properties_6 properties_7 properties_8 properties_9 properties_10
    name_of line_number span_count size_of
line_lists = refl

-- ---- keywords and numbers

abbrev plain_align : AlignMode → Value
plain_align m = value.Align (record { mode = m; safe = None })

abbrev guarded_align : Bool → AlignMode → Value
guarded_align safe m = value.Align (record { mode = m; safe = Some safe })

alignments : map (read 1)
    (codes "justify-content: normal" ∷ codes "align-content: stretch" ∷ codes "justify-content: space-between" ∷
    codes "justify-content: space-around" ∷ codes "align-content: space-evenly" ∷ codes "justify-items: start"
    ∷ codes "align-items: center" ∷ codes "justify-self: auto" ∷ codes "align-self: flex-start" ∷ codes "align-self: flex-end" ∷
    codes "align-self: safe end" ∷ codes "justify-content: unsafe center" ∷ codes "align-items: stretch" ∷ codes "justify-items: normal" ∷ [])
    ≡ map alone
    (plain_align mode.Normal ∷ plain_align mode.Stretch ∷ plain_align mode.Between ∷ plain_align mode.Around ∷
    plain_align mode.Evenly ∷ plain_align mode.Start ∷ plain_align mode.Center ∷ plain_align mode.Auto ∷ plain_align mode.FlexStart
    ∷ plain_align mode.FlexEnd ∷ guarded_align true mode.End ∷ guarded_align false mode.Center ∷ plain_align mode.Stretch ∷ plain_align mode.Normal ∷ [])
unfolding property_rows properties_2 properties_3 properties_4 properties_5 properties_6 properties_7 properties_8 properties_9 properties_10
    name_of line_number span_count size_of
alignments = refl

keywords : map (read 1)
    (codes "grid-auto-flow: row" ∷ codes "grid-auto-flow: column" ∷ codes "grid-auto-flow: dense" ∷ codes "grid-auto-flow: dense column" ∷
    codes "grid-auto-flow: row dense" ∷ codes "box-sizing: content-box" ∷ codes "box-sizing: border-box"
    ∷ codes "overflow: visible" ∷ codes "overflow: clip" ∷ codes "overflow: hidden" ∷ codes "overflow: scroll" ∷ codes "overflow: auto" ∷
    codes "flex-direction: column" ∷ codes "flex-direction: row" ∷ codes "flex-wrap: wrap" ∷ codes "flex-wrap: nowrap"
    ∷ codes "order: -1000000" ∷ codes "order: +7" ∷ codes "flex-grow: 10000" ∷ codes "flex-shrink: .0019" ∷ codes "flex-grow: -0" ∷ [])
    ≡ map alone
    (value.Flow false false ∷ value.Flow true false ∷ value.Flow false true ∷
    value.Flow true true ∷ value.Flow false true ∷ value.BorderBox false ∷ value.BorderBox true
    ∷ value.Overflow scroll.Visible ∷ value.Overflow scroll.Clip ∷ value.Overflow scroll.Hidden ∷ value.Overflow scroll.Scroll ∷
    value.Overflow scroll.Auto ∷ value.Column true ∷ value.Column false ∷ value.Wrap true ∷ value.Wrap false
    ∷ value.Order (neg_ℤ (pos 1000000)) ∷ value.Order (pos 7) ∷ value.Factor 10000000 ∷ value.Factor 1 ∷ value.Factor 0 ∷ [])
unfolding property_rows properties_2 properties_3 properties_4 properties_5 properties_6 properties_7 properties_8 properties_9 properties_10
    name_of line_number span_count size_of
keywords = refl

-- ---- track sizes and areas

auto_tracks : map (read 1) (codes "grid-auto-rows: auto" ∷ codes "grid-auto-columns: 1px minmax(auto, 2fr)" ∷ [])
    ≡ map alone (value.Sizes (record { least = breadth.Auto; most = breadth.Auto; fit = None } ∷ [])
    ∷ value.Sizes
    (record { least = breadth.Length (pos 64); most = breadth.Length (pos 64); fit = None } ∷
    record { least = breadth.Auto; most = breadth.Flex 2000; fit = None } ∷ []) ∷ [])
unfolding property_rows properties_2 properties_3 properties_4 properties_5 properties_6 properties_7 properties_8 properties_9 properties_10
    name_of line_number span_count size_of
auto_tracks = refl

areas : map (read 1)
    (codes "grid-template-areas: none" ∷ codes "grid-template-areas: \"\"" ∷ codes "grid-template-areas: \"a\"" ∷
    codes "grid-template-areas: \"h h\" \"n m\"" ∷ codes "grid-template-areas: \" . a ... \"  \". a .\"" ∷
    codes "grid-template-areas: \"\" \"\"" ∷ [])
    ≡ map alone (value.Areas None ∷ value.Areas (Some (record { columns = 0; rows = 1; named = [] }))
    ∷ value.Areas
    (Some
    (record {
      columns = 1;
      rows = 1;
      named =
          (codes "a", record { columns = record { start = pos 0; end = pos 1 }; rows = record { start = pos 0; end = pos 1 } }) ∷
          [];
    }))
    ∷ value.Areas (Some (record {
      columns = 2;
      rows = 2;
      named = (codes "h", record { columns = record { start = pos 0; end = pos 2 }; rows = record { start = pos 0; end = pos 1 } })
          ∷ (codes "n", record { columns = record { start = pos 0; end = pos 1 }; rows = record { start = pos 1; end = pos 2 } })
          ∷ (codes "m", record { columns = record { start = pos 1; end = pos 2 }; rows = record { start = pos 1; end = pos 2 } }) ∷ [];
    }))
    ∷ value.Areas
    (Some
    (record {
      columns = 3;
      rows = 2;
      named =
          (codes "a", record { columns = record { start = pos 1; end = pos 2 }; rows = record { start = pos 0; end = pos 2 } }) ∷
          [];
    }))
    ∷ value.Areas (Some (record { columns = 0; rows = 2; named = [] })) ∷ [])
unfolding property_rows properties_2 properties_3 properties_4 properties_5 properties_6 properties_7 properties_8 properties_9 properties_10
    name_of line_number span_count size_of
areas = refl
