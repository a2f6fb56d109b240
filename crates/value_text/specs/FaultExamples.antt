-- Declarations with faults, worked by hand: the text, the number of its fault, and its column from 1. They hold by
-- computation.
use Rattle.std.specs.Prelude.{◌≡◌, refl, ℕ, ◌==◌, Bool, true, false, ◌&&◌, List, [], ◌∷◌, Result, Ok, Err, codes}
use Rattle.text_scan.specs.declared.line.Fault.{Fault}
use Rattle.text_scan.specs.declared.line.Place.{Place}
use Rattle.track_text.specs.Words.{Word}
use Rattle.value_text.specs.ValueText.{Settings}
use Rattle.value_text.specs.Declarations.{declaration}
use Rattle.value_text.specs.Properties.{properties as property_rows, properties_2, properties_3, properties_4, properties_5, properties_6, properties_7, properties_8, properties_9, properties_10}
use Rattle.value_text.specs.Lines.{name_of, line_number, span_count}
use Rattle.value_text.specs.Sizes.{size_of}

abbrev at : Place
at = record { line = 3; column = 1 }

abbrev is_fault : ℕ → ℕ → Result Settings Fault → Bool
is_fault number column (Ok settings) = false
is_fault number column (Err fault) = fault.number == number && (fault.place.line == 3 && fault.place.column == column)

-- the texts of the rows whose fault is another
abbrev others : ℕ → List (Word × ℕ × ℕ) → List Word
others version [] = []
others version (row ∷ rows) = if_other (is_fault row.1 row.2 (declaration version at row.0)) row.0 (others version rows) where
  if_other : Bool → Word → List Word → List Word
  if_other true text rest = rest
  if_other false text rest = text ∷ rest

properties : others 1
    ((codes "", 8, 1) ∷ (codes ":", 8, 1) ∷ (codes ": 1px", 8, 1) ∷ (codes "  colour: red", 8, 3) ∷ (codes "Width: 1px", 8, 1) ∷
    (codes "width", 9, 6) ∷ (codes "width ", 9, 7) ∷ (codes "width 1px", 9, 7)
    ∷ (codes "width:", 9, 7) ∷ (codes "width: ", 9, 8) ∷ (codes "width:: 1px", 9, 7) ∷ (codes "width / 1px", 9, 7) ∷
    (codes "grid-gap: 1px", 8, 1) ∷ (codes "border-top: 1px", 8, 1) ∷ (codes "margin-inline: 1px", 8, 1)
    ∷ (codes "border-style: solid", 8, 1) ∷ (codes "--a: 1px", 8, 1) ∷ [])
    ≡ []
unfolding property_rows properties_2 properties_3 properties_4 properties_5 properties_6 properties_7 properties_8 properties_9 properties_10
    name_of line_number span_count size_of
properties = refl

unsupported_properties : others 1
    ((codes "position: static", 11, 1) ∷ (codes "top: 1px", 11, 1) ∷ (codes "right: 1px", 11, 1) ∷ (codes "bottom: 1px", 11, 1) ∷
    (codes "left: 1px", 11, 1) ∷ (codes "inset: 1px", 11, 1) ∷ (codes "float: left", 11, 1)
    ∷ (codes "clear: both", 11, 1) ∷ (codes "writing-mode: vertical-rl", 11, 1) ∷ (codes "direction: rtl", 11, 1) ∷
    (codes "aspect-ratio: 1", 11, 1) ∷ (codes "visibility: hidden", 11, 1) ∷ (codes "display: grid", 11, 1)
    ∷ (codes "grid: none", 11, 1) ∷ (codes "grid-template: none", 11, 1) ∷ (codes "place-content: start", 11, 1) ∷
    (codes "place-items: start", 11, 1) ∷ (codes "place-self: start", 11, 1) ∷ (codes "flex-flow: row", 11, 1)
    ∷ (codes "border: 1px", 11, 1) ∷ (codes "break-before: page", 11, 1) ∷ (codes "break-after: page", 11, 1) ∷
    (codes "break-inside: avoid", 11, 1) ∷ (codes "font-size: 1px", 11, 1) ∷ (codes " float", 11, 2) ∷ [])
    ≡ []
unfolding property_rows properties_2 properties_3 properties_4 properties_5 properties_6 properties_7 properties_8 properties_9 properties_10
    name_of line_number span_count size_of
unsupported_properties = refl

unsupported_everywhere : others 1
    ((codes "width: inherit", 11, 8) ∷ (codes "order: initial", 11, 8) ∷ (codes "gap: unset", 11, 6) ∷ (codes "flex: revert", 11, 7) ∷
    (codes "overflow: 1px inherit", 11, 11) ∷ (codes "width: calc(1px)", 11, 8)
    ∷ (codes "width: min(1px, 2px)", 11, 8) ∷ (codes "height: max (1px)", 11, 9) ∷ (codes "order: clamp(1, 2, 3)", 11, 8) ∷
    (codes "width: 1em", 11, 8) ∷ (codes "width: 1rem", 11, 8) ∷ (codes "width: 1ex", 11, 8)
    ∷ (codes "width: 1ch", 11, 8) ∷ (codes "width: 1vw", 11, 8) ∷ (codes "width: 1vh", 11, 8) ∷ (codes "width: 1vmin", 11, 8) ∷
    (codes "width: 1vmax", 11, 8) ∷ (codes "width: 1cm", 11, 8) ∷ (codes "width: 1mm", 11, 8)
    ∷ (codes "width: 1in", 11, 8) ∷ (codes "width: 1pt", 11, 8) ∷ (codes "width: 1pc", 11, 8) ∷ (codes "order: -1.5em", 11, 8) ∷
    (codes "grid-column: 1 / inherit", 11, 14) ∷ (codes "grid-template-areas: \" inherit \"", 11, 22)
    ∷ (codes "margin: 1px 99999999em", 11, 9) ∷ (codes "width:   )  1em", 11, 10) ∷ [])
    ≡ []
unfolding property_rows properties_2 properties_3 properties_4 properties_5 properties_6 properties_7 properties_8 properties_9 properties_10
    name_of line_number span_count size_of
unsupported_everywhere = refl

unsupported_words : others 1
    ((codes "grid-template-columns: masonry", 11, 24) ∷ (codes "grid-template-rows: subgrid repeat(auto-fill, [a])", 11, 21) ∷
    (codes "justify-content: baseline", 11, 18) ∷ (codes "align-items: first baseline", 11, 14)
    ∷ (codes "justify-self: left", 11, 15) ∷ (codes "justify-items: safe right", 11, 16) ∷ (codes "align-content: left", 11, 16) ∷
    (codes "align-self: last baseline", 11, 13) ∷ (codes "width: min-content", 11, 8)
    ∷ (codes "height: max-content", 11, 9) ∷ (codes "min-width: fit-content", 11, 12) ∷ (codes "max-height: fit-content(1px)", 11, 13) ∷
    (codes "min-height: max-content", 11, 13) ∷ (codes "max-width: min-content", 11, 12)
    ∷ (codes "flex-basis: min-content", 11, 13) ∷ (codes "margin-top: 5%", 11, 13) ∷ (codes "margin: 1px 5%", 11, 9) ∷
    (codes "padding-left: 0%", 11, 15) ∷ (codes "padding: 1000% 1px", 11, 10) ∷ (codes "flex-direction: row-reverse", 11, 17)
    ∷ (codes "flex-wrap: wrap-reverse", 11, 12) ∷ (codes "flex-direction: wrap-reverse", 11, 17) ∷ (codes "flex-wrap: column-reverse", 11, 12) ∷
    (codes "margin: [ ] 5%", 11, 9) ∷ [])
    ≡ []
unfolding property_rows properties_2 properties_3 properties_4 properties_5 properties_6 properties_7 properties_8 properties_9 properties_10
    name_of line_number span_count size_of
unsupported_words = refl

bad_values : others 1
    ((codes "width: [1em]", 9, 8) ∷ (codes "width: [inherit", 9, 8) ∷ (codes "width: min", 9, 8) ∷ (codes "overflow: masonry", 9, 11) ∷
    (codes "width: baseline", 9, 8) ∷ (codes "order: left", 9, 8) ∷ (codes "order: 5%", 9, 8)
    ∷ (codes "border-width: 5%", 9, 15) ∷ (codes "padding: 1000.1%", 9, 10) ∷ (codes "margin-left: -1%", 9, 14) ∷
    (codes "flex: 1 1 min-content", 9, 7) ∷ (codes "grid-auto-flow: row-reverse", 9, 17) ∷ (codes "gap: max-content", 9, 6)
    ∷ (codes "width: 1px)", 9, 8) ∷ (codes "width: 1px 2px", 9, 8) ∷ (codes "width: 1", 9, 8) ∷ (codes "width: -0.001px", 9, 8) ∷
    (codes "width: 1048576.00000001px", 9, 8) ∷ (codes "width: 1000.001%", 9, 8) ∷ (codes "width: none", 9, 8)
    ∷ (codes "max-width: auto", 9, 12) ∷ (codes "width: content", 9, 8) ∷ (codes "width: 1PX", 9, 8) ∷ (codes "width: 1 px", 9, 8) ∷
    (codes "width: AUTO", 9, 8) ∷ (codes "min-width: none", 9, 12) ∷ (codes "row-gap: auto", 9, 10)
    ∷ (codes "column-gap: -1px", 9, 13) ∷ (codes "margin-top: normal", 9, 13) ∷ (codes "margin-top: none", 9, 13) ∷
    (codes "padding-top: auto", 9, 14) ∷ (codes "padding-top: -0.001px", 9, 14) ∷ (codes "border-top-width: thin", 9, 19)
    ∷ (codes "order: 1.0", 9, 8) ∷ (codes "order: 1000001", 9, 8) ∷ (codes "order: -1000001", 9, 8) ∷ (codes "order: 1 2", 9, 8) ∷
    (codes "box-sizing: padding-box", 9, 13) ∷ (codes "overflow: visible hidden", 9, 11)
    ∷ (codes "flex-direction: nowrap", 9, 17) ∷ (codes "flex-wrap: row", 9, 12) ∷ (codes "flex-grow: -1", 9, 12) ∷
    (codes "flex-grow: 10000.001", 9, 12) ∷ (codes "flex-shrink: 1px", 9, 14) ∷ (codes "flex-basis: none", 9, 13)
    ∷ (codes "justify-content: auto", 9, 18) ∷ (codes "justify-items: legacy", 9, 16) ∷ (codes "align-items: space-between", 9, 14) ∷
    (codes "justify-self: safe", 9, 15) ∷ (codes "justify-self: safe stretch", 9, 15)
    ∷ (codes "align-content: start safe", 9, 16) ∷ (codes "align-content: safe unsafe start", 9, 16) ∷ (codes "align-items: auto", 9, 14) ∷
    (codes "grid-auto-flow: dense dense", 9, 17) ∷ (codes "grid-auto-flow: row column", 9, 17)
    ∷ (codes "grid-auto-flow: row dense row", 9, 17) ∷ (codes "grid-auto-columns: none", 9, 20) ∷ (codes "grid-auto-rows: [a] 1px", 9, 17) ∷
    (codes "grid-auto-rows: repeat(2, 1px)", 9, 17) ∷ [])
    ≡ []
unfolding property_rows properties_2 properties_3 properties_4 properties_5 properties_6 properties_7 properties_8 properties_9 properties_10
    name_of line_number span_count size_of
bad_values = refl

bad_lines : others 1
    ((codes "grid-column-start: 0", 9, 20) ∷ (codes "grid-column-start: span", 9, 20) ∷ (codes "grid-column-start: span 0", 9, 20) ∷
    (codes "grid-column-start: span -1", 9, 20) ∷ (codes "grid-column-start: 1 span", 9, 20)
    ∷ (codes "grid-column-start: a span 2", 9, 20) ∷ (codes "grid-column-start: a b", 9, 20) ∷ (codes "grid-column-start: 1 2", 9, 20) ∷
    (codes "grid-column-start: auto 1", 9, 20) ∷ (codes "grid-column-start: span auto", 9, 20)
    ∷ (codes "grid-column-start: 1 / 2", 9, 20) ∷ (codes "grid-row: 1 /", 9, 11) ∷ (codes "grid-row: / 1", 9, 11) ∷
    (codes "grid-row: 1 / 2 / 3", 9, 11) ∷ (codes "grid-area: 1 / 2 / 3 / 4 / 5", 9, 12) ∷ (codes "grid-area: 1 / / 3", 9, 12)
    ∷ (codes "grid-column: 1 2 / 3", 9, 14) ∷ (codes "grid-column: 1000001", 9, 14) ∷ (codes "grid-column: 1.5", 9, 14) ∷
    (codes "grid-column: span 2 a b", 9, 14) ∷ [])
    ≡ []
unfolding property_rows properties_2 properties_3 properties_4 properties_5 properties_6 properties_7 properties_8 properties_9 properties_10
    name_of line_number span_count size_of
bad_lines = refl

bad_shorthands : others 1
    ((codes "gap: 1px 2px 3px", 9, 6) ∷ (codes "gap: auto", 9, 6) ∷ (codes "margin: 1px 2px 3px 4px 5px", 9, 9) ∷
    (codes "margin: 1px / 2px", 9, 9) ∷ (codes "padding: auto", 9, 10) ∷ (codes "border-width: 1px -1px", 9, 15)
    ∷ (codes "flex: 1 2 3", 9, 7) ∷ (codes "flex: auto 1", 9, 7) ∷ (codes "flex: 1 auto 1", 9, 7) ∷ (codes "flex: none 1", 9, 7) ∷
    (codes "flex: 1 1 1px 1", 9, 7) ∷ (codes "flex: 10001", 9, 7) ∷ (codes "flex: -1", 9, 7) ∷ (codes "flex: 1 1 5", 9, 7) ∷ [])
    ≡ []
unfolding property_rows properties_2 properties_3 properties_4 properties_5 properties_6 properties_7 properties_8 properties_9 properties_10
    name_of line_number span_count size_of
bad_shorthands = refl

bad_areas : others 1
    ((codes "grid-template-areas: a", 9, 22) ∷
    (codes "grid-template-areas: \"a", 9, 22) ∷ (codes "grid-template-areas: \"a.b\"", 9, 22) ∷
    (codes "grid-template-areas: \"a\"\"b\"", 9, 22) ∷ (codes "grid-template-areas: \"a\" \"b c\"", 9, 22)
    ∷ (codes "grid-template-areas: \"a b a\"", 9, 22) ∷ (codes "grid-template-areas: \"a b\" \"b a\"", 9, 22) ∷
    (codes "grid-template-areas: \"a a\" \"a .\"", 9, 22) ∷ (codes "grid-template-areas: \"a,b\"", 9, 22) ∷
    (codes "grid-template-areas: \"span\"", 9, 22)
    ∷ (codes "grid-template-areas: none \"a\"", 9, 22) ∷ (codes "grid-template-areas: \"\" \"a\"", 9, 22) ∷
    (codes "grid-template-areas: \"1a\"", 9, 22) ∷ (codes "grid-template-areas: \"a\" b", 9, 22) ∷ [])
    ≡ []
unfolding property_rows properties_2 properties_3 properties_4 properties_5 properties_6 properties_7 properties_8 properties_9 properties_10
    name_of line_number span_count size_of
bad_areas = refl

version_2 : others 2
    ((codes "width: 1ex", 11, 8) ∷ (codes "font-size: 5%", 9, 12) ∷ (codes "font-size: -0.1px", 9, 12) ∷ (codes "font-size: -1em", 9, 12) ∷
    (codes "font-size: auto", 9, 12) ∷ (codes "width: 10000.1em", 9, 8) ∷ (codes "width: -1rem", 9, 8)
    ∷ (codes "order: 1em", 9, 8) ∷ (codes "flex-grow: 1em", 9, 12) ∷ (codes "width: em", 9, 8) ∷ (codes "margin: 10000.0000001rem", 9, 9) ∷
    (codes "font-size: inherit", 11, 12) ∷ [])
    ≡ []
unfolding property_rows properties_2 properties_3 properties_4 properties_5 properties_6 properties_7 properties_8 properties_9 properties_10
    name_of line_number span_count size_of
version_2 = refl
