-- Values and nodes as they are written, worked by hand. They hold by computation.
use Rattle.std.specs.Prelude.{◌≡◌, refl, ℕ, ℤ, pos, neg_ℤ, Bool, true, false, List, [], ◌∷◌, ◌++◌, replicate, Option, Some, None, Ok, Err, codes}
use Rattle.std.specs.Fmt.{digits}
use Rattle.lunit.specs.declared.geometry.Area.{Area}
use Rattle.lunit.specs.declared.geometry.Span.{Span}
use Rattle.lunit.specs.declared.line_value.LineValue.TheVariants as line
use Rattle.part_rules.specs.declared.content.Content.TheVariants as content
use Rattle.style_types.specs.declared.declared.DeclaredValue.{DeclaredValue}
use Rattle.style_types.specs.declared.prop.Prop.{Prop}
use Rattle.style_types.specs.declared.prop.Prop.TheVariants as prop
use Rattle.style_types.specs.declared.track.Breadth.{Breadth}
use Rattle.style_types.specs.declared.track.Breadth.TheVariants as breadth
use Rattle.style_types.specs.declared.track.Template.TheVariants as template
use Rattle.style_types.specs.declared.track.TrackFn.{TrackFn}
use Rattle.style_types.specs.declared.unit.Unit.{Unit}
use Rattle.style_types.specs.declared.unit.Unit.TheVariants as unit
use Rattle.style_types.specs.declared.value.AlignMode.TheVariants as mode
use Rattle.style_types.specs.declared.value.Size.TheVariants as size
use Rattle.style_types.specs.declared.value.Value.{Value}
use Rattle.style_types.specs.declared.value.Value.TheVariants as value
use Rattle.track_text.specs.Words.{Word}
use Rattle.doc_text.specs.declared.kind.Kind.TheVariants as kind
use Rattle.doc_writer.specs.Documents.{NodeLine, node_line, header, with_lines}
use Rattle.doc_writer.specs.Numbers.{number}
use Rattle.doc_writer.specs.Spaces.{words_text}
use Rattle.doc_writer.specs.Values.{value_words}

abbrev declared : Value → List Unit → DeclaredValue
declared v units = record { value = v; units = units }

abbrev written : Value → List Unit → List ℕ
written v units = words_text (value_words (declared v units))

abbrev px : ℤ → DeclaredValue
px n = declared (value.Size (size.Length n)) (unit.Px ∷ [])

-- ---- track sizes

abbrev track : Breadth → Breadth → TrackFn
track least most = record { least = least; most = most; fit = None }

abbrev alone : Breadth → TrackFn
alone b = track b b

abbrev fit : Breadth → TrackFn
fit argument = record { least = breadth.Auto; most = breadth.MaxContent; fit = Some argument }

abbrev a : Word
a = codes "a"

abbrev b : Word
b = codes "b"

abbrev tracks : List TrackFn → List (List Word) → Value
tracks sizes names = value.Template (template.Tracks (record { sizes = sizes; names = names; repeat = None }))

-- 2em on both sides, 1em and 2em, a factor, both functions `auto`, and two caps
track_sizes : written
    (value.Sizes
    (alone (breadth.Length (pos 0)) ∷ alone (breadth.Length (pos 0)) ∷ track breadth.Auto (breadth.Flex 1500) ∷ alone breadth.Auto ∷
    fit (breadth.Percent 5000) ∷ fit (breadth.Length (neg_ℤ (pos 1))) ∷ track breadth.MinContent (breadth.Length (pos 64)) ∷ []))
    (unit.Em (pos 2000000) ∷ unit.Em (pos 2000000) ∷ unit.Em (pos 1000000) ∷ unit.Em (pos 2000000) ∷ unit.Px ∷ unit.Px ∷ [])
    ≡ codes "2em minmax(1em, 2em) 1.5fr auto fit-content(5%) fit-content(-0.015625px) minmax(min-content, 1px)"
unfolding number digits
track_sizes = refl

-- the runs end at a set of names that is not empty
runs : written
    (tracks (alone breadth.Auto ∷ alone breadth.Auto ∷ alone breadth.Auto ∷ alone breadth.MaxContent ∷ alone breadth.MaxContent ∷ [])
    ((a ∷ b ∷ []) ∷ [] ∷ (a ∷ []) ∷ [] ∷ [] ∷ (b ∷ []) ∷ [])) []
    ≡ codes "[a b] repeat(2, auto) [a] auto repeat(2, max-content) [b]"
unfolding number digits
runs = refl

-- lengths that stand as 0 are equal only with their units
units_in_runs : written
    (tracks (alone (breadth.Length (pos 0)) ∷ alone (breadth.Length (pos 0)) ∷ alone (breadth.Length (pos 0)) ∷ []) ([] ∷ [] ∷ [] ∷ [] ∷ []))
    (unit.Em (pos 1000000) ∷ unit.Em (pos 1000000) ∷ unit.Em (pos 2000000) ∷ unit.Em (pos 2000000) ∷ unit.Em (pos 2000000) ∷ unit.Em (pos 2000000) ∷ [])
    ≡ codes "1em repeat(2, 2em)"
unfolding number digits
units_in_runs = refl

no_runs : written (value.Sizes (alone breadth.Auto ∷ alone breadth.Auto ∷ [])) [] ≡ codes "auto auto"
no_runs = refl

-- the units of the repeat come after those of the tracks around it
around_a_repeat : written (value.Template (template.Tracks (record {
  sizes = alone (breadth.Length (pos 0)) ∷ alone (breadth.Length (pos 0)) ∷ alone (breadth.Percent 1000) ∷ [];
  names = (a ∷ []) ∷ [] ∷ [] ∷ (b ∷ []) ∷ [] ∷ [];
  repeat =
      Some
      (record { before = 2; auto_fit = true; sizes = alone (breadth.Length (pos 64)) ∷ alone (breadth.Length (pos 64)) ∷ []; names = [] ∷ [] ∷ (b ∷ []) ∷ [] });
})))
    (unit.Rem (pos 3000000) ∷ unit.Rem (pos 3000000) ∷ unit.Rem (pos 3000000) ∷ unit.Rem (pos 3000000) ∷ unit.Px ∷ unit.Px ∷ unit.Px ∷ unit.Px ∷ [])
    ≡ codes "[a] repeat(2, 3rem) repeat(auto-fit, 1px 1px [b]) [b] 1%"
unfolding number digits
around_a_repeat = refl

-- ---- subgrids

subgrid : written (value.Template (template.Subgrid ((a ∷ []) ∷ [] ∷ [] ∷ (b ∷ a ∷ []) ∷ []))) [] ≡ codes "subgrid [a] repeat(2, []) [b a]"
unfolding number digits
subgrid = refl

subgrid_alone : written (value.Template (template.Subgrid [])) [] ≡ codes "subgrid"
subgrid_alone = refl

-- ---- areas

abbrev span : ℤ → ℤ → Span
span start end = record { start = start; end = end }

areas : written
    (value.Areas
    (Some
    (record {
      columns = 2;
      rows = 2;
      named = (codes "h", record { columns = span (pos 0) (pos 2); rows = span (pos 0) (pos 1) }) ∷
          (codes "m", record { columns = span (pos 1) (pos 2); rows = span (pos 1) (pos 2) }) ∷ [];
    }))) []
    ≡ codes "\"h h\" \". m\""
areas = refl

one_column : written (value.Areas (Some (record { columns = 1; rows = 2; named = [] }))) [] ≡ codes "\".\" \".\""
one_column = refl

no_columns : written (value.Areas (Some (record { columns = 0; rows = 1; named = [] }))) [] ≡ codes "\"\""
no_columns = refl

-- ---- other values

lines : words_text (value_words (declared (value.Line (line.Line (neg_ℤ (pos 2)) (Some a))) [])) ≡ codes "-2 a"
unfolding number digits
lines = refl

spans : written (value.Line (line.Reach 3 None)) [] ≡ codes "span 3"
unfolding number digits
spans = refl

flow : written (value.Flow false true) [] ≡ codes "row dense"
flow = refl

guarded : written (value.Align (record { mode = mode.FlexEnd; safe = Some false })) [] ≡ codes "unsafe flex-end"
guarded = refl

-- ---- nodes and documents: the rows of a document whose declarations are lent by a function

-- `gap: 4px 0.5%; margin: 0 auto; grid-area: h`
abbrev several : Prop → Option DeclaredValue
several prop.GridColumnStart = Some (declared (value.Line (line.Named (codes "h"))) [])
several prop.GridColumnEnd = Some (declared (value.Line (line.Named (codes "h"))) [])
several prop.GridRowStart = Some (declared (value.Line (line.Named (codes "h"))) [])
several prop.GridRowEnd = Some (declared (value.Line (line.Named (codes "h"))) [])
several prop.RowGap = Some (px (pos 256))
several prop.ColumnGap = Some (declared (value.Size (size.Percent 500)) [])
several prop.MarginTop = Some (px (pos 0))
several prop.MarginRight = Some (declared (value.Size size.Auto) [])
several prop.MarginBottom = Some (px (pos 0))
several prop.MarginLeft = Some (declared (value.Size size.Auto) [])
several p = None

declarations_in_order : node_line 0 (codes "main") kind.Grid several
    ≡ codes "main grid { grid-column-start: h; grid-column-end: h; grid-row-start: h; grid-row-end: h; row-gap: 4px; "
    ++ codes "column-gap: 0.5%; margin-top: 0px; margin-right: auto; margin-bottom: 0px; margin-left: auto }"
unfolding number digits
declarations_in_order = refl

abbrev columns : Prop → Option DeclaredValue
columns prop.GridTemplateColumns =
    Some
    (declared (tracks (alone (breadth.Length (pos 6400)) ∷ track breadth.Auto (breadth.Flex 1000) ∷ []) ([] ∷ [] ∷ [] ∷ []))
    (unit.Px ∷ unit.Px ∷ []))
columns prop.ColumnGap = Some (px (pos 640))
columns p = None

abbrev nothing : Prop → Option DeclaredValue
nothing p = None

abbrev leaf : ℤ → ℤ → Word → NodeLine
leaf width height name = record { name = name; text = node_line 1 name (kind.Leaf (content.Fixed width height)) nothing }

abbrev grid : NodeLine
grid = record { name = codes "main"; text = node_line 0 (codes "main") kind.Grid columns }

document : with_lines (header 1 (pos 19200) (pos 12800)) (grid ∷ leaf (pos 2560) (pos 1280) a ∷ leaf (pos 3200) (pos 1920) b ∷ [])
    ≡ Ok (codes "gridlay 1\nviewport 300 200\nmain grid { grid-template-columns: 100px 1fr; column-gap: 10px }\n  a leaf 40 20\n  b leaf 50 30\n")
unfolding number digits
document = refl

too_long : with_lines []
    (record { name = a; text = replicate 65536 46 } ∷ record { name = b; text = replicate 65537 46 } ∷
    record { name = a; text = replicate 65538 46 } ∷ []) ≡ Err b
too_long = refl

words : node_line 2 a (kind.Leaf (content.Words (pos 1280) (pos 320) (pos 2400 ∷ pos 33 ∷ []))) nothing ≡ codes "    a words 20 5 37.5 0.515625"
unfolding number digits
words = refl
