-- The words of the values of properties, one rule a kind of value.
use Rattle.std.specs.Prelude.{pos, Bool, true, false, List, [], ◌∷◌, ◌++◌, Option, Some, None, codes}
use Rattle.lunit.specs.declared.line_value.LineValue.{LineValue}
use Rattle.lunit.specs.declared.line_value.LineValue.TheVariants as line
use Rattle.style_types.specs.declared.declared.DeclaredValue.{DeclaredValue}
use Rattle.style_types.specs.declared.unit.Unit.{Unit}
use Rattle.style_types.specs.declared.value.Align.{Align}
use Rattle.style_types.specs.declared.value.AlignMode.{AlignMode}
use Rattle.style_types.specs.declared.value.AlignMode.TheVariants as mode
use Rattle.style_types.specs.declared.value.Scroll.{Scroll}
use Rattle.style_types.specs.declared.value.Scroll.TheVariants as scroll
use Rattle.style_types.specs.declared.value.Size.{Size}
use Rattle.style_types.specs.declared.value.Size.TheVariants as size
use Rattle.style_types.specs.declared.value.Value.{Value}
use Rattle.style_types.specs.declared.value.Value.TheVariants as value
use Rattle.track_text.specs.Words.{Word}
use Rattle.doc_writer.specs.Numbers.{integer, factor, percentage, length_word}
use Rattle.doc_writer.specs.Tracks.{first_unit, template_words, sizes_words}
use Rattle.doc_writer.specs.Areas.{areas_words}

-- a size by its unit, or the keyword in its place
abbrev pub size_word : Size → List Unit → Word
size_word size.Auto units = codes "auto"
size_word size.Absent units = codes "none"
size_word size.Normal units = codes "normal"
size_word size.Content units = codes "content"
size_word (size.Length px) units = length_word px (first_unit units)
size_word (size.Percent thousandths) units = percentage thousandths

-- a name in its place, where there is one
abbrev pub name_words : Option Word → List Word
name_words None = []
name_words (Some name) = name ∷ []

-- a line value (CSS Grid 2, 8.3)
abbrev pub line_words : LineValue → List Word
line_words line.Auto = codes "auto" ∷ []
line_words (line.Line n name) = integer n ∷ name_words name
line_words (line.Reach count name) = codes "span" ∷ integer (pos count) ∷ name_words name
line_words (line.Named name) = name ∷ []

-- the flow of placement (CSS Grid 2, 7.7)
abbrev pub axis_word : Bool → Word
axis_word true = codes "column"
axis_word false = codes "row"

abbrev pub flow_words : Bool → Bool → List Word
flow_words column true = axis_word column ∷ codes "dense" ∷ []
flow_words column false = axis_word column ∷ []

abbrev pub box_word : Bool → Word
box_word true = codes "border-box"
box_word false = codes "content-box"

abbrev pub wrap_word : Bool → Word
wrap_word true = codes "wrap"
wrap_word false = codes "nowrap"

abbrev pub scroll_word : Scroll → Word
scroll_word scroll.Visible = codes "visible"
scroll_word scroll.Clip = codes "clip"
scroll_word scroll.Hidden = codes "hidden"
scroll_word scroll.Scroll = codes "scroll"
scroll_word scroll.Auto = codes "auto"

-- ---- alignments (CSS Box Alignment 3, 4)

abbrev pub mode_word : AlignMode → Word
mode_word mode.Auto = codes "auto"
mode_word mode.Normal = codes "normal"
mode_word mode.Stretch = codes "stretch"
mode_word mode.Start = codes "start"
mode_word mode.End = codes "end"
mode_word mode.Center = codes "center"
mode_word mode.FlexStart = codes "flex-start"
mode_word mode.FlexEnd = codes "flex-end"
mode_word mode.Between = codes "space-between"
mode_word mode.Around = codes "space-around"
mode_word mode.Evenly = codes "space-evenly"

abbrev pub safe_words : Option Bool → List Word
safe_words None = []
safe_words (Some true) = codes "safe" ∷ []
safe_words (Some false) = codes "unsafe" ∷ []

abbrev pub align_words : Align → List Word
align_words align = safe_words align.safe ++ mode_word align.mode ∷ []

-- ---- all values

abbrev pub value_words_with : Value → List Unit → List Word
value_words_with (value.Template template) units = template_words template units
value_words_with (value.Areas areas) units = areas_words areas
value_words_with (value.Sizes sizes) units = sizes_words sizes units
value_words_with (value.Flow column dense) units = flow_words column dense
value_words_with (value.Line line) units = line_words line
value_words_with (value.Order n) units = integer n ∷ []
value_words_with (value.Size size) units = size_word size units ∷ []
value_words_with (value.BorderBox border) units = box_word border ∷ []
value_words_with (value.Overflow scroll) units = scroll_word scroll ∷ []
value_words_with (value.Align align) units = align_words align
value_words_with (value.Column column) units = axis_word column ∷ []
value_words_with (value.Wrap wrap) units = wrap_word wrap ∷ []
value_words_with (value.Factor thousandths) units = factor thousandths ∷ []

abbrev pub value_words : DeclaredValue → List Word
value_words declared = value_words_with declared.value declared.units
