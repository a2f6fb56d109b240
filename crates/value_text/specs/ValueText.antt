-- What the value of a property stands for: one case a form.
use Rattle.std.specs.Prelude.{ℕ, Bool, List, [], ◌∷◌, Option, None, codes}
use Rattle.std.specs.Option.{option_map}
use Rattle.lunit.specs.declared.line_value.LineValue.{LineValue}
use Rattle.style_types.specs.declared.declared.DeclaredValue.{DeclaredValue}
use Rattle.style_types.specs.declared.prop.Prop.{Prop}
use Rattle.style_types.specs.declared.prop.Prop.TheVariants as prop
use Rattle.style_types.specs.declared.track.TrackFn.{TrackFn}
use Rattle.style_types.specs.declared.unit.Unit.{Unit}
use Rattle.style_types.specs.declared.value.Areas.{Areas}
use Rattle.style_types.specs.declared.value.Value.{Value}
use Rattle.style_types.specs.declared.value.Value.TheVariants as value
use Rattle.track_text.specs.Words.{Word}
use Rattle.track_text.specs.Values.{integer_of, factor_of}
use Rattle.track_text.specs.Templates.{ReadTemplate, template_of, auto_tracks}
use Rattle.value_text.specs.declared.flex.Flex.{Flex}
use Rattle.value_text.specs.declared.form.Form.{Form}
use Rattle.value_text.specs.declared.form.Form.TheVariants as form
use Rattle.value_text.specs.declared.property.Property.{Property}
use Rattle.value_text.specs.declared.property.Property.TheVariants as property
use Rattle.value_text.specs.declared.property.Shorthand.{Shorthand}
use Rattle.value_text.specs.declared.property.Shorthand.TheVariants as shorthand
use Rattle.value_text.specs.Sizes.{Sides, one_size, two_sizes, side_sizes, size_value}
use Rattle.value_text.specs.declared.size.Measured.{Measured}
use Rattle.value_text.specs.Lines.{FourLines, one_line, two_lines, four_lines}
use Rattle.value_text.specs.Keywords.{word_alone, either, scroll_of, flow_of, align_of}
use Rattle.value_text.specs.AreaText.{areas_of}
use Rattle.value_text.specs.FlexText.{flex_of}
use Rattle.value_text.specs.Forms.{form_of, edge_form, margin_form, gap_form}

-- a value without lengths
abbrev pub plain : Value → DeclaredValue
plain v = record { value = v; units = [] }

abbrev pub template_value : ReadTemplate → DeclaredValue
template_value read = record { value = value.Template read.0; units = read.1 }

abbrev pub tracks_value : List TrackFn × List Unit → DeclaredValue
tracks_value read = record { value = value.Sizes read.0; units = read.1 }

abbrev pub areas_value : Option Areas → DeclaredValue
areas_value a = plain (value.Areas a)

abbrev pub line_value : LineValue → DeclaredValue
line_value read = plain (value.Line read)

-- the value of a form without lengths and lists
abbrev pub word_value : Form → List Word → Option Value
word_value form.Flow words = option_map (λ f. value.Flow f.0 f.1) (flow_of words)
word_value form.Line words = option_map value.Line (one_line words)
word_value form.Order words = option_map value.Order (word_alone integer_of words)
word_value form.BoxSizing words = option_map value.BorderBox (word_alone (either (codes "content-box") (codes "border-box")) words)
word_value form.Overflow words = option_map value.Overflow (word_alone scroll_of words)
word_value (form.Align f) words = option_map value.Align (align_of f words)
word_value form.Direction words = option_map value.Column (word_alone (either (codes "row") (codes "column")) words)
word_value form.Wrap words = option_map value.Wrap (word_alone (either (codes "nowrap") (codes "wrap")) words)
word_value form.Factor words = option_map value.Factor (word_alone factor_of words)
word_value f words = None

-- the value of a property of this form
abbrev pub value_of : Bool → Form → List Word → Option DeclaredValue
value_of relative form.Template words = option_map template_value (template_of relative words)
value_of relative form.Areas words = option_map areas_value (areas_of words)
value_of relative form.Tracks words = option_map tracks_value (auto_tracks relative words)
value_of relative (form.Size f) words = option_map size_value (one_size relative f words)
value_of relative f words = option_map plain (word_value f words)

-- ---- shorthands: the properties that they set, in order, each with its value

abbrev pub Settings : Type 0
Settings = List (Prop × DeclaredValue)

abbrev pub two_settings : Prop → Prop → DeclaredValue → DeclaredValue → Settings
two_settings p q v w = (p, v) ∷ (q, w) ∷ []

abbrev pub line_settings : Prop → Prop → LineValue × LineValue → Settings
line_settings p q read = two_settings p q (line_value read.0) (line_value read.1)

abbrev pub area_settings : FourLines → Settings
area_settings read =
    (prop.GridRowStart, line_value read.0) ∷ (prop.GridColumnStart, line_value read.1) ∷ (prop.GridRowEnd, line_value read.2) ∷
    (prop.GridColumnEnd, line_value read.3) ∷ []

abbrev pub gap_settings : Measured × Measured → Settings
gap_settings read = two_settings prop.RowGap prop.ColumnGap (size_value read.0) (size_value read.1)

abbrev pub side_settings : Prop → Prop → Prop → Prop → Sides → Settings
side_settings top right bottom left read = (top, size_value read.0) ∷ (right, size_value read.1) ∷ (bottom, size_value read.2) ∷ (left, size_value read.3) ∷ []

abbrev pub flex_parts : ℕ → ℕ → DeclaredValue → Settings
flex_parts grow shrink basis = (prop.FlexGrow, plain (value.Factor grow)) ∷ (prop.FlexShrink, plain (value.Factor shrink)) ∷ (prop.FlexBasis, basis) ∷ []

abbrev pub flex_settings : Flex → Settings
flex_settings f = flex_parts f.grow f.shrink (size_value f.basis)

-- the parts of a shorthand
abbrev pub parts_of : Bool → Shorthand → List Word → Option Settings
parts_of relative shorthand.GridColumn words = option_map (line_settings prop.GridColumnStart prop.GridColumnEnd) (two_lines words)
parts_of relative shorthand.GridRow words = option_map (line_settings prop.GridRowStart prop.GridRowEnd) (two_lines words)
parts_of relative shorthand.GridArea words = option_map area_settings (four_lines words)
parts_of relative shorthand.Gap words = option_map gap_settings (two_sizes relative gap_form words)
parts_of relative shorthand.Margin words =
    option_map (side_settings prop.MarginTop prop.MarginRight prop.MarginBottom prop.MarginLeft) (side_sizes relative margin_form words)
parts_of relative shorthand.Padding words =
    option_map (side_settings prop.PaddingTop prop.PaddingRight prop.PaddingBottom prop.PaddingLeft) (side_sizes relative edge_form words)
parts_of relative shorthand.BorderWidth words =
    option_map (side_settings prop.BorderTopWidth prop.BorderRightWidth prop.BorderBottomWidth prop.BorderLeftWidth)
    (side_sizes relative edge_form words)
parts_of relative shorthand.Flex words = option_map flex_settings (flex_of relative words)

abbrev pub one_setting : Prop → DeclaredValue → Settings
one_setting p v = (p, v) ∷ []

-- what the words of a value stand for: the properties that a declaration with it sets
abbrev pub settings_of : Bool → Property → List Word → Option Settings
settings_of relative (property.Longhand p) words = option_map (one_setting p) (value_of relative (form_of p) words)
settings_of relative (property.Shorthand s) words = parts_of relative s words
settings_of relative property.Unsupported words = None
