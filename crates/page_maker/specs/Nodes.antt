-- The kinds and the declared styles of the nodes of a generated document (own rule).
use Rattle.std.specs.Prelude.{ℕ, ℤ, pos, ◌*◌, true, false, List, [], ◌∷◌, Some, None, decimal}
use Rattle.std.specs.FinMap as map
use Rattle.lunit.specs.declared.line_value.LineValue.TheVariants as line
use Rattle.part_rules.specs.declared.content.Content.TheVariants as content
use Rattle.style_types.specs.declared.prop.Prop.{Prop}
use Rattle.style_types.specs.declared.prop.Prop.TheVariants as prop
use Rattle.style_types.specs.declared.declared.DeclaredValue.{DeclaredValue}
use Rattle.style_types.specs.declared.track.Breadth.TheVariants as breadth
use Rattle.style_types.specs.declared.track.Template.{Template}
use Rattle.style_types.specs.declared.track.Template.TheVariants as template
use Rattle.style_types.specs.declared.track.TrackFn.{TrackFn}
use Rattle.style_types.specs.declared.unit.Unit.{Unit}
use Rattle.style_types.specs.declared.unit.Unit.TheVariants as unit
use Rattle.style_types.specs.declared.value.Size.TheVariants as size
use Rattle.style_types.specs.declared.value.Value.{Value}
use Rattle.style_types.specs.declared.value.Value.TheVariants as value
use Rattle.value_text.specs.ValueText.{Settings}
use Rattle.doc_text.specs.declared.kind.Kind.{Kind}
use Rattle.doc_text.specs.declared.kind.Kind.TheVariants as kind
use Rattle.doc_text.specs.Label.{Label, DeclaredMap}
use Rattle.doc_text.specs.NodeText.{with_settings}
use Rattle.page_maker.specs.declared.choice.Choice.{Choice}
use Rattle.page_maker.specs.declared.choice.Choice.TheVariants as choice

-- a number of px in units
abbrev pub px : ℕ → ℤ
px n = pos (64 * n)

-- the name of the node i: `n` and the number
abbrev pub name_of : ℕ → List ℕ
name_of i = 110 ∷ decimal i

-- ---- declarations

abbrev pub setting : Prop → Value → List Unit → Prop × DeclaredValue
setting p v units = (p, record { value = v; units = units })

abbrev pub length_of : Prop → ℕ → Prop × DeclaredValue
length_of p n = setting p (value.Size (size.Length (px n))) (unit.Px ∷ [])

-- `minmax(100px, 1fr)`
abbrev pub growing_track : TrackFn
growing_track = record { least = breadth.Length (px 100); most = breadth.Flex 1000; fit = None }

-- a factor with `fr`
abbrev pub factor_track : ℕ → TrackFn
factor_track factor = record { least = breadth.Auto; most = breadth.Flex (1000 * factor); fit = None }

-- `repeat(auto-fill, minmax(100px, 1fr))`
abbrev pub repeated_template : Template
repeated_template = template.Tracks (record {
  sizes = [];
  names = [] ∷ [] ∷ [];
  repeat = Some (record { before = 0; auto_fit = false; sizes = growing_track ∷ []; names = [] ∷ [] ∷ [] });
})

-- `1fr 2fr`
abbrev pub shared_template : Template
shared_template = template.Tracks (record { sizes = factor_track 1 ∷ factor_track 2 ∷ []; names = [] ∷ [] ∷ [] ∷ []; repeat = None })

-- `grid-template-columns: repeat(auto-fill, minmax(100px, 1fr))`
abbrev pub repeated_columns : Settings
repeated_columns = setting prop.GridTemplateColumns (value.Template repeated_template) (unit.Px ∷ []) ∷ []

-- `gap: 4px`
abbrev pub both_gaps : Settings
both_gaps = length_of prop.RowGap 4 ∷ length_of prop.ColumnGap 4 ∷ []

-- `grid-column: span 2`
abbrev pub two_columns_wide : Settings
two_columns_wide = setting prop.GridColumnStart (value.Line (line.Reach 2 None)) [] ∷ setting prop.GridColumnEnd (value.Line line.Auto) [] ∷ []

-- `grid-template-columns: subgrid`
abbrev pub lent_columns : Settings
lent_columns = setting prop.GridTemplateColumns (value.Template (template.Subgrid [])) [] ∷ []

-- `flex-wrap: wrap`
abbrev pub wrapping : Settings
wrapping = setting prop.FlexWrap (value.Wrap true) [] ∷ []

-- `column-gap: 2px`
abbrev pub column_gap : Settings
column_gap = length_of prop.ColumnGap 2 ∷ []

-- `grid-template-columns: 1fr 2fr`
abbrev pub shared_columns : Settings
shared_columns = setting prop.GridTemplateColumns (value.Template shared_template) [] ∷ []

-- `row-gap: 3px`
abbrev pub row_gap : Settings
row_gap = length_of prop.RowGap 3 ∷ []

-- ---- nodes

abbrev pub kind_of : Choice → Kind
kind_of choice.Root = kind.Grid
kind_of choice.Lent = kind.Grid
kind_of choice.Wrapping = kind.Flex
kind_of choice.Columns = kind.Grid
kind_of (choice.Fixed w h) = kind.Leaf (content.Fixed (px w) (px h))
kind_of (choice.Words a b c d e) = kind.Leaf (content.Words (px 12) (px 3) (px a ∷ px b ∷ px c ∷ px d ∷ px e ∷ []))

-- the one declaration, then the other
abbrev pub both : Settings → Settings → DeclaredMap
both first second = with_settings second (with_settings first map.empty)

unfoldable pub style_of : Choice → DeclaredMap
style_of choice.Root = both repeated_columns both_gaps
style_of choice.Lent = both two_columns_wide lent_columns
style_of choice.Wrapping = both wrapping column_gap
style_of choice.Columns = both shared_columns row_gap
style_of (choice.Fixed w h) = map.empty
style_of (choice.Words a b c d e) = map.empty

-- what the node i is besides its children
abbrev pub node_label : ℕ → Choice → Label
node_label i c = record { name = name_of i; kind = kind_of c; style = style_of c }
