-- Short forms of labels and documents, for examples.
use Rattle.std.specs.Prelude.{ℕ, ◌+◌, ◌*◌, ℤ, pos, Bool, List, [], ◌∷◌, map, length, replicate, codes, Some, None}
use Rattle.lunit.specs.declared.line_value.LineValue.{LineValue}
use Rattle.lunit.specs.declared.line_value.LineValue.TheVariants as line
use Rattle.part_rules.specs.declared.content.Content.TheVariants as content
use Rattle.plain_tree.specs.Trees.{Trees, leafless, tree}
use Rattle.style_types.specs.declared.track.Breadth.{Breadth}
use Rattle.style_types.specs.declared.track.Breadth.TheVariants as breadth
use Rattle.style_types.specs.declared.track.Template.{Template}
use Rattle.style_types.specs.declared.track.Template.TheVariants as template
use Rattle.style_types.specs.declared.track.TrackFn.{TrackFn}
use Rattle.style_types.specs.declared.value.Align.{Align}
use Rattle.style_types.specs.declared.value.AlignMode.{AlignMode}
use Rattle.style_types.specs.declared.value.Size.{Size}
use Rattle.style_types.specs.declared.value.Size.TheVariants as size
use Rattle.tree_rules.specs.declared.kind.NodeKind.TheVariants as kind
use Rattle.tree_rules.specs.Answers.{Box}
use Rattle.tree_rules.specs.Labels.{ContentStyle, GridStyle, Label, plain_axis, plain_content, plain_grid}

-- a number of px, in units
abbrev pub px : ℕ → ℤ
px n = pos (n * 64)

abbrev pub px_size : ℕ → Size
px_size n = size.Length (px n)

-- ---- templates

abbrev pub track : Breadth → Breadth → TrackFn
track a b = record { least = a; most = b; fit = None }

abbrev pub fixed : ℕ → TrackFn
fixed n = track (breadth.Length (px n)) (breadth.Length (px n))

-- a factor, in thousandths
abbrev pub fr : ℕ → TrackFn
fr n = track breadth.Auto (breadth.Flex n)

abbrev pub auto : TrackFn
auto = track breadth.Auto breadth.Auto

-- tracks between lines without names
abbrev pub tracks : List TrackFn → Template
tracks sizes = template.Tracks (record { sizes = sizes; names = replicate (length sizes + 1) []; repeat = None })

-- tracks between lines with these names
abbrev pub named_tracks : List (List ℕ) → List TrackFn → Template
named_tracks names sizes = template.Tracks (record { sizes = sizes; names = map (λ name. name ∷ []) names; repeat = None })

-- a repeat alone, with these names of its lines and of those around it
abbrev pub repeated : Bool → List TrackFn → List (List (List ℕ)) → List (List (List ℕ)) → Template
repeated fit sizes names around =
    template.Tracks (record { sizes = []; names = around; repeat = Some (record { before = 0; auto_fit = fit; sizes = sizes; names = names }) })

-- ---- styles

abbrev pub number : ℤ → LineValue
number n = line.Line n None

abbrev pub span : ℕ → LineValue
span n = line.Reach n None

abbrev pub aligned : AlignMode → Align
aligned m = record { mode = m; safe = None }

-- a grid with these columns
abbrev pub in_columns : Template → GridStyle
in_columns t = record plain_grid { columns = record plain_axis { template = t } }

-- a grid with these columns and this gap between them
abbrev pub with_gap : Template → ℕ → GridStyle
with_gap t gap = record plain_grid { columns = record plain_axis { template = t; gap = px_size gap } }

-- an item with these column lines
abbrev pub from_to : LineValue → LineValue → GridStyle
from_to start end = record plain_grid { columns = record plain_axis { start_line = start; end_line = end } }

-- ---- nodes

abbrev pub grid : List ℕ → GridStyle → ContentStyle → Label
grid name g c = record { name = name; kind = kind.Grid; grid = g; content = c }

abbrev pub flex : List ℕ → GridStyle → ContentStyle → Label
flex name g c = record { name = name; kind = kind.Flex; grid = g; content = c }

abbrev pub leaf : List ℕ → ℤ → ℤ → GridStyle → ContentStyle → Label
leaf name width height g c = record { name = name; kind = kind.Leaf (content.Fixed width height); grid = g; content = c }

abbrev pub words : List ℕ → ℕ → ℕ → List ℕ → GridStyle → Label
words name height space widths g = record
    { name = name; kind = kind.Leaf (content.Words (px height) (px space) (map px widths)); grid = g; content = plain_content }

-- a leaf of so many px without declarations
abbrev pub plain_leaf : List ℕ → ℕ → ℕ → Label
plain_leaf name width height = leaf name (px width) (px height) plain_grid plain_content

-- these nodes side by side, none of which has children
abbrev pub side_by_side : List Label → Trees Label
side_by_side [] = leafless
side_by_side (x ∷ rest) = tree x leafless (side_by_side rest)

-- a box, in units
abbrev pub box : List ℕ → ℤ → ℤ → ℤ → ℤ → Box
box name x y width height = (name, record { x = x; y = y; width = width; height = height })

-- a box, in px
abbrev pub px_box : List ℕ → ℕ → ℕ → ℕ → ℕ → Box
px_box name x y width height = box name (px x) (px y) (px width) (px height)

abbrev pub name_a : List ℕ
name_a = codes "a"

abbrev pub name_b : List ℕ
name_b = codes "b"

abbrev pub name_c : List ℕ
name_c = codes "c"

abbrev pub name_d : List ℕ
name_d = codes "d"

abbrev pub name_p : List ℕ
name_p = codes "p"

abbrev pub name_s : List ℕ
name_s = codes "s"

abbrev pub main : List ℕ
main = codes "main"
