-- The values of a node as far as the calls on it depend on them: ranges of lengths and numbers, and lengths of lists. Every value that a text reads as is one
-- of
-- these (own rule).
use Rattle.std.specs.Prelude.{◌≤◌, ◌<◌, nat_le, ℤ, pos, neg_ℤ, ◌≤ℤ◌, int_le, Bool, true, ◌&&◌, IsTrue, List, length, Option, Some, None}
use Rattle.std.specs.List.{list_all}
use Rattle.line_names.specs.Sides.{has_edges}
use Rattle.line_names.specs.Tables.{are_areas}
use Rattle.lunit.specs.declared.line_value.LineValue.{LineValue}
use Rattle.lunit.specs.declared.line_value.LineValue.TheVariants as line
use Rattle.node_arena.specs.declared.number.NodeId.{NodeId}
use Rattle.style_types.specs.declared.track.Breadth.{Breadth}
use Rattle.style_types.specs.declared.track.Breadth.TheVariants as breadth
use Rattle.style_types.specs.declared.track.Repeat.{Repeat}
use Rattle.style_types.specs.declared.track.Template.{Template}
use Rattle.style_types.specs.declared.track.Template.TheVariants as template
use Rattle.style_types.specs.declared.track.TrackFn.{TrackFn}
use Rattle.style_types.specs.declared.track.TrackList.{TrackList}
use Rattle.style_types.specs.declared.value.Areas.{Areas}
use Rattle.style_types.specs.declared.value.Size.{Size}
use Rattle.style_types.specs.declared.value.Size.TheVariants as size
use Rattle.tree_rules.specs.Contexts.{named_columns, named_rows}
use Rattle.tree_rules.specs.Labels.{ContentAxis, ContentStyle, GridAxis, GridStyle, Label}
use Rattle.tree_rules.specs.declared.kind.NodeKind.{NodeKind}
use Rattle.tree_rules.specs.declared.kind.NodeKind.TheVariants as kind
use Rattle.word_leaf.specs.Leaves.{IsMeasurable}
use Rattle.placing.specs.Nodes.{BareTrees, IsLive, kids_at, sight_at}

-- ---- lengths, in units

-- a length of at least 0 and at most 2^26
pub record IsEdge (x : ℤ) : Type 0 where
  pub low : pos 0 ≤ℤ x
  pub high : x ≤ℤ pos 67108864

-- such a length, a percentage or a keyword
abbrev pub IsSize : Size → Type 0
IsSize (size.Length x) = IsEdge x
IsSize s = Unit {0}

-- a length of a magnitude of at most 2^26
pub record IsOffset (x : ℤ) : Type 0 where
  pub low : neg_ℤ (pos 67108864) ≤ℤ x
  pub high : x ≤ℤ pos 67108864

-- such a length, or `auto`
abbrev pub IsMargin : Option ℤ → Type 0
IsMargin None = Unit {0}
IsMargin (Some x) = IsOffset x

-- ---- tracks

-- no length below 0
abbrev pub is_breadth : Breadth → Bool
is_breadth (breadth.Length x) = int_le (pos 0) x
is_breadth b = true

-- neither of the min nor of the max function; the argument of `fit-content` may be below 0
abbrev pub is_track : TrackFn → Bool
is_track f = is_breadth f.least && is_breadth f.most

abbrev pub are_tracks : List TrackFn → Bool
are_tracks sizes = list_all is_track sizes

-- an automatic repeat of at least one track and at most 10,000
pub record IsRepeat (r : Repeat) : Type 0 where
  pub some : 0 < length r.sizes
  pub few : length r.sizes ≤ 10000
  pub tracks : IsTrue (are_tracks r.sizes)

abbrev pub IsRepeated : Option Repeat → Type 0
IsRepeated None = Unit {0}
IsRepeated (Some r) = IsRepeat r

-- at most 10,000 tracks before the automatic repeat, and as many after it
pub record IsTrackList (l : TrackList) : Type 0 where
  pub few : length l.sizes ≤ 20000
  pub tracks : IsTrue (are_tracks l.sizes)
  pub repeated : IsRepeated l.repeat

-- a subgrid has the names of at most 20,001 lines
abbrev pub IsTemplate : Template → Type 0
IsTemplate template.Absent = Unit {0}
IsTemplate (template.Tracks l) = IsTrackList l
IsTemplate (template.Subgrid sets) = length sets ≤ 20001

-- ---- lines and areas

-- a span of at least one track or line
abbrev pub spans_some : LineValue → Bool
spans_some line.Auto = true
spans_some (line.Line number name) = true
spans_some (line.Reach count name) = nat_le 1 count
spans_some (line.Named name) = true

-- a value for a line that spans at least one track or line, and whose bare name is short enough for the names of the edges of an area
pub record IsLine (l : LineValue) : Type 0 where
  pub edges : IsTrue (has_edges l)
  pub some : IsTrue (spans_some l)

-- at most 65,536 cells in each axis, and named areas that lie in them
pub record AreCells (a : Areas) : Type 0 where
  pub columns : a.columns ≤ 65536
  pub rows : a.rows ≤ 65536
  pub in_columns : IsTrue (are_areas a.columns (named_columns (Some a)))
  pub in_rows : IsTrue (are_areas a.rows (named_rows (Some a)))

abbrev pub AreAreas : Option Areas → Type 0
AreAreas None = Unit {0}
AreAreas (Some a) = AreCells a

-- ---- nodes

-- the grid-class values of an axis
pub record IsGridAxis (g : GridAxis) : Type 0 where
  pub template : IsTemplate g.template
  pub autos : IsTrue (are_tracks g.autos)
  pub start_line : IsLine g.start_line
  pub end_line : IsLine g.end_line
  pub gap : IsSize g.gap
  pub margin_start : IsMargin g.margin_start
  pub margin_end : IsMargin g.margin_end
  pub border_start : IsEdge g.border_start
  pub border_end : IsEdge g.border_end
  pub padding_start : IsEdge g.padding_start
  pub padding_end : IsEdge g.padding_end

-- all grid-class values
pub record IsGridStyle (g : GridStyle) : Type 0 where
  pub columns : IsGridAxis g.columns
  pub rows : IsGridAxis g.rows
  pub areas : AreAreas g.areas

-- the content-class values of an axis
pub record IsContentAxis (c : ContentAxis) : Type 0 where
  pub size : IsSize c.size
  pub least : IsSize c.least
  pub most : IsSize c.most

-- all content-class values
pub record IsContentStyle (c : ContentStyle) : Type 0 where
  pub inline : IsContentAxis c.inline
  pub block : IsContentAxis c.block
  pub basis : IsSize c.basis

-- a leaf has a content that can be measured
abbrev pub IsKind : NodeKind → Type 0
IsKind kind.Grid = Unit {0}
IsKind kind.Flex = Unit {0}
IsKind (kind.Leaf content) = IsMeasurable content

-- a node whose kind and values a text reads as
pub record IsReadable (x : Label) : Type 0 where
  pub kind : IsKind x.kind
  pub grid : IsGridStyle x.grid
  pub content : IsContentStyle x.content

-- Each node of a tree is such a node, and has at most 65,536 children.
pub record AreReadable (b : BareTrees) : Type 0 where
  pub nodes : (n : NodeId) → IsLive b n → IsReadable (sight_at b n).label
  pub children : (n : NodeId) → length (kids_at b n) ≤ 65536
