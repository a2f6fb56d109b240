-- A child of a grid whose tracks lie where they lie, by its style and its parent's (CSS Grid 2, sections 6, 9 and 11).
use Rattle.std.specs.Prelude.{◌≡◌, ℕ, ◌<◌, ◌^◌, ℤ, pos, ◌-ℤ◌, ◌≤ℤ◌, ◌⊎◌, length, Bool, List, [], ◌∷◌, Some, get_or, map, slice_get}
use Rattle.lunit.specs.declared.geometry.Span.{Span}
use Rattle.part_rules.specs.declared.view.View.{View}
use Rattle.part_rules.specs.Views.{area_size, first_start, tracks_over}
use Rattle.style_types.specs.Styles.{StyleMap}
use Rattle.subgrid_view.specs.Ranges.{AreNear}
use Rattle.node_arena.specs.Numbers.{child_at}
use Rattle.node_arena.specs.declared.number.NodeId.{NodeId}
use Rattle.placing.specs.Kept.{frame_of}
use Rattle.placing.specs.Nodes.{BareTrees, kid_at, sight_at}
use Rattle.placing.specs.Told.{AreFrames, Marked}
use Rattle.placing.specs.declared.node.Frame.{Frame as NodeFrame}
use Rattle.placing.specs.declared.told.PastFrames.{PastFrames}
use Rattle.placing.specs.declared.wide.GridBase.{GridBase}
use Rattle.tree_rules.specs.Answers.{Frame, Pair}
use Rattle.tree_rules.specs.Frames.{Framed, down_of, grid_child}
use Rattle.tree_rules.specs.Orders.{in_document_order}
use Rattle.tree_rules.specs.declared.query.Given.TheVariants as given
use Rattle.tree_rules.specs.declared.query.Given.{Given}
use Rattle.inline_sizes.specs.GridsSeen.{grid_seen}
use Rattle.inline_sizes.specs.Styled.{content_at, styled}
use Rattle.block_sizes.specs.Children.{block_of_child}
use Rattle.block_sizes.specs.Wides.{columns_seen, wides_seen}
use Rattle.placing.specs.Spread.{AreSpread}
use Rattle.box_layout.specs.Places.{frame_in, place_in_area}

-- where the border box of a child of this size starts over these tracks, counted from the first one
abbrev pub place_over : ℕ → Bool → StyleMap → StyleMap → List (ℤ × ℤ) → Span → ℤ → ℤ
place_over axis shares container style edges span box =
    let tracks = tracks_over edges span in
    place_in_area axis shares container style (first_start tracks) (area_size tracks) box

-- the block size of its border box over these rows, and what it is given there
abbrev pub block_over : Bool → StyleMap → StyleMap → View 1 → Span → ℤ → ℤ × Given
block_over shares container style rows span content = block_of_child (content_at 1 container).items rows span (styled style) shares content

-- Its frame over these columns and rows, where it has this inline size, is given this in the inline axis, and its content has this block size.
abbrev pub frame_over : StyleMap → StyleMap → Bool → Bool → View 0 → Span → View 1 → Span → ℤ → Given → ℤ → Frame
frame_over container style in_columns in_rows columns column_span rows row_span box inline content =
    let block : ℤ × Given = block_over in_rows container style rows row_span content in
    frame_in container
    (record { at = place_over 0 in_columns container style columns.edges column_span box; size = box; given = inline })
    (record { at = place_over 1 in_rows container style rows.edges row_span block.0; size = block.0; given = block.1 })

-- A span of tracks that lie within range, counted from the first one.
pub record IsOver (edges : List (ℤ × ℤ)) (span : Span) : Type 0 where
  pub start : pos 0 ≤ℤ span.start
  pub order : span.start ≤ℤ span.end
  pub end : span.end ≤ℤ pos (length edges)
  pub near : AreNear edges
  pub spread : AreSpread (2 ^ 59) edges

-- the tracks of a span are as many as it has, and lie within range
pub record AreTracks (tracks : Span) (edges : List (ℤ × ℤ)) : Type 0 where
  pub counted : pos (length edges) ≡ (tracks.end -ℤ tracks.start)
  pub near : AreNear edges
  pub spread : AreSpread (2 ^ 59) edges

-- The frame of a child, by its number in document order.
pub record IsFrameOf (b : BareTrees) (n : NodeId) (f : ℕ × Framed) (frame : NodeFrame) : Type 0 where
  pub child : child_at b n f.0 ≡ Some frame.child
  pub value : frame_of frame ≡ f.1.frame

-- places below this one
abbrev pub AreIndices : ℕ → List (ℕ × ℤ) → Type 0
AreIndices count [] = Unit {0}
AreIndices count (p ∷ rest) = (p.0 < count) × AreIndices count rest

-- no child
abbrev pub no_frame : ℕ × Framed
no_frame = (
  0,
  record {
    name = [];
    frame = record
        { rect = record { x = pos 0; y = pos 0; width = pos 0; height = pos 0 }; inline = given.None; block = given.None };
    down = down_of (pos 0)
        [] (λ height. []);
  },
)

-- The frames are those of the children at these places.
abbrev pub AreFramesAt : BareTrees → NodeId → List (ℕ × Framed) → List (ℕ × ℤ) → List NodeFrame → Type 0
AreFramesAt b n framed [] [] = Unit {0}
AreFramesAt b n framed [] (f ∷ frames) = ⊥
AreFramesAt b n framed (p ∷ places) [] = ⊥
AreFramesAt b n framed (p ∷ places) (f ∷ frames) = IsFrameOf b n (get_or framed p.0 no_frame) f × AreFramesAt b n framed places frames

-- One frame for each of these places: those of the first places are right, and so are those of children that are marked.
pub record AreAgain (b : BareTrees) (n : NodeId) (framed : List (ℕ × Framed))
    (places : List (ℕ × ℤ)) (fresh : List Bool) (at : ℕ) (frames : List NodeFrame) : Type
    0 where
  pub counted : length frames ≡ length places
  pub each : (i : ℕ) (p : ℕ × ℤ) (f : NodeFrame) → slice_get places i ≡ Some p → slice_get frames i ≡ Some f → (i < at) ⊎ Marked fresh p.0 →
      IsFrameOf b n (get_or framed p.0 no_frame) f

-- The frames that a grid gave its children last, in these columns and rows: those count that are marked.
pub record IsLastOf (b : BareTrees) (n : NodeId) (base : GridBase) (columns : View 0) (rows : View 1) (p : PastFrames) : Type 0 where
  pub counted : length p.fresh ≡ length base.placed.areas
  pub frames : AreFrames (sight_at b n) (kid_at b) base columns rows (Marked p.fresh) p.frames

-- the frames of the children of a grid in these rows, in document order, where it is given this in the inline axis
abbrev pub framed_in : BareTrees → NodeId → List Pair → Given → View 1 → List Frame
framed_in b n outer width rows =
    let child = grid_child (grid_seen b n outer width) (columns_seen b n outer width) rows in
    map (λ (f : Framed). f.frame) (in_document_order (map child (wides_seen b n outer width)))
