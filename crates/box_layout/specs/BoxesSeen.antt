-- The boxes of the tree of an arena, and those below a node by its number (CSS Grid 2, section 6; CSS Flexbox 1, section 9).
use Rattle.std.specs.Prelude.{ℕ, ◌^◌, ◌-◌, ◌*◌, ℤ, ◌+ℤ◌, List, [], ◌∷◌}
use Rattle.lunit.specs.Units.{IsUnits}
use Rattle.lunit.specs.declared.geometry.Rect.{Rect}
use Rattle.node_arena.specs.declared.number.NodeId.{NodeId}
use Rattle.plain_tree.specs.Trees.{leafless, map_trees, tree}
use Rattle.placing.specs.Nodes.{BareTrees, kids_at, label_in, sight_at}
use Rattle.tree_rules.specs.Answers.{Box, Frame, Pair}
use Rattle.tree_rules.specs.AskedQueries.{pairs_below}
use Rattle.tree_rules.specs.Boxes.{boxes}
use Rattle.tree_rules.specs.Frames.{moved_by}
use Rattle.tree_rules.specs.Places.{answers_of}
use Rattle.tree_rules.specs.declared.query.Query.{Query}
use Rattle.box_layout.specs.Asking.{frames_asked}
use Rattle.box_layout.specs.Ranges.{IsWithin}
use Rattle.box_layout.specs.Stands.{IsGivenNear, farthest_child}

-- The boxes of the tree in a viewport of this width and height, in document order.
abbrev pub bare_boxes : ℤ → ℤ → BareTrees → List Box
bare_boxes width height leafless = []
bare_boxes width height (tree x below after) = boxes width height (label_in x) (map_trees label_in below)

-- ---- below a node

-- the frames of its children, by a question for them
unfoldable pub frames_seen : BareTrees → NodeId → Query → List Frame
frames_seen b n q = ((answers_of (sight_at b n)).down q.reps q.inline).frames q.block

-- the boxes below it, where its border box is at this position
unfoldable pub boxes_seen : BareTrees → NodeId → Query → ℤ × ℤ → List Box
boxes_seen b n q at = ((answers_of (sight_at b n)).down q.reps q.inline).boxes q.block at

-- the box of a child that sees these counts and has this frame, and those below it, where the border box of its parent is at this position
abbrev pub boxes_with : BareTrees → NodeId → List Pair → Frame → ℤ × ℤ → List Box
boxes_with b c reps f at =
    let rect = moved_by at f.rect in
    ((sight_at b c).label.name, rect) ∷ boxes_seen b c (frames_asked reps f.inline f.block) (rect.x, rect.y)

-- the counts that its subgrids see
unfoldable pub pairs_seen : BareTrees → NodeId → Query → List Pair
pairs_seen b n q =
    let s = sight_at b n in
    pairs_below s.label.kind s.label s.chain (kids_at b n) q

-- ---- the range of positions

-- How far a node of this level stands from the origin of the viewport along an axis, at most: 2^56 for the last of the 64 levels, and for each
-- level before it as much less as a child stands from its parent.
abbrev pub reach : ℕ → ℕ
reach level = 2 ^ 56 - farthest_child * (64 - level)

-- A node of this level whose parent's border box is at this position: where it stands by its frame, that its sizes are lengths, and what it is given.
pub record IsNearAt (level : ℕ) (from_x from_y : ℤ) (f : Frame) : Type 0 where
  pub x : IsWithin (reach level) (from_x +ℤ f.rect.x)
  pub y : IsWithin (reach level) (from_y +ℤ f.rect.y)
  pub width : IsUnits f.rect.width
  pub height : IsUnits f.rect.height
  pub inline : IsGivenNear level f.inline
  pub block : IsGivenNear level f.block

-- each number of a rectangle has a magnitude of at most 2^56
pub record IsNearRect (r : Rect) : Type 0 where
  pub x : IsWithin (2 ^ 56) r.x
  pub y : IsWithin (2 ^ 56) r.y
  pub width : IsWithin (2 ^ 56) r.width
  pub height : IsWithin (2 ^ 56) r.height

-- the rectangle of each of these boxes is near: its numbers have a magnitude of at most 2^56
abbrev pub AreNear : List Box → Type 0
AreNear [] = Unit {0}
AreNear (b ∷ rest) = IsNearRect b.1 × AreNear rest
