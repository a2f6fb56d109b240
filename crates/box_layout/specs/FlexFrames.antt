-- The children of a flex container of a tree, once their sizes are known, and their frames.
use Rattle.std.specs.Prelude.{◌≡◌, ℕ, ℤ, pos, ◌+ℤ◌, Bool, false, true, List, [], ◌∷◌, map, Some, unwrap_or, if◌then◌else◌}
use Rattle.lunit.specs.Units.{clamp}
use Rattle.node_arena.specs.declared.number.NodeId.{NodeId}
use Rattle.node_arena.specs.Numbers.{child_at}
use Rattle.part_rules.specs.declared.flex.FlexItem.{FlexItem}
use Rattle.part_rules.specs.Lists.{zipped}
use Rattle.placing.specs.Kept.{frame_of}
use Rattle.placing.specs.Nodes.{BareTrees, children_at, kid_at, sight_at}
use Rattle.placing.specs.Ranges.{IsGridStyle}
use Rattle.placing.specs.declared.node.Frame.{Frame}
use Rattle.tree_rules.specs.FlexSizes as rules
use Rattle.tree_rules.specs.Frames as frames
use Rattle.tree_rules.specs.Labels.{Label}
use Rattle.tree_rules.specs.NodeSizes.{block_used, bounds_of, margins}
use Rattle.tree_rules.specs.Repetitions.{gap_by}
use Rattle.tree_rules.specs.Frames.{given_size}
use Rattle.tree_rules.specs.declared.query.Ask.TheVariants as ask
use Rattle.tree_rules.specs.declared.query.Given.TheVariants as given
use Rattle.tree_rules.specs.declared.query.Query.{Query}
use Rattle.inline_sizes.specs.Flexes.{flex_seen, member_of}
use Rattle.placing.specs.declared.lined.Member.{Member}
use Rattle.box_layout.specs.declared.sitting.Sitting.{Sitting}
use Rattle.box_layout.specs.Sittings.{flex_numbered, flex_ordered, sitting_by}

-- three lists joined item by item, as far as all go
abbrev pub zipped3 : {A B C D : Type 0} → (A → B → C → D) → List A → List B → List C → List D
zipped3 f [] ys zs = []
zipped3 f (x ∷ xs) [] zs = []
zipped3 f (x ∷ xs) (y ∷ ys) [] = []
zipped3 f (x ∷ xs) (y ∷ ys) (z ∷ zs) = f x y z ∷ zipped3 f xs ys zs

-- the number of the child of this place in document order
abbrev pub numbered : BareTrees → NodeId → ℕ → NodeId
numbered b n k = unwrap_or (child_at b n k) n

-- ---- the children of the code

-- the hypothetical cross size of a child by its inline size and the block size of its content
abbrev pub cross_by : Bool → ℤ → Label → ℤ → ℤ → ℤ
cross_by column cross y inline block =
    if column then inline else block_used (bounds_of (Some cross) y.content.border_box y.grid.rows y.content.block) false (pos 0) (pos 0) block

abbrev pub member_cross : BareTrees → Bool → ℤ → Member → ℤ → ℤ → ℤ
member_cross b column cross m inline block = cross_by column cross (kid_at b m.child).label inline block

-- with its margins
abbrev pub member_outer : BareTrees → Bool → Member → ℤ → ℤ
member_outer b column m own = clamp (own +ℤ margins (rules.cross_grid column (kid_at b m.child).label))

-- a child in the container of this number
abbrev pub member_sitting : BareTrees → NodeId → Bool → ℤ → Member → ℤ → ℤ → Sitting
member_sitting b n column cross m main own = sitting_by column cross (sight_at b n).label m.number m.child (kid_at b m.child).label main own

-- ---- those of the definitions

-- the children with border boxes of these inline sizes
abbrev pub settled_by : BareTrees → List Member → List ℤ → List rules.Settled
settled_by b members boxes = zipped rules.settled_at (map (member_of b) members) boxes

-- the block size of a child
abbrev pub block_of : rules.Settled → ℤ
block_of s = s.down.block

-- The frames of the children of a flex container in these lines, in document order, where this is the child of each number: those of
-- `flex_framed`.
abbrev pub flex_told : (ℕ → NodeId) → Bool → rules.Flex → ℤ → ℤ → rules.Lines → List rules.Settled → List Frame
flex_told child column f main cross lines settled =
    let sizes = rules.crosses_of column f.label settled lines.ranges (Some cross) in
    flex_ordered child (flex_numbered column f.label main cross sizes lines.ranges (zipped (frames.sitting_of column (Some cross)) settled lines.mains))

-- a child of a column as an item along its main axis, of this size
abbrev pub member_item : BareTrees → ℤ → Member → ℤ → FlexItem
member_item b main m block = rules.flex_item true (Some main) (kid_at b m.child).label (block, block)

-- ---- the frames of a container

-- These are the frames of the definitions, each with the child of its place.
pub record AreFrames (b : BareTrees) (n : NodeId) (framed : List frames.Framed) (made : List Frame) : Type 0 where
  pub same : map frame_of made ≡ map (λ (f : frames.Framed). f.frame) framed
  pub children : map (λ (f : Frame). f.child) made ≡ children_at b n

-- the children of a row of this inline size, given this block size
abbrev pub row_seen : BareTrees → NodeId → ℤ → ℤ → List frames.Framed
row_seen b n width height =
    frames.row_framed (flex_seen b n) width (rules.row_lines (flex_seen b n) width)
    (rules.row_settled (flex_seen b n) (rules.row_lines (flex_seen b n) width)) (given.Size height)

-- the lines of a column of this height
abbrev pub column_lines_seen : BareTrees → NodeId → ℤ → List rules.Settled → rules.Lines
column_lines_seen b n height settled =
    rules.lines_by (flex_seen b n).label height (gap_by (Some height) (pos 0) (flex_seen b n).label.grid.rows.gap)
    (map (rules.column_item (Some height)) settled)

-- the children of a column of this inline size, given this block size
abbrev pub column_seen : BareTrees → NodeId → ℤ → ℤ → List frames.Framed
column_seen b n width height = frames.column_framed (flex_seen b n) width (rules.column_settled (flex_seen b n) width) (given.Size height)

-- a question for the frames of a column of these sizes
pub record AsksWidths (width height : ℤ) (q : Query) : Type 0 where
  pub asked : q.ask ≡ ask.Frames
  pub inline : given_size q.inline ≡ width
  pub block : given_size q.block ≡ height

-- the grid-class values of each child are in range
abbrev pub AreStyled : List rules.Member → Type 0
AreStyled [] = Unit {0}
AreStyled (m ∷ members) = IsGridStyle m.kid.label.grid × AreStyled members
