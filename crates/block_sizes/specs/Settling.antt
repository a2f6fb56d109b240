-- A flex container by its number once its inline size is known, and what the code holds of it (CSS Flexbox 1, 9.2 to 9.4).
use Rattle.std.specs.Prelude.{◌≡◌, ℕ, ◌+◌, ◌<◌, ℤ, ◌≤ℤ◌, List, [], ◌∷◌, map, drop, length, Contains, Option, Some, None, IfSome, false}
use Rattle.flex_lines.specs.Lines.{AreRanges}
use Rattle.node_arena.specs.declared.number.NodeId.{NodeId}
use Rattle.part_rules.specs.declared.flex.FlexItem.{FlexItem}
use Rattle.part_rules.specs.Lists.{zipped}
use Rattle.placing.specs.Members.{Every, IsPlace, TellsAlong, along_place, along_turn, member_in}
use Rattle.placing.specs.Nodes.{BareTrees, children_at, kid_at, sight_at, uses_at}
use Rattle.placing.specs.Told.{last_turn}
use Rattle.tree_rules.specs.Answers.{Kid}
use Rattle.tree_rules.specs.AskedQueries.{block_query}
use Rattle.tree_rules.specs.FlexSizes as rules
use Rattle.tree_rules.specs.NodeSizes.{inner}
use Rattle.tree_rules.specs.declared.query.Query.{Query}
use Rattle.inline_sizes.specs.Flexes.{AreMembers, flex_seen}
use Rattle.block_sizes.specs.Flexes.{lines_of}
use Rattle.placing.specs.declared.lined.ColumnParts.{ColumnParts}
use Rattle.placing.specs.declared.lined.Member.{Member}
use Rattle.placing.specs.declared.lined.RowParts.{RowParts}
use Rattle.placing.specs.declared.lined.ToldAlong.{ToldAlong}

-- the children with border boxes of these inline sizes
unfoldable pub settled_seen : BareTrees → NodeId → List ℤ → List rules.Settled
settled_seen b n boxes = zipped rules.settled_at (flex_seen b n).members boxes

-- the block size of a child
abbrev pub block_of : rules.Settled → ℤ
block_of s = s.down.block

-- each child has a border box of its own, in which its borders and paddings have room
abbrev pub AreRoomy : List rules.Member → List ℤ → Type 0
AreRoomy [] [] = Unit {0}
AreRoomy [] (x ∷ boxes) = ⊥
AreRoomy (m ∷ members) [] = ⊥
AreRoomy (m ∷ members) (x ∷ boxes) = (inner m.kid.label.grid.columns ≤ℤ x) × AreRoomy members boxes

-- A question to the container that leads to a question to each of these children, for its block size.
abbrev pub LeadsTo : BareTrees → NodeId → List ℤ → Query → Type 0
LeadsTo b n boxes q =
    (k : ℕ) (s : rules.Settled) → drop k (settled_seen b n boxes) ≡ s ∷ drop (k + 1) (settled_seen b n boxes) →
    Contains (uses_at b n q) (s.member.number, block_query false [] s.inline)

-- the children of a row as items along the inline axis
abbrev pub row_items_seen : BareTrees → NodeId → ℤ → List FlexItem
row_items_seen b n width = map (λ (m : rules.Member). rules.flex_item false (Some width) m.kid.label m.inline) (flex_seen b n).members

-- the inline sizes of the children of a column
abbrev pub column_boxes_seen : BareTrees → NodeId → ℤ → List ℤ
column_boxes_seen b n width = map (rules.column_box (flex_seen b n).label width) (flex_seen b n).members

-- It is the row of the definitions, of this inline size.
pub record IsRow (b : BareTrees) (n : NodeId) (width : ℤ) (row : RowParts) : Type 0 where
  pub children : AreMembers b n row.members
  pub along : lines_of row.lines ≡ rules.row_lines (flex_seen b n) width
  pub ranges : AreRanges (length row.members) row.lines.ranges
  pub across : row.blocks ≡ map block_of (settled_seen b n row.lines.mains)

-- It is the column of the definitions, of this inline size.
pub record IsColumn (b : BareTrees) (n : NodeId) (width : ℤ) (column : ColumnParts) : Type 0 where
  pub children : AreMembers b n column.members
  pub across : column.boxes ≡ column_boxes_seen b n width
  pub along : column.blocks ≡ map block_of (settled_seen b n column.boxes)

-- ---- what the children told last

-- What children of a container of this inline size told last, where those have the last turn of which it is not known.
pub record AreKnown (b : BareTrees) (n : NodeId) (width : ℤ) (past : List ToldAlong) : Type 0 where
  pub children : Every (IsPlace (children_at b n)) (map along_place past)
  pub told : Every (λ (e : ToldAlong). along_turn e < last_turn → TellsAlong (sight_at b n).label width (kid_at b (along_place e).1) e) past

-- a child told this, where anything is known of it
abbrev pub IsKnown : BareTrees → NodeId → ℤ → NodeId → Option ToldAlong → Type 0
IsKnown b n width c last = IfSome last (TellsAlong (sight_at b n).label width (kid_at b c))

-- the block size of a child at the inline size that it had
abbrev pub TellsBlock : Kid → ToldAlong → Type 0
TellsBlock k e = e.block ≡ (rules.settled_at (member_in k) e.size).down.block

-- a block size that was told at this inline size
abbrev pub HasBlock : Option ToldAlong → ℤ → ℤ → Type 0
HasBlock None size block = ⊥
HasBlock (Some e) size block = (e.size ≡ size) × (block ≡ e.block)

-- an item that was told at this block size
abbrev pub HasItem : Option ToldAlong → ℤ → FlexItem → Type 0
HasItem None block item = ⊥
HasItem (Some e) block item = (e.block ≡ block) × (item ≡ e.item)

-- a child with what it tells
abbrev pub along_of : Member → ℤ → ℤ → FlexItem → ToldAlong
along_of m size block item = record { child = m.child; number = m.number; size = size; block = block; item = item; turn = 0 }

-- such children, as far as all lists go
abbrev pub alongs : List Member → List ℤ → List ℤ → List FlexItem → List ToldAlong
alongs [] sizes blocks items = []
alongs (m ∷ ms) [] blocks items = []
alongs (m ∷ ms) (x ∷ sizes) [] items = []
alongs (m ∷ ms) (x ∷ sizes) (y ∷ blocks) [] = []
alongs (m ∷ ms) (x ∷ sizes) (y ∷ blocks) (i ∷ items) = along_of m x y i ∷ alongs ms sizes blocks items
