-- A flex container once its inline size is known, as its answer for the block size holds it: what the rules say of the node alone, whatever stands around it
-- (CSS Flexbox 1, 9.2 to 9.4).
use Rattle.std.specs.Prelude.{◌≡◌, ℤ, List, [], ◌∷◌, Some, length, map, slice_get}
use Rattle.flex_lines.specs.Lines.{AreRanges}
use Rattle.node_arena.specs.declared.number.NodeId.{NodeId}
use Rattle.part_rules.specs.Lists.{zipped}
use Rattle.tree_rules.specs.FlexSizes as rules
use Rattle.tree_rules.specs.Places.{Seen}
use Rattle.placing.specs.declared.lined.ColumnParts.{ColumnParts}
use Rattle.placing.specs.declared.lined.Member.{Member}
use Rattle.placing.specs.declared.lined.RowParts.{RowParts}
use Rattle.placing.specs.Wides.{kids_in}

-- the container
unfoldable pub flex_in : Seen → rules.Flex
flex_in s = rules.flex_by s.label (kids_in s)

-- its children with border boxes of these inline sizes
unfoldable pub settled_in : Seen → List ℤ → List rules.Settled
settled_in s boxes = zipped rules.settled_at (flex_in s).members boxes

-- This is a child of a node of which the rules see this and which has these children.
pub record IsMember (s : Seen) (kids : List NodeId) (m : Member) (r : rules.Member) : Type 0 where
  pub number : m.number ≡ r.number
  pub inline : m.inline ≡ r.inline
  pub kid : slice_get (kids_in s) m.number ≡ Some r.kid
  pub child : slice_get kids m.number ≡ Some m.child

-- these are such children, one by one
abbrev pub AreMembersIn : Seen → List NodeId → List Member → List rules.Member → Type 0
AreMembersIn s kids [] [] = Unit {0}
AreMembersIn s kids [] (r ∷ rs) = ⊥
AreMembersIn s kids (m ∷ ms) [] = ⊥
AreMembersIn s kids (m ∷ ms) (r ∷ rs) = IsMember s kids m r × AreMembersIn s kids ms rs

-- It is the row of a node of which the rules see this and which has these children, of this inline size.
pub record HoldsRow (s : Seen) (kids : List NodeId) (width : ℤ) (row : RowParts) : Type 0 where
  pub children : AreMembersIn s kids row.members (flex_in s).members
  pub along : record { ranges = row.lines.ranges; mains = row.lines.mains } ≡ rules.row_lines (flex_in s) width
  pub ranges : AreRanges (length row.members) row.lines.ranges
  pub across : row.blocks ≡ map (λ (x : rules.Settled). x.down.block) (settled_in s row.lines.mains)

-- It is such a column.
pub record HoldsColumn (s : Seen) (kids : List NodeId) (width : ℤ) (column : ColumnParts) : Type 0 where
  pub children : AreMembersIn s kids column.members (flex_in s).members
  pub across : column.boxes ≡ map (rules.column_box (flex_in s).label width) (flex_in s).members
  pub along : column.blocks ≡ map (λ (x : rules.Settled). x.down.block) (settled_in s column.boxes)
