-- A flex container by its number, and what the code holds of it.
use Rattle.std.specs.Prelude.{◌≡◌, ℤ, List, map}
use Rattle.node_arena.specs.declared.number.NodeId.{NodeId}
use Rattle.node_arena.specs.Numbers.{child_at}
use Rattle.std.specs.Prelude.{All, Some, pos, None, if◌then◌else◌}
use Rattle.tree_rules.specs.Labels.{ContentStyle, GridStyle}
use Rattle.tree_rules.specs.Repetitions.{gap_by}
use Rattle.placing.specs.Nodes.{BareTrees, IsLive, kid_at, kids_at, sight_at}
use Rattle.tree_rules.specs.FlexSizes as rules
use Rattle.placing.specs.declared.lined.Member.{Member}

-- the container of a number
unfoldable pub flex_seen : BareTrees → NodeId → rules.Flex
flex_seen b n = rules.flex_by (sight_at b n).label (kids_at b n)

-- a child with its intrinsic inline sizes, as the definitions see it
abbrev pub member_of : BareTrees → Member → rules.Member
member_of b m = record { number = m.number; kid = kid_at b m.child; inline = m.inline }

-- a child is the one of its number
pub record IsChild (b : BareTrees) (n : NodeId) (m : Member) : Type 0 where
  pub number : child_at b n m.number ≡ Some m.child
  pub live : IsLive b m.child

-- These are the children of the container of the definitions.
pub record AreMembers (b : BareTrees) (n : NodeId) (members : List Member) : Type 0 where
  pub same : map (member_of b) members ≡ (flex_seen b n).members
  pub children : All (IsChild b n) members

-- The two sizes of a container with these values by what its children contribute (own rule).
abbrev pub sizes_by : ContentStyle → GridStyle → List ℤ → List ℤ → ℤ × ℤ
sizes_by c g lows highs =
    let gap = gap_by None (pos 0) g.columns.gap in
    let across : ℤ × ℤ = (rules.greatest_of lows, rules.greatest_of highs) in
    let low = if c.wrap then rules.greatest_of lows else rules.in_a_row gap lows in
    let along : ℤ × ℤ = (low, rules.in_a_row gap highs) in
    if c.column then across else along
