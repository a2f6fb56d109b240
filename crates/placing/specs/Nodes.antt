-- The bare tree: what an arena of nodes is besides the answers that are kept in it; and what the rules see of each node (own rule).
use Rattle.std.specs.Prelude.{ℕ, List, [], Option, Some, None, IsSome, length}
use Rattle.std.specs.FinMap as map
use Rattle.plain_tree.specs.Trees.{Trees, leafless, size_of}
use Rattle.node_arena.specs.declared.number.NodeId.{NodeId}
use Rattle.node_arena.specs.Numbers.{below_at, mapped, part_at, same, top_numbers, way_up}
use Rattle.style_types.specs.Order.{prop_cmp}
use Rattle.style_types.specs.Styles.{StyleMap}
use Rattle.style_types.specs.declared.declared.DeclaredValue.{DeclaredValue}
use Rattle.tree_rules.specs.declared.kind.NodeKind.{NodeKind}
use Rattle.tree_rules.specs.declared.kind.NodeKind.TheVariants as kind
use Rattle.tree_rules.specs.AskedQueries.{ToChild, uses}
use Rattle.tree_rules.specs.Answers.{Kid}
use Rattle.tree_rules.specs.Chains.{Above, above_of}
use Rattle.tree_rules.specs.Labels.{Label, label_of, plain_content, plain_grid}
use Rattle.tree_rules.specs.Places.{Seen, answers_of, seen_by}
use Rattle.tree_rules.specs.Whole.{kids_of}
use Rattle.tree_rules.specs.declared.query.Query.{Query}
use Rattle.placing.specs.declared.node.Node.{Node}

-- a node without what it keeps
pub record Bare : Type 0 where
  pub name : List ℕ
  pub kind : NodeKind
  pub declared : map.FinMap prop_cmp DeclaredValue
  pub style : StyleMap

abbrev pub bare_of : Node → Bare
bare_of v = record { name = v.name; kind = v.kind; declared = v.declared; style = v.style }

-- what the rules read of it
unfoldable pub label_of_bare : Bare → Label
label_of_bare v = label_of v.name v.kind v.style

-- the trees of an arena, and the bare ones
abbrev pub NodeTrees : Type 0
NodeTrees = Trees (NodeId × Node)

abbrev pub BareTrees : Type 0
BareTrees = Trees (NodeId × Bare)

unfoldable pub bare : NodeTrees → BareTrees
bare t = mapped (λ n v. bare_of v) t

-- a number names a node
abbrev pub IsLive : BareTrees → NodeId → Type 0
IsLive b n = IsSome (part_at b n)

-- ---- what the rules see of a node

abbrev pub label_in : NodeId × Bare → Label
label_in x = label_of_bare x.1

-- what the rules see of no node
abbrev pub nothing_seen : Seen
nothing_seen = record { label = record { name = []; kind = kind.Flex; grid = plain_grid; content = plain_content }; chain = []; below = leafless }

abbrev pub seen_or_nothing : Option Seen → Seen
seen_or_nothing None = nothing_seen
seen_or_nothing (Some s) = s

-- what the rules see of the node of a number
unfoldable pub sight_at : BareTrees → NodeId → Seen
sight_at b n = seen_or_nothing (seen_by label_in (λ x. same x.0 n) b)

-- what its children see of it
abbrev pub above_at : BareTrees → NodeId → Above
above_at b n =
    let s = sight_at b n in
    above_of s.label s.chain s.below

-- its children with their answers, in document order
abbrev pub kids_at : BareTrees → NodeId → List Kid
kids_at b n = kids_of (above_at b n) 0 (sight_at b n).below

-- what a question to it asks of its children, by their numbers in document order
abbrev pub uses_at : BareTrees → NodeId → Query → List ToChild
uses_at b n q =
    let s = sight_at b n in
    uses s.label s.chain (kids_at b n) q

-- a node as its parent sees it
abbrev pub kid_at : BareTrees → NodeId → Kid
kid_at b n =
    let s = sight_at b n in
    record { label = s.label; chain = s.chain; answers = answers_of s }

-- ---- where it stands

-- the numbers of its children, in document order
abbrev pub children_at : BareTrees → NodeId → List NodeId
children_at b n = top_numbers (below_at b n)

-- its level, 1 for the root
abbrev pub level_at : BareTrees → NodeId → ℕ
level_at b n = length (way_up b n)

-- how many nodes stand below it
abbrev pub size_at : BareTrees → NodeId → ℕ
size_at b n = size_of (below_at b n)
