-- What laying out the tree of an arena asks, by the names of its nodes (own rule).
use Rattle.std.specs.Prelude.{◌≡◌, ◌≢◌, ◌≤◌, ℕ, ℤ, Bool, true, List, [], ◌∷◌, ◌++◌, Some, Contains, length, if◌then◌else◌}
use Rattle.std.specs.Str.{bytes_eq}
use Rattle.plain_tree.specs.Trees.{leafless, map_trees, tree}
use Rattle.node_arena.specs.declared.number.NodeId.{NodeId}
use Rattle.node_arena.specs.Numbers.{child_at, value_at}
use Rattle.outside.specs.declared.event.Event.{Event}
use Rattle.outside.specs.declared.event.Event.TheVariants.{Measured}
use Rattle.outside.specs.declared.event.Width.TheVariants.{At}
use Rattle.placing.specs.Keeping.{is_leaf}
use Rattle.placing.specs.Nodes.{Bare, BareTrees, IsLive, label_in, label_of_bare, sight_at}
use Rattle.placing.specs.Walks.{Entry, State, kept_in}
use Rattle.box_layout.specs.Paths.{IsAsked, IsOnPath}
use Rattle.tree_rules.specs.AskedQueries.{ToNode, asked, path}
use Rattle.tree_rules.specs.KeptAnswers.{most_kept}
use Rattle.tree_rules.specs.NodeSizes.{content_of_box, inner}
use Rattle.tree_rules.specs.Queries.{is_container}
use Rattle.tree_rules.specs.declared.kind.NodeKind.TheVariants as kind
use Rattle.tree_rules.specs.declared.query.Query.{Query}

-- All that laying out the tree in a viewport of this width and height can ask: the name of each node with each question to it.
abbrev pub asked_in : ℤ → ℤ → BareTrees → List ToNode
asked_in width height leafless = []
asked_in width height (tree x below after) = asked width height (label_in x) (map_trees label_in below)

-- The path: for each container the question for its frames.
abbrev pub path_in : ℤ → ℤ → BareTrees → List ToNode
path_in width height leafless = []
path_in width height (tree x below after) = path width height (label_in x) (map_trees label_in below)

-- the name of a node
abbrev pub name_in : BareTrees → NodeId → List ℕ
name_in b n = (sight_at b n).label.name

-- an answer that is kept, as what it answers: the name of the node, with the question
abbrev pub told_of : BareTrees → Entry → ToNode
told_of b e = (name_in b e.node, e.query)

-- a question to a node of the tree that is one of these
pub record IsListed (b : BareTrees) (all : List ToNode) (n : NodeId) (q : Query) : Type 0 where
  pub live : IsLive b n
  pub listed : Contains all (name_in b n, q)

-- a question that is asked of a node of this name
pub record IsAskedOf (b : BareTrees) (width height : ℤ) (t : ToNode) : Type 0 where
  pub node : NodeId
  pub name : name_in b node ≡ t.0
  pub asked : IsAsked b width height node t.1

-- one that is on the path
pub record IsOnPathOf (b : BareTrees) (width height : ℤ) (t : ToNode) : Type 0 where
  pub node : NodeId
  pub name : name_in b node ≡ t.0
  pub on_path : IsOnPath b width height node t.1

-- no two nodes have one name
abbrev pub AreNamed : BareTrees → Type 0
AreNamed b = (n m : NodeId) → IsLive b n → IsLive b m → name_in b n ≡ name_in b m → n ≡ m

-- the questions to the node of this name
abbrev pub questions_to : List ℕ → List ToNode → List Query
questions_to name [] = []
questions_to name (t ∷ rest) = if bytes_eq t.0 name then t.1 ∷ questions_to name rest else questions_to name rest

-- to no node are more questions than it keeps answers
abbrev pub AreFew : List ToNode → Type 0
AreFew all = (name : List ℕ) → length (questions_to name all) ≤ most_kept

-- none of a list is this item
abbrev pub IsNone : {A : Type 0} → A → List A → Type 0
IsNone x [] = Unit {0}
IsNone x (y ∷ rest) = (y ≢ x) × IsNone x rest

-- no item of a list stands twice
abbrev pub AllDiffer : {A : Type 0} → List A → Type 0
AllDiffer [] = Unit {0}
AllDiffer (x ∷ rest) = IsNone x rest × AllDiffer rest

-- ---- nodes of a tree

-- the numbers of the nodes that pass a test, in document order
abbrev pub chosen : (NodeId × Bare → Bool) → BareTrees → List NodeId
chosen test leafless = []
chosen test (tree x below after) = (if test x then x.0 ∷ [] else []) ++ chosen test below ++ chosen test after

-- only containers have children
abbrev pub LeavesAreBare : BareTrees → Type 0
LeavesAreBare b = (n c : NodeId) (index : ℕ) → child_at b n index ≡ Some c → is_container (sight_at b n).label.kind ≡ true

-- what passes the test is a container that keeps nothing
abbrev pub AreEmpty : (NodeId × Bare → Bool) → BareTrees → State → Type 0
AreEmpty test b s = (m : NodeId) (v : Bare) → Some v ≡ value_at b m → test (m, v) ≡ true → (is_container (label_of_bare v).kind ≡ true) × (kept_in s m ≡ [])

-- ---- what is measured

-- a leaf whose parents are grids, which with it kept nothing
pub record IsNewLeaf (b : BareTrees) (s : State) (c : NodeId) : Type 0 where
  pub parent : NodeId
  pub index : ℕ
  pub is : child_at b parent index ≡ Some c
  pub leaf : is_leaf (sight_at b c).label.kind ≡ true
  pub own : kept_in s c ≡ []
  pub under : (n : NodeId) (i : ℕ) → child_at b n i ≡ Some c → ((sight_at b n).label.kind ≡ kind.Grid) × (kept_in s n ≡ [])

-- its height at the content width of a border box of this width
abbrev pub measured_at : BareTrees → NodeId → ℤ → Event
measured_at b c width = Measured (name_in b c) (At (content_of_box (inner (sight_at b c).label.grid.columns) width))
