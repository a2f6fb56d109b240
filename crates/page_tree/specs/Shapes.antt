-- What each change does to the numbered nodes of a page.
use Rattle.std.specs.Prelude.{◌≡◌, ◌≤◌, ℕ, [], Some, false}
use Rattle.plain_tree.specs.Trees.{Trees, leafless, tree}
use Rattle.doc_text.specs.Edits.{with_kind}
use Rattle.doc_text.specs.Label.{Label}
use Rattle.doc_text.specs.Texts.{Word}
use Rattle.edit_journal.specs.declared.change.Change.{Change}
use Rattle.edit_journal.specs.declared.change.Change.TheVariants as change
use Rattle.edit_journal.specs.Changes.{tree_of_node, with_style}
use Rattle.node_arena.specs.declared.number.NodeId.{NodeId}
use Rattle.node_arena.specs.Edits.{grafted, moved, removed}
use Rattle.node_arena.specs.Faults.{is_top}
use Rattle.node_arena.specs.Numbers.{EachNode, replaced, times}
use Rattle.placing.specs.declared.node.Node.{Node}
use Rattle.placing.specs.Kept.{turn_at}
use Rattle.placing.specs.Nodes.{NodeTrees}
use Rattle.placing.specs.Told.{no_past}
use Rattle.page_tree.specs.Documents.{Becomes, label_of, plain_trees}
use Rattle.page_tree.specs.Moves.{AreApart}
use Rattle.page_tree.specs.Registers.{Finds}
use Rattle.page_tree.specs.Restyled.{RestylesUnder, Styles, restyled}

-- ---- nodes that are new

-- a node that keeps nothing and has its first turn
pub record IsBegun (v : Node) : Type 0 where
  pub kept : v.kept ≡ []
  pub past : v.past ≡ no_past
  pub turn : v.turn ≡ 1

-- trees of such nodes, with numbers that no node of the old trees has
pub record AreBegun (new old : NodeTrees) : Type 0 where
  pub fresh : (n : NodeId) → 1 ≤ times n new → times n old ≡ 0
  pub begun : EachNode (λ x. IsBegun x.1) new

-- such a node stands alone under another one, at an index of its children
pub record Adds (parent : NodeId) (index : ℕ) (label : Label) (id : NodeId) (t u : NodeTrees) : Type 0 where
  pub value : Node
  pub label_is : label_of value ≡ label
  pub begun : IsBegun value
  pub fresh : times id t ≡ 0
  pub is : u ≡ grafted parent index (tree (id, value) leafless leafless) t

-- ---- changes

-- the node of a name has another value, which keeps nothing and has the turn of the old one, and some nodes other computed styles
pub record Relabels (name : Word) (change : Label → Label) (t u : NodeTrees) : Type 0 where
  pub id : NodeId
  pub found : Finds t name (Some id)
  pub value : Node
  pub kept : value.kept ≡ []
  pub past : value.past ≡ no_past
  pub turn : value.turn ≡ turn_at t id
  pub label : Becomes id change (label_of value) t
  pub styles : Styles
  pub is : u ≡ restyled styles (replaced id value t)

-- the node of a name is gone, with all below it
pub record Removes (name : Word) (t u : NodeTrees) : Type 0 where
  pub id : NodeId
  pub found : Finds t name (Some id)
  pub low : is_top t id ≡ false
  pub is : u ≡ removed id t

-- new trees with these labels stand under the node of a name, at an index of its children
pub record Brings (parent : Word) (index : ℕ) (labels : Trees Label) (t u : NodeTrees) : Type 0 where
  pub upper : NodeId
  pub found : Finds t parent (Some upper)
  pub new : NodeTrees
  pub begun : AreBegun new t
  pub plain : plain_trees new ≡ labels
  pub is : u ≡ grafted upper index new t

-- the node of a name stands under that of another, at an index of the children that are left, and some nodes below it have other computed styles
pub record Shifts (name parent : Word) (index : ℕ) (t u : NodeTrees) : Type 0 where
  pub id : NodeId
  pub to : NodeId
  pub apart : AreApart t name parent id to
  pub styles : Styles
  pub under : RestylesUnder to styles id t
  pub is : u ≡ restyled styles (moved id to index t)

-- the trees of a page after a change of each kind
abbrev pub IsChanged : Change → NodeTrees → NodeTrees → Type 0
IsChanged (change.Style name values) t u = Relabels name (with_style values) t u
IsChanged (change.Take name) t u = Removes name t u
IsChanged (change.Bring parent index node) t u = Brings parent index (tree_of_node node) t u
IsChanged (change.Shift name parent index) t u = Shifts name parent index t u
IsChanged (change.Kind name kind) t u = Relabels name (with_kind kind) t u
IsChanged (change.View width height) t u = u ≡ t
