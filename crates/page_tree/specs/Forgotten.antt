-- Which boxes that were found last are forgotten after a change (own rule).
use Rattle.std.specs.Prelude.{◌≡◌, Bool, false, List, Contains, Option, None, Some}
use Rattle.std.specs.Str.{bytes_eq}
use Rattle.plain_tree.specs.Trees.{Trees}
use Rattle.doc_text.specs.Growth.{holds}
use Rattle.doc_text.specs.Label.{Label}
use Rattle.doc_text.specs.Texts.{Word}
use Rattle.edit_journal.specs.declared.change.Change.{Change}
use Rattle.edit_journal.specs.declared.change.Change.TheVariants as change
use Rattle.edit_journal.specs.Changes.{tree_of_node}
use Rattle.node_arena.specs.declared.number.NodeId.{NodeId}
use Rattle.node_arena.specs.Numbers.{value_at}
use Rattle.placing.specs.declared.node.Node.{Node}
use Rattle.placing.specs.Nodes.{NodeTrees}
use Rattle.box_layout.specs.LastBoxes.{Found}

-- nothing comes, and what is kept then is of none of these numbers
abbrev pub Forgets : (NodeId → Bool) → List Found → List Found → Type 0
Forgets gone old new = (f : Found) → Contains new f → Contains old f × (gone f.id ≡ false)

-- a node has this name, or one of these trees
abbrev pub has_name : Word → Option Node → Bool
has_name name None = false
has_name name (Some v) = bytes_eq v.name name

abbrev pub has_name_in : Trees Label → Option Node → Bool
has_name_in t None = false
has_name_in t (Some v) = holds t v.name

-- the numbers of the nodes that a change brought, in the tree after it
abbrev pub is_brought : Change → NodeTrees → NodeId → Bool
is_brought (change.Style name values) t n = false
is_brought (change.Take name) t n = false
is_brought (change.Bring parent index node) t n = has_name_in (tree_of_node node) (value_at t n)
is_brought (change.Shift name parent index) t n = false
is_brought (change.Kind name kind) t n = false
is_brought (change.View width height) t n = false
