-- A node that may move under another.
use Rattle.std.specs.Prelude.{◌≡◌, ℕ, false, List, Option, Some, None, nat_lt}
use Rattle.text_scan.specs.declared.line.Fault.{Fault}
use Rattle.text_scan.specs.declared.line.Place.{Place}
use Rattle.plain_tree.specs.Trees.{Trees, height_of}
use Rattle.doc_text.specs.declared.edit.Named.{Named}
use Rattle.doc_text.specs.Edits.{child_count, is_leaf_top, passes_children, passes_levels}
use Rattle.doc_text.specs.Label.{Label}
use Rattle.doc_text.specs.Named.{removed, tree_at}
use Rattle.page_tree.specs.Rows.{or_later}
use Rattle.node_arena.specs.declared.number.NodeId.{NodeId}
use Rattle.node_arena.specs.Faults.{is_top}
use Rattle.node_arena.specs.Numbers.{is_among, way_up}
use Rattle.placing.specs.Nodes.{NodeTrees}
use Rattle.page_tree.specs.Registers.{Finds}

-- the numbers of a node that is not the root, and of another that does not stand in its tree
pub record AreApart (t : NodeTrees) (name parent : List ℕ) (id to : NodeId) : Type 0 where
  pub found : Finds t name (Some id)
  pub onto : Finds t parent (Some to)
  pub low : is_top t id ≡ false
  pub apart : is_among id (way_up t to) ≡ false

-- why the place under the new parent is refused: its children and levels are those of what is left
abbrev pub place_refusal : ℕ → Trees Label → Named → Named → ℕ → Place → Option Fault
place_refusal version t named parent index at =
    or_later (nat_lt (child_count parent.name (removed named.name t)) index) 24 at
    (or_later (passes_levels (removed named.name t) parent (height_of (tree_at named.name t))) 12 named.at
    (or_later (passes_children version (removed named.name t) parent) 13 named.at
    (or_later (is_leaf_top (tree_at parent.name (removed named.name t))) 14 parent.at None)))
