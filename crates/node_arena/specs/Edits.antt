-- The tree after a change.
use Rattle.std.specs.Prelude.{ℕ, zero, suc, if◌then◌else◌}
use Rattle.plain_tree.specs.Trees.{Trees, leafless, tree, joined}
use Rattle.node_arena.specs.declared.number.NodeId.{NodeId}
use Rattle.node_arena.specs.Numbers.{same}

module _ {A : Type 0} where
  -- the tree of this number replaced by others
  abbrev pub edited : NodeId → (NodeId × A → Trees (NodeId × A) → Trees (NodeId × A)) → Trees (NodeId × A) → Trees (NodeId × A)
  edited n change leafless = leafless
  edited n change (tree x below after) = if same x.0 n then joined (change x below) after else tree x (edited n change below) (edited n change after)

  -- these trees at an index of a list
  abbrev pub put_at : ℕ → Trees (NodeId × A) → Trees (NodeId × A) → Trees (NodeId × A)
  put_at index new leafless = new
  put_at zero new (tree x below after) = joined new (tree x below after)
  put_at (suc index) new (tree x below after) = tree x below (put_at index new after)

  -- more trees under a number, at an index of its children
  abbrev pub graft : ℕ → Trees (NodeId × A) → NodeId × A → Trees (NodeId × A) → Trees (NodeId × A)
  graft index new x below = tree x (put_at index new below) leafless

  abbrev pub grafted : NodeId → ℕ → Trees (NodeId × A) → Trees (NodeId × A) → Trees (NodeId × A)
  grafted parent index new = edited parent (graft index new)

  abbrev pub nothing : NodeId × A → Trees (NodeId × A) → Trees (NodeId × A)
  nothing x below = leafless

  -- without a number and all below it
  abbrev pub removed : NodeId → Trees (NodeId × A) → Trees (NodeId × A)
  removed n = edited n nothing

  -- the tree of a number, and no other
  abbrev pub tree_at : NodeId → Trees (NodeId × A) → Trees (NodeId × A)
  tree_at n leafless = leafless
  tree_at n (tree x below after) = if same x.0 n then tree x below leafless else joined (tree_at n below) (tree_at n after)

  -- a tree under another parent, at an index of the children that are left
  abbrev pub moved : NodeId → NodeId → ℕ → Trees (NodeId × A) → Trees (NodeId × A)
  moved n parent index t = grafted parent index (tree_at n t) (removed n t)
