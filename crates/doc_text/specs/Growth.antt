-- A tree that grows by one node after another in document order: each stands on a level, and its parent is the last node on
-- the level above.
use Rattle.std.specs.Prelude.{ℕ, zero, suc, ◌+◌, Bool, false, ◌||◌, Option, Some, None}
use Rattle.std.specs.Str.{bytes_eq}
use Rattle.plain_tree.specs.Trees.{Trees, leafless, tree, joined}
use Rattle.doc_text.specs.Label.{Label}
use Rattle.doc_text.specs.Texts.{Word}

-- a node has the name
abbrev pub holds : Trees Label → Word → Bool
holds leafless name = false
holds (tree label below after) name = bytes_eq label.name name || (holds below name || holds after name)

-- this where no tree follows, and else the other
abbrev pub last_or : {A B : Type 0} → A → Trees B → A → A
last_or here leafless there = here
last_or here (tree label below after) there = there

-- how many levels a next node could have its parent on: those from the top down to the last node of all
abbrev pub open_levels : {A : Type 0} → Trees A → ℕ
open_levels leafless = 0
open_levels (tree label below after) = last_or (1 + open_levels below) after (open_levels after)

-- the last tree of a list: its label, and its children
abbrev pub last_tree : {A : Type 0} → Trees A → Option (A × Trees A)
last_tree leafless = None
last_tree (tree label below after) = last_or (Some (label, below)) after (last_tree after)

-- the last node on a level, which is counted from 0, with its children
abbrev pub last_on : {A : Type 0} → ℕ → Trees A → Option (A × Trees A)
last_on zero trees = last_tree trees
last_on (suc level) trees = elim (last_tree trees) [ None ↦ None | Some node ↦ last_on level node.1 ]

-- the node that a next one on a level would stand under, where it is not the root
abbrev pub parent_on : {A : Type 0} → ℕ → Trees A → Option (A × Trees A)
parent_on zero trees = None
parent_on (suc level) trees = last_on level trees

abbrev pub alone : {A : Type 0} → A → Trees A
alone label = tree label leafless leafless

-- one node more on a level, as the last of all
abbrev pub put_last : {A : Type 0} → ℕ → A → Trees A → Trees A
put_last zero label trees = joined trees (alone label)
put_last (suc level) label leafless = leafless
put_last (suc level) label (tree upper below after) = tree upper (last_or (put_last level label below) after below) (put_last (suc level) label after)
