-- What a change makes of the node that it names.
use Rattle.std.specs.Prelude.{Option, Some, None}
use Rattle.plain_tree.specs.Trees.{Trees, leafless, tree}
use Rattle.doc_text.specs.declared.document.Plain.{Plain}
use Rattle.doc_text.specs.Label.{Label}
use Rattle.doc_text.specs.Named.{relabel, graft, nothing}
use Rattle.doc_text.specs.Edits.{with_kind}
use Rattle.edit_journal.specs.declared.change.Change.{Change}
use Rattle.edit_journal.specs.declared.change.Change.TheVariants as change
use Rattle.edit_journal.specs.Changes.{with_style, tree_of_node}

-- what stands in the place of the node; a move and a viewport change no node
abbrev pub becomes : Change → Label → Trees Label → Trees Label
becomes (change.Style name values) x below = relabel (with_style values) x below
becomes (change.Take name) x below = nothing x below
becomes (change.Bring parent index node) x below = graft index (tree_of_node node) x below
becomes (change.Shift name parent index) x below = tree x below leafless
becomes (change.Kind name kind) x below = relabel (with_kind kind) x below
becomes (change.View width height) x below = tree x below leafless

-- the trees that a node makes which may not be there
abbrev pub trees_of_option : Option Plain → Trees Label
trees_of_option None = leafless
trees_of_option (Some node) = tree_of_node node
