-- A list of nodes, seen as trees.
use Rattle.std.specs.Prelude.{List, [], ◌∷◌}
use Rattle.plain_tree.specs.Trees.{Trees, leafless, tree}
use Rattle.doc_text.specs.declared.document.Plain.{Plain}
use Rattle.doc_text.specs.Label.{Label}

abbrev pub label_of : Plain → Label
label_of node = record { name = node.name; kind = node.kind; style = node.style }

abbrev pub trees_of : List Plain → Trees Label
trees_of [] = leafless
trees_of (node ∷ nodes) = tree (label_of node) node.children (trees_of nodes)
