-- What laying out a document in its viewport asks, by the names of its nodes, and how many containers it has (own rule).
use Rattle.std.specs.Prelude.{ℕ, ◌+◌, Bool, ◌&&◌, not, List}
use Rattle.plain_tree.specs.Trees.{Trees, leafless, map_trees, tree}
use Rattle.node_arena.specs.Numbers.{one}
use Rattle.tree_rules.specs.Labels as rules
use Rattle.tree_rules.specs.AskedQueries.{ToNode, asked, path}
use Rattle.tree_rules.specs.Documents.{computed_label, computed_trees, root_font}
use Rattle.doc_text.specs.declared.document.Doc.{Doc}
use Rattle.doc_text.specs.Documents.{is_leaf}
use Rattle.doc_text.specs.Label.{Label}
use Rattle.doc_text.specs.View.{label_of}
use Rattle.page_tree.specs.Boxes.{declared_of}

-- the nodes of a document as the rules read them, each with its computed style
abbrev pub labels_of : Doc → Trees rules.Label
labels_of doc =
    let x = declared_of (label_of doc.root) in
    let font = root_font x in
    tree (computed_label font font x) (computed_trees font font (map_trees declared_of doc.root.children)) leafless

-- All that laying out a document can ask: the name of each node with each question to it.
abbrev pub asked_of : Doc → List ToNode
asked_of doc =
    let x = declared_of (label_of doc.root) in
    let font = root_font x in
    asked doc.width doc.height (computed_label font font x) (computed_trees font font (map_trees declared_of doc.root.children))

-- The path of the boxes of a document.
abbrev pub path_of : Doc → List ToNode
path_of doc =
    let x = declared_of (label_of doc.root) in
    let font = root_font x in
    path doc.width doc.height (computed_label font font x) (computed_trees font font (map_trees declared_of doc.root.children))

-- how many of the containers of these trees have a name that passes a test
abbrev pub containers_by : (List ℕ → Bool) → Trees Label → ℕ
containers_by test leafless = 0
containers_by test (tree x below after) = one (not (is_leaf x.kind) && test x.name) + containers_by test below + containers_by test after
