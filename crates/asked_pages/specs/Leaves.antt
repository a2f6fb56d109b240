-- Leaves that are children of grids, and what is measured of them (CSS Grid 2, section 6; own rule).
use Rattle.std.specs.Prelude.{◌≡◌, ℕ, Bool, true, false, ◌&&◌, ◌||◌, List, [], ◌∷◌, ◌++◌, Contains, if◌then◌else◌, ⊤}
use Rattle.plain_tree.specs.Trees.{Trees, leafless, tree}
use Rattle.node_arena.specs.Numbers.{EachNode}
use Rattle.outside.specs.declared.event.Event.{Event}
use Rattle.outside.specs.declared.event.Event.TheVariants.{Measured}
use Rattle.outside.specs.declared.event.Width.TheVariants.{At}
use Rattle.doc_text.specs.declared.document.Doc.{Doc}
use Rattle.doc_text.specs.Documents.{is_leaf}
use Rattle.doc_text.specs.Edits.{tree_of}
use Rattle.doc_text.specs.Label.{Label}
use Rattle.placing.specs.Keeping as node
use Rattle.tree_rules.specs.Answers.{Box}
use Rattle.tree_rules.specs.Chains.{is_grid_kind}
use Rattle.tree_rules.specs.Labels as rules
use Rattle.tree_rules.specs.NodeSizes.{content_of_box, inner}
use Rattle.page_tree.specs.Boxes.{boxes_of}
use Rattle.page_tree.specs.Pages.{Held, document_of}
use Rattle.asked_pages.specs.AskedOf.{labels_of}

-- the leaves among these trees, without those below them
abbrev pub leaves_among : Trees rules.Label → List rules.Label
leaves_among leafless = []
leaves_among (tree x below after) = (if node.is_leaf x.kind then x ∷ [] else []) ++ leaves_among after

-- the leaves that are children of grids
abbrev pub leaves_of_grids : Trees rules.Label → List rules.Label
leaves_of_grids leafless = []
leaves_of_grids (tree x below after) = (if is_grid_kind x.kind then leaves_among below else []) ++ (leaves_of_grids below ++ leaves_of_grids after)

-- a node is measured at the content width of its box
abbrev pub measured_in : rules.Label → Box → Event
measured_in x box = Measured x.name (At (content_of_box (inner x.grid.columns) box.1.width))

-- each leaf of a document that is a child of a grid and whose name passes a test was measured at the content width of its box
abbrev pub AreAllMeasured : (List ℕ → Bool) → Doc → List Event → Type 0
AreAllMeasured test doc events =
    (x : rules.Label) → Contains (leaves_of_grids (labels_of doc)) x → test x.name ≡ true → (box : Box) → Contains (boxes_of doc) box →
    box.0 ≡ x.name → Contains events (measured_in x box)

-- ---- nodes that keep nothing

-- one of these trees, without those below them, is a leaf whose name passes a test
abbrev pub has_leaf_by : (List ℕ → Bool) → Trees Label → Bool
has_leaf_by test leafless = false
has_leaf_by test (tree x below after) = (is_leaf x.kind && test x.name) || has_leaf_by test after

-- with a leaf its parent passes the test
abbrev pub PassesUp : (List ℕ → Bool) → Trees Label → Type 0
PassesUp test leafless = ⊤
PassesUp test (tree x below after) = (has_leaf_by test below ≡ true → test x.name ≡ true) × (PassesUp test below × PassesUp test after)

-- each node whose name passes a test keeps nothing; and with a leaf its parent passes it
pub record IsEmptied (test : List ℕ → Bool) (page : Held) : Type 0 where
  pub each : EachNode (λ x. test x.1.name ≡ true → x.1.kept ≡ []) page.nodes.tree
  pub up : PassesUp test (tree_of (document_of page))
