-- The labels of a page's nodes are those that the definitions compute from the declared ones, and so its boxes are the document's.
use Rattle.std.proofs.Common.{◌≡◌, ℤ, refl, sym, ap, subst, ◌∙◌, arith}
use Rattle.std.specs.Prelude.{List, Result, OnOk}
use Rattle.plain_tree.specs.Trees.{leafless, tree, count_of, map_trees}
use Rattle.node_arena.specs.declared.number.NodeId.{NodeId}
use Rattle.node_arena.specs.Numbers.{mapped}
use Rattle.style_types.specs.Computed.{font_of}
use Rattle.tree_rules.specs.declared.kind.NodeKind.{NodeKind}
use Rattle.tree_rules.specs.declared.kind.NodeKind.TheVariants as kind
use Rattle.tree_rules.specs.Answers.{Box}
use Rattle.tree_rules.specs.Boxes.{boxes}
use Rattle.tree_rules.specs.Documents.{computed_label, computed_trees}
use Rattle.tree_rules.specs.Labels.{label_of as label_of_rules}
use Rattle.placing.specs.declared.node.Node.{Node}
use Rattle.placing.specs.Nodes.{BareTrees, NodeTrees, bare, bare_of, label_in, label_of_bare}
use Rattle.placing.specs.Walks.{State}
use Rattle.box_layout.specs.BoxesSeen.{bare_boxes}
use Rattle.box_layout.specs.FoundRoots.{IsRootFrame}
use Rattle.box_layout.specs.Paths.{IsPathKept}
use Rattle.box_layout.specs.declared.layout.RootFrame.{RootFrame}
use Rattle.page_tree.specs.Boxes.{boxes_of, declared_of, node_kind_of}
use Rattle.page_tree.specs.Documents.{kind_of, label_of, plain_trees}
use Rattle.page_tree.specs.Fonts.{AreStyled, HasStyle, IsStyled, root_font}
use Rattle.page_tree.specs.Pages.{Held, IsPage, document_of}

kind_back : (k : NodeKind) → node_kind_of (kind_of k) ≡ k
kind_back kind.Grid = refl
kind_back kind.Flex = refl
kind_back (kind.Leaf content) = refl

pub label_computed : (em rem : ℤ) (n : NodeId) (v : Node) → HasStyle em rem v → label_in (n, bare_of v) ≡ computed_label em rem (declared_of (label_of v))
unfolding label_of_bare
label_computed em rem n v h = λ i. label_of_rules v.name (sym (kind_back v.kind) i) (h i)

pub trees_computed : (p r : ℤ) (t : NodeTrees) → AreStyled p r t → map_trees label_in (mapped (λ n v. bare_of v) t) ≡ computed_trees p r (map_trees declared_of (plain_trees t))
trees_computed p r leafless h = refl
trees_computed p r (tree x below after) h =
    λ i. tree (label_computed (font_of p r x.1.declared) r x.0 x.1 h.0 i) (trees_computed (font_of p r x.1.declared) r below h.1.0 i) (trees_computed p r after h.1.1 i)

-- the boxes of the bare tree are those of the document
pub page_boxes : (h : Held) → IsPage h.nodes.tree → bare_boxes h.width h.height (bare h.nodes.tree) ≡ boxes_of (document_of h)
unfolding bare
page_boxes h p = at h.nodes.tree p.rooted p.styled
  where
    at : (t : NodeTrees) → count_of t ≡ 1 → IsStyled t → bare_boxes h.width h.height (mapped (λ n v. bare_of v) t) ≡ boxes_of (document_of (record h { nodes = record h.nodes { tree = t } }))
    at leafless e s = absurd (omega (arith, e))
    at (tree x below after) e s =
        λ i. boxes h.width h.height (label_computed (root_font x.1.declared) (root_font x.1.declared) x.0 x.1 s.0 i) (trees_computed (root_font x.1.declared) (root_font x.1.declared) below s.1 i)

-- what holds of the boxes of the bare tree holds of those of the document
pub boxes_told : {T E : Type 0} (P : List Box → Type 0) (r : Result T E) (inside now : Held) → inside ≡ now → bare_boxes inside.width inside.height (bare inside.nodes.tree) ≡ boxes_of (document_of inside)
    → OnOk r (P (bare_boxes inside.width inside.height (bare inside.nodes.tree))) → OnOk r (P (boxes_of (document_of now)))
boxes_told P r inside now same is = subst (λ (boxes : List Box). OnOk r (P boxes)) (is ∙ ap (λ (h : Held). boxes_of (document_of h)) same)

-- ---- the viewport of a root's frame is that in which the frame was found
pub root_framed : (b : BareTrees) (width height : ℤ) (r : RootFrame) → IsRootFrame b width height r → IsRootFrame b r.width r.height r
root_framed b width height r f = subst (λ h. IsRootFrame b r.width h r) (sym f.down) (subst (λ w. IsRootFrame b w height r) (sym f.across) f)

pub path_framed : (b : BareTrees) (width height : ℤ) (r : RootFrame) (s : State) → IsRootFrame b width height r → IsPathKept b width height s → IsPathKept b r.width r.height s
path_framed b width height r s f kept = subst (λ h. IsPathKept b r.width h s) (sym f.down) (subst (λ w. IsPathKept b w height s) (sym f.across) kept)

pub framed_told : {T E : Type 0} (P : List Box → Type 0) (r : Result T E) (page : Held) (root : RootFrame) → IsRootFrame (bare page.nodes.tree) page.width page.height root
    → OnOk r (P (bare_boxes root.width root.height (bare page.nodes.tree))) → OnOk r (P (bare_boxes page.width page.height (bare page.nodes.tree)))
framed_told P r page root f = subst (λ (boxes : List Box). OnOk r (P boxes)) (λ i. bare_boxes (f.across i) (f.down i) (bare page.nodes.tree))
