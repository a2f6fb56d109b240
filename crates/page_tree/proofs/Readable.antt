-- The nodes of a document are such that layout can be asked of them.
use Rattle.std.proofs.Common.{◌≡◌, ℤ, sym, subst, arith}
use Rattle.std.proofs.lemmas.Int.{ints}
use Rattle.plain_tree.specs.Trees.{leafless, tree, count_of}
use Rattle.node_arena.specs.Numbers.{EachNode, mapped}
use Rattle.style_types.specs.Computed.{font_of}
use Rattle.style_types.specs.Styles.{StyleMap}
use Rattle.tree_rules.specs.Documents.{first_font}
use Rattle.tree_rules.specs.Labels.{content_of, grid_of}
use Rattle.placing.specs.declared.node.Node.{Node}
use Rattle.placing.specs.Nodes.{NodeTrees, bare, bare_of, label_of_bare}
use Rattle.placing.specs.Ranges.{IsContentStyle, IsEdge, IsGridStyle, IsKind, IsReadable}
use Rattle.page_tree.specs.Fonts.{AreStyled, HasStyle, IsStyled, root_font}
use Rattle.page_tree.specs.Ranges.{AreInRange}
use Rattle.page_tree.proofs.InRange.{content_in_range, font_edge, grid_in_range}

-- a node whose kind and declared values are in range
pub record IsInRangeNode (v : Node) : Type 0 where
  pub kind : IsKind v.kind
  pub declared : AreInRange v.declared

node_readable : (em rem : ℤ) (v : Node) → IsEdge em → IsEdge rem → HasStyle em rem v → IsInRangeNode v → IsReadable (label_of_bare (bare_of v))
unfolding label_of_bare
node_readable em rem v e r s h =
    record {
      kind = h.kind;
      grid = subst (λ (y : StyleMap). IsGridStyle (grid_of y)) (sym s) (grid_in_range em rem e.low r.low v.declared h.declared);
      content = subst (λ (y : StyleMap). IsContentStyle (content_of y)) (sym s) (content_in_range em rem e.low r.low v.declared h.declared);
    }

below_readable : (p r : ℤ) (t : NodeTrees) → IsEdge p → IsEdge r → AreStyled p r t → EachNode (λ x. IsInRangeNode x.1) t → EachNode (λ x. IsReadable (label_of_bare x.1)) (mapped (λ n v. bare_of v) t)
below_readable p r leafless e f s h = tt
below_readable p r (tree x below after) e f s h =
    let font = font_edge p r x.1.declared h.0.declared e f in
    (node_readable (font_of p r x.1.declared) r x.1 font f s.0 h.0, (below_readable (font_of p r x.1.declared) r below font f s.1.0 h.1.0, below_readable p r after e f s.1.1 h.1.1))

first_edge : IsEdge first_font
first_edge = record { low = omega (arith, ints); high = omega (arith, ints) }

pub document_readable : (t : NodeTrees) → count_of t ≡ 1 → IsStyled t → EachNode (λ x. IsInRangeNode x.1) t → EachNode (λ x. IsReadable (label_of_bare x.1)) (bare t)
unfolding bare
document_readable leafless c s h = tt
document_readable (tree x below (tree y b a)) c s h = absurd (omega (arith, c))
document_readable (tree x below leafless) c s h =
    let font = font_edge first_font first_font x.1.declared h.0.declared first_edge first_edge in
    (node_readable (root_font x.1.declared) (root_font x.1.declared) x.1 font font s.0 h.0, (below_readable (root_font x.1.declared) (root_font x.1.declared) below font font s.1 h.1.0, tt))
