-- The root of a tree.
use Rattle.std.proofs.Common.{◌≡◌, [], ◌∷◌, Some, None, ap, ◌∙◌}
use Rattle.plain_tree.specs.Trees.{leafless, tree}
use Rattle.node_arena.specs.declared.number.NodeId.{NodeId}
use Rattle.node_arena.specs.Numbers.{top_numbers, value_at, value_of}
use Rattle.node_arena.proofs.Same.{part_here, same_from}
use Rattle.placing.specs.declared.node.Node.{Node}
use Rattle.placing.specs.Nodes.{NodeTrees}
use Rattle.page_tree.specs.Fonts.{root_font, root_font_of}

pub root_value : (t : NodeTrees) (root : NodeId) (v : Node) → top_numbers t ≡ root ∷ [] → Some v ≡ value_at t root → root_font v.declared ≡ root_font_of t
root_value leafless root v w e = absurd cc
root_value (tree x below after) root v w e =
    let first : x.0 ≡ root = cc in
    let is : Some v ≡ Some x.1 = e ∙ ap value_of (part_here x below after root (record { is = same_from x.0 root first })) in
    let value : v ≡ x.1 = cc in
    ap (λ (y : Node). root_font y.declared) value

pub root_there : (t : NodeTrees) (root : NodeId) → top_numbers t ≡ root ∷ [] → None ≡ value_at t root → ⊥
root_there leafless root w e = cc
root_there (tree x below after) root w e =
    let first : x.0 ≡ root = cc in
    let is : None ≡ Some x.1 = e ∙ ap value_of (part_here x below after root (record { is = same_from x.0 root first })) in
    cc

pub ruleset root_fonts = (root_value, root_there)
