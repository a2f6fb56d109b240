-- What stands under a number, as a document has it: one child after another, and the whole.
use Rattle.std.proofs.Common.{◌≡◌, ℕ, zero, suc, ◌+◌, List, [], ◌∷◌, Option, Some, None, IsSome, add-one, refl, sym, ap, ◌∙◌, arith}
use Rattle.plain_tree.specs.Trees.{Trees, leafless, tree, joined, count_of}
use Rattle.plain_tree.proofs.Laws.{joined-leafless}
use Rattle.node_arena.specs.declared.number.NodeId.{NodeId}
use Rattle.node_arena.specs.Numbers.{Part, below_at, below_of, part_at, top_numbers, value_at, value_of}
use Rattle.node_arena.proofs.Same.{part_here, same_from}
use Rattle.layout_cache.specs.Reach.{from_tree}
use Rattle.doc_text.specs.declared.document.Plain.{Plain}
use Rattle.doc_text.specs.declared.kind.Kind.{Kind}
use Rattle.doc_text.specs.Documents.{plain_of}
use Rattle.doc_text.specs.Label.{DeclaredMap, Label}
use Rattle.doc_text.specs.Texts.{Word}
use Rattle.doc_text.specs.View.{trees_of}
use Rattle.placing.specs.declared.node.Node.{Node}
use Rattle.placing.specs.Nodes.{NodeTrees}
use Rattle.page_tree.specs.Documents.{kind_of, label_of, plain_trees}
use Rattle.page_tree.specs.Pages.{plain_root}
use Rattle.page_tree.specs.Places.{IsPlainAt}
use Rattle.page_tree.specs.Registers.{IsNext}
use Rattle.page_tree.proofs.Reaching.{there_in}
use Rattle.page_tree.proofs.Removals.{next_smaller}

pub tree_live : (t : NodeTrees) (n : NodeId) (i : ℕ) (c : NodeId) → IsNext t n i c → IsSome (part_at t c)
tree_live t n i c h = there_in t c h.value h.there

pub ruleset falls_there = (next_smaller, tree_live)

-- ---- one child after another

pub children_end : (t : NodeTrees) (n : NodeId) (i : ℕ) (done : Trees Label) → from_tree i (below_at t n) ≡ leafless → joined done (plain_trees (from_tree i (below_at t n))) ≡ plain_trees (below_at t n) → done ≡ plain_trees (below_at t n)
children_end t n i done e h = sym (joined-leafless done) ∙ sym (ap (λ s. joined done (plain_trees s)) e) ∙ h

pub next_plain : (t : NodeTrees) (n : NodeId) (i : ℕ) (c : NodeId) (node : Plain) (done now : Trees Label) → IsNext t n i c → IsPlainAt t c node → now ≡ joined done (trees_of (node ∷ [])) → joined done (plain_trees (from_tree i (below_at t n))) ≡ plain_trees (below_at t n) →
    joined now (plain_trees (from_tree (i + 1) (below_at t n))) ≡ plain_trees (below_at t n)
next_plain t n i c node done now h is e f =
    ap (λ s. joined s (plain_trees (from_tree (i + 1) (below_at t n)))) e ∙ sym (joined_again done (trees_of (node ∷ [])) (plain_trees (from_tree (i + 1) (below_at t n))))
    ∙ ap (joined done) (own ∙ sym (ap plain_trees h.next)) ∙ f
  where
    joined_again : (a b c : Trees Label) → joined a (joined b c) ≡ joined (joined a b) c
    joined_again leafless b c = refl
    joined_again (tree x low after) b c = ap (tree x low) (joined_again after b c)

    own : joined (trees_of (node ∷ [])) (plain_trees (from_tree (i + 1) (below_at t n))) ≡ tree (label_of h.value) (plain_trees (below_at t c)) (plain_trees (from_tree (i + 1) (below_at t n)))
    own = at (part_at t c) refl h.there
      where
        at : (o : Option (Part Node)) → part_at t c ≡ o → value_of o ≡ Some h.value → joined (trees_of (node ∷ [])) (plain_trees (from_tree (i + 1) (below_at t n))) ≡ tree (label_of h.value) (plain_trees (below_at t c)) (plain_trees (from_tree (i + 1) (below_at t n)))
        at None q g = absurd cc
        at (Some p) q g =
            let same_value : p.0 ≡ h.value = cc in
            ap (λ k. joined (trees_of (k ∷ [])) (plain_trees (from_tree (i + 1) (below_at t n)))) (is p q) ∙ (λ j. tree (label_of (same_value j)) (plain_trees (below_of (sym q j))) (plain_trees (from_tree (i + 1) (below_at t n))))

-- ---- the node itself

pub plain_made : (t : NodeTrees) (n : NodeId) (v : Node) (name : Word) (kind : Kind) (style : DeclaredMap) (children : Trees Label) → Some v ≡ value_at t n → name ≡ v.name → kind ≡ kind_of v.kind → style ≡ v.declared → children ≡ plain_trees (below_at t n)
    → IsPlainAt t n (record { name = name; kind = kind; style = style; children = children })
plain_made t n v name kind style children there a b c d p q =
    let value : Some v ≡ Some p.0 = there ∙ ap value_of q in
    let same_value : v ≡ p.0 = cc in
    (λ i. record { name = a i; kind = b i; style = c i; children = d i })
    ∙ (λ i. plain_of (label_of (same_value i)) (plain_trees (below_of (q i))))

-- ---- the root

head_part : (x : NodeId × Node) (below after : NodeTrees) (root : NodeId) → top_numbers (tree x below after) ≡ root ∷ [] → part_at (tree x below after) root ≡ Some (x.1, below)
head_part x below after root top =
    let first : x.0 ≡ root = cc in
    part_here x below after root (record { is = same_from x.0 root first })

pub whole_root : (t : NodeTrees) (root : NodeId) (node : Plain) → count_of t ≡ 1 → top_numbers t ≡ root ∷ [] → IsPlainAt t root node → node ≡ plain_root (plain_trees t)
whole_root leafless root node one top is = absurd (omega (arith, one))
whole_root (tree x below (tree y under later)) root node one top is = absurd (omega (arith, one))
whole_root (tree x below leafless) root node one top is = is (x.1, below) (head_part x below leafless root top)
