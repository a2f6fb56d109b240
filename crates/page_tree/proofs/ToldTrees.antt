-- Layout can be asked of each node of a page whose document is valid.
use Rattle.std.proofs.Common.{◌≡◌, refl, ap, subst, arith, ℕ, ◌+◌, ◌≤◌, false, inl, inr}
use Rattle.std.proofs.lemmas.Bool.{ltb-false}
use Rattle.plain_tree.specs.Trees.{Trees, leafless, tree, count_of, size_of, EachLabel}
use Rattle.node_arena.specs.Numbers.{EachNode, IsNarrow, mapped}
use Rattle.style_types.specs.Computed.{DeclaredMap}
use Rattle.tree_rules.specs.declared.kind.NodeKind.{NodeKind}
use Rattle.tree_rules.specs.declared.kind.NodeKind.TheVariants as kind
use Rattle.doc_text.specs.declared.document.Doc.{Doc}
use Rattle.doc_text.specs.Documents.{node_limit}
use Rattle.doc_text.specs.Edits.{tree_of, are_too_many}
use Rattle.doc_text.specs.Valid.{HasFewChildren, IsShaped, IsToldKind, IsToldStyle, IsToldLabel, IsVersion, IsValid}
use Rattle.doc_text.specs.View.{label_of as plain_label}
use Rattle.placing.specs.declared.node.Node.{Node}
use Rattle.placing.specs.Nodes.{NodeTrees, bare, bare_of}
use Rattle.placing.specs.Ranges.{AreReadable, IsKind}
use Rattle.placing.proofs.Readable.{by_nodes}
use Rattle.page_tree.specs.Documents.{kind_of, label_of, plain_trees}
use Rattle.page_tree.specs.Pages.{Held, Stands, document_of, plain_root}
use Rattle.page_tree.specs.Ranges.{AreInRange}
use Rattle.page_tree.proofs.Readable.{IsInRangeNode, document_readable}
use Rattle.page_tree.proofs.ToldContents.{content_measured}
use Rattle.page_tree.proofs.ToldValues.{declared_in}

-- ---- nodes

pub told_style : (version : ℕ) (style : DeclaredMap) → IsToldStyle version style → AreInRange style
told_style version style h p d e = declared_in version p d (h p d e)

told_kind : (k : NodeKind) → IsToldKind (kind_of k) → IsKind k
told_kind kind.Grid h = tt
told_kind kind.Flex h = tt
told_kind (kind.Leaf content) h = content_measured content h

told_node : (version : ℕ) (v : Node) → IsToldLabel version (label_of v) → IsInRangeNode v
told_node version v h = record { kind = told_kind v.kind h.kind; declared = told_style version v.declared h.style }

told_nodes : (version : ℕ) (t : NodeTrees) → EachLabel (IsToldLabel version) (plain_trees t) → EachNode (λ x. IsInRangeNode x.1) t
told_nodes version leafless h = tt
told_nodes version (tree x below after) h = (told_node version x.1 h.0, (told_nodes version below h.1.0, told_nodes version after h.1.1))

-- ---- children

few_first : (children : ℕ) → children ≤ node_limit 1 → children ≤ 65536
few_first children h = omega (arith, h)

few_second : (children : ℕ) → are_too_many 2 children ≡ false → children ≤ 65536
few_second children h = ltb-false 65536 children h

few : (version children : ℕ) → IsVersion version → are_too_many version children ≡ false → children ≤ node_limit version → children ≤ 65536
few version children (inl e) many limit = few_first children (subst (λ (v : ℕ). children ≤ node_limit v) e limit)
few version children (inr e) many limit = few_second children (subst (λ (v : ℕ). are_too_many v children ≡ false) e many)

same_count : (t : NodeTrees) → count_of (mapped (λ n v. bare_of v) t) ≡ count_of (plain_trees t)
same_count leafless = refl
same_count (tree x below after) = ap (λ (n : ℕ). 1 + n) (same_count after)

count_few : {A : Type 0} (t : Trees A) → count_of t ≤ size_of t
count_few leafless = omega arith
count_few (tree x below after) = omega (arith, count_few after)

narrow : (version : ℕ) (t : NodeTrees) → IsVersion version → HasFewChildren version (plain_trees t) → size_of (plain_trees t) ≤ node_limit version → IsNarrow 65536 (mapped (λ n v. bare_of v) t)
narrow version leafless v h l = tt
narrow version (tree x below after) v h l =
    let within : count_of (plain_trees below) ≤ size_of (plain_trees below) = count_few (plain_trees below) in
    let children : count_of (plain_trees below) ≤ 65536 = few version (count_of (plain_trees below)) v h.0 (omega (arith, within, l)) in
    let same : count_of (mapped (λ n v. bare_of v) below) ≡ count_of (plain_trees below) = same_count below in
    (omega (arith, children, same), (narrow version below v h.1.0 (omega (arith, l)), narrow version after v h.1.1 (omega (arith, l))))

-- ---- a page

readable : (t : NodeTrees) (doc : Doc) → Stands t → tree_of doc ≡ plain_trees t → IsValid doc → AreReadable (bare t)
unfolding bare
readable t doc page same valid =
    let shaped : IsShaped doc.version (plain_trees t) = subst (IsShaped doc.version) same valid.shaped in
    let told : EachLabel (IsToldLabel doc.version) (plain_trees t) = subst (EachLabel (IsToldLabel doc.version)) same valid.labels in
    by_nodes (bare t) (document_readable t page.rooted page.styled (told_nodes doc.version t told)) (narrow doc.version t valid.version shaped.children shaped.nodes)

whole : (t : NodeTrees) → count_of t ≡ 1 → tree (plain_label (plain_root (plain_trees t))) (plain_root (plain_trees t)).children leafless ≡ plain_trees t
whole leafless h = absurd (omega (arith, h))
whole (tree x below leafless) h = refl
whole (tree x below (tree y b a)) h = absurd (omega (arith, h))

pub page_readable : (h : Held) → Stands h.nodes.tree → IsValid (document_of h) → AreReadable (bare h.nodes.tree)
page_readable h page valid = readable h.nodes.tree (document_of h) page (whole h.nodes.tree page.rooted) valid
