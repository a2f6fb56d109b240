-- A document has a box for each of its nodes, and so fewer than an index can hold.
use Rattle.std.proofs.Common.{◌≡◌, refl, ap, sym, subst, ◌∙◌, ℕ, ◌+◌, ◌^◌, ◌≤◌, ◌<◌, ℤ, true, List, length, inl, inr, arith}
use Rattle.std.specs.Prelude.{◌⊎◌}
use Rattle.std.proofs.lemmas.List.{length-map}
use Rattle.plain_tree.specs.Trees.{Trees, leafless, labels_of, map_trees, size_of, tree}
use Rattle.plain_tree.proofs.Laws.{length-labels_of}
use Rattle.doc_text.specs.declared.document.Doc.{Doc}
use Rattle.doc_text.specs.declared.kind.Kind.{Kind}
use Rattle.doc_text.specs.declared.kind.Kind.TheVariants as plain
use Rattle.doc_text.specs.Documents.{is_leaf, node_limit}
use Rattle.doc_text.specs.Edits.{tree_of}
use Rattle.doc_text.specs.Label.{Label}
use Rattle.doc_text.specs.Valid.{HasContainers, IsValid, IsVersion}
use Rattle.doc_text.specs.View.{label_of}
use Rattle.style_types.specs.Computed.{font_of}
use Rattle.tree_rules.specs.Answers.{Box}
use Rattle.tree_rules.specs.Boxes.{IsBareLeaf, LeavesAreBare, names_of, names_told}
use Rattle.tree_rules.specs.Documents.{computed_label, computed_trees, root_font}
use Rattle.tree_rules.specs.Labels as rules
use Rattle.tree_rules.specs.declared.kind.NodeKind.TheVariants as kind
use Rattle.tree_rules.proofs.Told.{each_named}
use Rattle.page_tree.specs.Boxes.{declared_of, node_kind_of}
use Rattle.session.specs.Boxes.{boxes_of}

-- the nodes below one, as the rules see them
abbrev pub seen_below : ℤ → ℤ → Trees Label → Trees rules.Label
seen_below parent root t = computed_trees parent root (map_trees declared_of t)

pub bare_leaf : (k : Kind) (parent root : ℤ) (below : Trees Label) → (is_leaf k ≡ true → below ≡ leafless) → IsBareLeaf (node_kind_of k) (seen_below parent root below)
bare_leaf plain.Grid parent root below h = tt
bare_leaf plain.Flex parent root below h = tt
bare_leaf (plain.Leaf content) parent root below h = subst (λ (t : Trees Label). IsBareLeaf (kind.Leaf content) (seen_below parent root t)) (sym (h refl)) tt

pub bare_leaves : (parent root : ℤ) (t : Trees Label) → HasContainers t → LeavesAreBare (seen_below parent root t)
bare_leaves parent root leafless h = tt
bare_leaves parent root (tree x below after) h =
    let font = font_of parent root x.style in
    (bare_leaf x.kind font root below h.0, (bare_leaves font root below h.1.0, bare_leaves parent root after h.1.1))

size_seen : (parent root : ℤ) (t : Trees Label) → size_of (seen_below parent root t) ≡ size_of t
size_seen parent root leafless = refl
size_seen parent root (tree x below after) = omega (arith, size_seen (font_of parent root x.style) root below, size_seen parent root after)

module _ (doc : Doc) (valid : IsValid doc) where
  font : ℤ
  font = root_font (declared_of (label_of doc.root))

  abbrev whole : Trees rules.Label
  whole = tree (computed_label font font (declared_of (label_of doc.root))) (seen_below font font doc.root.children) leafless

  few_nodes : size_of (tree_of doc) ≤ 200000
  few_nodes = omega (arith, valid.shaped.nodes, at doc.version valid.version)
    where
      at : (n : ℕ) → IsVersion n → node_limit n ≤ 200000
      at n (inl e) = subst (λ (m : ℕ). node_limit m ≤ 200000) (sym e) (omega arith)
      at n (inr e) = subst (λ (m : ℕ). node_limit m ≤ 200000) (sym e) (omega arith)

  one_each : length (boxes_of doc) ≡ size_of whole
  unfolding boxes_of font
  one_each =
      let bare = valid.shaped.containers in
      let named : names_told (boxes_of doc) ≡ names_of whole =
      each_named doc.width doc.height (computed_label font font (declared_of (label_of doc.root))) (seen_below font font doc.root.children)
      (bare_leaf doc.root.kind font font doc.root.children bare.0, (bare_leaves font font doc.root.children bare.1.0, tt)) in
      sym (length-map (boxes_of doc) (λ (b : Box). b.0)) ∙ ap length named ∙ length-map (labels_of whole) (λ (x : rules.Label). x.name) ∙ length-labels_of whole

  pub few_boxes : length (boxes_of doc) < 2 ^ 32
  few_boxes = omega (arith, one_each, size_seen font font doc.root.children, few_nodes)
