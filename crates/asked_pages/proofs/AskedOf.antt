-- What a page asks is what its document asks, and its containers are the document's.
use Rattle.std.proofs.Common.{◌≡◌, refl, ap, ◌∙◌, arith, ℕ, Bool, true, false, List, [], ◌∷◌, ◌++◌, length, length-append, Option, Some, None, true≢false}
use Rattle.std.specs.Prelude.{◌&&◌, not, if◌then◌else◌, slice_get}
use Rattle.plain_tree.specs.Trees.{count_of, leafless, map_trees, tree}
use Rattle.node_arena.specs.declared.number.NodeId.{NodeId}
use Rattle.node_arena.specs.Numbers.{Part, below_of, either, mapped, number_of, one, part_at, same, tops}
use Rattle.tree_rules.specs.AskedQueries.{asked, path}
use Rattle.tree_rules.specs.Labels.{Label}
use Rattle.tree_rules.specs.Queries.{is_container}
use Rattle.tree_rules.specs.declared.kind.NodeKind.{NodeKind}
use Rattle.tree_rules.specs.declared.kind.NodeKind.TheVariants as kind
use Rattle.placing.specs.Nodes.{Bare, NodeTrees, bare, bare_of, label_in, label_of_bare, sight_at}
use Rattle.placing.proofs.Sights.{sight_part}
use Rattle.doc_text.specs.Documents.{is_leaf}
use Rattle.doc_text.specs.Valid.{HasContainers}
use Rattle.asked_names.specs.Asked.{LeavesAreBare, asked_in, chosen, path_in}
use Rattle.asked_pages.specs.AskedOf.{asked_of, containers_by, labels_of, path_of}
use Rattle.page_tree.specs.Documents.{kind_of, plain_trees}
use Rattle.page_tree.specs.Fonts.{IsStyled, root_font}
use Rattle.page_tree.specs.Pages.{Held, IsPage, document_of}
use Rattle.page_tree.proofs.Laying.{label_computed, trees_computed}

-- ---- what is asked

pub page_asked : (h : Held) → IsPage h.nodes.tree → asked_in h.width h.height (bare h.nodes.tree) ≡ asked_of (document_of h)
unfolding bare
page_asked h p = at h.nodes.tree p.rooted p.styled
  where
    at : (t : NodeTrees) → count_of t ≡ 1 → IsStyled t → asked_in h.width h.height (mapped (λ n v. bare_of v) t) ≡ asked_of (document_of (record h { nodes = record h.nodes { tree = t } }))
    at leafless e s = absurd (omega (arith, e))
    at (tree x below after) e s =
        λ i. asked h.width h.height (label_computed (root_font x.1.declared) (root_font x.1.declared) x.0 x.1 s.0 i) (trees_computed (root_font x.1.declared) (root_font x.1.declared) below s.1 i)

pub page_path : (h : Held) → IsPage h.nodes.tree → path_in h.width h.height (bare h.nodes.tree) ≡ path_of (document_of h)
unfolding bare
page_path h p = at h.nodes.tree p.rooted p.styled
  where
    at : (t : NodeTrees) → count_of t ≡ 1 → IsStyled t → path_in h.width h.height (mapped (λ n v. bare_of v) t) ≡ path_of (document_of (record h { nodes = record h.nodes { tree = t } }))
    at leafless e s = absurd (omega (arith, e))
    at (tree x below after) e s =
        λ i. path h.width h.height (label_computed (root_font x.1.declared) (root_font x.1.declared) x.0 x.1 s.0 i) (trees_computed (root_font x.1.declared) (root_font x.1.declared) below s.1 i)

pub page_labels : (h : Held) → IsPage h.nodes.tree → map_trees label_in (bare h.nodes.tree) ≡ labels_of (document_of h)
unfolding bare
page_labels h p = at h.nodes.tree p.rooted p.styled
  where
    at : (t : NodeTrees) → count_of t ≡ 1 → IsStyled t → map_trees label_in (mapped (λ n v. bare_of v) t) ≡ labels_of (document_of (record h { nodes = record h.nodes { tree = t } }))
    at leafless e s = absurd (omega (arith, e))
    at (tree x below (tree y under after)) e s = absurd (omega (arith, e))
    at (tree x below leafless) e s =
        λ i. tree (label_computed (root_font x.1.declared) (root_font x.1.declared) x.0 x.1 s.0 i) (trees_computed (root_font x.1.declared) (root_font x.1.declared) below s.1 i) leafless

-- ---- only containers have children

same_kind : (k : NodeKind) → not (is_leaf (kind_of k)) ≡ is_container k
same_kind kind.Grid = refl
same_kind kind.Flex = refl
same_kind (kind.Leaf content) = refl

no_trees : (t : NodeTrees) → plain_trees t ≡ leafless → mapped (λ n v. bare_of v) t ≡ leafless
no_trees leafless e = refl
no_trees (tree x below after) e = absurd cc

-- a part of a page has nothing below it, or is a container
abbrev IsFit : Option (Part Bare) → Type 0
IsFit None = Unit {0}
IsFit (Some p) = is_container p.0.kind ≡ false → p.1 ≡ leafless

fit_either : (a b : Option (Part Bare)) → IsFit a → IsFit b → IsFit (either a b)
fit_either None b h k = k
fit_either (Some p) b h k = h

parts_fit : (t : NodeTrees) (n : NodeId) → HasContainers (plain_trees t) → IsFit (part_at (mapped (λ n v. bare_of v) t) n)
parts_fit leafless n h = tt
parts_fit (tree x below after) n h = at (same x.0 n) (fit_either (part_at (mapped (λ n v. bare_of v) below) n) (part_at (mapped (λ n v. bare_of v) after) n) (parts_fit below n h.1.0) (parts_fit after n h.1.1))
  where
    leaf_is : (k : NodeKind) → is_container k ≡ false → is_leaf (kind_of k) ≡ true
    leaf_is kind.Grid e = absurd (true≢false e)
    leaf_is kind.Flex e = absurd (true≢false e)
    leaf_is (kind.Leaf content) e = refl

    at : (c : Bool) → IsFit (either (part_at (mapped (λ n v. bare_of v) below) n) (part_at (mapped (λ n v. bare_of v) after) n)) →
        IsFit (if c then Some (bare_of x.1, mapped (λ n v. bare_of v) below) else either (part_at (mapped (λ n v. bare_of v) below) n) (part_at (mapped (λ n v. bare_of v) after) n))
    at true k = λ leaf. no_trees below (h.0 (leaf_is x.1.kind leaf))
    at false k = k

pub leaves_bare : (t : NodeTrees) → HasContainers (plain_trees t) → LeavesAreBare (bare t)
unfolding bare label_of_bare
leaves_bare t h n c index is = at (part_at (bare t) n) refl (parts_fit t n h) is
  where
    at : (o : Option (Part Bare)) → part_at (bare t) n ≡ o → IsFit o → number_of (slice_get (tops (below_of o)) index) ≡ Some c → is_container (sight_at (bare t) n).label.kind ≡ true
    at None e fit k = absurd cc
    at (Some p) e fit k = go (is_container p.0.kind) refl
      where
        kind_is : is_container (sight_at (bare t) n).label.kind ≡ is_container p.0.kind
        kind_is = ap (λ (x : Label). is_container x.kind) (sight_part (bare t) n p e).its_label

        go : (c : Bool) → is_container p.0.kind ≡ c → is_container (sight_at (bare t) n).label.kind ≡ true
        go true f = kind_is ∙ f
        go false f = let none : number_of (slice_get (tops (below_of (Some p))) index) ≡ None = ap (λ u. number_of (slice_get (tops u) index)) (fit f) in absurd cc

-- ---- the containers

pub containers_chosen : (test : List ℕ → Bool) (t : NodeTrees) → length (chosen (λ (x : NodeId × Bare). is_container x.1.kind && test x.1.name) (bare t)) ≡ containers_by test (plain_trees t)
unfolding bare
containers_chosen test leafless = refl
containers_chosen test (tree x below after) =
    let pass : NodeId × Bare → Bool = λ (y : NodeId × Bare). is_container y.1.kind && test y.1.name in
    let mine : List NodeId = if is_container x.1.kind && test x.1.name then x.0 ∷ [] else [] in
    let lower : List NodeId = chosen pass (bare below) in
    let later : List NodeId = chosen pass (bare after) in
    omega (arith, length-append (mine ++ lower) later, length-append mine lower, own (is_container x.1.kind && test x.1.name) x.0, ap (λ c. one (c && test x.1.name)) (same_kind x.1.kind), containers_chosen test below, containers_chosen test after)
  where
    own : (c : Bool) (n : NodeId) → length (if c then n ∷ [] else []) ≡ one c
    own true n = refl
    own false n = refl
