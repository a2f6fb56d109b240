-- What a walk measures are leaves of the document.
use Rattle.std.proofs.Common.{◌≡◌, refl, ap, sym, subst, ◌∙◌, ℕ, ◌+◌, Bool, true, false, ◌&&◌, ◌||◌, List, [], ◌∷◌, ◌++◌, Option, Some, None, if◌then◌else◌}
use Rattle.std.specs.Str.{bytes_eq}
use Rattle.std.proofs.lemmas.Bool.{false≢true}
use Rattle.std.proofs.lemmas.Slice.Eq.{bytes_eq-Decides}
use Rattle.plain_tree.specs.Trees.{leafless, tree, map_trees}
use Rattle.node_arena.specs.declared.number.NodeId.{NodeId}
use Rattle.node_arena.specs.Numbers.{EachNode, same, top_numbers}
use Rattle.outside.specs.declared.event.Event.{Event}
use Rattle.tree_rules.specs.declared.kind.NodeKind.{NodeKind}
use Rattle.tree_rules.specs.declared.kind.NodeKind.TheVariants as kind
use Rattle.tree_rules.specs.declared.query.Ask.{Ask}
use Rattle.tree_rules.specs.declared.query.Ask.TheVariants as ask
use Rattle.tree_rules.specs.declared.query.Query.{Query}
use Rattle.tree_rules.specs.Chains.{Above, above_of, chain_of}
use Rattle.tree_rules.specs.Labels as rules
use Rattle.tree_rules.specs.Places.{Seen, above_root, first_of_two, seen_below}
use Rattle.doc_text.specs.declared.document.Doc.{Doc}
use Rattle.doc_text.specs.Documents as plain
use Rattle.doc_text.specs.Edits.{tree_of}
use Rattle.placing.specs.Keeping.{is_leaf}
use Rattle.placing.specs.Nodes.{Bare, NodeTrees, BareTrees, bare, label_of_bare, label_in, seen_or_nothing, sight_at}
use Rattle.placing.specs.Walks.{Entry, events_at, events_by, events_of, leaf_events}
use Rattle.page_tree.specs.Documents.{kind_of, plain_trees}
use Rattle.page_tree.specs.Pages.{Held, document_of}
use Rattle.session.specs.Logs.{has_leaf, AreMeasuring}

-- ---- leaves of a tree

or_left : (a b : Bool) → a ≡ true → (a || b) ≡ true
or_left true b e = refl
or_left false b e = absurd (false≢true e)

or_right : (a b : Bool) → b ≡ true → (a || b) ≡ true
or_right true b e = refl
or_right false b e = e

and_both : (a b : Bool) → a ≡ true → b ≡ true → (a && b) ≡ true
and_both true b e f = f
and_both false b e f = absurd (false≢true e)

same_leaf : (k : NodeKind) → is_leaf k ≡ true → plain.is_leaf (kind_of k) ≡ true
same_leaf kind.Grid e = e
same_leaf kind.Flex e = e
same_leaf (kind.Leaf content) e = refl

-- the arena has one root, so its trees are the tree of the document
pub whole_tree : (h : Held) (root : NodeId) → top_numbers h.nodes.tree ≡ root ∷ [] → plain_trees h.nodes.tree ≡ tree_of (document_of h)
whole_tree h root e = at h.nodes.tree refl e
  where
    at : (t : NodeTrees) → h.nodes.tree ≡ t → top_numbers t ≡ root ∷ [] → plain_trees h.nodes.tree ≡ tree_of (document_of h)
    at leafless f e = absurd cc
    at (tree x below leafless) f e = ap plain_trees f ∙ sym (ap (λ (t : NodeTrees). tree_of (document_of (record h { nodes = record h.nodes { tree = t } }))) f)
    at (tree x below (tree y under after)) f e = absurd cc

module _ (doc : Doc) where
  -- a leaf that the rules see is one of the document
  abbrev pub IsNamed : rules.Label → Type 0
  IsNamed x = is_leaf x.kind ≡ true → has_leaf x.name (tree_of doc) ≡ true

  leaves_named : (t : NodeTrees) → ((name : List ℕ) → has_leaf name (plain_trees t) ≡ true → has_leaf name (tree_of doc) ≡ true) → EachNode (λ x. IsNamed (label_in x)) (bare t)
  unfolding bare label_of_bare
  leaves_named leafless h = tt
  leaves_named (tree x below after) h = (
    λ e. h x.1.name (or_left _ _ (and_both _ _ (same_leaf x.1.kind e) ((bytes_eq-Decides x.1.name x.1.name).1 refl))),
    (
      leaves_named below (λ name e. h name (or_right (plain.is_leaf (kind_of x.1.kind) && bytes_eq x.1.name name) _ (or_left (has_leaf name (plain_trees below)) _ e))),
      leaves_named after (λ name e. h name (or_right (plain.is_leaf (kind_of x.1.kind) && bytes_eq x.1.name name) _ (or_right (has_leaf name (plain_trees below)) _ e))),
    ),
  )

  -- what is seen of a node
  IsSeenNamed : Option Seen → Type 0
  IsSeenNamed None = Unit {0}
  IsSeenNamed (Some s) = IsNamed s.label

  first_named : (a b : Option Seen) → IsSeenNamed a → IsSeenNamed b → IsSeenNamed (first_of_two a b)
  unfolding IsSeenNamed
  first_named None b p q = q
  first_named (Some s) b p q = p

  seen_named : (b : BareTrees) (is : NodeId × Bare → Bool) (above : Above) (k : ℕ) → EachNode (λ x. IsNamed (label_in x)) b → IsSeenNamed (seen_below label_in is above k b)
  unfolding IsSeenNamed
  seen_named leafless is above k p = tt
  seen_named (tree x below after) is above k p =
      by_test (is x)
      (first_named (seen_below label_in is (above_of (label_in x) (chain_of above k (label_in x)) (map_trees label_in below)) 0 below) (seen_below label_in is above (k + 1) after)
      (seen_named below is (above_of (label_in x) (chain_of above k (label_in x)) (map_trees label_in below)) 0 p.1.0) (seen_named after is above (k + 1) p.1.1))
    where
      by_test : (b : Bool) → IsSeenNamed (first_of_two (seen_below label_in is (above_of (label_in x) (chain_of above k (label_in x)) (map_trees label_in below)) 0 below) (seen_below label_in is above (k + 1) after))
          → IsSeenNamed (if b then Some (record { label = label_in x; chain = chain_of above k (label_in x); below = map_trees label_in below })
          else first_of_two (seen_below label_in is (above_of (label_in x) (chain_of above k (label_in x)) (map_trees label_in below)) 0 below) (seen_below label_in is above (k + 1) after))
      by_test true q = p.0
      by_test false q = q

  sight_named : (b : BareTrees) (n : NodeId) → EachNode (λ x. IsNamed (label_in x)) b → IsNamed (sight_at b n).label
  unfolding sight_at IsSeenNamed
  sight_named b n p = at (seen_below label_in (λ x. same x.0 n) above_root 0 b) (seen_named b (λ x. same x.0 n) above_root 0 p)
    where
      at : (o : Option Seen) → IsSeenNamed o → IsNamed (seen_or_nothing o).label
      at None q = λ e. absurd (false≢true e)
      at (Some s) q = q

  -- ---- events

  each_leaf : (name : List ℕ) (a : Ask) (q : Query) → has_leaf name (tree_of doc) ≡ true → AreMeasuring doc (leaf_events name a q)
  each_leaf name ask.Inline q h = (h, (h, tt))
  each_leaf name ask.LendColumns q h = tt
  each_leaf name ask.Block q h = (h, tt)
  each_leaf name ask.LendRows q h = tt
  each_leaf name ask.Frames q h = tt

  each_by : (k : NodeKind) (name : List ℕ) (q : Query) → (is_leaf k ≡ true → has_leaf name (tree_of doc) ≡ true) → AreMeasuring doc (events_by k name q)
  each_by kind.Grid name q h = tt
  each_by kind.Flex name q h = tt
  each_by (kind.Leaf content) name q h = each_leaf name q.ask q (h refl)

  each_both : (xs ys : List Event) → AreMeasuring doc xs → AreMeasuring doc ys → AreMeasuring doc (xs ++ ys)
  each_both [] ys p q = q
  each_both (x ∷ xs) ys p q = (p.0, each_both xs ys p.1 q)

  each_front : (xs ys : List Event) → AreMeasuring doc (xs ++ ys) → AreMeasuring doc xs
  each_front [] ys p = tt
  each_front (x ∷ xs) ys p = (p.0, each_front xs ys p.1)

  module _ (b : BareTrees) (named : EachNode (λ x. IsNamed (label_in x)) b) where
    pub each_at : (n : NodeId) (q : Query) → AreMeasuring doc (events_at b n q)
    each_at n q = each_by (sight_at b n).label.kind (sight_at b n).label.name q (sight_named b n named)

    pub each_of : (added : List Entry) → AreMeasuring doc (events_of b added)
    each_of [] = tt
    each_of (e ∷ rest) = each_both (events_at b e.node e.query) (events_of b rest) (each_at e.node e.query) (each_of rest)

    -- the events of entries, and of a measuring that was cut off
    pub each_whole : (added : List Entry) → AreMeasuring doc (events_of b added ++ [])
    each_whole added = each_both (events_of b added) [] (each_of added) tt

    pub each_cut : (added : List Entry) (rest left : List Event) (n : NodeId) (q : Query) → rest ++ left ≡ events_at b n q → AreMeasuring doc (events_of b added ++ rest)
    each_cut added rest left n q e = each_both (events_of b added) rest (each_of added) (each_front rest left (subst (AreMeasuring doc) (sym e) (each_at n q)))

pub all_named : (h : Held) (root : NodeId) → top_numbers h.nodes.tree ≡ root ∷ [] → EachNode (λ x. IsNamed (document_of h) (label_in x)) (bare h.nodes.tree)
all_named h root e = leaves_named (document_of h) h.nodes.tree (λ name f. subst (λ t. has_leaf name t ≡ true) (whole_tree h root e) f)
