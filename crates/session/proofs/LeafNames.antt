-- The leaves of a valid document, by their numbers: what is seen of them, and that their names differ.
use Rattle.std.proofs.Common.{◌≡◌, refl, ap, sym, subst, ◌∙◌, ℕ, ◌+◌, Bool, true, false, ◌||◌, List, Option, Some, None}
use Rattle.std.specs.Prelude.{⊤, if◌then◌else◌}
use Rattle.std.specs.Str.{bytes_eq}
use Rattle.std.proofs.lemmas.Bool.{false≢true, true≢false}
use Rattle.std.proofs.lemmas.Slice.Eq.{bytes_eq-Decides}
use Rattle.plain_tree.specs.Trees.{leafless, tree, map_trees}
use Rattle.node_arena.specs.declared.number.NodeId.{NodeId}
use Rattle.node_arena.specs.Numbers.{EachNode, Part, either, part_at, same, value_at, value_of}
use Rattle.node_arena.proofs.Same.{same_is}
use Rattle.tree_rules.specs.Chains.{Above, above_of, chain_of}
use Rattle.tree_rules.specs.Labels as rules
use Rattle.tree_rules.specs.Places.{Seen, above_root, first_of_two, seen_below}
use Rattle.tree_rules.specs.Queries.{is_container}
use Rattle.doc_text.specs.Growth.{holds}
use Rattle.doc_text.specs.Named as plain
use Rattle.placing.specs.declared.node.Node.{Node}
use Rattle.placing.specs.Nodes.{Bare, NodeTrees, bare, bare_of, label_in, label_of_bare, seen_or_nothing, sight_at}
use Rattle.page_tree.specs.Documents.{plain_trees}
use Rattle.sparing.specs.Memory.{AreNamed, IsLeaf}

-- ---- what is seen of a node

-- what is seen is the node that stands there
IsSeenOf : Option Seen → Option (Part Node) → Type 0
IsSeenOf None None = ⊤
IsSeenOf (Some s) None = ⊥
IsSeenOf None (Some p) = ⊥
IsSeenOf (Some s) (Some p) = s.label ≡ label_of_bare (bare_of p.0)

two_seen : (a b : Option Seen) (c d : Option (Part Node)) → IsSeenOf a c → IsSeenOf b d → IsSeenOf (first_of_two a b) (either c d)
unfolding IsSeenOf
two_seen None b None d p q = q
two_seen None b (Some y) d p q = absurd p
two_seen (Some s) b None d p q = absurd p
two_seen (Some s) b (Some y) d p q = p

all_seen : (t : NodeTrees) (n : NodeId) (above : Above) (k : ℕ) → IsSeenOf (seen_below label_in (λ x. same x.0 n) above k (bare t)) (part_at t n)
unfolding IsSeenOf bare
all_seen leafless n above k = tt
all_seen (tree x below after) n above k =
    let x' : NodeId × Bare = (x.0, bare_of x.1) in
    let lower = above_of (label_in x') (chain_of above k (label_in x')) (map_trees label_in (bare below)) in
    by_test (same x.0 n) (two_seen (seen_below label_in (λ y. same y.0 n) lower 0 (bare below)) (seen_below label_in (λ y. same y.0 n) above (k + 1) (bare after)) (part_at below n) (part_at after n) (all_seen below n lower 0) (all_seen after n above (k + 1)))
  where
    by_test : (b : Bool)
        → IsSeenOf (first_of_two (seen_below label_in (λ y. same y.0 n) (above_of (label_in (x.0, bare_of x.1)) (chain_of above k (label_in (x.0, bare_of x.1))) (map_trees label_in (bare below))) 0 (bare below)) (seen_below label_in (λ y. same y.0 n) above (k + 1) (bare after)))
        (either (part_at below n) (part_at after n))
        → IsSeenOf (if b then Some (record { label = label_in (x.0, bare_of x.1); chain = chain_of above k (label_in (x.0, bare_of x.1)); below = map_trees label_in (bare below) })
        else first_of_two (seen_below label_in (λ y. same y.0 n) (above_of (label_in (x.0, bare_of x.1)) (chain_of above k (label_in (x.0, bare_of x.1))) (map_trees label_in (bare below))) 0 (bare below)) (seen_below label_in (λ y. same y.0 n) above (k + 1) (bare after)))
        (if b then Some (x.1, below) else either (part_at below n) (part_at after n))
    by_test true q = refl
    by_test false q = q

-- a leaf is a node that stands there
pub record IsLeafOf (t : NodeTrees) (n : NodeId) : Type 0 where
  pub part : Part Node
  pub there : part_at t n ≡ Some part
  pub label : (sight_at (bare t) n).label ≡ label_of_bare (bare_of part.0)

pub leaf_there : (t : NodeTrees) (n : NodeId) → IsLeaf (bare t) n → IsLeafOf t n
unfolding sight_at IsSeenOf
leaf_there t n leaf = at (seen_below label_in (λ x. same x.0 n) above_root 0 (bare t)) (part_at t n) refl refl (all_seen t n above_root 0)
  where
    at : (s : Option Seen) (p : Option (Part Node)) → seen_below label_in (λ x. same x.0 n) above_root 0 (bare t) ≡ s → part_at t n ≡ p → IsSeenOf s p → IsLeafOf t n
    at None None e f q = absurd (true≢false (ap (λ (o : Option Seen). is_container (seen_or_nothing o).label.kind) (sym e) ∙ leaf))
    at (Some s) None e f q = absurd q
    at None (Some p) e f q = absurd q
    at (Some s) (Some p) e f q = record { part = p; there = f; label = ap (λ (o : Option Seen). (seen_or_nothing o).label) e ∙ q }

-- of a node that stands there
pub label_there : (t : NodeTrees) (n : NodeId) (v : Node) → value_at t n ≡ Some v → (sight_at (bare t) n).label ≡ label_of_bare (bare_of v)
unfolding sight_at IsSeenOf
label_there t n v g = at (seen_below label_in (λ x. same x.0 n) above_root 0 (bare t)) (part_at t n) refl g (all_seen t n above_root 0)
  where
    some_same : (x y : Node) → Some x ≡ Some y → x ≡ y
    some_same x y e = cc

    at : (s : Option Seen) (p : Option (Part Node)) → seen_below label_in (λ x. same x.0 n) above_root 0 (bare t) ≡ s → value_of p ≡ Some v → IsSeenOf s p → (sight_at (bare t) n).label ≡ label_of_bare (bare_of v)
    at None None e f q = absurd cc
    at (Some s) None e f q = absurd q
    at None (Some p) e f q = absurd q
    at (Some s) (Some p) e f q = ap (λ (o : Option Seen). (seen_or_nothing o).label) e ∙ q ∙ ap (λ (x : Node). label_of_bare (bare_of x)) (some_same p.0 v f)

-- what holds of each node holds of it
abbrev EachOf : (NodeId × Node → Type 0) → NodeId → Option (Part Node) → Type 0
EachOf P n None = ⊤
EachOf P n (Some p) = P (n, p.0)

two_each : (P : NodeId × Node → Type 0) (n : NodeId) (a b : Option (Part Node)) → EachOf P n a → EachOf P n b → EachOf P n (either a b)
two_each P n None b p q = q
two_each P n (Some x) b p q = p

parts_each : (P : NodeId × Node → Type 0) (t : NodeTrees) (n : NodeId) → EachNode P t → EachOf P n (part_at t n)
parts_each P leafless n h = tt
parts_each P (tree x below after) n h = by_test (same x.0 n) refl (two_each P n (part_at below n) (part_at after n) (parts_each P below n h.1.0) (parts_each P after n h.1.1))
  where
    by_test : (b : Bool) → same x.0 n ≡ b → EachOf P n (either (part_at below n) (part_at after n)) → EachOf P n (if b then Some (x.1, below) else either (part_at below n) (part_at after n))
    by_test true e q = subst (λ (m : NodeId). P (m, x.1)) (same_is x.0 n e) h.0
    by_test false e q = q

pub each_there : (P : NodeId × Node → Type 0) (t : NodeTrees) (n : NodeId) (p : Part Node) → EachNode P t → part_at t n ≡ Some p → P (n, p.0)
each_there P t n p h e = subst (EachOf P n) e (parts_each P t n h)

-- ---- names

-- the name of what stands there is one of the tree's
abbrev HoldsPart : NodeTrees → Option (Part Node) → Type 0
HoldsPart t None = ⊤
HoldsPart t (Some p) = holds (plain_trees t) p.0.name ≡ true

or_left : (a b : Bool) → a ≡ true → (a || b) ≡ true
or_left true b e = refl
or_left false b e = absurd (false≢true e)

or_right : (a b : Bool) → b ≡ true → (a || b) ≡ true
or_right true b e = refl
or_right false b e = e

holds_below : (x : NodeId × Node) (below after : NodeTrees) (o : Option (Part Node)) → HoldsPart below o → HoldsPart (tree x below after) o
holds_below x below after None h = tt
holds_below x below after (Some p) h = or_right (bytes_eq x.1.name p.0.name) _ (or_left (holds (plain_trees below) p.0.name) (holds (plain_trees after) p.0.name) h)

holds_after : (x : NodeId × Node) (below after : NodeTrees) (o : Option (Part Node)) → HoldsPart after o → HoldsPart (tree x below after) o
holds_after x below after None h = tt
holds_after x below after (Some p) h = or_right (bytes_eq x.1.name p.0.name) _ (or_right (holds (plain_trees below) p.0.name) (holds (plain_trees after) p.0.name) h)

two_hold : (t : NodeTrees) (a b : Option (Part Node)) → HoldsPart t a → HoldsPart t b → HoldsPart t (either a b)
two_hold t None b p q = q
two_hold t (Some x) b p q = p

parts_hold : (t : NodeTrees) (n : NodeId) → HoldsPart t (part_at t n)
parts_hold leafless n = tt
parts_hold (tree x below after) n =
    by_test (same x.0 n) (two_hold (tree x below after) (part_at below n) (part_at after n) (holds_below x below after (part_at below n) (parts_hold below n)) (holds_after x below after (part_at after n) (parts_hold after n)))
  where
    by_test : (b : Bool) → HoldsPart (tree x below after) (either (part_at below n) (part_at after n)) → HoldsPart (tree x below after) (if b then Some (x.1, below) else either (part_at below n) (part_at after n))
    by_test true q = or_left (bytes_eq x.1.name x.1.name) _ ((bytes_eq-Decides x.1.name x.1.name).1 refl)
    by_test false q = q

-- two numbers of one name are one
abbrev AreOne : NodeId → NodeId → Option (Part Node) → Option (Part Node) → Type 0
AreOne m n None b = ⊤
AreOne m n (Some p) None = ⊤
AreOne m n (Some p) (Some q) = p.0.name ≡ q.0.name → m ≡ n

-- where a name stands in one of two trees alone
abbrev AreApart : NodeTrees → NodeTrees → Type 0
AreApart t u = (name : List ℕ) → holds (plain_trees t) name ≡ true → holds (plain_trees u) name ≡ false

not_both : (t u : NodeTrees) (v w : Node) → AreApart t u → holds (plain_trees t) v.name ≡ true → holds (plain_trees u) w.name ≡ true → v.name ≡ w.name → ⊥
not_both t u v w apart p q e = false≢true (sym (apart v.name p) ∙ ap (holds (plain_trees u)) e ∙ q)

module _ (m n : NodeId) (below after : NodeTrees) (apart : AreApart below after) where
  two_one : (a b c d : Option (Part Node)) → HoldsPart below a → HoldsPart after b → HoldsPart below c → HoldsPart after d → AreOne m n a c → AreOne m n b d → AreOne m n (either a b) (either c d)
  two_one None b None d ha hb hc hd p q = q
  two_one None None (Some z) d ha hb hc hd p q = tt
  two_one None (Some y) (Some z) d ha hb hc hd p q = λ e. absurd (not_both below after z.0 y.0 apart hc hb (sym e))
  two_one (Some x) b None None ha hb hc hd p q = tt
  two_one (Some x) b None (Some w) ha hb hc hd p q = λ e. absurd (not_both below after x.0 w.0 apart ha hd e)
  two_one (Some x) b (Some z) d ha hb hc hd p q = p

-- a name that stands in none of two trees
one_here : (m n : NodeId) (v : Node) (under below after : NodeTrees) (c d : Option (Part Node)) → holds (plain_trees below) v.name ≡ false → holds (plain_trees after) v.name ≡ false → HoldsPart below c → HoldsPart after d → AreOne m n (Some (v, under)) (either c d)
one_here m n v under below after None None f g hc hd = tt
one_here m n v under below after None (Some w) f g hc hd = λ e. absurd (false≢true (sym g ∙ ap (holds (plain_trees after)) e ∙ hd))
one_here m n v under below after (Some z) d f g hc hd = λ e. absurd (false≢true (sym f ∙ ap (holds (plain_trees below)) e ∙ hc))

one_there : (m n : NodeId) (v : Node) (under below after : NodeTrees) (c d : Option (Part Node)) → holds (plain_trees below) v.name ≡ false → holds (plain_trees after) v.name ≡ false → HoldsPart below c → HoldsPart after d → AreOne m n (either c d) (Some (v, under))
one_there m n v under below after None None f g hc hd = tt
one_there m n v under below after None (Some w) f g hc hd = λ e. absurd (false≢true (sym g ∙ ap (holds (plain_trees after)) (sym e) ∙ hd))
one_there m n v under below after (Some z) d f g hc hd = λ e. absurd (false≢true (sym f ∙ ap (holds (plain_trees below)) (sym e) ∙ hc))

parts_one : (t : NodeTrees) (m n : NodeId) → plain.IsDistinct (plain_trees t) → AreOne m n (part_at t m) (part_at t n)
parts_one leafless m n d = tt
parts_one (tree x below after) m n d =
    by_tests (same x.0 m) (same x.0 n) refl refl
    (two_one m n below after d.1.1.0 (part_at below m) (part_at after m) (part_at below n) (part_at after n) (parts_hold below m) (parts_hold after m) (parts_hold below n) (parts_hold after n) (parts_one below m n d.1.1.1.0) (parts_one after m n d.1.1.1.1))
  where
    by_tests : (a b : Bool) → same x.0 m ≡ a → same x.0 n ≡ b → AreOne m n (either (part_at below m) (part_at after m)) (either (part_at below n) (part_at after n))
        → AreOne m n (if a then Some (x.1, below) else either (part_at below m) (part_at after m)) (if b then Some (x.1, below) else either (part_at below n) (part_at after n))
    by_tests true true e f q = λ g. sym (same_is x.0 m e) ∙ same_is x.0 n f
    by_tests true false e f q = one_here m n x.1 below below after (part_at below n) (part_at after n) d.0 d.1.0 (parts_hold below n) (parts_hold after n)
    by_tests false true e f q = one_there m n x.1 below below after (part_at below m) (part_at after m) d.0 d.1.0 (parts_hold below m) (parts_hold after m)
    by_tests false false e f q = q

-- The leaves of a tree whose names differ have their own names.
pub leaves_named : (t : NodeTrees) → plain.IsDistinct (plain_trees t) → AreNamed (bare t)
unfolding label_of_bare
leaves_named t d m n leaf other e =
    let here = leaf_there t m leaf in
    let there = leaf_there t n other in
    let names : here.part.0.name ≡ there.part.0.name = sym (ap (λ (x : rules.Label). x.name) here.label) ∙ e ∙ ap (λ (x : rules.Label). x.name) there.label in
    one here.part there.part here.there there.there names
  where
    one : (p q : Part Node) → part_at t m ≡ Some p → part_at t n ≡ Some q → p.0.name ≡ q.0.name → m ≡ n
    one p q f g = subst (AreOne m n (Some p)) g (subst (λ (o : Option (Part Node)). AreOne m n o (part_at t n)) f (parts_one t m n d))
