-- In a page whose document has no name twice, no number stands twice and no two nodes have one name.
use Rattle.std.proofs.Common.{◌≡◌, ◌≢◌, refl, sym, ap, ◌∙◌, subst, ℕ, Bool, true, false, List, Option, Some, None, IsSome, is_some}
use Rattle.std.specs.Prelude.{◌||◌}
use Rattle.std.specs.Str.{bytes_eq}
use Rattle.std.proofs.lemmas.Bool.{false≢true}
use Rattle.std.proofs.lemmas.Slice.Eq.{bytes_eq-Decides}
use Rattle.plain_tree.specs.Trees.{leafless, tree}
use Rattle.doc_text.specs.Growth.{holds}
use Rattle.doc_text.specs.Named.{IsDistinct as NamesDiffer}
use Rattle.node_arena.specs.declared.number.NodeId.{NodeId}
use Rattle.node_arena.specs.Numbers.{part_at, same, value_at, value_of}
use Rattle.node_arena.proofs.Same.{by_place, part_after, part_below, part_here, same_is}
use Rattle.node_arena.proofs.Standing.{some_is}
use Rattle.placing.specs.declared.node.Node.{Node}
use Rattle.placing.specs.Nodes.{Bare, IsLive, NodeTrees, bare, bare_of, label_of_bare}
use Rattle.placing.proofs.Bares.{live_bare, value_bare}
use Rattle.placing.proofs.Sights.{sight_label}
use Rattle.tree_rules.specs.Labels.{Label}
use Rattle.asked_names.specs.Asked.{AreNamed, name_in}
use Rattle.page_tree.specs.Documents.{plain_trees}

or_left : (a b : Bool) → a ≡ true → (a || b) ≡ true
or_left true b e = refl
or_left false b e = absurd (false≢true e)

or_right : (a b : Bool) → b ≡ true → (a || b) ≡ true
or_right true b e = refl
or_right false b e = e

same_name : (x y : List ℕ) → x ≡ y → bytes_eq x y ≡ true
same_name x y e = (bytes_eq-Decides x y).1 e

-- a node that stands somewhere
Stands : NodeTrees → NodeId → Node → Type 0
Stands t n v = value_at t n ≡ Some v

-- its name is one of the trees
stands_holds : (t : NodeTrees) (n : NodeId) (v : Node) → Stands t n v → holds (plain_trees t) v.name ≡ true
unfolding Stands
stands_holds leafless n v e = absurd cc
stands_holds (tree x below after) n v e =
    by_place x below n
    (λ p. let is : x.1 ≡ v = some_is x.1 v (ap value_of (sym (part_here x below after n p)) ∙ e) in
    or_left (bytes_eq x.1.name v.name) (holds (plain_trees below) v.name || holds (plain_trees after) v.name) (same_name x.1.name v.name (ap (λ (w : Node). w.name) is)))
    (λ p. or_right (bytes_eq x.1.name v.name) (holds (plain_trees below) v.name || holds (plain_trees after) v.name) (or_left (holds (plain_trees below) v.name) (holds (plain_trees after) v.name) (stands_holds below n v (ap value_of (sym (part_below x below after n p)) ∙ e))))
    (λ p. or_right (bytes_eq x.1.name v.name) (holds (plain_trees below) v.name || holds (plain_trees after) v.name) (or_right (holds (plain_trees below) v.name) (holds (plain_trees after) v.name) (stands_holds after n v (ap value_of (sym (part_after x below after n p)) ∙ e))))

clash : {A : Type 0} (t : NodeTrees) (name : List ℕ) → holds (plain_trees t) name ≡ false → holds (plain_trees t) name ≡ true → A
clash t name gone there = absurd (false≢true (sym gone ∙ there))

holds_as : (t : NodeTrees) (name other : List ℕ) → name ≡ other → holds (plain_trees t) name ≡ true → holds (plain_trees t) other ≡ true
holds_as t name other e h = subst (λ w. holds (plain_trees t) w ≡ true) e h

-- two nodes of one name are one
one_name : (t : NodeTrees) (n m : NodeId) (v w : Node) → NamesDiffer (plain_trees t) → Stands t n v → Stands t m w → v.name ≡ w.name → n ≡ m
unfolding Stands
one_name leafless n m v w d e f same = absurd cc
one_name (tree x below after) n m v w d e f same =
    by_place x below n
    (λ p. let is : x.1 ≡ v = some_is x.1 v (ap value_of (sym (part_here x below after n p)) ∙ e) in
    let named : w.name ≡ x.1.name = sym same ∙ ap (λ (u : Node). u.name) (sym is) in
    by_place x below m
    (λ q. sym (same_is x.0 n p.is) ∙ same_is x.0 m q.is)
    (λ q. clash below x.1.name d.0 (holds_as below w.name x.1.name named (stands_holds below m w (ap value_of (sym (part_below x below after m q)) ∙ f))))
    (λ q. clash after x.1.name d.1.0 (holds_as after w.name x.1.name named (stands_holds after m w (ap value_of (sym (part_after x below after m q)) ∙ f)))))
    (λ p. let lower = ap value_of (sym (part_below x below after n p)) ∙ e in
    by_place x below m
    (λ q. let is : x.1 ≡ w = some_is x.1 w (ap value_of (sym (part_here x below after m q)) ∙ f) in
    clash below x.1.name d.0 (holds_as below v.name x.1.name (same ∙ ap (λ (u : Node). u.name) (sym is)) (stands_holds below n v lower)))
    (λ q. one_name below n m v w d.1.1.1.0 lower (ap value_of (sym (part_below x below after m q)) ∙ f) same)
    (λ q. clash after w.name (d.1.1.0 w.name (holds_as below v.name w.name same (stands_holds below n v lower))) (stands_holds after m w (ap value_of (sym (part_after x below after m q)) ∙ f))))
    (λ p. let later = ap value_of (sym (part_after x below after n p)) ∙ e in
    by_place x below m
    (λ q. let is : x.1 ≡ w = some_is x.1 w (ap value_of (sym (part_here x below after m q)) ∙ f) in
    clash after x.1.name d.1.0 (holds_as after v.name x.1.name (same ∙ ap (λ (u : Node). u.name) (sym is)) (stands_holds after n v later)))
    (λ q. clash after v.name (d.1.1.0 v.name (holds_as below w.name v.name (sym same) (stands_holds below m w (ap value_of (sym (part_below x below after m q)) ∙ f)))) (stands_holds after n v later))
    (λ q. one_name after n m v w d.1.1.1.1 later (ap value_of (sym (part_after x below after m q)) ∙ f) same))

-- ---- names

pub names_apart : (t : NodeTrees) → NamesDiffer (plain_trees t) → AreNamed (bare t)
unfolding Stands label_of_bare
names_apart t d n m live also same_one = at (value_at t n) (value_at t m) refl refl
  where
    none : (k : NodeId) → IsLive (bare t) k → value_at t k ≡ None → ⊥
    none k h e = go (part_at t k) refl e
      where
        go : (o : Option _) → part_at t k ≡ o → value_of o ≡ None → ⊥
        go None f g = let gone : IsSome (part_at (bare t) k) = h in absurd (false≢true (ap is_some (sym f) ∙ sym (live_bare t k) ∙ gone))
        go (Some p) f g = absurd cc

    named : (k : NodeId) (v : Node) → value_at t k ≡ Some v → v.name ≡ name_in (bare t) k
    named k v e = ap (λ (x : Label). x.name) (sight_label (bare t) k (bare_of v) (sym (value_bare t k ∙ ap bare_value e)))
      where
        bare_value : Option Node → Option Bare
        bare_value None = None
        bare_value (Some w) = Some (bare_of w)

    at : (o p : Option Node) → value_at t n ≡ o → value_at t m ≡ p → n ≡ m
    at None p e f = absurd (none n live e)
    at (Some v) None e f = absurd (none m also f)
    at (Some v) (Some w) e f = one_name t n m v w d e f (named n v e ∙ same_one ∙ sym (named m w f))
