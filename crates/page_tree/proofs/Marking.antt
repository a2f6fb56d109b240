-- The numbers that are found are those of the marked names.
use Rattle.std.proofs.Common.{◌≡◌, ℕ, ℤ, ◌≤◌, ◌<◌, ◌+◌, Bool, true, false, not, ◌&&◌, List, [], ◌∷◌, ◌++◌, map, Option, Some, None, Result, Ok, Err, IsSome, refl, sym, ap, subst, ◌∙◌, arith, inl, inr}
use Rattle.std.specs.Prelude.{◌||◌, ◌⊎◌, IfOk, OnOk, if◌then◌else◌}
use Rattle.std.specs.List.{list_any}
use Rattle.std.specs.Ordering.{int_eq}
use Rattle.std.specs.Str.{bytes_eq}
use Rattle.std.proofs.lemmas.Bool.{or_parts}
use Rattle.std.proofs.lemmas.List.{append_assoc, append-nil}
use Rattle.plain_tree.specs.Trees.{Trees, leafless, tree, size_of}
use Rattle.node_arena.specs.declared.number.NodeId.{NodeId}
use Rattle.node_arena.specs.Numbers.{EachNode, IsChild, IsDistinct, Part, below_at, below_of, is_among, parent_at, part_at, same, second, times, value_at, value_of, way_up}
use Rattle.node_arena.proofs.Edited.{each_tree, tree_is}
use Rattle.node_arena.proofs.Parts.{each_weaker}
use Rattle.node_arena.proofs.Same.{After, Below, Here, by_place, cond_no, one_no, one_yes, same_from, same_is}
use Rattle.node_arena.proofs.Standing.{way_after, way_below, way_here}
use Rattle.layout_cache.specs.Reach.{from_tree}
use Rattle.layout_cache.proofs.Reaches.{from_size}
use Rattle.style_types.specs.Computed.{font_of}
use Rattle.tree_rules.specs.Documents.{first_font}
use Rattle.page_tree.specs.Fonts.{root_font}
use Rattle.style_types.specs.declared.declared.DeclaredValue.{DeclaredValue}
use Rattle.style_types.specs.declared.prop.Prop.{Prop}
use Rattle.doc_text.specs.Growth.{holds}
use Rattle.doc_text.specs.Label.{Label}
use Rattle.doc_text.specs.Named.{has_top}
use Rattle.doc_text.specs.Named as doc
use Rattle.doc_text.specs.Texts.{Word}
use Rattle.doc_text.proofs.Grown.{not_true}
use Rattle.edit_journal.specs.Changes.{Values}
use Rattle.placing.specs.declared.node.Node.{Node}
use Rattle.placing.specs.Nodes.{NodeTrees}
use Rattle.reach_frame.proofs.Frame.{not_both}
use Rattle.reach_frame.proofs.Marked.{among_append}
use Rattle.page_tree.specs.Documents.{plain_trees}
use Rattle.page_tree.specs.Filled.{AreNew}
use Rattle.page_tree.specs.Marking.{AddsMarked, AreMarked, IsNextBelow, numbers_below}
use Rattle.page_tree.specs.Reach.{font_below, font_in, gets_other_font, has_other_font, is_parent}
use Rattle.page_tree.specs.Registers.{AreNamed, Finds, Tells}
use Rattle.page_tree.proofs.Locals.{own_names}
use Rattle.page_tree.proofs.Lookups.{found_tree}
use Rattle.page_tree.proofs.Reaching.{each_with}
use Rattle.page_tree.proofs.Removals.{next_is}

-- ---- lists
turn_same : (a b : NodeId) → same a b ≡ same b a
turn_same a b = at (same a b) (same b a) refl refl
  where
    at : (c d : Bool) → same a b ≡ c → same b a ≡ d → same a b ≡ same b a
    at true d e f = e ∙ sym (same_from b a (sym (same_is a b e)))
    at false true e f = absurd (not_both (same a b) (same_from a b (sym (same_is b a f))) e)
    at false false e f = e ∙ sym f

pub each_any : (P : NodeId × Node → Type 0) (t : NodeTrees) → ((x : NodeId × Node) → P x) → EachNode P t
each_any P leafless f = tt
each_any P (tree x below after) f = (f x, (each_any P below f, each_any P after f))

-- nothing is added
pub none_added : (mark : Word → Bool) (t : NodeTrees) (old new : List NodeId) → new ≡ old → EachNode (λ x. mark x.1.name ≡ false) t → AddsMarked mark t old new
none_added mark t old new e n = each_weaker (λ x. mark x.1.name ≡ false) (λ x. is_among x.0 new ≡ (is_among x.0 old || mark x.1.name)) t (λ x f. ap (is_among x.0) e ∙ or_false (is_among x.0 old) ∙ ap (λ b. is_among x.0 old || b) (sym f)) n
  where
    or_false : (b : Bool) → b ≡ (b || false)
    or_false true = refl
    or_false false = refl

-- these are added
pub all_added : (mark : Word → Bool) (t : NodeTrees) (old more new : List NodeId) → new ≡ old ++ more → AreMarked mark t more → AddsMarked mark t old new
all_added mark t old more new e m = each_weaker (λ x. is_among x.0 more ≡ mark x.1.name) (λ x. is_among x.0 new ≡ (is_among x.0 old || mark x.1.name)) t (λ x f. ap (is_among x.0) e ∙ among_append x.0 old more ∙ ap (λ b. is_among x.0 old || b) f) m

pub one_marked : (mark : Word → Bool) (t : NodeTrees) (id : NodeId) → EachNode (λ x. same x.0 id ≡ mark x.1.name) t → AreMarked mark t (id ∷ [])
one_marked mark t id h = each_weaker (λ x. same x.0 id ≡ mark x.1.name) (λ x. is_among x.0 (id ∷ []) ≡ mark x.1.name) t (λ x e. or_none (same id x.0) ∙ turn_same id x.0 ∙ e) h
  where
    or_none : (b : Bool) → (b || false) ≡ b
    or_none true = refl
    or_none false = refl

-- where a test holds, and where it does not
pub added_if : (b : Bool) (mark : Word → Bool) (t : NodeTrees) (old new : List NodeId) → b ≡ true → AddsMarked mark t old new → AddsMarked (λ w. b && mark w) t old new
added_if b mark t old new e h = each_weaker (λ x. is_among x.0 new ≡ (is_among x.0 old || mark x.1.name)) (λ x. is_among x.0 new ≡ (is_among x.0 old || (b && mark x.1.name))) t (λ x k. k ∙ ap (λ c. is_among x.0 old || (c && mark x.1.name)) (sym e)) h

pub added_not : (b : Bool) (mark : Word → Bool) (t : NodeTrees) (old new : List NodeId) → b ≡ false → new ≡ old → AddsMarked (λ w. b && mark w) t old new
added_not b mark t old new e f = none_added (λ w. b && mark w) t old new f (each_any (λ x. (b && mark x.1.name) ≡ false) t (λ x. ap (λ c. c && mark x.1.name) e))

-- one after another
pub first_added : (a : Word → Bool) (t : NodeTrees) (new : List NodeId) → AddsMarked a t [] new → AreMarked a t new
first_added a t new h = h

pub then_added : (a b : Word → Bool) (t : NodeTrees) (old new : List NodeId) → AreMarked a t old → AddsMarked b t old new → AreMarked (λ w. a w || b w) t new
then_added a b t old new h k = each_with (λ x. is_among x.0 old ≡ a x.1.name) (λ x. is_among x.0 new ≡ (is_among x.0 old || b x.1.name)) (λ x. is_among x.0 new ≡ (a x.1.name || b x.1.name)) t (λ x p q. q ∙ ap (λ c. c || b x.1.name) p) h k

pub or_again : (a b c : Bool) → ((a || b) || c) ≡ (a || (b || c))
or_again true b c = refl
or_again false b c = refl

pub two_added : (a b : Word → Bool) (t : NodeTrees) (one two : List NodeId) → AddsMarked a t [] one → AddsMarked b t one two → AreMarked (λ w. a w || b w) t two
two_added a b t one two h k = then_added a b t one two h k

pub three_added : (a b c : Word → Bool) (t : NodeTrees) (one two three : List NodeId) → AddsMarked a t [] one → AddsMarked b t one two → AddsMarked c t two three → AreMarked (λ w. a w || (b w || c w)) t three
three_added a b c t one two three h k l =
    each_weaker (λ x. is_among x.0 three ≡ ((a x.1.name || b x.1.name) || c x.1.name)) (λ x. is_among x.0 three ≡ (a x.1.name || (b x.1.name || c x.1.name))) t (λ x e. e ∙ or_again (a x.1.name) (b x.1.name) (c x.1.name))
    (then_added (λ w. a w || b w) c t two three (two_added a b t one two h k) l)

pub four_added : (a b c d : Word → Bool) (t : NodeTrees) (one two three four : List NodeId) → AddsMarked a t [] one → AddsMarked b t one two → AddsMarked c t two three → AddsMarked d t three four → AreMarked (λ w. a w || (b w || (c w || d w))) t four
four_added a b c d t one two three four h k l m =
    each_weaker (λ x. is_among x.0 four ≡ ((a x.1.name || (b x.1.name || c x.1.name)) || d x.1.name)) (λ x. is_among x.0 four ≡ (a x.1.name || (b x.1.name || (c x.1.name || d x.1.name)))) t
    (λ x e. e ∙ or_again (a x.1.name) (b x.1.name || c x.1.name) (d x.1.name) ∙ ap (λ z. a x.1.name || z) (or_again (b x.1.name) (c x.1.name) (d x.1.name))) (then_added (λ w. a w || (b w || c w)) d t three four (three_added a b c t one two three h k l) m)

-- ---- the node of a name
pub no_name : (t : NodeTrees) (name : Word) → holds (plain_trees t) name ≡ false → EachNode (λ x. bytes_eq x.1.name name ≡ false) t
no_name leafless name h = tt
no_name (tree x below after) name h =
    let first = or_parts (bytes_eq x.1.name name) (holds (plain_trees below) name || holds (plain_trees after) name) h in
    let rest = or_parts (holds (plain_trees below) name) (holds (plain_trees after) name) first.1 in
    (first.0, (no_name below name rest.0, no_name after name rest.1))

-- ---- the parent of a number
abbrev pub told_by : Option NodeId → NodeId → Bool
told_by None k = false
told_by (Some q) k = same k q

no_parent : (s : NodeTrees) (id : NodeId) (name w : Word) → Tells id name s → times id s ≡ 0 → is_parent (plain_trees s) name w ≡ false
no_parent leafless id name w h z = refl
no_parent (tree x below after) id name w h z =
    (λ i. (bytes_eq x.1.name w && no_top below id name h.1.0 (omega (arith, z)) i) || (no_parent below id name w h.1.0 (omega (arith, z)) i || no_parent after id name w h.1.1 (omega (arith, z)) i))
    ∙ and_none (bytes_eq x.1.name w)
  where
    and_none : (b : Bool) → ((b && false) || (false || false)) ≡ false
    and_none true = refl
    and_none false = refl

    no_top : (s : NodeTrees) (id : NodeId) (name : Word) → Tells id name s → times id s ≡ 0 → has_top (plain_trees s) name ≡ false
    no_top leafless id name h z = refl
    no_top (tree y under later) id name h z =
        (λ i. if (sym h.0 ∙ own (same y.0 id) refl) i then true else has_top (plain_trees later) name) ∙ no_top later id name h.1.1 (omega (arith, z))
      where
        own : (c : Bool) → same y.0 id ≡ c → same y.0 id ≡ false
        own true e = absurd (omega (arith, z, one_yes (same y.0 id) e))
        own false e = e

pub no_tops : (s : NodeTrees) (id : NodeId) (name : Word) → Tells id name s → times id s ≡ 0 → has_top (plain_trees s) name ≡ false
no_tops leafless id name h z = refl
no_tops (tree y under later) id name h z = (λ i. if (sym h.0 ∙ own (same y.0 id) refl) i then true else has_top (plain_trees later) name) ∙ no_tops later id name h.1.1 (omega (arith, z))
  where
    own : (c : Bool) → same y.0 id ≡ c → same y.0 id ≡ false
    own true e = absurd (omega (arith, z, one_yes (same y.0 id) e))
    own false e = e

-- a number at the top has none above it, and another has one
IsTop : NodeTrees → NodeId → Word → Type 0
IsTop s id name = (has_top (plain_trees s) name ≡ true) × (way_up s id ≡ id ∷ [])

IsLow : NodeTrees → NodeId → Word → Type 0
IsLow s id name = (has_top (plain_trees s) name ≡ false) × ((a : NodeId) × ((b : NodeId) × ((rest : List NodeId) × (way_up s id ≡ a ∷ b ∷ rest))))

top_split : (s : NodeTrees) (id : NodeId) (name : Word) → Tells id name s → IsDistinct s → 1 ≤ times id s → IsTop s id name ⊎ IsLow s id name
unfolding IsTop IsLow
top_split leafless id name h d l = absurd (omega (arith, l))
top_split (tree x below after) id name h d l = by_place x below id here (under (λ b. top_split below id name h.1.0 (λ n. let f = d n in omega (arith, f)) b)) (later (λ b. top_split after id name h.1.1 (λ n. let f = d n in omega (arith, f)) b))
  where
    here : Here x id → ((has_top (plain_trees (tree x below after)) name ≡ true) × (way_up (tree x below after) id ≡ id ∷ [])) ⊎ ((has_top (plain_trees (tree x below after)) name ≡ false) × ((a : NodeId) × ((b : NodeId) × ((rest : List NodeId) × (way_up (tree x below after) id ≡ a ∷ b ∷ rest)))))
    here g = inl (ap (λ b. if b then true else has_top (plain_trees after) name) (sym h.0 ∙ g.is), way_here x below after id g)

    under : (1 ≤ times id below → ((has_top (plain_trees below) name ≡ true) × (way_up below id ≡ id ∷ [])) ⊎ ((has_top (plain_trees below) name ≡ false) × ((a : NodeId) × ((b : NodeId) × ((rest : List NodeId) × (way_up below id ≡ a ∷ b ∷ rest)))))) → Below x below id →
        ((has_top (plain_trees (tree x below after)) name ≡ true) × (way_up (tree x below after) id ≡ id ∷ [])) ⊎ ((has_top (plain_trees (tree x below after)) name ≡ false) × ((a : NodeId) × ((b : NodeId) × ((rest : List NodeId) × (way_up (tree x below after) id ≡ a ∷ b ∷ rest)))))
    under f g = inr (not_top, at (f g.in_below))
      where
        not_top : has_top (plain_trees (tree x below after)) name ≡ false
        not_top = let c = d id in let b = g.in_below in ap (λ b. if b then true else has_top (plain_trees after) name) (sym h.0 ∙ g.not) ∙ no_tops after id name h.1.1 (omega (arith, c, b))

        at : ((has_top (plain_trees below) name ≡ true) × (way_up below id ≡ id ∷ [])) ⊎ ((has_top (plain_trees below) name ≡ false) × ((a : NodeId) × ((b : NodeId) × ((rest : List NodeId) × (way_up below id ≡ a ∷ b ∷ rest))))) →
            (a : NodeId) × ((b : NodeId) × ((rest : List NodeId) × (way_up (tree x below after) id ≡ a ∷ b ∷ rest)))
        at (inl t) = (id, (x.0, ([], way_below x below after id g ∙ ap (λ w. w ++ x.0 ∷ []) t.1)))
        at (inr t) = (t.1.0, (t.1.1.0, (t.1.1.1.0 ++ x.0 ∷ [], way_below x below after id g ∙ ap (λ w. w ++ x.0 ∷ []) t.1.1.1.1)))

    later : (1 ≤ times id after → ((has_top (plain_trees after) name ≡ true) × (way_up after id ≡ id ∷ [])) ⊎ ((has_top (plain_trees after) name ≡ false) × ((a : NodeId) × ((b : NodeId) × ((rest : List NodeId) × (way_up after id ≡ a ∷ b ∷ rest)))))) → After x below id →
        ((has_top (plain_trees (tree x below after)) name ≡ true) × (way_up (tree x below after) id ≡ id ∷ [])) ⊎ ((has_top (plain_trees (tree x below after)) name ≡ false) × ((a : NodeId) × ((b : NodeId) × ((rest : List NodeId) × (way_up (tree x below after) id ≡ a ∷ b ∷ rest)))))
    later f g = at (f (omega (arith, l, one_no (same x.0 id) g.not, g.none)))
      where
        same_top : has_top (plain_trees (tree x below after)) name ≡ has_top (plain_trees after) name
        same_top = ap (λ b. if b then true else has_top (plain_trees after) name) (sym h.0 ∙ g.not)

        at : ((has_top (plain_trees after) name ≡ true) × (way_up after id ≡ id ∷ [])) ⊎ ((has_top (plain_trees after) name ≡ false) × ((a : NodeId) × ((b : NodeId) × ((rest : List NodeId) × (way_up after id ≡ a ∷ b ∷ rest))))) →
            ((has_top (plain_trees (tree x below after)) name ≡ true) × (way_up (tree x below after) id ≡ id ∷ [])) ⊎ ((has_top (plain_trees (tree x below after)) name ≡ false) × ((a : NodeId) × ((b : NodeId) × ((rest : List NodeId) × (way_up (tree x below after) id ≡ a ∷ b ∷ rest)))))
        at (inl t) = inl (same_top ∙ t.0, way_after x below after id g ∙ t.1)
        at (inr t) = inr (same_top ∙ t.0, (t.1.0, (t.1.1.0, (t.1.1.1.0, way_after x below after id g ∙ t.1.1.1.1))))

parent_is : (s : NodeTrees) (id k : NodeId) (name w : Word) → Tells id name s → Tells k w s → IsDistinct s → is_parent (plain_trees s) name w ≡ told_by (second (way_up s id)) k
unfolding IsTop IsLow
parent_is leafless id k name w h g d = refl
parent_is (tree x below after) id k name w h g d = by_place x below id here (under (parent_is below id k name w h.1.0 g.1.0 (λ n. let f = d n in omega (arith, f)))) (later (parent_is after id k name w h.1.1 g.1.1 (λ n. let f = d n in omega (arith, f))))
  where
    few : times id (tree x below after) ≤ 1
    few = d id

    and_none : (b : Bool) → ((b && false) || (false || false)) ≡ false
    and_none true = refl
    and_none false = refl

    and_last : (b c : Bool) → ((b && false) || (c || false)) ≡ c
    and_last true true = refl
    and_last true false = refl
    and_last false true = refl
    and_last false false = refl

    and_after : (b c : Bool) → ((b && false) || (false || c)) ≡ c
    and_after true c = refl
    and_after false c = refl

    and_own : (b : Bool) → ((b && true) || (false || false)) ≡ b
    and_own true = refl
    and_own false = refl

    here : Here x id → is_parent (plain_trees (tree x below after)) name w ≡ told_by (second (way_up (tree x below after) id)) k
    here e =
        let o = one_yes (same x.0 id) e.is in
        (λ i. (bytes_eq x.1.name w && no_tops below id name h.1.0 (omega (arith, few, o)) i) || (no_parent below id name w h.1.0 (omega (arith, few, o)) i || no_parent after id name w h.1.1 (omega (arith, few, o)) i))
        ∙ and_none (bytes_eq x.1.name w) ∙ sym (ap (λ y. told_by (second y) k) (way_here x below after id e))

    under : is_parent (plain_trees below) name w ≡ told_by (second (way_up below id)) k → Below x below id → is_parent (plain_trees (tree x below after)) name w ≡ told_by (second (way_up (tree x below after) id)) k
    under r e = at (top_split below id name h.1.0 (λ n. let f = d n in omega (arith, f)) e.in_below)
      where
        none : is_parent (plain_trees after) name w ≡ false
        none = let b = e.in_below in no_parent after id name w h.1.1 (omega (arith, few, b))

        at : ((has_top (plain_trees below) name ≡ true) × (way_up below id ≡ id ∷ [])) ⊎ ((has_top (plain_trees below) name ≡ false) × ((a : NodeId) × ((b : NodeId) × ((rest : List NodeId) × (way_up below id ≡ a ∷ b ∷ rest))))) →
            is_parent (plain_trees (tree x below after)) name w ≡ told_by (second (way_up (tree x below after) id)) k
        at (inl t) =
            (λ i. (bytes_eq x.1.name w && t.0 i) || ((r ∙ ap (λ y. told_by (second y) k) t.1) i || none i))
            ∙ and_own (bytes_eq x.1.name w) ∙ sym g.0 ∙ turn_same x.0 k
            ∙ sym (ap (λ y. told_by (second y) k) (way_below x below after id e ∙ ap (λ y. y ++ x.0 ∷ []) t.1))
        at (inr t) =
            (λ i. (bytes_eq x.1.name w && t.0 i) || ((r ∙ ap (λ y. told_by (second y) k) t.1.1.1.1) i || none i))
            ∙ and_last (bytes_eq x.1.name w) (same k t.1.1.0)
            ∙ sym (ap (λ y. told_by (second y) k) (way_below x below after id e ∙ ap (λ y. y ++ x.0 ∷ []) t.1.1.1.1))

    later : is_parent (plain_trees after) name w ≡ told_by (second (way_up after id)) k → After x below id → is_parent (plain_trees (tree x below after)) name w ≡ told_by (second (way_up (tree x below after) id)) k
    later r e =
        (λ i. (bytes_eq x.1.name w && no_tops below id name h.1.0 e.none i) || (no_parent below id name w h.1.0 e.none i || r i))
        ∙ and_after (bytes_eq x.1.name w) (told_by (second (way_up after id)) k) ∙ sym (ap (λ y. told_by (second y) k) (way_after x below after id e))

-- the parent that a number tells is the one of the name
pub parent_marked : (t : NodeTrees) (id q : NodeId) (name : Word) → AreNamed t → Tells id name t → IsDistinct t → parent_at t id ≡ Some q → AreMarked (λ w. is_parent (plain_trees t) name w) t (q ∷ [])
parent_marked t id q name n h d e =
    one_marked (λ w. is_parent (plain_trees t) name w) t q
    (each_weaker (λ x. Tells x.0 x.1.name t) (λ x. same x.0 q ≡ is_parent (plain_trees t) name x.1.name) t (λ x g. sym (parent_is t id x.0 name x.1.name h g d ∙ ap (λ o. told_by o x.0) e)) n)

pub parent_none : (t : NodeTrees) (id : NodeId) (name : Word) → AreNamed t → Tells id name t → IsDistinct t → parent_at t id ≡ None → EachNode (λ x. is_parent (plain_trees t) name x.1.name ≡ false) t
parent_none t id name n h d e = each_weaker (λ x. Tells x.0 x.1.name t) (λ x. is_parent (plain_trees t) name x.1.name ≡ false) t (λ x g. parent_is t id x.0 name x.1.name h g d ∙ ap (λ o. told_by o x.0) e) n

-- no node is the parent of a name that is not there
nowhere : (s : NodeTrees) (name w : Word) → EachNode (λ x. bytes_eq x.1.name name ≡ false) s → (has_top (plain_trees s) name ≡ false) × (is_parent (plain_trees s) name w ≡ false)
nowhere leafless name w h = (refl, refl)
nowhere (tree x below after) name w h =
    let b = nowhere below name w h.1.0 in
    let a = nowhere after name w h.1.1 in (
      ap (λ c. if c then true else has_top (plain_trees after) name) h.0 ∙ a.0,
      (λ i. (bytes_eq x.1.name w && b.0 i) || (b.1 i || a.1 i)) ∙ and_none (bytes_eq x.1.name w),
    )
  where
    and_none : (b : Bool) → ((b && false) || (false || false)) ≡ false
    and_none true = refl
    and_none false = refl

pub parent_nowhere : (t : NodeTrees) (name : Word) → holds (plain_trees t) name ≡ false → EachNode (λ x. is_parent (plain_trees t) name x.1.name ≡ false) t
parent_nowhere t name h = each_any (λ x. is_parent (plain_trees t) name x.1.name ≡ false) t (λ x. (nowhere t name x.1.name (no_name t name h)).1)

-- ---- the nodes below a number
module _ (k : NodeId) (w : Word) where
  pub all_numbers : (e f r : ℤ) (s : NodeTrees) → Tells k w s → is_among k (numbers_below true e f r s) ≡ holds (plain_trees s) w
  all_numbers e f r leafless h = refl
  all_numbers e f r (tree x below after) h =
      (λ i. turn_same x.0 k i || among_append k (numbers_below true (font_of e r x.1.declared) (font_of f r x.1.declared) r below) (numbers_below true e f r after) i)
      ∙ ap (λ c. c || (is_among k (numbers_below true (font_of e r x.1.declared) (font_of f r x.1.declared) r below) || is_among k (numbers_below true e f r after))) (sym (turn_same x.0 k) ∙ h.0)
      ∙ (λ i. bytes_eq x.1.name w || (all_numbers (font_of e r x.1.declared) (font_of f r x.1.declared) r below h.1.0 i || all_numbers e f r after h.1.1 i))

  pub font_numbers : (e f r : ℤ) (s : NodeTrees) → Tells k w s → is_among k (numbers_below false e f r s) ≡ has_other_font e f r (plain_trees s) w
  font_numbers e f r leafless h = refl
  font_numbers e f r (tree x below after) h =
      head (not (int_eq (font_of e r x.1.declared) (font_of f r x.1.declared)))
      ∙ (λ i. (h.0 i && not (int_eq (font_of e r x.1.declared) (font_of f r x.1.declared))) || (font_numbers (font_of e r x.1.declared) (font_of f r x.1.declared) r below h.1.0 i || font_numbers e f r after h.1.1 i))
    where
      low : List NodeId
      low = numbers_below false (font_of e r x.1.declared) (font_of f r x.1.declared) r below

      rest : List NodeId
      rest = numbers_below false e f r after

      and_true : (b : Bool) → b ≡ (b && true)
      and_true true = refl
      and_true false = refl

      and_false : (b : Bool) → false ≡ (b && false)
      and_false true = refl
      and_false false = refl

      head : (c : Bool) → is_among k ((if c then x.0 ∷ [] else []) ++ (low ++ rest)) ≡ ((same x.0 k && c) || (is_among k low || is_among k rest))
      head true = (λ i. and_true (same x.0 k) i || among_append k low rest i)
      head false = among_append k low rest ∙ ap (λ b. b || (is_among k low || is_among k rest)) (and_false (same x.0 k))

each_below : (P : NodeId × Node → Type 0) (t : NodeTrees) (id : NodeId) (q : Part Node) → IsDistinct t → part_at t id ≡ Some q → EachNode P t → EachNode P q.1
each_below P t id q d e h = (subst (EachNode P) (tree_is id t q (d id) e) (each_tree id P t h)).1.0

-- the numbers of all below the node of a name
pub below_marked : (t : NodeTrees) (name : Word) (id : NodeId) (e f r : ℤ) → AreNamed t → IsDistinct t → Finds t name (Some id) → AreMarked (λ w. holds (doc.below_at name (plain_trees t)) w) t (numbers_below true e f r (below_at t id))
below_marked t name id e f r n d h = at (part_at t id) refl h.live
  where
    at : (o : Option (Part Node)) → part_at t id ≡ o → IsSome o → AreMarked (λ w. holds (doc.below_at name (plain_trees t)) w) t (numbers_below true e f r (below_at t id))
    at None g l = absurd cc
    at (Some q) g l =
        each_weaker (λ x. Tells x.0 x.1.name t) (λ x. is_among x.0 (numbers_below true e f r (below_at t id)) ≡ holds (doc.below_at name (plain_trees t)) x.1.name) t
        (λ x tells. ap (λ o. is_among x.0 (numbers_below true e f r (below_of o))) g ∙ all_numbers x.0 x.1.name e f r q.1 (each_below (λ y. same y.0 x.0 ≡ bytes_eq y.1.name x.1.name) t id q d g tells)
        ∙ sym (ap (λ s. holds (doc.below_of s) x.1.name) (found_tree t name id q h g))) n

-- those below it whose font size is another under another node
pub fonts_marked : (t : NodeTrees) (name : Word) (id : NodeId) (v : Node) (e p r : ℤ) → AreNamed t → IsDistinct t → Finds t name (Some id) → value_at t id ≡ Some v →
    AreMarked (λ w. gets_other_font e p r (doc.tree_at name (plain_trees t)) w) t (numbers_below false e (font_of p r v.declared) r (below_at t id))
fonts_marked t name id v e p r n d h there = at (part_at t id) refl h.live
  where
    at : (o : Option (Part Node)) → part_at t id ≡ o → IsSome o → AreMarked (λ w. gets_other_font e p r (doc.tree_at name (plain_trees t)) w) t (numbers_below false e (font_of p r v.declared) r (below_at t id))
    at None g l = absurd cc
    at (Some q) g l =
        let is : q.0 ≡ v = some_node q.0 v (ap value_of (sym g) ∙ there) in
        each_weaker (λ x. Tells x.0 x.1.name t) (λ x. is_among x.0 (numbers_below false e (font_of p r v.declared) r (below_at t id)) ≡ gets_other_font e p r (doc.tree_at name (plain_trees t)) x.1.name) t
        (λ x tells. (λ i. is_among x.0 (numbers_below false e (font_of p r (sym is i).declared) r (below_of (g i)))) ∙ font_numbers x.0 x.1.name e (font_of p r q.0.declared) r q.1 (each_below (λ y. same y.0 x.0 ≡ bytes_eq y.1.name x.1.name) t id q d g tells)
        ∙ sym (ap (λ s. gets_other_font e p r s x.1.name) (found_tree t name id q h g))) n
      where
        some_node : (a b : Node) → Some a ≡ Some b → a ≡ b
        some_node a b e = cc

-- ---- one child after another
pub next_below : (old new root : ℤ) (t : NodeTrees) (n : NodeId) (i : ℕ) (c : NodeId) (v : Node) (old_font new_font : ℤ) → IsChild t n i c → Some v ≡ value_at t c → old_font ≡ font_of old root v.declared → new_font ≡ font_of new root v.declared → IsNextBelow old new root t n i c old_font new_font
next_below old new root t n i c v old_font new_font h e f g =
    let is = next_is t n i c v h e in
    let same_node : v ≡ is.value = some_is v is.value (e ∙ is.there) in
    record {
      value = is.value;
      next = is.next;
      old_is = ap (λ (w : Node). font_of old root w.declared) (sym same_node) ∙ sym f;
      new_is = ap (λ (w : Node). font_of new root w.declared) (sym same_node) ∙ sym g;
    }
  where
    some_is : (a b : Node) → Some a ≡ Some b → a ≡ b
    some_is a b q = cc

pub below_smaller : (old new root : ℤ) (t : NodeTrees) (n : NodeId) (i : ℕ) (c : NodeId) (old_font new_font : ℤ) → IsNextBelow old new root t n i c old_font new_font → size_of (below_at t c) < size_of (below_at t n)
below_smaller old new root t n i c old_font new_font h = omega (arith, from_size (below_at t n) i, ap size_of h.next)

pub ruleset falls = (below_smaller)

pub next_numbers : (all : Bool) (old new root : ℤ) (t : NodeTrees) (n : NodeId) (i : ℕ) (c : NodeId) (old_font new_font : ℤ) (found pushed after whole : List NodeId) → IsNextBelow old new root t n i c old_font new_font →
    pushed ≡ found ++ (if all || not (int_eq old_font new_font) then c ∷ [] else []) → after ≡ pushed ++ numbers_below all old_font new_font root (below_at t c) → found ++ numbers_below all old new root (from_tree i (below_at t n)) ≡ whole →
    after ++ numbers_below all old new root (from_tree (i + 1) (below_at t n)) ≡ whole
next_numbers all old new root t n i c old_font new_font found pushed after whole h p a w =
    ap (λ z. z ++ rest) (a ∙ ap (λ z. z ++ low) p) ∙ append_assoc (found ++ own) low rest ∙ append_assoc found own (low ++ rest)
    ∙ sym (ap (λ z. found ++ z) (ap (numbers_below all old new root) h.next ∙ (λ i. (if all || not (int_eq (h.old_is i) (h.new_is i)) then c ∷ [] else []) ++ (numbers_below all (h.old_is i) (h.new_is i) root (below_at t c) ++ rest))))
    ∙ w
  where
    own : List NodeId
    own = if all || not (int_eq old_font new_font) then c ∷ [] else []

    low : List NodeId
    low = numbers_below all old_font new_font root (below_at t c)

    rest : List NodeId
    rest = numbers_below all old new root (from_tree (i + 1) (below_at t n))

-- ---- values
pub any_value : (f : Prop → Bool) (values : Values) → list_any (λ (v : Prop × Option DeclaredValue). f v.0) values ≡ list_any f (map (λ (v : Prop × Option DeclaredValue). v.0) values)
any_value f [] = refl
any_value f (v ∷ values) = ap (λ b. f v.0 || b) (any_value f values)

-- ---- trees that are new
pub brought_marked : (parent : Word) (new : Trees Label) (t : NodeTrees) (numbers : List NodeId) → AreNew new (plain_trees t) → AreMarked (λ w. bytes_eq w parent) t numbers → AreMarked (λ w. bytes_eq w parent || holds new w) t numbers
brought_marked parent new t numbers fresh m =
    each_with (λ x. holds (plain_trees t) x.1.name ≡ true) (λ x. is_among x.0 numbers ≡ bytes_eq x.1.name parent) (λ x. is_among x.0 numbers ≡ (bytes_eq x.1.name parent || holds new x.1.name)) t
    (λ x h e. e ∙ or_none (bytes_eq x.1.name parent) (holds new x.1.name) (not_true (holds new x.1.name) (λ g. not_both (holds (plain_trees t) x.1.name) h (fresh x.1.name g)))) (own_names t) m
  where
    or_none : (a b : Bool) → b ≡ false → a ≡ (a || b)
    or_none true b e = refl
    or_none false b e = sym e

pub all_numbers_found : (all : Bool) (before after root : ℤ) (t : NodeTrees) (n : NodeId) (i : ℕ) (found whole : List NodeId) → from_tree i (below_at t n) ≡ leafless → found ++ numbers_below all before after root (from_tree i (below_at t n)) ≡ whole → found ≡ whole
all_numbers_found all before after root t n i found whole e w = sym (append-nil found) ∙ sym (ap (λ u. found ++ numbers_below all before after root u) e) ∙ w

-- ---- what holds after an Ok
pub on_ok : {A E : Type 0} (r : Result A E) (P Q : Type 0) → (P → Q) → OnOk r P → OnOk r Q
on_ok (Ok x) P Q f h = f h
on_ok (Err e) P Q f h = tt

pub if_ok : {A E : Type 0} (r : Result A E) (P Q : A → Type 0) → ((x : A) → P x → Q x) → IfOk r P → IfOk r Q
if_ok (Ok x) P Q f h = f x h
if_ok (Err e) P Q f h = tt

-- ---- the font size of a name that no node has
none_font_below : (p r other : ℤ) (s : NodeTrees) (name : Word) → EachNode (λ x. bytes_eq x.1.name name ≡ false) s → font_below p r name (plain_trees s) other ≡ other
none_font_below p r other leafless name h = refl
none_font_below p r other (tree x below after) name h =
    cond_no (bytes_eq x.1.name name) (font_of p r x.1.declared) _ h.0
    ∙ none_font_below (font_of p r x.1.declared) r (font_below p r name (plain_trees after) other) below name h.1.0 ∙ none_font_below p r other after name h.1.1

pub none_font : (t : NodeTrees) (name : Word) → EachNode (λ x. bytes_eq x.1.name name ≡ false) t → first_font ≡ font_in name (plain_trees t)
none_font leafless name h = refl
none_font (tree x below after) name h = sym (cond_no (bytes_eq x.1.name name) (root_font x.1.declared) _ h.0 ∙ none_font_below (root_font x.1.declared) (root_font x.1.declared) first_font below name h.1.0)
