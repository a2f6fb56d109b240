-- A tree less, and the names in it.
use Rattle.std.proofs.Common.{◌≡◌, ℕ, zero, suc, ◌+◌, ◌<◌, ◌≤◌, ℤ, Bool, true, false, ◌||◌, List, [], ◌∷◌, Option, Some, None, IsSome, cond, length, refl, sym, ap, subst, ◌∙◌, arith, inl, inr}
use Rattle.std.specs.Prelude.{◌⊎◌, ◌&&◌, slice_get}
use Rattle.std.proofs.lemmas.Bool.{cases_Bool}
use Rattle.std.specs.Str.{bytes_eq}
use Rattle.plain_tree.specs.Trees.{leafless, tree, joined, count_of, height_of, size_of}
use Rattle.node_arena.specs.declared.number.NodeId.{NodeId}
use Rattle.node_arena.specs.Numbers.{IsChild, Part, below_at, below_of, number_of, one, part_at, same, times, top_numbers, tops, value_at, value_of, whole_of}
use Rattle.node_arena.specs.Edits.{nothing, removed, tree_at}
use Rattle.node_arena.specs.Faults.{is_top}
use Rattle.node_arena.proofs.Same.{cond_no, cond_yes, same_is, same_refl}
use Rattle.node_arena.proofs.Edited.{each_tree, edited_here, edited_not, summed, summed_joined, times_summed, tree_is}
use Rattle.node_arena.proofs.Standing.{way_height}
use Rattle.layout_cache.specs.Reach.{from_tree}
use Rattle.layout_cache.proofs.Reaches.{from_size}
use Rattle.style_types.specs.Computed.{font_of}
use Rattle.doc_text.specs.Growth.{holds}
use Rattle.doc_text.proofs.Grown.{not_both}
use Rattle.placing.specs.declared.node.Node.{Node}
use Rattle.placing.specs.Nodes.{NodeTrees}
use Rattle.page_tree.specs.Documents.{plain_trees}
use Rattle.page_tree.specs.Fonts.{AreStyled, IsStyled, root_font}
use Rattle.page_tree.specs.Registers.{HasName, IsNext, IsRegister, Without, named, told}
use Rattle.page_tree.proofs.Registers.{named_summed, named_there}
use Rattle.page_tree.proofs.Restyled.{from_top}

-- ---- what is taken out and what is left add up
pub parts_sum : (w : NodeId × Node → ℕ) (n : NodeId) (t : NodeTrees) → summed w (removed n t) + summed w (tree_at n t) ≡ summed w t
parts_sum w n leafless = omega arith
parts_sum w n (tree x below after) = at (cases_Bool (same x.0 n)) (parts_sum w n below) (parts_sum w n after)
  where
    at : (same x.0 n ≡ true) ⊎ (same x.0 n ≡ false) → summed w (removed n below) + summed w (tree_at n below) ≡ summed w below → summed w (removed n after) + summed w (tree_at n after) ≡ summed w after →
        summed w (removed n (tree x below after)) + summed w (tree_at n (tree x below after)) ≡ summed w (tree x below after)
    at (inl e) b a = omega (arith, ap (summed w) (edited_here n nothing x below after e), ap (summed w) (cond_yes (same x.0 n) (tree x below leafless) (joined (tree_at n below) (tree_at n after)) e))
    at (inr e) b a =
        omega (arith, b, a, ap (summed w) (edited_not n nothing x below after e), ap (summed w) (cond_no (same x.0 n) (tree x below leafless) (joined (tree_at n below) (tree_at n after)) e), summed_joined w (tree_at n below) (tree_at n after))

pub parts_named : (name : List ℕ) (m n : NodeId) (t : NodeTrees) → named name m (removed n t) + named name m (tree_at n t) ≡ named name m t
parts_named name m n t = omega (arith, parts_sum (λ x. one (same x.0 m && bytes_eq x.1.name name)) n t, named_summed name m (removed n t), named_summed name m (tree_at n t), named_summed name m t)

pub parts_times : (m n : NodeId) (t : NodeTrees) → times m (removed n t) + times m (tree_at n t) ≡ times m t
parts_times m n t = omega (arith, parts_sum (λ x. one (same x.0 m)) n t, times_summed m (removed n t), times_summed m (tree_at n t), times_summed m t)

-- ---- a name that is there has a number there
record IsNamed (name : List ℕ) (t : NodeTrees) : Type 0 where
  number : NodeId
  some : 1 ≤ named name number t

some_number : (name : List ℕ) (t : NodeTrees) → holds (plain_trees t) name ≡ true → IsNamed name t
some_number name leafless h = absurd cc
some_number name (tree x below after) h = at (cases_Bool (bytes_eq x.1.name name)) (cases_Bool (holds (plain_trees below) name)) (some_number name below) (some_number name after)
  where
    rest : bytes_eq x.1.name name ≡ false → holds (plain_trees below) name ≡ false → holds (plain_trees after) name ≡ true
    rest e b = sym (ap (λ c. c || (holds (plain_trees below) name || holds (plain_trees after) name)) e ∙ ap (λ c. c || holds (plain_trees after) name) b) ∙ h

    own : bytes_eq x.1.name name ≡ true → one (same x.0 x.0 && bytes_eq x.1.name name) ≡ 1
    own e = λ i. one (same_refl x.0 i && e i)

    at : (bytes_eq x.1.name name ≡ true) ⊎ (bytes_eq x.1.name name ≡ false) → (holds (plain_trees below) name ≡ true) ⊎ (holds (plain_trees below) name ≡ false) → (holds (plain_trees below) name ≡ true → IsNamed name below) →
        (holds (plain_trees after) name ≡ true → IsNamed name after) → IsNamed name (tree x below after)
    at (inl e) c f g = record { number = x.0; some = omega (arith, own e) }
    at (inr e) (inl b) f g = let is = f b in record { number = is.number; some = omega (arith, is.some) }
    at (inr e) (inr b) f g = let is = g (rest e b) in record { number = is.number; some = omega (arith, is.some) }

-- ---- without a tree
one_some : (o : Option NodeId) (m n : NodeId) → 1 ≤ told o m → same m n ≡ true → told o n ≤ 1
one_some None m n h e = omega arith
one_some (Some k) m n h e = few (same k n)
  where
    few : (b : Bool) → one b ≤ 1
    few true = omega arith
    few false = omega arith

other_none : (o : Option NodeId) (m n : NodeId) → 1 ≤ told o m → same m n ≡ false → told o n ≡ 0
other_none None m n h e = refl
other_none (Some k) m n h e = at (cases_Bool (same k m))
  where
    at : (same k m ≡ true) ⊎ (same k m ≡ false) → one (same k n) ≡ 0
    at (inl q) = ap one (ap (λ l. same l n) (same_is k m q) ∙ e)
    at (inr q) = absurd (omega (arith, h, ap one q))

pub removed_registered : (find again : List ℕ → Option NodeId) (id : NodeId) (t : NodeTrees) → IsRegister find t → Without (tree_at id t) find again → IsRegister again (removed id t)
removed_registered find again id t r w =
    record {
      told = λ name n. at name n (cases_Bool (holds (plain_trees (tree_at id t)) name));
      distinct = λ n. omega (arith, parts_times n id t, r.distinct n);
    }
  where
    gone : (name : List ℕ) (n : NodeId) → IsNamed name (tree_at id t) → (same n n ≡ true) → named name n (removed id t) ≡ 0
    gone name n is q = by (cases_Bool (same is.number n))
      where
        first : 1 ≤ told (find name) is.number
        first = omega (arith, is.some, parts_named name is.number id t, r.told name is.number)

        by : (same is.number n ≡ true) ⊎ (same is.number n ≡ false) → named name n (removed id t) ≡ 0
        by (inl e) =
            let moved : named name is.number (tree_at id t) ≡ named name n (tree_at id t) = ap (λ m. named name m (tree_at id t)) (same_is is.number n e) in
            omega (arith, is.some, moved, parts_named name n id t, r.told name n, one_some (find name) is.number n first e)
        by (inr e) = omega (arith, parts_named name n id t, r.told name n, other_none (find name) is.number n first e)

    at : (name : List ℕ) (n : NodeId) → (holds (plain_trees (tree_at id t)) name ≡ true) ⊎ (holds (plain_trees (tree_at id t)) name ≡ false) → named name n (removed id t) ≡ told (again name) n
    at name n (inl e) = gone name n (some_number name (tree_at id t) e) (same_refl n) ∙ sym (ap (λ o. told o n) (w name ∙ ap (λ b. cond b None (find name)) e))
    at name n (inr e) = omega (arith, none (named name n (tree_at id t)) refl, parts_named name n id t, r.told name n, ap (λ o. told o n) (w name ∙ ap (λ b. cond b None (find name)) e))
      where
        none : (k : ℕ) → named name n (tree_at id t) ≡ k → named name n (tree_at id t) ≡ 0
        none zero q = q
        none (suc k) q = absurd (not_both (holds (plain_trees (tree_at id t)) name) (named_there name n (tree_at id t) (omega (arith, q))) e)

-- ---- the child of an index
pub next_is : (t : NodeTrees) (n : NodeId) (i : ℕ) (c : NodeId) (v : Node) → IsChild t n i c → Some v ≡ value_at t c → IsNext t n i c
next_is t n i c v h e = at (slice_get (tops (below_at t n)) i) refl h.number h.whole
  where
    at : (o : Option (NodeId × Part Node)) → slice_get (tops (below_at t n)) i ≡ o → number_of o ≡ Some c → part_at t c ≡ whole_of o → IsNext t n i c
    at None q m w = absurd cc
    at (Some top) q m w =
        let number : top.0 ≡ c = cc in
        let value : Some v ≡ Some top.1.0 = e ∙ ap value_of w in
        let same_value : v ≡ top.1.0 = cc in
        record {
          value = v;
          there = sym e;
          next = from_top (below_at t n) i top q ∙ (λ j. tree (number j, sym same_value j) (sym (ap below_of w) j) (from_tree (i + 1) (below_at t n)));
        }

pub next_smaller : (t : NodeTrees) (n : NodeId) (i : ℕ) (c : NodeId) → IsNext t n i c → size_of (below_at t c) < size_of (below_at t n)
next_smaller t n i c h = omega (arith, from_size (below_at t n) i, ap size_of h.next)

pub ruleset falls = (next_smaller)

-- the names of the children that were passed and of all below them are taken out
pub next_names : (t : NodeTrees) (n : NodeId) (i : ℕ) (c : NodeId) (name : List ℕ) (old between new : Option NodeId) (h : IsNext t n i c) → between ≡ cond (bytes_eq h.value.name name) None old →
    new ≡ cond (holds (plain_trees (below_at t c)) name) None between →
    cond (holds (plain_trees (from_tree (i + 1) (below_at t n))) name) None new ≡ cond (holds (plain_trees (from_tree i (below_at t n))) name) None old
next_names t n i c name old between new h e f =
    ap (λ o. cond (holds (plain_trees (from_tree (i + 1) (below_at t n))) name) None o) (f ∙ ap (λ o. cond (holds (plain_trees (below_at t c)) name) None o) e)
    ∙ three (bytes_eq h.value.name name) (holds (plain_trees (below_at t c)) name) (holds (plain_trees (from_tree (i + 1) (below_at t n))) name)
    ∙ ap (λ u. cond (holds (plain_trees u) name) None old) (sym h.next)
  where
    three : (a b r : Bool) → cond r None (cond b None (cond a None old)) ≡ cond (a || (b || r)) None old
    three true true true = refl
    three true true false = refl
    three true false true = refl
    three true false false = refl
    three false true true = refl
    three false true false = refl
    three false false true = refl
    three false false false = refl

-- the name of a node and those of all below it
pub all_names : (t : NodeTrees) (id : NodeId) (name : List ℕ) (find between again : List ℕ → Option NodeId) → IsSome (part_at t id) → times id t ≤ 1 → HasName id name t → ((other : List ℕ) → between other ≡ cond (bytes_eq name other) None (find other)) →
    Without (below_at t id) between again → Without (tree_at id t) find again
all_names t id name find between again live few h e f other = at (part_at t id) refl live
  where
    two : (a b : Bool) (old : Option NodeId) → cond b None (cond a None old) ≡ cond (a || (b || false)) None old
    two true true old = refl
    two true false old = refl
    two false true old = refl
    two false false old = refl

    at : (o : Option (Part Node)) → part_at t id ≡ o → IsSome o → again other ≡ cond (holds (plain_trees (tree_at id t)) other) None (find other)
    at None q l = absurd cc
    at (Some p) q l =
        let is = tree_is id t p few q in
        let own : p.0.name ≡ name = (subst (HasName id name) is (each_tree id (λ x. same x.0 id ≡ true → x.1.name ≡ name) t h)).0 (same_refl id) in
        f other ∙ ap (λ o. cond (holds (plain_trees (below_at t id)) other) None o) (e other) ∙ two (bytes_eq name other) (holds (plain_trees (below_at t id)) other) (find other)
        ∙ ap (λ u. cond (bytes_eq name other || (holds (plain_trees (below_of u)) other || false)) None (find other)) q
        ∙ ap (λ m. cond (bytes_eq m other || (holds (plain_trees p.1) other || false)) None (find other)) (sym own)
        ∙ ap (λ u. cond (holds (plain_trees u) other) None (find other)) (sym is)

-- ---- levels
pub low_below : (t : NodeTrees) (n : NodeId) (most : ℕ) → height_of t ≤ most → height_of (below_at t n) ≤ most
low_below t n most h = at (part_at t n) refl
  where
    at : (o : Option (Part Node)) → part_at t n ≡ o → height_of (below_at t n) ≤ most
    at None e = omega (arith, ap (λ o. height_of (below_of o)) e)
    at (Some p) e = omega (arith, h, way_height t n p e, ap (λ o. height_of (below_of o)) e)

-- ---- styles and the root
removed_below : (p r : ℤ) (n : NodeId) (t : NodeTrees) → AreStyled p r t → AreStyled p r (removed n t)
removed_below p r n leafless h = tt
removed_below p r n (tree x below after) h = at (cases_Bool (same x.0 n)) (removed_below (font_of p r x.1.declared) r n below h.1.0) (removed_below p r n after h.1.1)
  where
    at : (same x.0 n ≡ true) ⊎ (same x.0 n ≡ false) → AreStyled (font_of p r x.1.declared) r (removed n below) → AreStyled p r (removed n after) → AreStyled p r (removed n (tree x below after))
    at (inl e) b a = rw (edited_here n nothing x below after e) h.1.1
    at (inr e) b a = rw (edited_not n nothing x below after e) (h.0, (b, a))

first_no : (a b : Bool) → (a || b) ≡ false → a ≡ false
first_no true b e = absurd (not_both true refl e)
first_no false b e = refl

-- where the number is not the root's
pub removed_styled : (n : NodeId) (t : NodeTrees) → is_top t n ≡ false → IsStyled t → IsStyled (removed n t)
removed_styled n leafless top h = tt
removed_styled n (tree x below after) top h =
    let not_root : same x.0 n ≡ false = first_no (same x.0 n) (is_top after n) top in
    rw (edited_not n nothing x below after not_root) (h.0, removed_below (root_font x.1.declared) (root_font x.1.declared) n below h.1)

pub removed_count : (n : NodeId) (t : NodeTrees) → is_top t n ≡ false → count_of (removed n t) ≡ count_of t
removed_count n leafless top = refl
removed_count n (tree x below after) top = at (same x.0 n) refl top (removed_count n after)
  where
    at : (c : Bool) → same x.0 n ≡ c → (c || is_top after n) ≡ false → (is_top after n ≡ false → count_of (removed n after) ≡ count_of after) → count_of (removed n (tree x below after)) ≡ count_of (tree x below after)
    at true e h f = absurd (not_both true refl h)
    at false e h f = omega (arith, ap count_of (edited_not n nothing x below after e), f h)

-- the root is the number at the top
pub top_is : (t : NodeTrees) (root id : NodeId) (b : Bool) → top_numbers t ≡ root ∷ [] → same root id ≡ b → is_top t id ≡ b
top_is leafless root id b w e = absurd (omega (arith, ap length w))
top_is (tree x below leafless) root id b w e =
    let first : x.0 ≡ root = cc in
    or_none (same x.0 id) ∙ ap (λ n. same n id) first ∙ e
  where
    or_none : (a : Bool) → (a || false) ≡ a
    or_none true = refl
    or_none false = refl
top_is (tree x below (tree y c d)) root id b w e = absurd (omega (arith, ap length w))
