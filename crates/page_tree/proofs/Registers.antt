-- Nodes that are found by their names.
use Rattle.std.proofs.Common.{◌≡◌, ℕ, zero, suc, ◌+◌, ◌≤◌, Bool, true, false, ◌&&◌, ◌||◌, List, Option, Some, None, IsSome, cond, refl, sym, ap, subst, ◌∙◌, arith}
use Rattle.std.specs.Str.{bytes_eq}
use Rattle.std.specs.BTreeMap.{BTreeMap, IsEmpty, get, is_at, Updates}
use Rattle.std.specs.Map.{lookup}
use Rattle.std.specs.Ordering.{nat_cmp}
use Rattle.std.specs.Cmp.Lexicographic.{slice_cmp}
use Rattle.std.proofs.lemmas.Map.Text.{is_eq-slice_cmp}
use Rattle.plain_tree.specs.Trees.{leafless, tree}
use Rattle.node_arena.specs.declared.number.NodeId.{NodeId}
use Rattle.std.specs.Prelude.{if◌then◌else◌}
use Rattle.node_arena.specs.Numbers.{EachNode, Part, one, part_at, replaced, same, times}
use Rattle.node_arena.proofs.Changed.{times_mapped}
use Rattle.node_arena.proofs.Parts.{each_weaker}
use Rattle.node_arena.specs.Edits.{grafted}
use Rattle.node_arena.proofs.Same.{part_some, same_from, same_is, same_refl}
use Rattle.node_arena.proofs.Edited.{graft_summed, summed, times_summed}
use Rattle.doc_text.specs.Growth.{holds}
use Rattle.doc_text.proofs.Grown.{not_both, or_join, own_name, same_name}
use Rattle.placing.specs.declared.node.Node.{Node}
use Rattle.placing.specs.Nodes.{NodeTrees}
use Rattle.page_tree.specs.Documents.{plain_trees}
use Rattle.page_tree.specs.Registers.{AreNamed, Finds, HasName, IsRegister, Tells, named, told}

one_and : (a b : Bool) → one (a && b) ≤ one a
one_and true true = omega arith
one_and true false = omega arith
one_and false b = omega arith

one_some : (a : Bool) → 1 ≤ one a → a ≡ true
one_some true h = refl
one_some false h = absurd (omega arith)

one_none : (a : Bool) → one a ≡ 0 → a ≡ false
one_none true h = absurd (omega arith)
one_none false h = refl

both_one : (a b : Bool) → a ≡ true → b ≡ true → 1 ≤ one (a && b)
both_one a b d e = rw (d, e) (omega arith)

not_second : (a b : Bool) → b ≡ false → one (a && b) ≡ 0
not_second true b e = ap one e
not_second false b e = refl

named_times : (name : List ℕ) (n : NodeId) (t : NodeTrees) → named name n t ≤ times n t
named_times name n leafless = omega arith
named_times name n (tree x below after) = omega (arith, one_and (same x.0 n) (bytes_eq x.1.name name), named_times name n below, named_times name n after)

-- a number that stands no more often than it has the name tells the node of the name, where no other number has it
tells_from : (id : NodeId) (name : List ℕ) (t : NodeTrees) → times id t ≤ named name id t → ((n : NodeId) → named name n t ≤ one (same id n)) → Tells id name t
tells_from id name leafless h k = tt
tells_from id name (tree x below after) h k = (
  own (same x.0 id) (bytes_eq x.1.name name) refl refl,
  (
    tells_from id name below (omega (arith, small, named_times name id below, named_times name id after)) (λ n. omega (arith, k n)),
    tells_from id name after (omega (arith, small, named_times name id below, named_times name id after)) (λ n. omega (arith, k n)),
  ),
)
  where
    small : one (same x.0 id && bytes_eq x.1.name name) ≤ one (same x.0 id)
    small = one_and (same x.0 id) (bytes_eq x.1.name name)

    own : (a b : Bool) → same x.0 id ≡ a → bytes_eq x.1.name name ≡ b → same x.0 id ≡ bytes_eq x.1.name name
    own true true d e = d ∙ sym e
    own false false d e = d ∙ sym e
    own true false d e =
        let first : one (same x.0 id) ≡ 1 = ap one d in
        let none : one (same x.0 id && bytes_eq x.1.name name) ≡ 0 = not_second (same x.0 id) (bytes_eq x.1.name name) e in
        absurd (omega (arith, named_times name id below, named_times name id after))
    own false true d e =
        let there : 1 ≤ one (same id x.0) = omega (arith, k x.0, both_one (same x.0 x.0) (bytes_eq x.1.name name) (same_refl x.0) e) in
        let is : same x.0 id ≡ true = same_from x.0 id (sym (same_is id x.0 (one_some (same id x.0) there))) in
        absurd (not_both (same x.0 id) is d)

or_there : (a b c : Bool) (i j k : ℕ) → 1 ≤ i + j + k → (1 ≤ i → a ≡ true) → (1 ≤ j → b ≡ true) → (1 ≤ k → c ≡ true) → (a || (b || c)) ≡ true
or_there true b c i j k h f g l = refl
or_there false true c i j k h f g l = refl
or_there false false true i j k h f g l = refl
or_there false false false i j k h f g l = absurd (none i j k h f g l)
  where
    none : (i j k : ℕ) → 1 ≤ i + j + k → (1 ≤ i → false ≡ true) → (1 ≤ j → false ≡ true) → (1 ≤ k → false ≡ true) → ⊥
    none zero zero zero h f g l = omega arith
    none (suc i) j k h f g l = not_both true refl (sym (f (omega arith)))
    none zero (suc j) k h f g l = not_both true refl (sym (g (omega arith)))
    none zero zero (suc k) h f g l = not_both true refl (sym (l (omega arith)))

second_part : (a b : Bool) → 1 ≤ one (a && b) → b ≡ true
second_part true b h = one_some b h
second_part false b h = absurd (omega arith)

-- a name that some number has stands in the document
pub named_there : (name : List ℕ) (n : NodeId) (t : NodeTrees) → 1 ≤ named name n t → holds (plain_trees t) name ≡ true
named_there name n leafless h = absurd (omega arith)
named_there name n (tree x below after) h =
    or_there (bytes_eq x.1.name name) (holds (plain_trees below) name) (holds (plain_trees after) name) (one (same x.0 n && bytes_eq x.1.name name)) (named name n below) (named name n after) h
    (second_part (same x.0 n) (bytes_eq x.1.name name)) (named_there name n below) (named_there name n after)

named_nowhere : (name : List ℕ) (t : NodeTrees) → ((n : NodeId) → named name n t ≡ 0) → holds (plain_trees t) name ≡ false
named_nowhere name leafless h = refl
named_nowhere name (tree x below after) h =
    or_join (bytes_eq x.1.name name) (holds (plain_trees below) name) (holds (plain_trees after) name) (own (bytes_eq x.1.name name) refl)
    (named_nowhere name below (λ n. omega (arith, h n))) (named_nowhere name after (λ n. omega (arith, h n)))
  where
    own : (a : Bool) → bytes_eq x.1.name name ≡ a → bytes_eq x.1.name name ≡ false
    own true e = absurd (omega (arith, h x.0, both_one (same x.0 x.0) (bytes_eq x.1.name name) (same_refl x.0) e))
    own false e = e

-- what a number is that was found for a name
pub record IsFound (name : List ℕ) (id : NodeId) (t : NodeTrees) : Type 0 where
  pub live : IsSome (part_at t id)
  pub tells : Tells id name t
  pub once : times id t ≡ 1
  pub there : holds (plain_trees t) name ≡ true

pub found : (find : List ℕ → Option NodeId) (t : NodeTrees) (name : List ℕ) (id : NodeId) → IsRegister find t → find name ≡ Some id → IsFound name id t
found find t name id r e =
    let all : (n : NodeId) → named name n t ≡ one (same id n) = λ n. r.told name n ∙ ap (λ o. told o n) e in
    let own : named name id t ≡ 1 = all id ∙ ap one (same_refl id) in
    let few = r.distinct id in
    let most = named_times name id t in
    record {
      live = part_some t id (omega arith);
      tells = tells_from id name t (omega arith) (λ n. omega (arith, all n));
      once = omega arith;
      there = named_there name id t (omega arith);
    }

-- each node is the one of its number and of its name
own_named : (t : NodeTrees) → EachNode (λ x. 1 ≤ named x.1.name x.0 t) t
own_named leafless = tt
own_named (tree x below after) = (
  omega (arith, both_one (same x.0 x.0) (bytes_eq x.1.name x.1.name) (same_refl x.0) (own_name x.1.name)),
  (
    each_weaker (λ y. 1 ≤ named y.1.name y.0 below) (λ y. 1 ≤ named y.1.name y.0 (tree x below after)) below (λ y h. omega (arith, h)) (own_named below),
    each_weaker (λ y. 1 ≤ named y.1.name y.0 after) (λ y. 1 ≤ named y.1.name y.0 (tree x below after)) after (λ y h. omega (arith, h)) (own_named after),
  ),
)

pub all_named : (find : List ℕ → Option NodeId) (t : NodeTrees) → IsRegister find t → AreNamed t
all_named find t r = each_weaker (λ x. 1 ≤ named x.1.name x.0 t) (λ x. Tells x.0 x.1.name t) t (λ x h. at x h (find x.1.name) refl) (own_named t)
  where
    at : (x : NodeId × Node) → 1 ≤ named x.1.name x.0 t → (o : Option NodeId) → find x.1.name ≡ o → Tells x.0 x.1.name t
    at x h None e = absurd (omega (arith, h, r.told x.1.name x.0, ap (λ o. told o x.0) e))
    at x h (Some id) e =
        let it : same id x.0 ≡ true = one_some (same id x.0) (omega (arith, h, r.told x.1.name x.0, ap (λ o. told o x.0) e)) in
        subst (λ k. Tells k x.1.name t) (same_is id x.0 it) (found find t x.1.name id r e).tells

pub not_found : (find : List ℕ → Option NodeId) (t : NodeTrees) (name : List ℕ) → IsRegister find t → find name ≡ None → holds (plain_trees t) name ≡ false
not_found find t name r e = named_nowhere name t (λ n. r.told name n ∙ ap (λ o. told o n) e)

pub finds : (find : List ℕ → Option NodeId) (t : NodeTrees) (name : List ℕ) (o : Option NodeId) → IsRegister find t → find name ≡ o → Finds t name o
finds find t name None r e = record { live = tt; tells = tt; once = tt; there = sym (not_found find t name r e) }
finds find t name (Some id) r e = let is = found find t name id r e in record { live = is.live; tells = is.tells; once = is.once; there = sym is.there }

-- ---- changes
pub named_summed : (name : List ℕ) (n : NodeId) (t : NodeTrees) → named name n t ≡ summed (λ x. one (same x.0 n && bytes_eq x.1.name name)) t
named_summed name n leafless = refl
named_summed name n (tree x below after) = omega (arith, named_summed name n below, named_summed name n after)

-- a tree of one node
pub alone_registered : (find : List ℕ → Option NodeId) (id : NodeId) (v : Node) → ((name : List ℕ) → find name ≡ cond (bytes_eq v.name name) (Some id) None) → IsRegister find (tree (id, v) leafless leafless)
alone_registered find id v h =
    record {
      told = λ name n. by name n (same id n) (bytes_eq v.name name) refl ∙ sym (ap (λ o. told o n) (h name));
      distinct = λ n. few (same id n);
    }
  where
    by : (name : List ℕ) (n : NodeId) (a b : Bool) → same id n ≡ a → one (a && b) + 0 + 0 ≡ told (cond b (Some id) None) n
    by name n true true e = omega (arith, ap one e)
    by name n false true e = omega (arith, ap one e)
    by name n true false e = omega arith
    by name n false false e = omega arith

    few : (a : Bool) → one a + 0 + 0 ≤ 1
    few true = omega arith
    few false = omega arith

pub same_register : (find again : List ℕ → Option NodeId) (t : NodeTrees) → ((name : List ℕ) → again name ≡ find name) → IsRegister find t → IsRegister again t
same_register find again t h r = record { told = λ name n. r.told name n ∙ sym (ap (λ o. told o n) (h name)); distinct = r.distinct }

-- a name that no node has tells no number
pub absent : (find : List ℕ → Option NodeId) (t : NodeTrees) (name : List ℕ) → IsRegister find t → holds (plain_trees t) name ≡ false → find name ≡ None
absent find t name r h = at (find name) refl
  where
    at : (o : Option NodeId) → find name ≡ o → find name ≡ None
    at None e = e
    at (Some id) e = absurd (not_both (holds (plain_trees t) name) (found find t name id r e).there h)

-- one node more, of a new name and with a new number
pub insert_registered : (find again : List ℕ → Option NodeId) (t : NodeTrees) (parent : NodeId) (index : ℕ) (id : NodeId) (v : Node) → IsRegister find t → IsSome (part_at t parent) → part_at t id ≡ None → find v.name ≡ None →
    ((name : List ℕ) → again name ≡ cond (bytes_eq v.name name) (Some id) (find name)) → IsRegister again (grafted parent index (tree (id, v) leafless leafless) t)
insert_registered find again t parent index id v r live fresh none h = at (part_at t parent) refl live
  where
    new : NodeTrees
    new = tree (id, v) leafless leafless

    at : (o : Option (Part Node)) → part_at t parent ≡ o → IsSome o → IsRegister again (grafted parent index (tree (id, v) leafless leafless) t)
    at None e l = absurd cc
    at (Some p) e l =
        record {
          told = λ name n. by name n (bytes_eq v.name name) refl;
          distinct = λ n. few n (same id n) refl;
        }
      where
        times_new : (n : NodeId) → times n (grafted parent index (tree (id, v) leafless leafless) t) ≡ times n t + (one (same id n) + 0 + 0)
        times_new n = times_summed n (grafted parent index (tree (id, v) leafless leafless) t) ∙ graft_summed parent index (tree (id, v) leafless leafless) t p (r.distinct parent) e (λ x. one (same x.0 n)) ∙ ap (λ k. k + (one (same id n) + 0 + 0)) (sym (times_summed n t))

        named_new : (name : List ℕ) (n : NodeId) → named name n (grafted parent index (tree (id, v) leafless leafless) t) ≡ named name n t + (one (same id n && bytes_eq v.name name) + 0 + 0)
        named_new name n =
            named_summed name n (grafted parent index (tree (id, v) leafless leafless) t) ∙ graft_summed parent index (tree (id, v) leafless leafless) t p (r.distinct parent) e (λ x. one (same x.0 n && bytes_eq x.1.name name)) ∙
            ap (λ k. k + (one (same id n && bytes_eq v.name name) + 0 + 0)) (sym (named_summed name n t))

        none_there : times id t ≡ 0
        none_there = none_at (times id t) refl
          where
            none_at : (k : ℕ) → times id t ≡ k → times id t ≡ 0
            none_at zero q = q
            none_at (suc k) q = let there : IsSome (part_at t id) = part_some t id (omega arith) in absurd cc

        few : (n : NodeId) (a : Bool) → same id n ≡ a → times n (grafted parent index (tree (id, v) leafless leafless) t) ≤ 1
        few n true q = let same_times : times n t ≡ 0 = ap (λ m. times m t) (sym (same_is id n q)) ∙ none_there in omega (arith, times_new n, ap one q)
        few n false q = omega (arith, times_new n, ap one q, r.distinct n)

        one_true : (a : Bool) → one (a && true) ≡ one a
        one_true true = refl
        one_true false = refl

        one_false : (a : Bool) → one (a && false) ≡ 0
        one_false true = refl
        one_false false = refl

        by : (name : List ℕ) (n : NodeId) (b : Bool) → bytes_eq v.name name ≡ b → named name n (grafted parent index (tree (id, v) leafless leafless) t) ≡ told (again name) n
        by name n true q =
            let is : v.name ≡ name = same_name v.name name q in
            let old : named name n t ≡ 0 = r.told name n ∙ ap (λ o. told o n) (ap find (sym is) ∙ none) in
            let told_new : told (again name) n ≡ one (same id n) = ap (λ o. told o n) (h name ∙ ap (λ c. cond c (Some id) (find name)) q) in
            let one_new : one (same id n && bytes_eq v.name name) ≡ one (same id n) = ap (λ c. one (same id n && c)) q ∙ one_true (same id n) in
            omega (arith, named_new name n)
        by name n false q =
            let told_new : told (again name) n ≡ told (find name) n = ap (λ o. told o n) (h name ∙ ap (λ c. cond c (Some id) (find name)) q) in
            let one_new : one (same id n && bytes_eq v.name name) ≡ 0 = ap (λ c. one (same id n && c)) q ∙ one_false (same id n) in
            omega (arith, named_new name n, r.told name n)

-- ---- the map
pub updated : (old new : BTreeMap (List ℕ) NodeId) (name : List ℕ) (value : Option NodeId) → Updates (slice_cmp nat_cmp) old new name value → (other : List ℕ) → get (slice_cmp nat_cmp) new other ≡ cond (bytes_eq name other) value (get (slice_cmp nat_cmp) old other)
updated old new name value u other = u.0 other ∙ ap (λ b. cond b value (get (slice_cmp nat_cmp) old other)) (is_eq-slice_cmp name other)

pub none_in : (empty : BTreeMap (List ℕ) NodeId) (name : List ℕ) → IsEmpty empty → get (slice_cmp nat_cmp) empty name ≡ None
none_in empty name e = ap (λ (es : List (List ℕ × NodeId)). lookup (is_at (slice_cmp nat_cmp name)) es) e

pub first_updated : (empty new : BTreeMap (List ℕ) NodeId) (name : List ℕ) (id : NodeId) → IsEmpty empty → Updates (slice_cmp nat_cmp) empty new name (Some id) → (other : List ℕ) → get (slice_cmp nat_cmp) new other ≡ cond (bytes_eq name other) (Some id) None
first_updated empty new name id e u other = updated empty new name (Some id) u other ∙ ap (λ o. cond (bytes_eq name other) (Some id) o) (none_in empty other e)

-- what is put in the place of another value
pub twice_updated : (old between new : BTreeMap (List ℕ) NodeId) (name : List ℕ) (a b : Option NodeId) → Updates (slice_cmp nat_cmp) old between name a → Updates (slice_cmp nat_cmp) between new name b →
    (other : List ℕ) → get (slice_cmp nat_cmp) new other ≡ cond (bytes_eq name other) b (get (slice_cmp nat_cmp) old other)
twice_updated old between new name a b u w other = updated between new name b w other ∙ ap (λ o. cond (bytes_eq name other) b o) (updated old between name a u other) ∙ again (bytes_eq name other)
  where
    again : (c : Bool) → cond c b (cond c a (get (slice_cmp nat_cmp) old other)) ≡ cond c b (get (slice_cmp nat_cmp) old other)
    again true = refl
    again false = refl

-- a name that had nothing has nothing again
pub taken_back : (old new : BTreeMap (List ℕ) NodeId) (name : List ℕ) → get (slice_cmp nat_cmp) old name ≡ None → ((other : List ℕ) → get (slice_cmp nat_cmp) new other ≡ cond (bytes_eq name other) None (get (slice_cmp nat_cmp) old other)) →
    (other : List ℕ) → get (slice_cmp nat_cmp) new other ≡ get (slice_cmp nat_cmp) old other
taken_back old new name none h other = at (bytes_eq name other) refl
  where
    at : (c : Bool) → bytes_eq name other ≡ c → get (slice_cmp nat_cmp) new other ≡ get (slice_cmp nat_cmp) old other
    at true e = h other ∙ ap (λ c. cond c None (get (slice_cmp nat_cmp) old other)) e ∙ sym (ap (get (slice_cmp nat_cmp) old) (sym (same_name name other e)) ∙ none)
    at false e = h other ∙ ap (λ c. cond c None (get (slice_cmp nat_cmp) old other)) e

-- a key that was put there is there
pub still_there : (old new : BTreeMap (List ℕ) NodeId) (name : List ℕ) (id : NodeId) → Updates (slice_cmp nat_cmp) old new name (Some id) → get (slice_cmp nat_cmp) new name ≡ None → ⊥
still_there old new name id u e = let there : Some id ≡ None = sym (ap (λ c. cond c (Some id) (get (slice_cmp nat_cmp) old name)) (own_name name)) ∙ sym (updated old new name (Some id) u name) ∙ e in absurd cc

-- ---- another value
put_name : (id : NodeId) (v : Node) (x : NodeId × Node) (name : List ℕ) → (same x.0 id ≡ true → x.1.name ≡ v.name) → bytes_eq (cond (same x.0 id) v x.1).name name ≡ bytes_eq x.1.name name
put_name id v x name h = at (same x.0 id) refl
  where
    at : (c : Bool) → same x.0 id ≡ c → bytes_eq (cond c v x.1).name name ≡ bytes_eq x.1.name name
    at true e = ap (λ n. bytes_eq n name) (sym (h e))
    at false e = refl

named_put : (id : NodeId) (v : Node) (t : NodeTrees) (name : List ℕ) (n : NodeId) → HasName id v.name t → named name n (replaced id v t) ≡ named name n t
named_put id v leafless name n h = refl
named_put id v (tree x below after) name n h =
    λ i. one (same x.0 n && put_name id v x name h.0 i) + named_put id v below name n h.1.0 i + named_put id v after name n h.1.1 i

pub put_registered : (find : List ℕ → Option NodeId) (id : NodeId) (v : Node) (t : NodeTrees) → HasName id v.name t → IsRegister find t → IsRegister find (replaced id v t)
put_registered find id v t h r =
    record {
      told = λ name n. named_put id v t name n h ∙ r.told name n;
      distinct = λ n. omega (arith, times_mapped (λ k w. if same k id then v else w) n t, r.distinct n);
    }
