-- Trees that are brought, and a tree that is taken, as changes of the numbered tree.
use Rattle.std.proofs.Common.{◌≡◌, ℕ, zero, suc, Bool, true, false, ◌&&◌, ◌≤◌, List, [], ◌∷◌, ◌++◌, Option, Some, None, IsSome, refl, sym, ap, subst, ◌∙◌, arith, inl, inr}
use Rattle.std.specs.Prelude.{◌||◌, if◌then◌else◌, slice_get}
use Rattle.std.specs.Str.{bytes_eq}
use Rattle.std.proofs.lemmas.Bool.{or_left, or_parts, or_right}
use Rattle.plain_tree.specs.Trees.{Trees, leafless, tree}
use Rattle.node_arena.specs.declared.number.NodeId.{NodeId}
use Rattle.node_arena.specs.Edits.{graft, grafted, nothing, removed}
use Rattle.node_arena.specs.Numbers.{EachNode, IsDistinct, Part, below_of, child_at, is_among, number_of, part_at, same, times, tops, value_at, value_of}
use Rattle.node_arena.proofs.Edited.{each_edited, each_put}
use Rattle.node_arena.proofs.Parts.{each_weaker, numbered}
use Rattle.node_arena.proofs.Same.{by_place, one_no, one_yes, part_after, part_below, part_here, part_none, part_there, same_from, same_refl}
use Rattle.doc_text.proofs.Grown.{own_name}
use Rattle.doc_text.specs.Growth.{holds}
use Rattle.doc_text.specs.Label.{Label}
use Rattle.doc_text.specs.Named.{has_top}
use Rattle.doc_text.specs.Texts.{Word}
use Rattle.placing.specs.declared.node.Node.{Node}
use Rattle.placing.specs.Keeping.{HasGone}
use Rattle.placing.specs.Kept.{turn_at, turn_of}
use Rattle.placing.specs.Nodes.{NodeTrees, bare}
use Rattle.reach_frame.specs.Local.{IsLocal}
use Rattle.reach_frame.proofs.Frame.{not_both}
use Rattle.reach_frame.proofs.Grafts.{graft_local}
use Rattle.reach_frame.proofs.Marked.{among_append}
use Rattle.reach_frame.proofs.Removals.{remove_local}
use Rattle.page_tree.specs.Documents.{plain_trees}
use Rattle.page_tree.specs.Reach.{is_parent}
use Rattle.page_tree.specs.Registers.{Finds, Tells}
use Rattle.page_tree.specs.Shapes.{Brings, IsBegun, Removes}
use Rattle.page_tree.proofs.Changes.{tells_name}
use Rattle.page_tree.proofs.Reaching.{IsChange, IsFrom, each_at, each_with, there_in}

pub both : {a b : Bool} → a ≡ true → b ≡ true → (a && b) ≡ true
both e f = λ i. e i && f i

-- ---- nodes of names
pub found_value : (t : NodeTrees) (name : Word) (id : NodeId) → Finds t name (Some id) → (v : Node) × ((value_at t id ≡ Some v) × (v.name ≡ name))
found_value t name id f = at (part_at t id) refl f.live
  where
    at : (o : Option (Part Node)) → part_at t id ≡ o → IsSome o → (v : Node) × ((value_at t id ≡ Some v) × (v.name ≡ name))
    at None e l = absurd cc
    at (Some q) e l = (q.0, (ap value_of e, each_at (λ x. same x.0 id ≡ true → x.1.name ≡ name) t id q.0 (tells_name id name t f.tells) (ap value_of e) (same_refl id)))

-- the number of a marked name is touched
pub touched_number : (t : NodeTrees) (name : Word) (id : NodeId) (ts : List NodeId) (marks : Word → Bool) → EachNode (λ x. is_among x.0 ts ≡ marks x.1.name) t → Finds t name (Some id) → marks name ≡ true → is_among id ts ≡ true
touched_number t name id ts marks before f m = let v = found_value t name id f in each_at (λ x. is_among x.0 ts ≡ marks x.1.name) t id v.0 before v.1.0 ∙ ap marks v.1.1 ∙ m

-- ---- a parent
top_named : (s : NodeTrees) (j : ℕ) (id : NodeId) (name : Word) → Tells id name s → number_of (slice_get (tops s) j) ≡ Some id → has_top (plain_trees s) name ≡ true
top_named leafless zero id name h e = absurd cc
top_named leafless (suc j) id name h e = absurd cc
top_named (tree x below after) zero id name h e = ap (λ b. if b then true else has_top (plain_trees after) name) (sym h.0 ∙ same_from x.0 id (some_number x.0 id e))
  where
    some_number : (a b : NodeId) → Some a ≡ Some b → a ≡ b
    some_number a b q = cc
top_named (tree x below after) (suc j) id name h e = at (bytes_eq x.1.name name) (top_named after j id name h.1.1 e)
  where
    at : (b : Bool) → has_top (plain_trees after) name ≡ true → (if b then true else has_top (plain_trees after) name) ≡ true
    at true g = refl
    at false g = g

parent_named : (s : NodeTrees) (id k : NodeId) (name : Word) (q : Part Node) (j : ℕ) → Tells id name s → part_at s k ≡ Some q → number_of (slice_get (tops q.1) j) ≡ Some id → is_parent (plain_trees s) name q.0.name ≡ true
parent_named leafless id k name q j h e c = absurd cc
parent_named (tree x below after) id k name q j h e c =
    by_place x below k
    (λ g. let is : (x.1, below) ≡ q = some_part (x.1, below) q (sym (part_here x below after k g) ∙ e) in
    or_left _ _ (both (ap (λ (p : Part Node). bytes_eq p.0.name q.0.name) is ∙ own_name q.0.name) (top_named below j id name h.1.0 (ap (λ (p : Part Node). number_of (slice_get (tops p.1) j)) is ∙ c))))
    (λ g. or_right _ _ (or_left _ _ (parent_named below id k name q j h.1.0 (sym (part_below x below after k g) ∙ e) c)))
    (λ g. or_right _ _ (or_right _ _ (parent_named after id k name q j h.1.1 (sym (part_after x below after k g) ∙ e) c)))
  where
    some_part : (a b : Part Node) → Some a ≡ Some b → a ≡ b
    some_part a b e = cc

-- a number that has the node of a name as a child is touched where the name of its node is marked
pub touched_parent : (t : NodeTrees) (name : Word) (id : NodeId) (ts : List NodeId) (marks : Word → Bool) → EachNode (λ x. is_among x.0 ts ≡ marks x.1.name) t → Tells id name t → ((w : Word) → is_parent (plain_trees t) name w ≡ true → marks w ≡ true) →
    (k : NodeId) (j : ℕ) → child_at t k j ≡ Some id → is_among k ts ≡ true
touched_parent t name id ts marks before tells m k j e = at (part_at t k) refl e
  where
    none : (i : ℕ) → number_of (slice_get (tops (below_of {A = Node} None)) i) ≡ Some id → ⊥
    none zero q = cc
    none (suc i) q = cc

    at : (o : Option (Part Node)) → part_at t k ≡ o → number_of (slice_get (tops (below_of o)) j) ≡ Some id → is_among k ts ≡ true
    at None f g = absurd (none j g)
    at (Some q) f g = each_at (λ x. is_among x.0 ts ≡ marks x.1.name) t k q.0 before (ap value_of f) ∙ m q.0.name (parent_named t id k name q j tells f g)

-- ---- new numbers
-- the numbers of trees, in document order
abbrev pub numbers_of : NodeTrees → List NodeId
numbers_of leafless = []
numbers_of (tree x below after) = x.0 ∷ numbers_of below ++ numbers_of after

pub among_numbers : (n : NodeId) (t : NodeTrees) → 1 ≤ times n t → is_among n (numbers_of t) ≡ true
among_numbers n leafless l = absurd (omega (arith, l))
among_numbers n (tree x below after) l =
    by_place x below n (λ h. or_left _ _ h.is)
    (λ h. or_right (same x.0 n) _ (among_append n (numbers_of below) (numbers_of after) ∙ or_left _ _ (among_numbers n below h.in_below)))
    (λ h. or_right (same x.0 n) _ (among_append n (numbers_of below) (numbers_of after) ∙ or_right (is_among n (numbers_of below)) _ (among_numbers n after (omega (arith, l, one_no (same x.0 n) h.not, h.none)))))

pub not_among : (n : NodeId) (t : NodeTrees) → is_among n (numbers_of t) ≡ false → times n t ≡ 0
not_among n t e = at (times n t) refl
  where
    at : (k : ℕ) → times n t ≡ k → times n t ≡ 0
    at zero q = q
    at (suc k) q = absurd (not_both (is_among n (numbers_of t)) (among_numbers n t (omega (arith, q))) e)

pub no_number : (n : NodeId) (t : NodeTrees) → times n t ≡ 0 → is_among n (numbers_of t) ≡ false
no_number n leafless z = refl
no_number n (tree x below after) z =
    by_place x below n
    (λ h. absurd (omega (arith, z, one_yes (same x.0 n) h.is)))
    (λ h. absurd (omega (arith, z, h.in_below)))
    (λ h. (λ i. h.not i || among_append n (numbers_of below) (numbers_of after) i) ∙ (λ i. no_number n below h.none i || no_number n after (omega (arith, z)) i))

pub among_times : (n : NodeId) (t : NodeTrees) → is_among n (numbers_of t) ≡ true → 1 ≤ times n t
among_times n t m = at (times n t) refl
  where
    at : (k : ℕ) → times n t ≡ k → 1 ≤ times n t
    at zero q = absurd (not_both (is_among n (numbers_of t)) m (no_number n t q))
    at (suc k) q = omega (arith, q)

own_numbers : (t : NodeTrees) → EachNode (λ x. is_among x.0 (numbers_of t) ≡ true) t
own_numbers t = each_times (λ x l. among_numbers x.0 t l) t (λ n l. l)
  where
    each_times : ((x : NodeId × Node) → 1 ≤ times x.0 t → is_among x.0 (numbers_of t) ≡ true) → (s : NodeTrees) → ((n : NodeId) → 1 ≤ times n s → 1 ≤ times n t) → EachNode (λ x. is_among x.0 (numbers_of t) ≡ true) s
    each_times f leafless h = tt
    each_times f (tree x below after) h = (f x (h x.0 (omega (arith, one_yes (same x.0 x.0) (same_refl x.0)))), (each_times f below (λ n l. h n (omega (arith, l))), each_times f after (λ n l. h n (omega (arith, l)))))

no_turn : (t : NodeTrees) (id : NodeId) → times id t ≡ 0 → turn_at t id ≡ 0
unfolding turn_at
no_turn t id none = ap (λ o. turn_of (value_of o)) (part_none t id none)

-- the numbers of a tree are those that they were
pub own_nodes : (ts : List NodeId) (grid : Bool) (t : NodeTrees) → IsDistinct t → EachNode (IsFrom ts grid t) t
own_nodes ts grid t d = each_weaker (λ x. value_at t x.0 ≡ Some x.1) (IsFrom ts grid t) t (λ x e. inr (x.1, (e, (refl, (refl, (refl, (refl, (refl, λ g. refl)))))))) (numbered t d).each

-- each node has a name of its trees
pub own_names : (t : NodeTrees) → EachNode (λ x. holds (plain_trees t) x.1.name ≡ true) t
own_names leafless = tt
own_names (tree x below after) = (
  or_left _ _ (own_name x.1.name),
  (
    each_weaker (λ y. holds (plain_trees below) y.1.name ≡ true) (λ y. holds (plain_trees (tree x below after)) y.1.name ≡ true) below (λ y h. or_right (bytes_eq x.1.name y.1.name) _ (or_left _ _ h)) (own_names below),
    each_weaker (λ y. holds (plain_trees after) y.1.name ≡ true) (λ y. holds (plain_trees (tree x below after)) y.1.name ≡ true) after (λ y h. or_right (bytes_eq x.1.name y.1.name) _ (or_right (holds (plain_trees below) y.1.name) _ h)) (own_names after),
  ),
)

-- ---- trees that are brought
module _ (t u : NodeTrees) (d : IsDistinct t) (parent : Word) (index : ℕ) (labels : Trees Label) (ts : List NodeId) (h : Brings parent index labels t u) (before : EachNode (λ x. is_among x.0 ts ≡ (bytes_eq x.1.name parent || holds labels x.1.name)) t) where
  abbrev marks : Word → Bool
  marks w = bytes_eq w parent || holds labels w

  -- the new numbers, and those that were marked
  abbrev pub all_marked : List NodeId
  all_marked = numbers_of h.new ++ ts

  marked_is : (n : NodeId) → is_among n all_marked ≡ (is_among n (numbers_of h.new) || is_among n ts)
  marked_is n = among_append n (numbers_of h.new) ts

  before_all : EachNode (λ x. is_among x.0 all_marked ≡ marks x.1.name) t
  before_all =
      each_with (λ x. value_at t x.0 ≡ Some x.1) (λ x. is_among x.0 ts ≡ marks x.1.name) (λ x. is_among x.0 all_marked ≡ marks x.1.name) t
      (λ x e m. marked_is x.0 ∙ ap (λ b. b || is_among x.0 ts) (old x e) ∙ m) (numbered t d).each before
    where
      old : (x : NodeId × Node) → value_at t x.0 ≡ Some x.1 → is_among x.0 (numbers_of h.new) ≡ false
      old x e = no_number x.0 h.new (at (times x.0 h.new) refl)
        where
          at : (k : ℕ) → times x.0 h.new ≡ k → times x.0 h.new ≡ 0
          at zero q = q
          at (suc k) q = absurd (omega (arith, h.begun.fresh x.0 (omega (arith, q)), part_there t x.0 (there_in t x.0 x.1 e)))

  new_marked : EachNode (λ x. is_among x.0 all_marked ≡ true) h.new
  new_marked = each_weaker (λ x. is_among x.0 (numbers_of h.new) ≡ true) (λ x. is_among x.0 all_marked ≡ true) h.new (λ x m. marked_is x.0 ∙ or_left _ _ m) (own_numbers h.new)

  new_named : EachNode (λ x. marks x.1.name ≡ true) h.new
  new_named = each_weaker (λ x. holds (plain_trees h.new) x.1.name ≡ true) (λ x. marks x.1.name ≡ true) h.new (λ x m. or_right (bytes_eq x.1.name parent) _ (ap (λ s. holds s x.1.name) (sym h.plain) ∙ m)) (own_names h.new)

  new_alike : EachNode (λ x. is_among x.0 all_marked ≡ marks x.1.name) h.new
  new_alike = each_with (λ x. is_among x.0 all_marked ≡ true) (λ x. marks x.1.name ≡ true) (λ x. is_among x.0 all_marked ≡ marks x.1.name) h.new (λ x m n. m ∙ sym n) new_marked new_named

  new_from : EachNode (IsFrom all_marked true t) h.new
  new_from =
      each_with (λ x. (is_among x.0 (numbers_of h.new) ≡ true) × (is_among x.0 all_marked ≡ true)) (λ x. IsBegun x.1) (IsFrom all_marked true t) h.new (λ x m b. inl (m.1, (b.kept, (b.past, inl (first_turn x m.0 b)))))
      (each_with (λ x. is_among x.0 (numbers_of h.new) ≡ true) (λ x. is_among x.0 all_marked ≡ true) (λ x. (is_among x.0 (numbers_of h.new) ≡ true) × (is_among x.0 all_marked ≡ true)) h.new (λ x m n. (m, n)) (own_numbers h.new) new_marked)
      h.begun.begun
    where
      first_turn : (x : NodeId × Node) → is_among x.0 (numbers_of h.new) ≡ true → IsBegun x.1 → HasGone (turn_at t x.0) x.1.turn
      first_turn x m b =
          let none = no_turn t x.0 (h.begun.fresh x.0 (among_times x.0 h.new m)) in
          let turn = b.turn in
          record { later = omega (arith, none, turn); last = λ e. absurd (omega (arith, e, none, turn)) }

  pub bring_change : IsChange all_marked true marks t u
  bring_change =
      record {
        local = subst (λ b. IsLocal (λ n. is_among n all_marked) true (bare t) (bare b)) (sym h.is)
            (graft_local (λ n. is_among n all_marked) h.upper index h.new t d
            (marked_is h.upper ∙ or_right (is_among h.upper (numbers_of h.new)) _ (touched_number t parent h.upper ts marks before h.found (or_left (bytes_eq parent parent) _ (own_name parent))))
            (λ k calm. not_among k h.new (or_parts (is_among k (numbers_of h.new)) (is_among k ts) (sym (marked_is k) ∙ calm)).0));
        before = before_all;
        after = subst (EachNode (λ x. is_among x.0 all_marked ≡ marks x.1.name)) (sym h.is) (added (λ x. is_among x.0 all_marked ≡ marks x.1.name) new_alike before_all);
        nodes = subst (EachNode (IsFrom all_marked true t)) (sym h.is) (added (IsFrom all_marked true t) new_from (own_nodes all_marked true t d));
      }
    where
      added : (P : NodeId × Node → Type 0) → EachNode P h.new → EachNode P t → EachNode P (grafted h.upper index h.new t)
      added P n each = each_edited P h.upper (graft index h.new) t (λ x below p b. (p, (each_put P index h.new below n b, tt))) each

module _ (t u : NodeTrees) (d : IsDistinct t) (name : Word) (ts : List NodeId) (h : Removes name t u) (before : EachNode (λ x. is_among x.0 ts ≡ (bytes_eq x.1.name name || is_parent (plain_trees t) name x.1.name)) t) where
  abbrev gone_marks : Word → Bool
  gone_marks w = bytes_eq w name || is_parent (plain_trees t) name w

  pub take_change : IsChange ts true gone_marks t u
  take_change =
      record {
        local = subst (λ b. IsLocal (λ n. is_among n ts) true (bare t) (bare b)) (sym h.is)
            (remove_local (λ n. is_among n ts) h.id t d
            (touched_number t name h.id ts gone_marks before h.found (or_left (bytes_eq name name) _ (own_name name)))
            (touched_parent t name h.id ts gone_marks before h.found.tells (λ w e. or_right (bytes_eq w name) _ e)));
        before = before;
        after = subst (EachNode (λ x. is_among x.0 ts ≡ gone_marks x.1.name)) (sym h.is) (left (λ x. is_among x.0 ts ≡ gone_marks x.1.name) before);
        nodes = subst (EachNode (IsFrom ts true t)) (sym h.is) (left (IsFrom ts true t) (own_nodes ts true t d));
      }
    where
      left : (P : NodeId × Node → Type 0) → EachNode P t → EachNode P (removed h.id t)
      left P each = each_edited P h.id nothing t (λ x below p b. tt) each
