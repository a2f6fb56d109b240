-- What is kept of the path while the children of a container are gone through one after the other.
use Rattle.std.proofs.Common.{arith, ◌≡◌, ◌≢◌, ℕ, zero, suc, ◌+◌, ◌≤◌, ◌<◌, ◌==◌, ◌∷◌, ◌++◌, [], List, Bool, true, false, if◌then◌else◌, length, drop, refl, sym, ap, ◌∙◌, subst, ℤ, Some, inl, inr}
use Rattle.std.specs.Prelude.{◌⊎◌, ◌-◌, Contains, IsSome, None, Option, slice_index_or}
use Rattle.std.proofs.lemmas.Bool.{eqb-false, eqb-true}
use Rattle.std.proofs.lemmas.List.Elements.{Contains-append_cases}
use Rattle.std.proofs.lemmas.List.{length-append}
use Rattle.layout_cache.specs.Kept.{answer_to}
use Rattle.layout_cache.proofs.Sames.{query_refl}
use Rattle.node_arena.specs.declared.number.NodeId.{NodeId}
use Rattle.node_arena.specs.Numbers.{IsDistinct, child_at, top_numbers}
use Rattle.part_rules.specs.Lists.{zipped}
use Rattle.placing.specs.Children.{IsOutside}
use Rattle.placing.specs.Nodes.{BareTrees, kid_at, kids_at, sight_at}
use Rattle.placing.specs.Walks.{State, bare_in, kept_in, kept_with}
use Rattle.placing.specs.declared.node.Answer.{Answer}
use Rattle.placing.specs.declared.contexts.Above.{Above}
use Rattle.placing.specs.declared.node.Frame.{Frame as NodeFrame}
use Rattle.placing.specs.Kept.{frame_of}
use Rattle.lunit.specs.declared.geometry.Area.{Area}
use Rattle.tree_rules.specs.Answers.{Frame, Kid, Pair}
use Rattle.tree_rules.specs.AskedQueries.{ToChild, all_of, frames_query, passed_to, root_query}
use Rattle.tree_rules.specs.Boxes.{root_framed, root_of}
use Rattle.tree_rules.specs.GridSizes.{pairs_for}
use Rattle.tree_rules.specs.Orders.{numbered_from}
use Rattle.tree_rules.specs.Queries.{is_container, same_query}
use Rattle.tree_rules.specs.declared.query.Given.{Given}
use Rattle.tree_rules.specs.declared.query.Query.{Query}
use Rattle.inline_sizes.specs.Calls.{Found, Keeps}
use Rattle.block_sizes.specs.Keeping.{GrowsBy, KeepsSize}
use Rattle.box_layout.specs.Asking.{frames_asked}
use Rattle.box_layout.specs.BoxesSeen.{frames_seen, pairs_seen}
use Rattle.box_layout.specs.Paths.{AreKeptBelow, IsChildLaid, IsPathKept, Passes, its_own, on, passes_at}
use Rattle.box_layout.proofs.Apart.{passes_apart}
use Rattle.box_layout.proofs.BelowSteps.{IsTurn}

-- ---- a list of one item, and one of none

pub none_there : {A : Type 0} (x : A) → Contains [] x → ⊥
none_there x h = absurd (omega (arith, h.1))

pub one_there : {A : Type 0} (t x : A) → Contains (t ∷ []) x → t ≡ x
one_there {A} t x h = go h.0 h.1 h.2
  where
    go : (k : ℕ) → k < length (t ∷ []) → slice_index_or (t ∷ []) k x ≡ x → t ≡ x
    go zero l e = e
    go (suc k) l e = absurd (omega (arith, l))

-- ---- what is passed on

-- the question to the child of this index
pub record IsPassed (pairs : List Pair) (kids : List Kid) (frames : List Frame) (n m : ℕ) (r : Query) : Type 0 where
  pub index : ℕ
  pub number : m ≡ n + index
  pub kid : Kid
  pub frame : Frame
  pub more : List Kid
  pub after : List Frame
  pub kids_are : drop index kids ≡ kid ∷ more
  pub frames_are : drop index frames ≡ frame ∷ after
  pub container : is_container kid.label.kind ≡ true
  pub question : r ≡ frames_query (pairs_for kid pairs) frame

first_passed : (pairs : List Pair) (x : Kid) (xs : List Kid) (g : Frame) (gs : List Frame) (n m : ℕ) (r : Query) → Contains (passed_to pairs (n, x) g) (m, r) → IsPassed pairs (x ∷ xs) (g ∷ gs) n m r
first_passed pairs x xs g gs n m r h = go (is_container x.label.kind) refl h
  where
    asked : ToChild
    asked = (n, frames_query (pairs_for x pairs) g)

    go : (t : Bool) → is_container x.label.kind ≡ t → Contains {X = ToChild} (if t then (n, frames_query (pairs_for x pairs) g) ∷ [] else []) (m, r) → IsPassed pairs (x ∷ xs) (g ∷ gs) n m r
    go true is there =
        let same : (n, frames_query (pairs_for x pairs) g) ≡ (m, r) = one_there _ _ there in
        let here : n + 0 ≡ n = omega arith in
        record { index = 0; number = sym (here ∙ ap (λ (t : ToChild). t.0) same); kid = x; frame = g; more = xs; after = gs; kids_are = refl; frames_are = refl; container = is; question = sym (ap (λ (t : ToChild). t.1) same) }
    go false is there = absurd (none_there _ there)

later_passed : (pairs : List Pair) (x : Kid) (xs : List Kid) (g : Frame) (gs : List Frame) (n m : ℕ) (r : Query) → IsPassed pairs xs gs (n + 1) m r → IsPassed pairs (x ∷ xs) (g ∷ gs) n m r
later_passed pairs x xs g gs n m r p =
    record { index = suc p.index; number = omega (arith, p.number); kid = p.kid; frame = p.frame; more = p.more; after = p.after; kids_are = p.kids_are; frames_are = p.frames_are; container = p.container; question = p.question }

pub passed_out : (pairs : List Pair) (kids : List Kid) (frames : List Frame) (n m : ℕ) (r : Query) → Contains (all_of (zipped (passed_to pairs) (numbered_from n kids) frames)) (m, r) → IsPassed pairs kids frames n m r
passed_out pairs [] frames n m r h = absurd (none_there _ h)
passed_out pairs (x ∷ xs) [] n m r h = absurd (none_there _ h)
passed_out pairs (x ∷ xs) (g ∷ gs) n m r h =
    go (passed_out pairs xs gs (n + 1) m r) (Contains-append_cases (passed_to pairs (n, x) g) (all_of (zipped (passed_to pairs) (numbered_from (n + 1) xs) gs)) (m, r) h)
  where
    go : (Contains (all_of (zipped (passed_to pairs) (numbered_from (n + 1) xs) gs)) (m, r) → IsPassed pairs xs gs (n + 1) m r) → Contains (passed_to pairs (n, x) g) (m, r) ⊎ Contains (all_of (zipped (passed_to pairs) (numbered_from (n + 1) xs) gs)) (m, r)
        → IsPassed pairs (x ∷ xs) (g ∷ gs) n m r
    go more (inl here) = first_passed pairs x xs g gs n m r here
    go more (inr there) = later_passed pairs x xs g gs n m r (more there)

-- the one question that a child is passed
pub record IsOnly (b : BareTrees) (c : NodeId) (reps : List Pair) (f : Frame) (r : Query) : Type 0 where
  pub container : is_container (sight_at b c).label.kind ≡ true
  pub question : r ≡ frames_asked reps f.inline f.block

pub first_is : {A : Type 0} (x y : A) (xs ys : List A) → x ∷ xs ≡ y ∷ ys → x ≡ y
first_is x y xs ys e = cc

pub only_passed : (b : BareTrees) (n c : NodeId) (reps outer : List Pair) (inline block : Given) (i : ℕ) (f : Frame) (rest : List Kid) (after : List Frame) (r : Query)
    → drop i (kids_at b n) ≡ kid_at b c ∷ rest → drop i (frames_seen b n (frames_asked outer inline block)) ≡ f ∷ after → reps ≡ pairs_for (kid_at b c) (pairs_seen b n (frames_asked outer inline block))
    → Contains (passes_at b n (frames_asked outer inline block)) (i, r) → IsOnly b c reps f r
unfolding frames_seen pairs_seen
only_passed b n c reps outer inline block i f rest after r kid_there frame_there same h =
    let p = passed_out _ (kids_at b n) _ 0 i r h in
    let place : p.index ≡ i = omega (arith, p.number) in
    let kid : p.kid ≡ kid_at b c = first_is _ _ p.more rest (sym p.kids_are ∙ ap (λ k. drop k (kids_at b n)) place ∙ kid_there) in
    let frame : p.frame ≡ f = first_is _ _ p.after after (sym p.frames_are ∙ ap (λ k. drop k (frames_seen b n (frames_asked outer inline block))) place ∙ frame_there) in
    record {
      container = ap (λ (k : Kid). is_container k.label.kind) (sym kid) ∙ p.container;
      question = p.question ∙ (λ j. frames_query (pairs_for (kid j) (pairs_seen b n (frames_asked outer inline block))) (frame j)) ∙ ap (λ (l : List Pair). frames_asked l f.inline f.block) (sym same);
    }

-- ---- the children that are gone through

-- what these pass on is kept
abbrev pub AreDone : BareTrees → NodeId → Query → ℕ → State → Type 0
AreDone b n q i s = (k : ℕ) (c : NodeId) (r : Query) → k < i → child_at b n k ≡ Some c → Contains (passes_at b n q) (k, r) → AreKeptBelow b c r s

pub none_done : (b : BareTrees) (n : NodeId) (q : Query) (s : State) → AreDone b n q 0 s
none_done b n q s = λ k c r within child passed. absurd (omega (arith, within))

-- a child changes nothing outside it
pub outside_same : (d : BareTrees) (c : NodeId) (r : Query) (t u : State) → bare_in t ≡ d → IsChildLaid d c r t u → (m : NodeId) → IsOutside d c m → kept_in u m ≡ kept_in t m
outside_same d c r t u here (inl e) m out = ap (λ s. kept_in s m) e
outside_same d c r t u here (inr k) m out = k.1.within m (subst (λ z. IsOutside z c m) (sym here) out)

module _ (b : BareTrees) (distinct : IsDistinct b) (n : NodeId) (outer : List Pair) (inline block : Given) (x y : ℤ) (i : ℕ) (c : NodeId) (reps : List Pair) (up : Above) (area : Area) (f : NodeFrame) (turn : IsTurn b n (frames_asked outer inline block) x y i c reps up area f) (t u : State)
    (same : (m : NodeId) → IsOutside b c m → kept_in u m ≡ kept_in t m) where
  some_is : (y z : NodeId) → Some y ≡ Some z → y ≡ z
  some_is y z e = cc

  pub done_next : AreDone b n (frames_asked outer inline block) i t → (is_container (sight_at b c).label.kind ≡ true → AreKeptBelow b c (frames_asked reps f.inline f.block) u) → AreDone b n (frames_asked outer inline block) (i + 1) u
  done_next done now k e r within child passed = go (k == i) refl
    where
      go : (z : Bool) → (k == i) ≡ z → AreKeptBelow b e r u
      go true is =
          let place : k ≡ i = eqb-true k i is in
          let node : c ≡ e = some_is c e (sym turn.next.number ∙ ap (child_at b n) (sym place) ∙ child) in
          let only = only_passed b n c reps outer inline block i (frame_of f) _ _ r turn.next.kids turn.frame turn.pairs (subst (λ z. Contains (passes_at b n (frames_asked outer inline block)) (z, r)) place passed) in
          subst (λ z. AreKeptBelow b z r u) node (subst (λ z. AreKeptBelow b c z u) (sym only.question) (now only.container))
      go false is =
          let other : k ≢ i = eqb-false k i is in
          λ m s way. subst (λ l. IsSome (answer_to s l)) (sym (same m (passes_apart b distinct n e c m k i r s child turn.next.number other way))) (done k e r (omega (arith, within, other)) child passed m s way)

  pub own_next : (q : Query) → IsSome (answer_to q (kept_in t n)) → IsSome (answer_to q (kept_in u n))
  own_next q kept = subst (λ l. IsSome (answer_to q l)) (sym (same n turn.next.parent)) kept

-- all of them
pub all_done : (b : BareTrees) (n : NodeId) (q : Query) (s : State) → IsSome (answer_to q (kept_in s n)) → ((k : ℕ) (c : NodeId) (r : Query) → child_at b n k ≡ Some c → Contains (passes_at b n q) (k, r) → AreKeptBelow b c r s) → AreKeptBelow b n q s
all_done b n q s own done m r way = go n q m r way own done
  where
    go : (n : NodeId) (q : Query) (m : NodeId) (r : Query) → Passes b n q m r → IsSome (answer_to q (kept_in s n)) → ((k : ℕ) (c : NodeId) (r : Query) → child_at b n k ≡ Some c → Contains (passes_at b n q) (k, r) → AreKeptBelow b c r s) → IsSome (answer_to r (kept_in s m))
    go _ _ _ _ (its_own n q) own done = own
    go _ _ _ _ (on n c m q r p index child passed way) own done = done index c r child passed m p way

-- ---- the whole tree

pub path_of_root : (b : BareTrees) (root : NodeId) (width height : ℤ) (f : Frame) (s : State) → top_numbers b ≡ root ∷ [] → f ≡ (root_framed width height (root_of (sight_at b root).label (sight_at b root).below)).frame
    → (is_container (sight_at b root).label.kind ≡ true → AreKeptBelow b root (frames_asked [] f.inline f.block) s) → IsPathKept b width height s
path_of_root b root width height f s top is kept m q way = go (is_container (sight_at b root).label.kind) refl own_here
  where
    first_one : (x y : NodeId) → x ∷ [] ≡ y ∷ [] → x ≡ y
    first_one x y e = cc

    same_root : way.root ≡ root
    same_root = first_one way.root root (sym way.top ∙ top)

    own_here : Contains (root_query width height (sight_at b root).label (sight_at b root).below) (0, way.first)
    own_here = subst (λ z. Contains (root_query width height (sight_at b z).label (sight_at b z).below) (0, way.first)) same_root way.own

    passes_here : Passes b root way.first m q
    passes_here = subst (λ z. Passes b z way.first m q) same_root way.passes

    go : (t : Bool) → is_container (sight_at b root).label.kind ≡ t → Contains {X = ToChild} (if t then (0, frames_query [] (root_framed width height (root_of (sight_at b root).label (sight_at b root).below)).frame) ∷ [] else []) (0, way.first) → IsSome (answer_to q (kept_in s m))
    go true container there =
        let question : frames_asked [] f.inline f.block ≡ way.first = (λ i. frames_query [] (is i)) ∙ ap (λ (z : ToChild). z.1) (one_there _ _ there) in
        kept container m q (subst (λ z. Passes b root z m q) (sym question) passes_here)
    go false container there = absurd (none_there _ there)

-- ---- the container's own question

at_end : (q : Query) (xs : List (Query × Answer)) (a : Answer) → IsSome (answer_to q (xs ++ (q, a) ∷ []))
at_end q [] a = subst (λ (t : Bool). IsSome (if t then Some a else None)) (sym (query_refl q)) refl
at_end q (e ∷ xs) a = go (same_query e.0 q) (at_end q xs a)
  where
    go : (t : Bool) → IsSome (answer_to q (xs ++ (q, a) ∷ [])) → IsSome (if t then Some e.1 else answer_to q (xs ++ (q, a) ∷ []))
    go true later = refl
    go false later = later

dropped_end : (q : Query) (k : ℕ) (xs : List (Query × Answer)) (a : Answer) → k ≤ length xs → IsSome (answer_to q (drop k (xs ++ (q, a) ∷ [])))
dropped_end q zero xs a h = at_end q xs a
dropped_end q (suc k) [] a h = absurd (omega (arith, h))
dropped_end q (suc k) (e ∷ xs) a h = dropped_end q k xs a (omega (arith, h))

newest_there : (q : Query) (xs : List (Query × Answer)) (a : Answer) → IsSome (answer_to q (kept_with xs ((q, a) ∷ [])))
newest_there q xs a = dropped_end q (length (xs ++ (q, a) ∷ []) - 16) xs a (omega (arith, length-append xs ((q, a) ∷ [])))

-- it is kept, whether it was or not
pub asked_kept : (n : NodeId) (q : Query) (s t : State) (a : Answer) → Found n q s t → Keeps n q s t a → IsSome (answer_to q (kept_in t n))
asked_kept n q s t a found keeps = go (answer_to q (kept_in s n)) refl
  where
    go : (o : Option Answer) → answer_to q (kept_in s n) ≡ o → IsSome (answer_to q (kept_in t n))
    go None is = subst (λ l. IsSome (answer_to q l)) (sym (keeps is)) (newest_there q (kept_in s n) a)
    go (Some z) is =
        let there : IsSome (answer_to q (kept_in s n)) = subst IsSome (sym is) refl in
        subst (λ l. IsSome (answer_to q l)) (ap (λ u. kept_in u n) (sym (found there))) there

-- the answer is kept where it is a block size, with or without the grid in its columns
pub sized_kept : (n : NodeId) (q : Query) (s t : State) (size : ℤ) → Found n q s t → KeepsSize n q s t size → IsSome (answer_to q (kept_in t n))
sized_kept n q s t size found keeps = go (answer_to q (kept_in s n)) refl
  where
    grown : GrowsBy (kept_in s n) q size (kept_in t n) → IsSome (answer_to q (kept_in t n))
    grown (a, (same, grows)) = subst (λ l. IsSome (answer_to q l)) (sym grows) (newest_there q (kept_in s n) a)

    go : (o : Option Answer) → answer_to q (kept_in s n) ≡ o → IsSome (answer_to q (kept_in t n))
    go None is = grown (keeps is)
    go (Some z) is =
        let there : IsSome (answer_to q (kept_in s n)) = subst IsSome (sym is) refl in
        subst (λ l. IsSome (answer_to q l)) (ap (λ u. kept_in u n) (sym (found there))) there
