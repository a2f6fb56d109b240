-- Each container has a question on the path, and where it kept nothing an answer more is kept.
use Rattle.std.proofs.Common.{◌≡◌, ◌≢◌, refl, sym, ap, ◌∙◌, subst, arith, ℕ, zero, suc, ◌+◌, ◌<◌, ◌≤◌, ℤ, Bool, true, false, List, [], ◌∷◌, ◌++◌, map, drop, length, Option, Some, None, IsSome, is_some, inl, inr}
use Rattle.std.specs.Prelude.{◌⊎◌, Contains, if◌then◌else◌, slice_get}
use Rattle.std.proofs.lemmas.List.{length-map}
use Rattle.std.proofs.lemmas.List.Elements.{Contains-append_cases, Contains-append_left, Contains-append_right}
use Rattle.plain_tree.specs.Trees.{Trees, leafless, tree}
use Rattle.part_rules.specs.Lists.{zipped}
use Rattle.layout_cache.specs.Kept.{answer_to}
use Rattle.node_arena.specs.declared.number.NodeId.{NodeId}
use Rattle.node_arena.specs.Numbers.{EachNode, IsDistinct, Part, below_of, child_at, number_of, one, part_at, same, second, times, top_numbers, tops, value_at, value_of, way_up}
use Rattle.node_arena.proofs.Parts.{numbered}
use Rattle.node_arena.proofs.Same.{by_place, one_yes, part_there, same_from, same_is, same_refl}
use Rattle.node_arena.proofs.Standing.{some_is, way_after, way_below, way_head, way_some}
use Rattle.placing.specs.Children.{IsNext}
use Rattle.placing.specs.Kept.{IsRight, frame_of, kept_at, plain_answer}
use Rattle.placing.specs.Nodes.{Bare, BareTrees, IsLive, bare, children_at, kid_at, kids_at, level_at, sight_at}
use Rattle.placing.specs.Walks.{Entry, State, bare_in, entries_of, kept_in, kept_with}
use Rattle.placing.specs.declared.node.Answer.{Answer}
use Rattle.placing.specs.declared.node.Answer.TheVariants as answer
use Rattle.placing.specs.declared.node.Frame.{Frame as NodeFrame}
use Rattle.placing.proofs.KeptTrees.{read_children, read_value}
use Rattle.placing.proofs.Parents.{HasIndex, parent_index}
use Rattle.placing.proofs.Sights.{count_children, count_kids, next_there, sight_label}
use Rattle.tree_rules.specs.Answers.{Frame, Kid, Pair}
use Rattle.tree_rules.specs.AskedQueries.{ToChild, all_of, frames_query, pairs_below, passed_to, passes_from, root_query}
use Rattle.tree_rules.specs.Boxes.{root_framed, root_of}
use Rattle.tree_rules.specs.Chains.{Link}
use Rattle.tree_rules.specs.GridSizes.{pairs_for}
use Rattle.tree_rules.specs.Labels.{Label}
use Rattle.tree_rules.specs.Orders.{numbered_from}
use Rattle.tree_rules.specs.Places.{answers_of}
use Rattle.tree_rules.specs.Queries.{Answer as RulesAnswer, answer_by, answer_of, child_frames, is_container}
use Rattle.tree_rules.specs.declared.query.Ask.{Ask}
use Rattle.tree_rules.specs.declared.query.Ask.TheVariants as ask
use Rattle.tree_rules.specs.declared.query.Query.{Query}
use Rattle.box_layout.specs.BoxesSeen.{frames_seen}
use Rattle.box_layout.specs.Paths.{IsOnPath, IsPathKept, Passes, its_own, on, passes_at}
use Rattle.asked_names.specs.Asked.{AllDiffer, AreEmpty, IsNone, LeavesAreBare, chosen}
use Rattle.asked_names.proofs.Pigeons.{AllStand, behind, few_stand, in_cases, in_front, none_in}

-- ---- what is passed on

passed_one : (pairs : List Pair) (k : ℕ × Kid) (f : Frame) → is_container k.1.label.kind ≡ true → Contains (passed_to pairs k f) (k.0, frames_query (pairs_for k.1 pairs) f)
passed_one pairs k f e =
    let asked : ToChild = (k.0, frames_query (pairs_for k.1 pairs) f) in
    subst (λ (t : Bool). Contains (if t then asked ∷ [] else []) asked) (sym e) (in_front asked [])

pub passed_at : (pairs : List Pair) (kids more : List Kid) (frames others : List Frame) (n i : ℕ) (kid : Kid) (f : Frame) → drop i kids ≡ kid ∷ more → drop i frames ≡ f ∷ others → is_container kid.label.kind ≡ true
    → Contains (all_of (zipped (passed_to pairs) (numbered_from n kids) frames)) (n + i, frames_query (pairs_for kid pairs) f)
passed_at pairs [] more frames others n zero kid f e h c = absurd cc
passed_at pairs [] more frames others n (suc i) kid f e h c = absurd cc
passed_at pairs (x ∷ xs) more [] others n zero kid f e h c = absurd cc
passed_at pairs (x ∷ xs) more [] others n (suc i) kid f e h c = absurd cc
passed_at pairs (x ∷ xs) more (g ∷ gs) others n zero kid f e h c =
    let a : x ≡ kid = cc in
    let b : g ≡ f = cc in
    let number : n ≡ n + 0 = omega arith in
    let rest = all_of (zipped (passed_to pairs) (numbered_from (n + 1) xs) gs) in
    subst (λ (t : ToChild). Contains (passed_to pairs (n, x) g ++ rest) t) (λ j. (number j, frames_query (pairs_for (a j) pairs) (b j)))
    (Contains-append_left (passed_to pairs (n, x) g) rest (n, frames_query (pairs_for x pairs) g) (passed_one pairs (n, x) g (ap (λ (k : Kid). is_container k.label.kind) a ∙ c)))
passed_at pairs (x ∷ xs) more (g ∷ gs) others n (suc i) kid f e h c =
    let number : (n + 1) + i ≡ n + suc i = omega arith in
    let rest = all_of (zipped (passed_to pairs) (numbered_from (n + 1) xs) gs) in
    subst (λ (m : ℕ). Contains {X = ToChild} (passed_to pairs (n, x) g ++ rest) (m, frames_query (pairs_for kid pairs) f)) number
    (Contains-append_right (passed_to pairs (n, x) g) rest ((n + 1) + i, frames_query (pairs_for kid pairs) f) (passed_at pairs xs more gs others (n + 1) i kid f e h c))

-- it is a question for frames
framed_all : (pairs : List Pair) (kids : List Kid) (frames : List Frame) (n : ℕ) (t : ToChild) → Contains (all_of (zipped (passed_to pairs) (numbered_from n kids) frames)) t → t.1.ask ≡ ask.Frames
framed_all pairs [] frames n t h = absurd (none_in t h)
framed_all pairs (x ∷ xs) [] n t h = absurd (none_in t h)
framed_all pairs (x ∷ xs) (g ∷ gs) n t h = at (Contains-append_cases (passed_to pairs (n, x) g) (all_of (zipped (passed_to pairs) (numbered_from (n + 1) xs) gs)) t h) (framed_all pairs xs gs (n + 1) t)
  where
    asked : ToChild
    asked = (n, frames_query (pairs_for x pairs) g)

    one_of : (asked ≡ t) ⊎ Contains [] t → t.1.ask ≡ ask.Frames
    one_of (inl e) = ap (λ (u : ToChild). u.1.ask) (sym e)
    one_of (inr k) = absurd (none_in t k)

    own : (c : Bool) → Contains {X = ToChild} (if c then (n, frames_query (pairs_for x pairs) g) ∷ [] else []) t → t.1.ask ≡ ask.Frames
    own true k = one_of (in_cases (n, frames_query (pairs_for x pairs) g) t [] k)
    own false k = absurd (none_in t k)

    at : Contains (passed_to pairs (n, x) g) t ⊎ Contains (all_of (zipped (passed_to pairs) (numbered_from (n + 1) xs) gs)) t → (Contains (all_of (zipped (passed_to pairs) (numbered_from (n + 1) xs) gs)) t → t.1.ask ≡ ask.Frames) → t.1.ask ≡ ask.Frames
    at (inl k) rec = own (is_container x.label.kind) k
    at (inr k) rec = rec k

framed_from : (a : Ask) (x : Label) (chain : List Link) (kids : List Kid) (q : Query) (t : ToChild) → Contains (passes_from a x chain kids q) t → t.1.ask ≡ ask.Frames
framed_from ask.Inline x chain kids q t h = absurd (none_in t h)
framed_from ask.LendColumns x chain kids q t h = absurd (none_in t h)
framed_from ask.Block x chain kids q t h = absurd (none_in t h)
framed_from ask.LendRows x chain kids q t h = absurd (none_in t h)
framed_from ask.Frames x chain kids q t h = framed_all _ kids _ 0 t h

pub passes_framed : (b : BareTrees) (n m : NodeId) (q r : Query) → Passes b n q m r → q.ask ≡ ask.Frames → r.ask ≡ ask.Frames
passes_framed b _ _ _ _ (its_own n q) h = h
passes_framed b _ _ _ _ (on n c m q r s i is passed rest) h = passes_framed b c m r s rest (framed_from q.ask (sight_at b n).label (sight_at b n).chain (kids_at b n) q (i, r) passed)

-- one step more
pub passes_more : (b : BareTrees) (n m c : NodeId) (q r s : Query) (i : ℕ) → Passes b n q m r → child_at b m i ≡ Some c → Contains (passes_at b m r) (i, s) → Passes b n q c s
passes_more b _ _ c _ _ s i (its_own n q) is passed = on n c c q s s i is passed (its_own c s)
passes_more b _ _ c _ _ s i (on n d m q p r j below first rest) is passed = on n d c q p s j below first (passes_more b d m c p r s i rest is passed)

pub root_framed_first : (width height : ℤ) (x : Label) (below : Trees Label) (q : Query) → Contains (root_query width height x below) (0, q) → q.ask ≡ ask.Frames
root_framed_first width height x below q h = own (is_container x.kind) h
  where
    asked : ToChild
    asked = (0, frames_query [] (root_framed width height (root_of x below)).frame)

    one_of : (asked ≡ (0, q)) ⊎ Contains {X = ToChild} [] (0, q) → q.ask ≡ ask.Frames
    one_of (inl e) = ap (λ (u : ToChild). u.1.ask) (sym e)
    one_of (inr k) = absurd (none_in {A = ToChild} (0, q) k)

    own : (c : Bool) → Contains {X = ToChild} (if c then (0, frames_query [] (root_framed width height (root_of x below)).frame) ∷ [] else []) (0, q) → q.ask ≡ ask.Frames
    own true k = one_of (in_cases {A = ToChild} (0, frames_query [] (root_framed width height (root_of x below)).frame) (0, q) [] k)
    own false k = absurd (none_in {A = ToChild} (0, q) k)

-- ---- lists

record IsThere {A : Type 0} (xs : List A) (i : ℕ) : Type 0 where
  item : A
  rest : List A
  there : drop i xs ≡ item ∷ rest

item_there : {A : Type 0} (xs : List A) (i : ℕ) → i < length xs → IsThere xs i
item_there [] i h = absurd (omega (arith, h))
item_there (x ∷ xs) zero h = record { item = x; rest = xs; there = refl }
item_there (x ∷ xs) (suc i) h = let k = item_there xs i (omega (arith, h)) in record { item = k.item; rest = k.rest; there = k.there }

pub within : {A : Type 0} (xs rest : List A) (i : ℕ) (x : A) → drop i xs ≡ x ∷ rest → i < length xs
within [] rest zero x e = absurd cc
within [] rest (suc i) x e = absurd cc
within (y ∷ ys) rest zero x e = omega arith
within (y ∷ ys) rest (suc i) x e = omega (arith, within ys rest i x e)

-- ---- the way up

top_only : (u : BareTrees) (root m : NodeId) → top_numbers u ≡ root ∷ [] → 1 ≤ times m u → length (way_up u m) ≡ 1 → m ≡ root
top_only leafless root m e h k = absurd cc
top_only (tree x below leafless) root m e h k =
    by_place x below m
    (λ p. sym (same_is x.0 m p.is) ∙ first x.0 root e)
    (λ p. absurd (omega (arith, ap length (way_below x below leafless m p), length_more (way_up below m) x.0, way_some below m p.in_below, k)))
    (λ p. absurd (omega (arith, ap length (way_after x below leafless m p), k)))
  where
    first : (a c : NodeId) → a ∷ [] ≡ c ∷ [] → a ≡ c
    first a c q = cc

    length_more : (xs : List NodeId) (a : NodeId) → length (xs ++ a ∷ []) ≡ length xs + 1
    length_more [] a = refl
    length_more (y ∷ ys) a = omega (arith, length_more ys a)
top_only (tree x below (tree y c d)) root m e h k = absurd (omega (arith, ap length e))

pub parent_live : (b : BareTrees) (n p : NodeId) (index : ℕ) → child_at b p index ≡ Some n → IsLive b p
parent_live b n p index e = at (part_at b p) refl e
  where
    at : (o : Option (Part Bare)) → part_at b p ≡ o → number_of (slice_get (tops (below_of o)) index) ≡ Some n → IsSome (part_at b p)
    at None f k = absurd cc
    at (Some x) f k = ap is_some f

-- ---- a question of each container

pub record HasQuestion (b : BareTrees) (width height : ℤ) (m : NodeId) : Type 0 where
  pub query : Query
  pub on_path : IsOnPath b width height m query

module _ (b : BareTrees) (d : IsDistinct b) (width height : ℤ) (root : NodeId) (top : top_numbers b ≡ root ∷ []) (bare_leaves : LeavesAreBare b) (s : State) (right : IsRight s.arena.tree) (here : bare_in s ≡ b) (kept : IsPathKept b width height s) where
  path_framed : (n : NodeId) (q : Query) → IsOnPath b width height n q → q.ask ≡ ask.Frames
  path_framed n q p = passes_framed b p.root n p.first q p.passes (root_framed_first width height (sight_at b p.root).label (sight_at b p.root).below p.first p.own)

  frames_counted : (n : NodeId) (q : Query) → IsOnPath b width height n q → length (frames_seen b n q) ≡ length (kids_at b n)
  unfolding frames_seen
  frames_counted n q p = go (answer_to q (kept_at s.arena.tree n)) refl (kept n q p)
    where
      told : (a : Answer) → answer_to q (kept_at s.arena.tree n) ≡ Some a → plain_answer a ≡ child_frames (frames_seen b n q)
      told a e =
          read_value s.arena.tree n q a right e
          ∙ (λ j. answer_of (sight_at (here j) n) q)
          ∙ ap (λ z. answer_by (answers_of (sight_at b n)) z q) (path_framed n q p)

      frames_in : List Frame → RulesAnswer → List Frame
      frames_in other (child_frames frames) = frames
      frames_in other a = other

      counted : (a : Answer) → answer_to q (kept_at s.arena.tree n) ≡ Some a → plain_answer a ≡ child_frames (frames_seen b n q) → length (frames_seen b n q) ≡ length (kids_at b n)
      counted (answer.Sizes low high) e h = absurd cc
      counted (answer.Lent items) e h = absurd cc
      counted (answer.Block size) e h = absurd cc
      counted (answer.Laid size wide) e h = absurd cc
      counted (answer.Row size row) e h = absurd cc
      counted (answer.Column size column) e h = absurd cc
      counted (answer.Frames frames) e h =
          let same_frames : map frame_of frames ≡ frames_seen b n q = ap (frames_in []) h in
          let named : map (λ (f : NodeFrame). f.child) frames ≡ children_at (bare s.arena.tree) n = read_children s.arena.tree n q (answer.Frames frames) right e in
          ap length (sym same_frames) ∙ length-map frames frame_of ∙ sym (length-map frames (λ (f : NodeFrame). f.child)) ∙ ap length named ∙ ap (λ z. length (children_at z n)) here ∙ count_children b n ∙ sym (count_kids b n)

      go : (o : Option Answer) → answer_to q (kept_at s.arena.tree n) ≡ o → IsSome o → length (frames_seen b n q) ≡ length (kids_at b n)
      go None e h = absurd cc
      go (Some a) e h = counted a e (told a e)

  root_question : is_container (sight_at b root).label.kind ≡ true → HasQuestion b width height root
  root_question c =
      let x = (sight_at b root).label in
      let below = (sight_at b root).below in
      let asked : ToChild = (0, frames_query [] (root_framed width height (root_of x below)).frame) in
      record {
        query = asked.1;
        on_path = record { root = root; top = top; first = asked.1; own = subst (λ (t : Bool). Contains (if t then asked ∷ [] else []) asked) (sym c) (in_front asked []); passes = its_own root asked.1 };
      }

  child_question : (n c : NodeId) (i : ℕ) → HasQuestion b width height n → child_at b n i ≡ Some c → is_container (sight_at b c).label.kind ≡ true → HasQuestion b width height c
  unfolding frames_seen
  child_question n c i h is container =
      let q = h.query in
      let next : IsNext b n i c = next_there b d n c i is in
      let x = (sight_at b n).label in
      let chain = (sight_at b n).chain in
      let pairs = pairs_below x.kind x chain (kids_at b n) q in
      let f = item_there (frames_seen b n q) i (omega (arith, frames_counted n q h.on_path, within (kids_at b n) (drop (i + 1) (kids_at b n)) i (kid_at b c) next.kids)) in
      let r = frames_query (pairs_for (kid_at b c) pairs) f.item in
      let number : 0 + i ≡ i = omega arith in
      let passed : Contains {X = ToChild} (passes_at b n q) (i, r) =
      subst (λ z. Contains {X = ToChild} (passes_from z x chain (kids_at b n) q) (i, r)) (sym (path_framed n q h.on_path))
      (subst (λ (m : ℕ). Contains {X = ToChild} (all_of (zipped (passed_to pairs) (numbered_from 0 (kids_at b n)) (frames_seen b n q))) (m, r)) number
      (passed_at pairs (kids_at b n) (drop (i + 1) (kids_at b n)) (frames_seen b n q) f.rest 0 i (kid_at b c) f.item next.kids f.there container)) in
      record {
        query = r;
        on_path = record { root = h.on_path.root; top = h.on_path.top; first = h.on_path.first; own = h.on_path.own; passes = passes_more b h.on_path.root n c h.on_path.first q r i h.on_path.passes is passed };
      }

  question_by : (fuel : ℕ) (m : NodeId) → level_at b m ≤ fuel → IsLive b m → is_container (sight_at b m).label.kind ≡ true → HasQuestion b width height m
  question_by zero m few live container = absurd (omega (arith, few, way_some b m (part_there b m live)))
  question_by (suc fuel) m few live container = at (way_up b m) refl (question_by fuel)
    where
      first_two : (x : NodeId) (more : List NodeId) → way_up b m ≡ x ∷ more → x ≡ m
      first_two x more e = some_is x m (ap (λ w. second (m ∷ w)) (sym e) ∙ way_head b m m (part_there b m live))

      at : (way : List NodeId) → way_up b m ≡ way → ((p : NodeId) → level_at b p ≤ fuel → IsLive b p → is_container (sight_at b p).label.kind ≡ true → HasQuestion b width height p) → HasQuestion b width height m
      at [] e above = absurd (omega (arith, ap length e, way_some b m (part_there b m live)))
      at (x ∷ []) e above =
          let is : m ≡ root = top_only b root m top (part_there b m live) (ap length e) in
          subst (HasQuestion b width height) (sym is) (root_question (subst (λ z. is_container (sight_at b z).label.kind ≡ true) is container))
      at (x ∷ p ∷ rest) e above =
          let found : HasIndex b m p = parent_index b m p rest d (part_there b m live) (e ∙ ap (λ z. z ∷ p ∷ rest) (first_two x (p ∷ rest) e)) in
          let next : IsNext b p found.index m = next_there b d p m found.index found.number in
          child_question p m found.index (above p (omega (arith, few, next.level)) (parent_live b m p found.index found.number) (bare_leaves p m found.index found.number)) found.number container

  pub question_there : (m : NodeId) → IsLive b m → is_container (sight_at b m).label.kind ≡ true → HasQuestion b width height m
  question_there m live container = question_by (level_at b m) m (omega arith) live container

-- ---- the nodes that pass a test

module _ (test : NodeId × Bare → Bool) where
  occurs : NodeId → List NodeId → ℕ
  occurs n [] = 0
  occurs n (x ∷ xs) = one (same x n) + occurs n xs

  occurs_more : (n : NodeId) (xs ys : List NodeId) → occurs n (xs ++ ys) ≡ occurs n xs + occurs n ys
  unfolding occurs
  occurs_more n [] ys = omega arith
  occurs_more n (x ∷ xs) ys = omega (arith, occurs_more n xs ys)

  occurs_own : (n : NodeId) (t : Bool) (x : NodeId) → occurs n (if t then x ∷ [] else []) ≤ one (same x n)
  unfolding occurs
  occurs_own n true x = omega arith
  occurs_own n false x = omega arith

  occurs_none : (n : NodeId) → occurs n [] ≡ 0
  unfolding occurs
  occurs_none n = refl

  occurs_few : (n : NodeId) (t : BareTrees) → occurs n (chosen test t) ≤ times n t
  occurs_few n leafless = omega (arith, occurs_none n)
  occurs_few n (tree x below after) =
      let own : List NodeId = if test x then x.0 ∷ [] else [] in
      omega (arith, occurs_more n (own ++ chosen test below) (chosen test after), occurs_more n own (chosen test below), occurs_own n (test x) x.0, occurs_few n below, occurs_few n after)

  none_occurs : (n : NodeId) (xs : List NodeId) → occurs n xs ≡ 0 → IsNone n xs
  unfolding occurs
  none_occurs n [] e = tt
  none_occurs n (x ∷ xs) e = (λ is. absurd (omega (arith, one_yes (same x n) (same_from x n is), e)), none_occurs n xs (omega (arith, e)))

  once_differ : (xs : List NodeId) → ((n : NodeId) → occurs n xs ≤ 1) → AllDiffer xs
  unfolding occurs
  once_differ [] h = tt
  once_differ (x ∷ xs) h = (none_occurs x xs (omega (arith, h x, one_yes (same x x) (same_refl x))), once_differ xs (λ n. omega (arith, h n)))

  chosen_differ : (b : BareTrees) → IsDistinct b → AllDiffer (chosen test b)
  chosen_differ b d = once_differ (chosen test b) (λ n. omega (arith, occurs_few n b, d n))

  -- a node that passes it
  record IsChosen (P : NodeId × Bare → Type 0) (m : NodeId) : Type 0 where
    node : NodeId × Bare
    number : node.0 ≡ m
    passes : test node ≡ true
    fact : P node

  chosen_there : (P : NodeId × Bare → Type 0) (t : BareTrees) (m : NodeId) → EachNode P t → Contains (chosen test t) m → IsChosen P m
  chosen_there P leafless m each h = absurd (none_in m h)
  chosen_there P (tree x below after) m each h = at (Contains-append_cases ((if test x then x.0 ∷ [] else []) ++ chosen test below) (chosen test after) m h) (chosen_there P below m each.1.0) (chosen_there P after m each.1.1)
    where
      own : (t : Bool) → test x ≡ t → Contains (if t then x.0 ∷ [] else []) m → IsChosen P m
      own true e k = one_of (in_cases x.0 m [] k)
        where
          one_of : (x.0 ≡ m) ⊎ Contains [] m → IsChosen P m
          one_of (inl is) = record { node = x; number = is; passes = e; fact = each.0 }
          one_of (inr none) = absurd (none_in m none)
      own false e k = absurd (none_in m k)

      first : Contains (if test x then x.0 ∷ [] else []) m ⊎ Contains (chosen test below) m → (Contains (chosen test below) m → IsChosen P m) → IsChosen P m
      first (inl k) lower = own (test x) refl k
      first (inr k) lower = lower k

      at : Contains ((if test x then x.0 ∷ [] else []) ++ chosen test below) m ⊎ Contains (chosen test after) m → (Contains (chosen test below) m → IsChosen P m) → (Contains (chosen test after) m → IsChosen P m) → IsChosen P m
      at (inl k) lower later = first (Contains-append_cases (if test x then x.0 ∷ [] else []) (chosen test below) m k) lower
      at (inr k) lower later = later k

-- ---- the least number of answers

node_of : Entry → NodeId
node_of e = e.node

-- a node that keeps an answer and kept none has an entry
entry_there : (m : NodeId) (q : Query) (added : List Entry) → IsSome (answer_to q (kept_with [] (entries_of m added))) → Contains (map node_of added) m
unfolding node_of
entry_there m q [] h = absurd cc
entry_there m q (e ∷ rest) h = go e rest (entries_of m (e ∷ rest)) refl h
  where
    some : (xs : List Entry) → entries_of m xs ≢ [] → Contains (map node_of xs) m
    some [] ne = absurd (ne refl)
    some (x ∷ xs) ne = at (same x.node m) refl ne (some xs)
      where
        at : (t : Bool) → same x.node m ≡ t → (if t then (x.query, x.answer) ∷ [] else []) ++ entries_of m xs ≢ [] → (entries_of m xs ≢ [] → Contains (map node_of xs) m) → Contains (x.node ∷ map node_of xs) m
        at true is k rec = subst (λ z. Contains (x.node ∷ map node_of xs) z) (same_is x.node m is) (in_front x.node (map node_of xs))
        at false is k rec = behind x.node m (map node_of xs) (rec k)

    go : (x : Entry) (xs : List Entry) (all : List (Query × Answer)) → entries_of m (x ∷ xs) ≡ all → IsSome (answer_to q (kept_with [] all)) → Contains (map node_of (x ∷ xs)) m
    go x xs [] is k = absurd cc
    go x xs (p ∷ more) is k = some (x ∷ xs) (λ none. absurd (empty (sym is ∙ none)))
      where
        empty : p ∷ more ≡ [] → ⊥
        empty e = absurd cc

all_from : {A : Type 0} (ys xs : List A) → ((x : A) → Contains xs x → Contains ys x) → AllStand ys xs
all_from ys [] h = tt
all_from ys (x ∷ xs) h = (h x (in_front x xs), all_from ys xs (λ z there. h z (behind x z xs there)))

-- Where all containers keep their questions of the path, at least as many answers were kept as there are containers that kept nothing before.
pub least_answers : (test : NodeId × Bare → Bool) (b : BareTrees) → IsDistinct b → (width height : ℤ) (root : NodeId) → top_numbers b ≡ root ∷ [] → LeavesAreBare b → (old new : State) → IsRight new.arena.tree → bare_in new ≡ b → IsPathKept b width height new
    → (added : List Entry) → ((m : NodeId) → kept_in new m ≡ kept_with (kept_in old m) (entries_of m added)) → AreEmpty test b old → length (chosen test b) ≤ length added
least_answers test b d width height root top bare_leaves old new right here kept added grown empty =
    omega (arith, few_stand same same_refl same_is (chosen test b) (map node_of added) (chosen_differ test b d) (all_from (map node_of added) (chosen test b) there), length-map added node_of)
  where
    there : (m : NodeId) → Contains (chosen test b) m → Contains (map node_of added) m
    there m h =
        let found = chosen_there test (λ x. value_at b x.0 ≡ Some x.1) b m (numbered b d).each h in
        let value : Some found.node.1 ≡ value_at b m = sym found.fact ∙ ap (value_at b) found.number in
        let facts = empty m found.node.1 value (subst (λ z. test (z, found.node.1) ≡ true) found.number found.passes) in
        let container : is_container (sight_at b m).label.kind ≡ true = ap (λ (x : Label). is_container x.kind) (sym (sight_label b m found.node.1 value)) ∙ facts.0 in
        let question = question_there b d width height root top bare_leaves new right here kept m (live m found.node.1 value) container in
        entry_there m question.query added (subst (λ l. IsSome (answer_to question.query l)) (grown m ∙ ap (λ l. kept_with l (entries_of m added)) facts.1) (kept m question.query question.on_path))
      where
        live : (n : NodeId) (v : Bare) → Some v ≡ value_at b n → IsLive b n
        live n v e = at (part_at b n) refl e
          where
            at : (o : Option (Part Bare)) → part_at b n ≡ o → Some v ≡ value_of o → IsSome (part_at b n)
            at None f k = absurd cc
            at (Some x) f k = ap is_some f
