-- Walks, step by step.
use Rattle.std.proofs.Common.{◌≡◌, ℕ, zero, suc, ◌+◌, ◌-◌, ◌*◌, ◌≤◌, List, [], ◌∷◌, ◌++◌, Option, Some, None, cond, length, drop, refl, sym, ap, ◌∙◌, arith, append_assoc, append-nil, length-append, length-drop, subst, inl, inr}
use Rattle.std.specs.Prelude.{◌⊎◌, Contains}
use Rattle.node_arena.specs.declared.number.NodeId.{NodeId}
use Rattle.node_arena.specs.Numbers.{same}
use Rattle.outside.specs.Faults.{one_more}
use Rattle.outside.specs.Told.{Adds}
use Rattle.outside.specs.declared.event.Event.{Event}
use Rattle.tree_rules.specs.declared.query.Query.{Query}
use Rattle.tree_rules.specs.KeptAnswers.{IsAbsent, last_of, most_kept}
use Rattle.placing.specs.declared.node.Answer.{Answer}
use Rattle.placing.specs.Children.{IsNext, IsOutside}
use Rattle.placing.specs.Kept.{IsRight}
use Rattle.placing.specs.Nodes.{BareTrees, uses_at}
use Rattle.placing.specs.Walks.{AreAsked, AreFresh, Asks, Entry, IsCut, IsStep, State, Stopped, Walk, Walked, WalkedBelow, bare_in, entries_of, events_at, events_of, kept_in, kept_with, rising, through}

-- ---- lists that keep their last items
drop_none : {X : Type 0} (n : ℕ) → drop {A = X} n [] ≡ []
drop_none zero = refl
drop_none (suc n) = refl

drop_seam : {X : Type 0} (n : ℕ) (xs ys : List X) → n ≤ length xs → drop n (xs ++ ys) ≡ drop n xs ++ ys
drop_seam zero xs ys h = refl
drop_seam (suc n) [] ys h = absurd (omega arith)
drop_seam (suc n) (x ∷ xs) ys h = drop_seam n xs ys (omega arith)

drop_twice : {X : Type 0} (i j : ℕ) (xs : List X) → drop j (drop i xs) ≡ drop (i + j) xs
drop_twice zero j xs = let e : 0 + j ≡ j = omega arith in ap (λ k. drop k xs) (sym e)
drop_twice (suc i) j [] = drop_none j ∙ sym (drop_none (suc i + j))
drop_twice (suc i) j (x ∷ xs) = let e : suc i + j ≡ suc (i + j) = omega arith in drop_twice i j xs ∙ ap (λ k. drop k (x ∷ xs)) (sym e)

pub last_few : {X : Type 0} (n : ℕ) (xs : List X) → length xs ≤ n → last_of n xs ≡ xs
last_few n xs h = let none : length xs - n ≡ 0 = omega arith in ap (λ k. drop k xs) none

last_twice : {X : Type 0} (n : ℕ) (xs ys : List X) → last_of n (last_of n xs ++ ys) ≡ last_of n (xs ++ ys)
last_twice n xs ys =
    let k : length xs - n ≤ length xs = omega arith in
    let m : (length xs - n) + (length (drop (length xs - n) xs ++ ys) - n) ≡ length (xs ++ ys) - n = omega (arith, length-append (drop (length xs - n) xs) ys, length-append xs ys, length-drop (length xs - n) xs) in
    ap (drop (length (drop (length xs - n) xs ++ ys) - n)) (sym (drop_seam (length xs - n) xs ys k)) ∙ drop_twice (length xs - n) (length (drop (length xs - n) xs ++ ys) - n) (xs ++ ys) ∙ ap (λ i. drop i (xs ++ ys)) m

pub kept_none : (xs : List (Query × Answer)) → length xs ≤ most_kept → kept_with xs [] ≡ xs
kept_none xs h = ap (last_of most_kept) (append-nil xs) ∙ last_few most_kept xs h

pub kept_few : (xs ys : List (Query × Answer)) → length (kept_with xs ys) ≤ most_kept
kept_few xs ys = omega (arith, length-drop (length (xs ++ ys) - 16) (xs ++ ys))

kept_then : (xs ys zs : List (Query × Answer)) → kept_with (kept_with xs ys) zs ≡ kept_with xs (ys ++ zs)
kept_then xs ys zs = last_twice most_kept (xs ++ ys) zs ∙ ap (last_of most_kept) (append_assoc xs ys zs)

-- ---- entries
entries_more : (n : NodeId) (xs ys : List Entry) → entries_of n (xs ++ ys) ≡ entries_of n xs ++ entries_of n ys
entries_more n [] ys = refl
entries_more n (x ∷ xs) ys =
    let own = cond (same x.node n) ((x.query, x.answer) ∷ []) [] in
    ap (λ z. own ++ z) (entries_more n xs ys) ∙ sym (append_assoc own (entries_of n xs) (entries_of n ys))

events_more : (b : BareTrees) (xs ys : List Entry) → events_of b (xs ++ ys) ≡ events_of b xs ++ events_of b ys
events_more b [] ys = refl
events_more b (x ∷ xs) ys = ap (λ z. events_at b x.node x.query ++ z) (events_more b xs ys) ∙ sym (append_assoc (events_at b x.node x.query) (events_of b xs) (events_of b ys))

asked_more : (May : NodeId → Query → Type 0) (xs ys : List Entry) → AreAsked May xs → AreAsked May ys → AreAsked May (xs ++ ys)
asked_more May [] ys h k = k
asked_more May (x ∷ xs) ys h k = (h.0, asked_more May xs ys h.1 k)

asked_also : (May Also : NodeId → Query → Type 0) (xs : List Entry) → ((m : NodeId) (r : Query) → May m r → Also m r) → AreAsked May xs → AreAsked Also xs
asked_also May Also [] f h = tt
asked_also May Also (x ∷ xs) f h = (f x.node x.query h.0, asked_also May Also xs f h.1)

fresh_from : (kept later : NodeId → List (Query × Answer)) (done more ys : List Entry) → ((m : NodeId) → later m ≡ kept_with (kept m) (entries_of m done)) → AreFresh later more ys → AreFresh kept (done ++ more) ys
fresh_from kept later done more [] s h = tt
fresh_from kept later done more (y ∷ ys) s h = (
  subst (IsAbsent y.query)
      (ap (λ k. kept_with k (entries_of y.node more)) (s y.node) ∙ kept_then (kept y.node) (entries_of y.node done) (entries_of y.node more) ∙ ap (kept_with (kept y.node)) (sym (entries_more y.node done more)))
      h.0,
  subst (λ d. AreFresh kept d ys) (sym (append_assoc done more (y ∷ []))) (fresh_from kept later done (more ++ y ∷ []) ys s h.1),
)

fresh_more : (kept later : NodeId → List (Query × Answer)) (done xs ys : List Entry) → ((m : NodeId) → later m ≡ kept_with (kept m) (entries_of m (done ++ xs))) → AreFresh kept done xs → AreFresh later [] ys → AreFresh kept done (xs ++ ys)
fresh_more kept later done [] ys s h k = subst (λ d. AreFresh kept d ys) (append-nil done) (fresh_from kept later done [] ys (λ m. s m ∙ ap (λ d. kept_with (kept m) (entries_of m d)) (append-nil done)) k)
fresh_more kept later done (x ∷ xs) ys s h k = (h.0, fresh_more kept later (done ++ x ∷ []) xs ys (λ m. s m ∙ ap (λ d. kept_with (kept m) (entries_of m d)) (sym (append_assoc done (x ∷ []) xs))) h.1 k)

-- ---- counts and logs
pub rising_more : (a x y z : ℕ) → z ≡ x + y → rising a z ≡ rising (rising a x) y
rising_more a x zero z e = let same_count : z ≡ x = omega arith in ap (rising a) same_count
rising_more a x (suc y) z e = let same_count : z ≡ suc (x + y) = omega arith in ap (rising a) same_count ∙ ap one_more (rising_more a x y (x + y) refl)

pub adds_more : (a b c : Option (List Event)) (xs ys : List Event) → Adds a b xs → Adds b c ys → Adds a c (xs ++ ys)
adds_more None b c xs ys p q = tt
adds_more (Some us) None c xs ys p q = absurd p
adds_more (Some us) (Some vs) None xs ys p q = absurd q
adds_more (Some us) (Some vs) (Some ws) xs ys p q = q ∙ ap (λ z. z ++ ys) p ∙ append_assoc us xs ys

pub adds_none : (a : Option (List Event)) → Adds a a []
adds_none None = tt
adds_none (Some xs) = sym (append-nil xs)

-- ---- walks
-- nothing was done
pub walk_none : (May : NodeId → Query → Type 0) (s : State) → IsRight s.arena.tree → Walk May 0 [] s s
walk_none May s r =
    record {
      added = [];
      bare_same = refl;
      frame = refl;
      kept = λ m. sym (kept_none (kept_in s m) (r.lists m).few);
      fresh = tt;
      asked = tt;
      ticks = omega arith;
      counted = refl;
      measured = refl;
      log = adds_none s.log;
      lasting = λ e. (e, λ m q some. some);
    }

-- one walk after another, where the first left no events over, with what is left over in the end
pub walk_then : (May Then : NodeId → Query → Type 0) (more then_more all : ℕ) (rest : List Event) (s t u : State) (w : Walk May more [] s t) (x : Walk Then then_more rest t u) → ((m : NodeId) (r : Query) → Then m r → May m r) →
    u.passes ≤ s.passes + 4 * (length w.added + length x.added) + all → Walk May all rest s u
walk_then May Then more then_more all rest s t u w x f passes =
    let events : (events_of (bare_in s) w.added ++ []) ++ (events_of (bare_in t) x.added ++ rest) ≡ events_of (bare_in s) (w.added ++ x.added) ++ rest =
    (λ i. append-nil (events_of (bare_in s) w.added) i ++ (events_of (w.bare_same i) x.added ++ rest))
    ∙ sym (append_assoc (events_of (bare_in s) w.added) (events_of (bare_in s) x.added) rest) ∙ ap (λ z. z ++ rest) (sym (events_more (bare_in s) w.added x.added)) in
    record {
      added = w.added ++ x.added;
      bare_same = x.bare_same ∙ w.bare_same;
      frame = x.frame ∙ w.frame;
      kept = λ m. x.kept m ∙ ap (λ k. kept_with k (entries_of m x.added)) (w.kept m) ∙ kept_then (kept_in s m) (entries_of m w.added) (entries_of m x.added) ∙ ap (kept_with (kept_in s m)) (sym (entries_more m w.added x.added));
      fresh = fresh_more (kept_in s) (kept_in t) [] w.added x.added w.kept w.fresh x.fresh;
      asked = asked_more May w.added x.added w.asked (asked_also Then May x.added f x.asked);
      ticks = omega (arith, length-append w.added x.added, passes);
      counted = x.counted ∙ ap (λ k. rising k (length x.added)) w.counted ∙ sym (rising_more s.tally.added (length w.added) (length x.added) (length (w.added ++ x.added)) (length-append w.added x.added));
      measured =
          x.measured ∙ ap (λ k. rising k (length (events_of (bare_in t) x.added ++ rest))) w.measured
          ∙ sym (rising_more s.tally.measured (length (events_of (bare_in s) w.added ++ [])) (length (events_of (bare_in t) x.added ++ rest)) (length (events_of (bare_in s) (w.added ++ x.added) ++ rest))
          (ap length (sym events) ∙ length-append (events_of (bare_in s) w.added ++ []) (events_of (bare_in t) x.added ++ rest)));
      log = subst (Adds s.log u.log) events (adds_more s.log t.log u.log (events_of (bare_in s) w.added ++ []) (events_of (bare_in t) x.added ++ rest) w.log x.log);
      lasting = λ e. let later = x.lasting e in let first = w.lasting later.0 in (first.0, λ m q some. later.1 m q (first.1 m q some));
    }

-- what is asked of more may be asked
pub walk_also : (May Also : NodeId → Query → Type 0) (more : ℕ) (rest : List Event) (s t : State) → ((m : NodeId) (r : Query) → May m r → Also m r) → Walk May more rest s t → Walk Also more rest s t
walk_also May Also more rest s t f w =
    record {
      added = w.added;
      bare_same = w.bare_same;
      frame = w.frame;
      kept = w.kept;
      fresh = w.fresh;
      asked = asked_also May Also w.added f w.asked;
      ticks = w.ticks;
      counted = w.counted;
      measured = w.measured;
      log = w.log;
      lasting = w.lasting;
    }

-- ---- one node's walks
-- nothing was done so far
pub walked_none : (n : NodeId) (q : Query) (s : State) → IsRight s.arena.tree → WalkedBelow n q 0 s s
walked_none n q s r = record { walk = walk_none (Asks (bare_in s) n q) s r; within = λ m out. refl; own = refl }

pub found_walked : (n : NodeId) (q : Query) (s : State) → IsRight s.arena.tree → Walked n q s s
found_walked n q s r = record { walk = walk_none (Asks (bare_in s) n q) s r; within = λ m out. refl }

-- a walk with so many passes more
pub ticked : (n : NodeId) (q : Query) (more k : ℕ) (s t : State) (passes : ℕ) → passes ≤ t.passes + k → WalkedBelow n q more s t → WalkedBelow n q (more + k) s (record t { passes = passes })
ticked n q more k s t passes h w =
    record {
      walk = record {
        added = w.walk.added;
        bare_same = w.walk.bare_same;
        frame = w.walk.frame;
        kept = w.walk.kept;
        fresh = w.walk.fresh;
        asked = w.walk.asked;
        ticks = omega (arith, w.walk.ticks);
        counted = w.walk.counted;
        measured = w.walk.measured;
        log = w.walk.log;
        lasting = w.walk.lasting;
      };
      within = w.within;
      own = w.own;
    }

-- memory was wanting for the answer
pub stopped : (n : NodeId) (q : Query) (more : ℕ) (s t : State) → WalkedBelow n q more s t → Stopped n q s t
stopped n q more s t w = record { more = more; rest = []; walk = w.walk; within = w.within; cut = inl refl }

-- ---- a walk of a child
module _ (b : BareTrees) (n c : NodeId) (i : ℕ) (next : IsNext b n i c) (q r : Query) (more : ℕ) (s t : State) (uses : Contains (uses_at b n q) (i, r)) (is : bare_in t ≡ b) (w : WalkedBelow n q more s t) where
  from_start : b ≡ bare_in s
  from_start = sym is ∙ w.walk.bare_same

  next_now : IsNext (bare_in s) n i c
  next_now = subst (λ z. IsNext z n i c) from_start next

  asked_through : (m : NodeId) (p : Query) → Asks (bare_in t) c r m p → Asks (bare_in s) n q m p
  asked_through m p a = through n c m q r p i next_now.number (subst (λ z. Contains (uses_at z n q) (i, r)) from_start uses) (subst (λ z. Asks z c r m p) w.walk.bare_same a)

  apart_now : (m : NodeId) → IsOutside (bare_in s) n m → IsOutside (bare_in t) c m
  apart_now m out = subst (λ z. IsOutside z c m) (sym w.walk.bare_same) (next_now.apart m out)

  below_step : (u : State) → Walked c r t u → WalkedBelow n q more s u
  below_step u x =
      record {
        walk = walk_then (Asks (bare_in s) n q) (Asks (bare_in t) c r) more 0 more [] s t u w.walk x.walk asked_through (omega (arith, w.walk.ticks, x.walk.ticks));
        within = λ m out. x.within m (apart_now m out) ∙ w.within m out;
        own = x.within n (subst (λ z. IsOutside z c n) (sym w.walk.bare_same) next_now.parent) ∙ w.own;
      }

  stops_step : (u : State) → Stopped c r t u → Stopped n q s u
  stops_step u x =
      record {
        more = more + x.more;
        rest = x.rest;
        walk = walk_then (Asks (bare_in s) n q) (Asks (bare_in t) c r) more x.more (more + x.more) x.rest s t u w.walk x.walk asked_through (omega (arith, w.walk.ticks, x.walk.ticks));
        within = λ m out. x.within m (apart_now m out) ∙ w.within m out;
        cut = at x.cut;
      }
    where
      at : (x.rest ≡ []) ⊎ IsCut (bare_in t) c r u x.rest → (x.rest ≡ []) ⊎ IsCut (bare_in s) n q u x.rest
      at (inl e) = inl e
      at (inr k) = inr (record { node = k.node; query = k.query; left = k.left; begun = k.begun ∙ ap (λ z. events_at z k.node k.query) w.walk.bare_same; asked = asked_through k.node k.query k.asked; absent = k.absent })

pub step_there : (b : BareTrees) (n c : NodeId) (i : ℕ) → IsNext b n i c → IsStep b n i c
step_there b n c i next =
    record {
      below = λ q r more old mid new uses is w x. below_step b n c i next q r more old mid uses is w new x;
      stops = λ q r more old mid new uses is w x. stops_step b n c i next q r more old mid uses is w new x;
    }
