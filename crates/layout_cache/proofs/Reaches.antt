-- What a search for reached nodes adds.
use Rattle.std.proofs.Common.{◌≡◌, ℕ, zero, suc, ◌+◌, ◌≤◌, ◌<◌, Bool, true, false, List, [], ◌∷◌, ◌++◌, drop, Option, Some, None, is_some, length, get_or, refl, sym, ap, ◌∙◌, arith, append_assoc, append-nil, add-one, drop-cons}
use Rattle.std.specs.Prelude.{◌||◌, ◌&&◌, slice_get, if◌then◌else◌}
use Rattle.plain_tree.specs.Trees.{Trees, leafless, tree, size_of, count_of}
use Rattle.node_arena.specs.declared.number.NodeId.{NodeId}
use Rattle.node_arena.specs.Numbers.{same, Part, part_at, value_of, value_at, below_of, below_at, tops, top_numbers, number_of, whole_of, way_up, way_of, is_among, IsChild}
use Rattle.node_arena.proofs.Reading.{stale_way}
use Rattle.node_arena.proofs.Same.{part_here, same_refl}
use Rattle.layout_cache.specs.Reach.{is_above, reached, reached_by, from_tree, subgrid_by, NextChild, JoinedChild}

-- ---- children by index
module _ {A : Type 0} where
  from_top : (u : Trees (NodeId × A)) (i : ℕ) (top : NodeId × Part A) → slice_get (tops u) i ≡ Some top → from_tree i u ≡ tree (top.0, top.1.0) top.1.1 (from_tree (i + 1) u)
  from_top leafless i top e = absurd cc
  from_top (tree x below after) zero top e =
      let is : (x.0, (x.1, below)) ≡ top = some_is _ top e in
      λ i. tree ((is i).0, (is i).1.0) (is i).1.1 after
    where
      some_is : (a b : NodeId × Part A) → Some a ≡ Some b → a ≡ b
      some_is a b q = cc
  from_top (tree x below after) (suc i) top e =
      from_top after i top e ∙ ap (tree (top.0, top.1.0) top.1.1) (ap (λ k. from_tree k after) (add-one i) ∙ sym (ap (λ k. from_tree k (tree x below after)) (add-one (suc i))))

  pub from_none : (u : Trees (NodeId × A)) (i : ℕ) → None ≡ number_of (slice_get (tops u) i) → from_tree i u ≡ leafless
  from_none leafless zero e = refl
  from_none leafless (suc i) e = refl
  from_none (tree x below after) zero e = absurd cc
  from_none (tree x below after) (suc i) e = from_none after i e

  pub past_none : (u : Trees (NodeId × A)) (i : ℕ) → from_tree i u ≡ leafless → from_tree (i + 1) u ≡ leafless
  past_none u i e = ap (λ k. from_tree k u) (add-one i) ∙ past u i e
    where
      past : (u : Trees (NodeId × A)) (i : ℕ) → from_tree i u ≡ leafless → from_tree (suc i) u ≡ leafless
      past leafless i e = refl
      past (tree x below after) zero e = absurd cc
      past (tree x below after) (suc i) e = past after i e

  pub from_size : (u : Trees (NodeId × A)) (i : ℕ) → size_of (from_tree i u) ≤ size_of u
  from_size leafless zero = omega arith
  from_size leafless (suc i) = omega arith
  from_size (tree x below after) zero = omega arith
  from_size (tree x below after) (suc i) = omega (arith, from_size after i)

  pub next_child : (subgrid : A → Bool) (t : Trees (NodeId × A)) (n : NodeId) (i : ℕ) (c : NodeId) (v : A) (b : Bool) → IsChild t n i c → Some v ≡ value_at t c → b ≡ subgrid v → NextChild subgrid t n i c b
  next_child subgrid t n i c v b h e s = at (slice_get (tops (below_at t n)) i) refl h.number h.whole
    where
      at : (o : Option (NodeId × Part A)) → slice_get (tops (below_at t n)) i ≡ o → number_of o ≡ Some c → part_at t c ≡ whole_of o → NextChild subgrid t n i c b
      at None f g w = absurd cc
      at (Some top) f g w =
          let number : top.0 ≡ c = cc in
          let value : Some v ≡ Some top.1.0 = e ∙ ap value_of w in
          let same_value : v ≡ top.1.0 = cc in
          record {
            value = v;
            next = from_top (below_at t n) i top f ∙ (λ j. tree (number j, sym same_value j) (sym (ap below_of w) j) (from_tree (i + 1) (below_at t n)));
            is = sym s;
          }

  pub child_falls : (subgrid : A → Bool) (t : Trees (NodeId × A)) (n : NodeId) (i : ℕ) (c : NodeId) (b : Bool) → NextChild subgrid t n i c b → size_of (below_at t c) < size_of (below_at t n)
  child_falls subgrid t n i c b h = omega (arith, from_size (below_at t n) i, ap size_of h.next)

  pub joined_child : (subgrid : A → Bool) (t : Trees (NodeId × A)) (n : NodeId) (i : ℕ) (felt : Bool) (c : NodeId) (j : Bool) → IsChild t n i c → j ≡ (felt && subgrid_by subgrid (value_at t c)) → JoinedChild subgrid t n i felt c j
  joined_child subgrid t n i felt c j h e = at (slice_get (tops (below_at t n)) i) refl h.number h.whole
    where
      at : (o : Option (NodeId × Part A)) → slice_get (tops (below_at t n)) i ≡ o → number_of o ≡ Some c → part_at t c ≡ whole_of o → JoinedChild subgrid t n i felt c j
      at None f g w = absurd cc
      at (Some top) f g w =
          record {
            is_sub = subgrid top.1.0;
            child = next_child subgrid t n i c top.1.0 _ h (sym (ap value_of w)) refl;
            is = e ∙ ap (λ o. felt && subgrid_by subgrid o) (ap value_of w);
          }

  pub joined_falls : (subgrid : A → Bool) (t : Trees (NodeId × A)) (n : NodeId) (i : ℕ) (felt : Bool) (c : NodeId) (j : Bool) → JoinedChild subgrid t n i felt c j → size_of (below_at t c) < size_of (below_at t n)
  joined_falls subgrid t n i felt c j h = child_falls subgrid t n i c h.is_sub h.child

pub ruleset falls = (joined_falls)

pub from_end : {A : Type 0} (u : Trees (NodeId × A)) (i : ℕ) → count_of u ≤ i → from_tree i u ≡ leafless
from_end leafless zero h = refl
from_end leafless (suc i) h = refl
from_end (tree x below after) zero h = absurd (omega arith)
from_end (tree x below after) (suc i) h = from_end after i (omega arith)

-- ---- the way up
or_turn : (a s b : Bool) → ((s || a) || b) ≡ (a || (s || b))
or_turn true true b = refl
or_turn true false b = refl
or_turn false true b = refl
or_turn false false b = refl

pub one_up : {A : Type 0} (t : Trees (NodeId × A)) (number n : NodeId) (next : Option NodeId) (old new : Bool) → way_up t number ≡ number ∷ way_of t next → new ≡ (same number n || old) → (is_among n (way_of t next) || new) ≡ (is_among n (way_up t number) || old)
one_up t number n next old new e h = ap (λ b. is_among n (way_of t next) || b) h ∙ sym (or_turn (is_among n (way_of t next)) (same number n) old) ∙ sym (ap (λ w. is_among n w || old) e)

pub no_way : {A : Type 0} (t : Trees (NodeId × A)) (id n : NodeId) (old : Bool) → is_some (part_at t id) ≡ false → old ≡ (is_among n (way_up t id) || old)
no_way t id n old e = ap (λ w. is_among n w || old) (sym (stale_way t id e))

-- ---- the marks
-- ---- what is reached
module _ {A : Type 0} (subgrid : A → Bool) (touched above : NodeId → Bool) (grid : Bool) where
  joined_is : (t : Trees (NodeId × A)) (n : NodeId) (i : ℕ) (felt : Bool) (c : NodeId) (j : Bool) (h : JoinedChild subgrid t n i felt c j) → (felt && subgrid h.child.value) ≡ j
  joined_is t n i felt c j h = ap (λ s. felt && s) h.child.is ∙ sym h.is

  pub passed_over : (t : Trees (NodeId × A)) (n : NodeId) (i : ℕ) (felt : Bool) (c : NodeId) (j : Bool) → JoinedChild subgrid t n i felt c j → (above c || j) ≡ false →
      reached subgrid touched above grid felt (from_tree i (below_at t n)) ≡ reached subgrid touched above grid felt (from_tree (i + 1) (below_at t n))
  passed_over t n i felt c j h e =
      ap (reached subgrid touched above grid felt) h.child.next
      ∙ ap (λ z. (if z then c ∷ reached subgrid touched above grid ((grid && touched c) || (felt && subgrid h.child.value)) (below_at t c) else []) ++ reached subgrid touched above grid felt (from_tree (i + 1) (below_at t n))) (ap (λ s. above c || s) (joined_is t n i felt c j h) ∙ e)

  pub gone_into : (t : Trees (NodeId × A)) (n : NodeId) (i : ℕ) (felt : Bool) (c : NodeId) (j : Bool) → JoinedChild subgrid t n i felt c j → (above c || j) ≡ true →
      reached subgrid touched above grid felt (from_tree i (below_at t n)) ≡ c ∷ reached subgrid touched above grid ((grid && touched c) || j) (below_at t c) ++ reached subgrid touched above grid felt (from_tree (i + 1) (below_at t n))
  gone_into t n i felt c j h e =
      ap (reached subgrid touched above grid felt) h.child.next
      ∙ ap (λ z. (if z then c ∷ reached subgrid touched above grid ((grid && touched c) || (felt && subgrid h.child.value)) (below_at t c) else []) ++ reached subgrid touched above grid felt (from_tree (i + 1) (below_at t n))) (ap (λ s. above c || s) (joined_is t n i felt c j h) ∙ e)
      ∙ ap (λ s. c ∷ reached subgrid touched above grid ((grid && touched c) || s) (below_at t c) ++ reached subgrid touched above grid felt (from_tree (i + 1) (below_at t n))) (joined_is t n i felt c j h)

  -- what was found, with one node and what is below it
  pub added : (found pushed after below rest whole : List NodeId) (c : NodeId) → pushed ≡ found ++ c ∷ [] → after ≡ pushed ++ below → found ++ (c ∷ below ++ rest) ≡ whole → after ++ rest ≡ whole
  added found pushed after below rest whole c p a w =
      ap (λ l. l ++ rest) (a ∙ ap (λ l. l ++ below) p ∙ append_assoc found (c ∷ []) below) ∙ append_assoc found (c ∷ below) rest ∙ w

  pub none_reached : (u : Trees (NodeId × A)) (felt : Bool) → u ≡ leafless → reached subgrid touched above grid felt u ≡ []
  none_reached u felt e = ap (reached subgrid touched above grid felt) e

  pub reached_alike : (touching over : NodeId → Bool) → ((n : NodeId) → touching n ≡ touched n) → ((n : NodeId) → over n ≡ above n) → (felt : Bool) (u : Trees (NodeId × A)) → reached subgrid touching over grid felt u ≡ reached subgrid touched above grid felt u
  reached_alike touching over a b felt leafless = refl
  reached_alike touching over a b felt (tree x below after) =
      λ i. (if b x.0 i || (felt && subgrid x.1)
      then x.0 ∷ (ap (λ z. reached subgrid touching over grid ((grid && z) || (felt && subgrid x.1)) below) (a x.0) ∙ reached_alike touching over a b ((grid && touched x.0) || (felt && subgrid x.1)) below) i
      else []) ++ reached_alike touching over a b felt after i

  or_none : (b : Bool) → (b || false) ≡ b
  or_none true = refl
  or_none false = refl

  pub root_reached : (t : Trees (NodeId × A)) (root : NodeId) → top_numbers t ≡ root ∷ [] →
      reached subgrid touched above grid false t ≡ (if above root then root ∷ reached subgrid touched above grid ((grid && touched root) || false) (below_at t root) else [])
  root_reached leafless root e = absurd cc
  root_reached (tree x below leafless) root e =
      let first : x.0 ≡ root = first_is x.0 root [] e in
      append-nil _ ∙ ap (λ b. if b then x.0 ∷ reached subgrid touched above grid ((grid && touched x.0) || false) below else []) (or_none (above x.0))
      ∙ (λ i. if above (first i) then first i ∷ reached subgrid touched above grid ((grid && touched (first i)) || false) below else [])
      ∙ ap (λ u. if above root then root ∷ reached subgrid touched above grid ((grid && touched root) || false) u else [])
      (sym (ap below_of (ap (λ m. part_at (tree x below leafless) m) (sym first) ∙ part_here x below leafless x.0 (record { is = same_refl x.0 }))))
    where
      first_is : (a b : NodeId) (rest : List NodeId) → a ∷ rest ≡ b ∷ [] → a ≡ b
      first_is a b rest q = cc
  root_reached (tree x below (tree y c d)) root e = absurd (omega (arith, ap length e))

-- ---- all that an edit reaches
module _ {A : Type 0} (subgrid : A → Bool) (t : Trees (NodeId × A)) (touched : List NodeId) (grid : Bool) (root : NodeId) (e : top_numbers t ≡ root ∷ []) (touching over : List NodeId) (same_grid : Bool)
    (a : (n : NodeId) → is_among n touching ≡ is_among n touched) (b : (n : NodeId) → is_among n over ≡ is_above t touched n) (g : same_grid ≡ grid) where
  pub none_by : is_among root over ≡ false → [] ≡ reached_by subgrid t touched grid
  none_by h =
      sym (root_reached subgrid (λ n. is_among n touched) (is_above t touched) grid t root e
      ∙ ap (λ z. if z then root ∷ reached subgrid (λ n. is_among n touched) (is_above t touched) grid ((grid && is_among root touched) || false) (below_at t root) else []) (sym (b root) ∙ h))

  pub found_by : (list start : List NodeId) (felt : Bool) → is_among root over ≡ true → start ≡ root ∷ [] → felt ≡ ((same_grid && is_among root touching) || false) →
      list ≡ start ++ reached subgrid (λ n. is_among n touching) (λ n. is_among n over) same_grid felt (below_at t root) → list ≡ reached_by subgrid t touched grid
  found_by list start felt h s f l =
      l ∙ ap (λ z. z ++ reached subgrid (λ n. is_among n touching) (λ n. is_among n over) same_grid felt (below_at t root)) s
      ∙ ap (λ z. root ∷ z) (reached_alike subgrid (λ n. is_among n touched) (is_above t touched) same_grid (λ n. is_among n touching) (λ n. is_among n over) a b felt (below_at t root)
      ∙ (λ i. reached subgrid (λ n. is_among n touched) (is_above t touched) (g i) ((f ∙ (λ j. (g j && a root j) || false)) i) (below_at t root)))
      ∙ sym (root_reached subgrid (λ n. is_among n touched) (is_above t touched) grid t root e
      ∙ ap (λ z. if z then root ∷ reached subgrid (λ n. is_among n touched) (is_above t touched) grid ((grid && is_among root touched) || false) (below_at t root) else []) (sym (b root) ∙ h))
