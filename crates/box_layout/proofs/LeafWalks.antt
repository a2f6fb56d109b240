-- The leaves among the children of a grid are asked for their block sizes, one after the other, once the grid has answered.
use Rattle.std.proofs.Common.{arith, ◌≡◌, ◌≢◌, refl, sym, ap, ◌∙◌, subst, ℕ, ◌+◌, ◌<◌, ◌≤◌, ◌==◌, Bool, true, false, List, [], ◌∷◌, drop, length, get_or, inl, inr}
use Rattle.std.specs.Prelude.{◌⊎◌, Contains, IsSome}
use Rattle.std.proofs.lemmas.Bool.{eqb-false, eqb-true}
use Rattle.layout_cache.specs.Kept.{answer_to}
use Rattle.node_arena.specs.declared.number.NodeId.{NodeId}
use Rattle.node_arena.specs.Numbers.{IsDistinct}
use Rattle.placing.specs.Children.{IsNext, IsOutside, IsTree}
use Rattle.placing.specs.Keeping.{is_leaf}
use Rattle.placing.specs.Nodes.{BareTrees, sight_at, uses_at}
use Rattle.placing.specs.Walks.{Asks, IsCut, State, Stopped, Walked, bare_in, events_at, kept_in, through}
use Rattle.placing.specs.declared.node.Frame.{Frame as NodeFrame}
use Rattle.placing.proofs.Entries.{at_index}
use Rattle.placing.proofs.Walks.{walk_then}
use Rattle.tree_rules.specs.AskedQueries.{block_query}
use Rattle.tree_rules.specs.declared.query.Query.{Query}
use Rattle.box_layout.specs.LeafHeights.{AreLeafFrames, HoldLeaves, IsLeafAsked, IsLeafStopped, UsesLeaves}
use Rattle.box_layout.specs.Paths.{its_own}
use Rattle.box_layout.proofs.Apart.{passes_apart}

-- ---- a child is asked after its parent

module _ (n c : NodeId) (i : ℕ) (q r : Query) (s t u : State) (next : IsNext (bare_in s) n i c) (uses : Contains (uses_at (bare_in s) n q) (i, r)) (w : Walked n q s t) where
  asked_through : (m : NodeId) (p : Query) → Asks (bare_in t) c r m p → Asks (bare_in s) n q m p
  asked_through m p a = through n c m q r p i next.number uses (subst (λ z. Asks z c r m p) w.walk.bare_same a)

  apart_now : (m : NodeId) → IsOutside (bare_in s) n m → IsOutside (bare_in t) c m
  apart_now m out = subst (λ z. IsOutside z c m) (sym w.walk.bare_same) (next.apart m out)

  walked_then : Walked c r t u → Walked n q s u
  walked_then x =
      record {
        walk = walk_then (Asks (bare_in s) n q) (Asks (bare_in t) c r) 0 0 0 [] s t u w.walk x.walk asked_through (omega (arith, w.walk.ticks, x.walk.ticks));
        within = λ m out. x.within m (apart_now m out) ∙ w.within m out;
      }

  stopped_then : Stopped c r t u → Stopped n q s u
  stopped_then x =
      record {
        more = x.more;
        rest = x.rest;
        walk = walk_then (Asks (bare_in s) n q) (Asks (bare_in t) c r) 0 x.more x.more x.rest s t u w.walk x.walk asked_through (omega (arith, w.walk.ticks, x.walk.ticks));
        within = λ m out. x.within m (apart_now m out) ∙ w.within m out;
        cut = at x.cut;
      }
    where
      at : (x.rest ≡ []) ⊎ IsCut (bare_in t) c r u x.rest → (x.rest ≡ []) ⊎ IsCut (bare_in s) n q u x.rest
      at (inl e) = inl e
      at (inr k) = inr (record { node = k.node; query = k.query; left = k.left; begun = k.begun ∙ ap (λ z. events_at z k.node k.query) w.walk.bare_same; asked = asked_through k.node k.query k.asked; absent = k.absent })

-- ---- the child of an index

-- the rest of the frames begins with this one
pub there : (frames : List NodeFrame) (i : ℕ) (f : NodeFrame) → i < length frames → f ≡ get_or frames i f → drop i frames ≡ f ∷ drop (i + 1) frames
there frames i f within is = at_index frames i f within ∙ ap (λ (g : NodeFrame). g ∷ drop (i + 1) frames) (sym is)

module _ (b : BareTrees) (distinct : IsDistinct b) (n : NodeId) (frames : List NodeFrame) (all : AreLeafFrames b n frames) (is_tree : IsTree b) (i : ℕ) (f : NodeFrame) (at : drop i frames ≡ f ∷ drop (i + 1) frames) where
  pub next_leaf : IsNext b n i f.child
  next_leaf = is_tree.next n f.child i (all.child i f (drop (i + 1) frames) at)

  module _ (s t u : State) (start : bare_in s ≡ b) (here : bare_in t ≡ b) where
    next_now : IsNext (bare_in s) n i f.child
    next_now = subst (λ z. IsNext z n i f.child) (sym start) next_leaf

    used : (q : Query) → UsesLeaves b n q frames → is_leaf (sight_at (bare_in t) f.child).label.kind ≡ true → Contains (uses_at (bare_in s) n q) (i, block_query false [] f.inline)
    used q uses leaf = subst (λ z. Contains (uses_at z n q) (i, block_query false [] f.inline)) (sym start) (uses i f (drop (i + 1) frames) at (subst (λ z. is_leaf (sight_at z f.child).label.kind ≡ true) here leaf))

    pub leaf_walked : (q : Query) → UsesLeaves b n q frames → Walked n q s t → IsLeafAsked (bare_in t) f t u → Walked n q s u
    leaf_walked q uses w (inl e) = subst (Walked n q s) (sym e) w
    leaf_walked q uses w (inr k) = walked_then n f.child i q (block_query false [] f.inline) s t u next_now (used q uses k.0) w k.1

    pub leaf_stopped : (q : Query) → UsesLeaves b n q frames → Walked n q s t → IsLeafStopped (bare_in t) f t u → Stopped n q s u
    leaf_stopped q uses w k = stopped_then n f.child i q (block_query false [] f.inline) s t u next_now (used q uses k.leaf) w k.stopped

  module _ (t u : State) (here : bare_in t ≡ b) (asked : IsLeafAsked (bare_in t) f t u) where
    still : (m : NodeId) → IsOutside b f.child m → IsLeafAsked (bare_in t) f t u → kept_in u m ≡ kept_in t m
    still m out (inl e) = ap (λ z. kept_in z m) e
    still m out (inr k) = k.1.within m (subst (λ z. IsOutside z f.child m) (sym here) out)

    pub leaf_same : bare_in u ≡ bare_in t
    leaf_same = go asked
      where
        go : IsLeafAsked (bare_in t) f t u → bare_in u ≡ bare_in t
        go (inl e) = ap bare_in e
        go (inr k) = k.1.walk.bare_same

    pub leaf_own : kept_in u n ≡ kept_in t n
    leaf_own = still n next_leaf.parent asked

    pub leaf_held : HoldLeaves b i frames t → (is_leaf (sight_at (bare_in t) f.child).label.kind ≡ true → IsSome (answer_to (block_query false [] f.inline) (kept_in u f.child))) → HoldLeaves b (i + 1) frames u
    leaf_held before now k g rest within place leaf = go (k == i) refl
      where
        first_is : (x y : NodeFrame) (xs ys : List NodeFrame) → x ∷ xs ≡ y ∷ ys → x ≡ y
        first_is x y xs ys e = cc

        go : (z : Bool) → (k == i) ≡ z → IsSome (answer_to (block_query false [] g.inline) (kept_in u g.child))
        go true is =
            let same : f ≡ g = first_is f g (drop (i + 1) frames) rest (sym at ∙ ap (λ j. drop j frames) (sym (eqb-true k i is)) ∙ place) in
            subst (λ (z : NodeFrame). IsSome (answer_to (block_query false [] z.inline) (kept_in u z.child))) same
            (now (subst (λ z. is_leaf (sight_at z f.child).label.kind ≡ true) (sym here) (subst (λ (z : NodeFrame). is_leaf (sight_at b z.child).label.kind ≡ true) (sym same) leaf)))
        go false is =
            let other : k ≢ i = eqb-false k i is in
            let out : IsOutside b f.child g.child = passes_apart b distinct n g.child f.child g.child k i (block_query false [] g.inline) (block_query false [] g.inline) (all.child k g rest place) next_leaf.number other (its_own g.child (block_query false [] g.inline)) in
            subst (λ l. IsSome (answer_to (block_query false [] g.inline) l)) (sym (still g.child out asked)) (before k g rest (omega (arith, within, other)) place leaf)

pub none_held : (b : BareTrees) (frames : List NodeFrame) (s : State) → HoldLeaves b 0 frames s
none_held b frames s = λ k g rest within place leaf. absurd (omega (arith, within))

pub all_held : (b : BareTrees) (frames : List NodeFrame) (few : ℕ) (s : State) → length frames ≤ few → HoldLeaves b few frames s → HoldLeaves b (length frames) frames s
all_held b frames few s h held = λ k g rest within place leaf. held k g rest (omega (arith, within, h)) place leaf
