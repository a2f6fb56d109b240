-- What is not reached is seen as before, so that its kept answers stay right.
use Rattle.std.proofs.Common.{◌≡◌, ℕ, zero, suc, ◌<◌, ◌≤◌, Bool, true, false, ◌&&◌, List, [], ◌∷◌, Option, Some, None, IsSome, is_some, refl, sym, ap, ◌∙◌, arith, inl, inr}
use Rattle.std.specs.Prelude.{◌⊎◌, map, slice_get}
use Rattle.std.proofs.lemmas.Bool.{and_parts}
use Rattle.plain_tree.specs.Trees.{height_of}
use Rattle.node_arena.specs.declared.number.NodeId.{NodeId}
use Rattle.node_arena.specs.Numbers.{IsChild, IsDistinct, Part, below_at, below_of, child_at, is_among, number_of, part_at, times, top_numbers, tops, value_at, value_of, way_up, whole_of}
use Rattle.node_arena.proofs.Changed.{times_mapped}
use Rattle.node_arena.proofs.Parts.{child_is}
use Rattle.node_arena.proofs.Reading.{begins_way}
use Rattle.node_arena.proofs.Same.{part_there, same_refl}
use Rattle.node_arena.proofs.Standing.{some_is}
use Rattle.node_arena.proofs.Ways.{within_way}
use Rattle.layout_cache.specs.Reach.{is_above, reached, reached_by}
use Rattle.tree_rules.specs.Chains.{has_subgrid, is_grid_kind, siblings_of}
use Rattle.tree_rules.specs.Labels.{grid_of}
use Rattle.tree_rules.specs.Places.{Seen}
use Rattle.placing.specs.declared.node.Node.{Node}
use Rattle.placing.specs.Keeping.{HasGone, HoldsOn, HoldsSame, IsTurned, KeepsOn, standing_of}
use Rattle.placing.specs.Kept.{IsRight, kept_at, kept_of, past_at, past_of, turn_at}
use Rattle.placing.specs.Told.{last_turn, no_past}
use Rattle.placing.specs.Nodes.{BareTrees, NodeTrees, bare, bare_of, children_at, label_of_bare, level_at, sight_at}
use Rattle.placing.proofs.Bares.{bare_there, child_bare, distinct_bare, height_bare, live_bare, tops_bare}
use Rattle.placing.proofs.KeptTrees.{still_right}
use Rattle.placing.proofs.Mapped.{below_mapped}
use Rattle.placing.proofs.Sights.{sight_label}
use Rattle.reach_frame.specs.Local.{IsFelt, IsLocal, PlacesSame, is_sub}
use Rattle.reach_frame.proofs.Above.{above_from, above_upwards}
use Rattle.reach_frame.proofs.Frame.{lone, none_felt, not_both, same_chain}
use Rattle.reach_frame.proofs.Frames.{children_stay, seen_same}
use Rattle.reach_frame.proofs.Reached.{above_reached, felt_top, felt_visits, marked_visits}
use Rattle.reach_frame.proofs.Rooted.{rooted}

-- whether a node of the arena is a subgrid
abbrev pub node_sub : Node → Bool
node_sub v = is_grid_kind v.kind && has_subgrid (grid_of v.style)

pub value_sub : (t : NodeTrees) (n : NodeId) (v : Node) → Some v ≡ value_at t n → is_sub (sight_at (bare t) n).label ≡ node_sub v
unfolding label_of_bare
value_sub t n v e = ap is_sub (sym (sight_label (bare t) n (bare_of v) (bare_there t n v e)))

pub below_times : (t : NodeTrees) (n k : NodeId) → times k (below_at (bare t) n) ≡ times k (below_at t n)
unfolding bare
below_times t n k = ap (times k) (below_mapped (λ m v. bare_of v) t n) ∙ times_mapped (λ m v. bare_of v) k (below_at t n)

-- what a node that is not reached has
pub record IsCalm (touched : NodeId → Bool) (grid : Bool) (b : BareTrees) (n : NodeId) : Type 0 where
  pub own : touched n ≡ false
  pub below : (k : NodeId) → 1 ≤ times k (below_at b n) → touched k ≡ false
  pub felt : (k : ℕ) → IsFelt (λ m. grid && touched m) b k n → ⊥

module _ (t : NodeTrees) (d : IsDistinct t) (ts : List NodeId) (grid : Bool) where
  abbrev touched : NodeId → Bool
  touched n = is_among n ts

  abbrev found : List NodeId
  found = reached_by node_sub t ts grid

  abbrev search : NodeTrees → List NodeId
  search u = reached node_sub touched (is_above t ts) grid true u

  Visits : NodeId → Type 0
  Visits n = (c : NodeId) → is_among c (search (below_at t n)) ≡ true → is_among c found ≡ true

  own_above : (n : NodeId) → IsSome (part_at t n) → touched n ≡ true → is_above t ts n ≡ true
  own_above n live e = above_from t ts n n e (begins_way t n n live (same_refl n))

  in_found : (n : NodeId) → IsSome (part_at t n) → is_above t ts n ≡ true → is_among n found ≡ true
  in_found n live a = above_reached node_sub touched (is_above t ts) grid t false n (above_upwards t ts d) (part_there t n live) a

  mark_in : (p : NodeId) → IsSome (part_at t p) → (grid && touched p) ≡ true → Visits p
  unfolding Visits
  mark_in p live m = at (part_at t p) refl live
    where
      at : (o : Option (Part Node)) → part_at t p ≡ o → IsSome o → (c : NodeId) → is_among c (search (below_at t p)) ≡ true → is_among c found ≡ true
      at None e l c h = absurd cc
      at (Some q) e l c h =
          marked_visits node_sub touched (is_above t ts) grid t false p c q (above_upwards t ts d) e (own_above p live (and_parts grid (touched p) m).1) m (ap (λ o. is_among c (search (below_of o))) (sym e) ∙ h)

  child_there : (p n : NodeId) (i : ℕ) → child_at t p i ≡ Some n → IsSome (part_at t p)
  child_there p n i e = at (part_at t p) refl e
    where
      none : (i : ℕ) → number_of (slice_get (tops (below_of {A = Node} None)) i) ≡ Some n → ⊥
      none zero q = cc
      none (suc i) q = cc

      at : (o : Option (Part Node)) → part_at t p ≡ o → number_of (slice_get (tops (below_of o)) i) ≡ Some n → IsSome (part_at t p)
      at None f g = absurd (none i g)
      at (Some q) f g = ap is_some f

  one_down : (p n : NodeId) (i : ℕ) → child_at t p i ≡ Some n → is_sub (sight_at (bare t) n).label ≡ true → Visits p → (is_among n found ≡ true) × Visits n
  unfolding Visits
  one_down p n i e s v = at (slice_get (tops (below_at t p)) i) refl child.number child.whole
    where
      child : IsChild t p i n
      child = child_is t p i n d e

      at : (o : Option (NodeId × Part Node)) → slice_get (tops (below_at t p)) i ≡ o → number_of o ≡ Some n → part_at t n ≡ whole_of o → (is_among n found ≡ true) × ((c : NodeId) → is_among c (search (below_at t n)) ≡ true → is_among c found ≡ true)
      at None f g w = absurd cc
      at (Some top) f g w =
          let number : top.0 ≡ n = some_is top.0 n g in
          let sub : node_sub top.1.0 ≡ true = sym (value_sub t n top.1.0 (sym (ap value_of w))) ∙ s in (
            v n (ap (λ k. is_among k (search (below_at t p))) (sym number) ∙ felt_top node_sub touched (is_above t ts) grid (below_at t p) i top f sub),
            λ c h. v c (felt_visits node_sub touched (is_above t ts) grid (below_at t p) i top c f sub (ap (λ o. is_among c (search (below_of o))) (sym w) ∙ h)),
          )

  felt_in : (k : ℕ) (n : NodeId) → IsFelt (λ m. grid && touched m) (bare t) k n → (is_among n found ≡ true) × Visits n
  felt_in zero n f = absurd f
  felt_in (suc k) n f = at f.1.1.1.1 (λ g. (felt_in k f.0 g).1)
    where
      number : child_at t f.0 f.1.0 ≡ Some n
      number = sym (child_bare t f.0 f.1.0) ∙ f.1.1.0

      at : ((grid && touched f.0) ≡ true) ⊎ IsFelt (λ m. grid && touched m) (bare t) k f.0 → (IsFelt (λ m. grid && touched m) (bare t) k f.0 → Visits f.0) → (is_among n found ≡ true) × Visits n
      at (inl m) up = one_down f.0 n f.1.0 number f.1.1.1.0 (mark_in f.0 (child_there f.0 n f.1.0 number) m)
      at (inr g) up = one_down f.0 n f.1.0 number f.1.1.1.0 (up g)

  pub not_found : (n : NodeId) → IsSome (part_at t n) → is_among n found ≡ false → IsCalm touched grid (bare t) n
  not_found n live e =
      record {
        own = calm n (λ c. in_found n live (own_above n live c));
        below = λ k l. calm k (λ c. in_found n live (above_from t ts n k c (way k (omega (arith, l, below_times t n k)) (part_at t n) refl live)));
        felt = λ k f. not_both (is_among n found) (felt_in k n f).0 e;
      }
    where
      calm : (k : NodeId) → (touched k ≡ true → is_among n found ≡ true) → touched k ≡ false
      calm k h = at (touched k) refl
        where
          at : (b : Bool) → touched k ≡ b → touched k ≡ false
          at true c = absurd (not_both (is_among n found) (h c) e)
          at false c = c

      way : (k : NodeId) → 1 ≤ times k (below_at t n) → (o : Option (Part Node)) → part_at t n ≡ o → IsSome o → is_among n (way_up t k) ≡ true
      way k l None f m = absurd cc
      way k l (Some q) f m = within_way t n k q f (d k) (omega (arith, l, ap (λ o. times k (below_of o)) f))

-- ---- after a change
module _ (t u : NodeTrees) (dt : IsDistinct t) (du : IsDistinct u) (root : NodeId) (tops_t : top_numbers t ≡ root ∷ []) (tops_u : top_numbers u ≡ root ∷ []) (low_t : height_of t ≤ 64) (low_u : height_of u ≤ 64) (ts : List NodeId) (grid : Bool)
    (local : IsLocal (λ n. is_among n ts) grid (bare t) (bare u)) where
  pub same_sight : (n : NodeId) → IsSome (part_at t n) → IsSome (part_at u n) → is_among n (reached_by node_sub t ts grid) ≡ false → (sight_at (bare u) n ≡ sight_at (bare t) n) × (children_at (bare u) n ≡ children_at (bare t) n)
  same_sight n old new e =
      let calm = not_found t dt ts grid n old e in
      let rb = rooted root (bare t) (distinct_bare t dt) (omega (arith, low_t, height_bare t)) (tops_bare t ∙ tops_t) in
      let ru = rooted root (bare u) (distinct_bare u du) (omega (arith, low_u, height_bare u)) (tops_bare u ∙ tops_u) in
      let live = live_bare u n ∙ new in (
        seen_same root (bare t) (bare u) rb ru (λ m. is_among m ts) grid local n (distinct_bare t dt) (distinct_bare u du) live calm.own calm.below calm.felt,
        children_stay root (bare t) (bare u) rb ru (λ m. is_among m ts) grid local n live calm.own,
      )

  -- where subgrids do not feel the change, the chain and the children of every node are the same, and what its areas depend on of these
  same_lines : grid ≡ false → (n : NodeId) → IsSome (part_at u n) → (sight_at (bare u) n).label ≡ (sight_at (bare t) n).label → past_at u n ≡ past_at t n → HoldsSame t u n
  same_lines calm n new values same =
      let rb = rooted root (bare t) (distinct_bare t dt) (omega (arith, low_t, height_bare t)) (tops_bare t ∙ tops_t) in
      let ru = rooted root (bare u) (distinct_bare u du) (omega (arith, low_u, height_bare u)) (tops_bare u ∙ tops_u) in
      let live = live_bare u n ∙ new in
      let shows = local.shows n live (marked n) in
      record {
        past = same;
        label = values;
        chain = same_chain root (bare t) (bare u) rb ru (λ m. is_among m ts) grid local (level_at (bare u) n) n (omega arith) live (marked n) (λ k. none_felt (λ m. grid && is_among m ts) (bare u) marked k n);
        siblings = ap (map standing_of) shows.siblings;
        children = shows.children;
      }
    where
      marked : (m : NodeId) → (grid && is_among m ts) ≡ false
      marked m = ap (λ g. g && is_among m ts) calm

  -- a node that is not reached has the same chain, children and kept answers
  same_seen : (n : NodeId) → IsSome (part_at t n) → IsSome (part_at u n) → is_among n (reached_by node_sub t ts grid) ≡ false → past_at u n ≡ past_at t n → HoldsSame t u n
  same_seen n old new e same =
      let s = same_sight n old new e in
      record {
        past = same;
        label = ap (λ (v : Seen). v.label) s.0;
        chain = ap (λ (v : Seen). v.chain) s.0;
        siblings = ap (λ (v : Seen). map standing_of (siblings_of v.below)) s.0;
        children = s.1;
      }

  -- a node that is no subgrid has no chain in either tree
  same_places : (n : NodeId) → IsSome (part_at t n) → IsSome (part_at u n) → PlacesSame (bare t) (bare u) n → is_sub (sight_at (bare u) n).label ≡ false → past_at u n ≡ past_at t n → HoldsSame t u n
  same_places n old new places sub same =
      let rb = rooted root (bare t) (distinct_bare t dt) (omega (arith, low_t, height_bare t)) (tops_bare t ∙ tops_t) in
      let ru = rooted root (bare u) (distinct_bare u du) (omega (arith, low_u, height_bare u)) (tops_bare u ∙ tops_u) in
      record {
        past = same;
        label = places.label;
        chain = lone root (bare u) ru n (live_bare u n ∙ new) sub ∙ sym (lone root (bare t) rb n (live_bare t n ∙ old) (ap is_sub (sym places.label) ∙ sub));
        siblings = places.siblings;
        children = places.children;
      }

  -- a node of the new tree keeps no answer, or it is not reached and keeps what it kept
  abbrev pub KeepsOrNot : NodeId → Type 0
  KeepsOrNot n = (kept_at u n ≡ []) ⊎ ((IsSome (part_at t n) × (is_among n (reached_by node_sub t ts grid) ≡ false)) × (kept_at u n ≡ kept_at t n))

  -- what a node keeps longer than its answers holds on: subgrids do not feel the change and its values are the same; or it is no subgrid, and what its areas depend on
  -- is the same; or it is not reached
  abbrev pub ReadsSame : NodeId → Type 0
  ReadsSame n =
      ((grid ≡ false) × ((sight_at (bare u) n).label ≡ (sight_at (bare t) n).label))
      ⊎ ((PlacesSame (bare t) (bare u) n × (is_sub (sight_at (bare u) n).label ≡ false)) ⊎ (is_among n (reached_by node_sub t ts grid) ≡ false))

  -- it keeps nothing longer than its answers, or it reads the same and so keeps what it kept
  abbrev pub HoldsOrNot : NodeId → Type 0
  HoldsOrNot n = (past_at u n ≡ no_past) ⊎ ((IsSome (part_at t n) × ReadsSame n) × (past_at u n ≡ past_at t n))

  -- its turn has gone, or it is not reached and has its turn still
  abbrev pub TurnsOrNot : NodeId → Type 0
  TurnsOrNot n = HasGone (turn_at t n) (turn_at u n) ⊎ ((IsSome (part_at t n) × (is_among n (reached_by node_sub t ts grid) ≡ false)) × (turn_at u n ≡ turn_at t n))

  pub right_after : IsRight t → ((n : NodeId) → IsSome (part_at u n) → KeepsOrNot n) → ((n : NodeId) → IsSome (part_at u n) → HoldsOrNot n) → ((n : NodeId) → IsSome (part_at u n) → TurnsOrNot n) → IsRight u
  unfolding kept_at past_at
  right_after r h g f = still_right t u r keeps holds (λ n live. let new = sym (live_bare u n) ∙ live in turned n new (f n new))
    where
      keeps : (n : NodeId) → KeepsOn t u n
      keeps n = at (part_at u n) refl
        where
          by : IsSome (part_at u n) → KeepsOrNot n → KeepsOn t u n
          by new (inl e) = inl e
          by new (inr k) = let s = same_sight n k.0.0 new k.0.1 in inr (record { kept = k.1; sight = s.0; children = s.1 })

          at : (o : Option (Part Node)) → part_at u n ≡ o → KeepsOn t u n
          at None e = inl (ap (λ o. kept_of (value_of o)) e)
          at (Some q) e = by (ap is_some e) (h n (ap is_some e))

      holds : (n : NodeId) → HoldsOn t u n
      holds n = at (part_at u n) refl
        where
          kept : IsSome (part_at u n) → IsSome (part_at t n) → ReadsSame n → past_at u n ≡ past_at t n → HoldsOn t u n
          kept new old (inl calm) same = inr (same_lines calm.0 n new calm.1 same)
          kept new old (inr (inl p)) same = inr (same_places n old new p.0 p.1 same)
          kept new old (inr (inr e)) same = inr (same_seen n old new e same)

          by : IsSome (part_at u n) → HoldsOrNot n → HoldsOn t u n
          by new (inl e) = inl e
          by new (inr k) = kept new k.0.0 k.0.1 k.1

          at : (o : Option (Part Node)) → part_at u n ≡ o → HoldsOn t u n
          at None e = inl (ap (λ o. past_of (value_of o)) e)
          at (Some q) e = by (ap is_some e) (g n (ap is_some e))

      turned : (n : NodeId) → IsSome (part_at u n) → TurnsOrNot n → IsTurned t u n
      turned n new (inl gone) = record { later = gone.later; same = λ e less. absurd (not_past (gone.last e) less) }
        where
          not_past : last_turn ≤ turn_at u n → turn_at u n < last_turn → ⊥
          not_past a b = omega (arith, a, b)
      turned n new (inr k) = record { later = omega (arith, k.1); same = λ e less. (same_sight n k.0.0 new k.0.1).0 }
