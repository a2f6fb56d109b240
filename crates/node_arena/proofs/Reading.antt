-- What a call finds in slots that hold a tree.
use Rattle.std.proofs.Common.{◌≡◌, ◌≢◌, ℕ, zero, suc, ◌≤◌, true, false, List, [], ◌∷◌, ◌||◌, ◌+◌, Option, Some, None, is_some, is_none, length, length-append, refl, sym, ap, ◌∙◌, arith, inl, inr, slice_index_or}
use Rattle.std.specs.Prelude.{◌==◌, ◌⊎◌, IfSome, slice_get}
use Rattle.std.proofs.lemmas.Bool.{cases_eq, ne_eqb, eq-eqb, false≢true}
use Rattle.plain_tree.specs.Trees.{Trees, leafless, tree, count_of, height_of}
use Rattle.node_arena.specs.declared.number.NodeId.{NodeId}
use Rattle.node_arena.specs.declared.slots.Slot.{Slot}
use Rattle.node_arena.specs.Numbers.{same, Part, part_at, below_at, way_of, is_among, value_of, value_at, below_of, tops, top_numbers, number_of, child_at, count_at, parent_at, second, times, way_up, IsChild, IsNumbered, IsDistinct}
use Rattle.node_arena.specs.Edits.{tree_at}
use Rattle.node_arena.specs.Plain.{IsSound}
use Rattle.node_arena.specs.Faults.{is_top}
use Rattle.node_arena.specs.Inside.{Shown, look, shown, held, of_turn, grown, Holds, in_slot, used, Fits, whole}
use Rattle.node_arena.proofs.Same.{by_place, one_no, part_none, part_some, part_there, cond_yes, cond_no}
use Rattle.node_arena.proofs.Parts.{child_is, numbered}
use Rattle.node_arena.proofs.Standing.{grown_is, times_slot, times_within, Found, found, Step, step_up, some_is, way_head, way_none, way_some, way_height, way_here, way_below}
use Rattle.node_arena.proofs.Edited.{tree_is}

used_most : {T : Type 0} (o : Option (Shown T)) → used o ≤ 1
used_most None = omega arith
used_most (Some s) = omega arith

-- a number that is not live
pub stale_way : {A : Type 0} (t : Trees (NodeId × A)) (n : NodeId) → is_some (part_at t n) ≡ false → way_up t n ≡ []
stale_way t n e = at (cases_eq (times n t) 0)
  where
    at : (times n t ≡ 0) ⊎ (times n t ≢ 0) → way_up t n ≡ []
    at (inl z) = way_none t n z
    at (inr nz) = absurd (false≢true (sym e ∙ part_some t n (omega arith)))

pub way_longer : {A : Type 0} (t : Trees (NodeId × A)) (n : NodeId) (up : Option NodeId) → way_up t n ≡ n ∷ way_of t up → length (way_up t n) ≡ 1 + length (way_of t up)
way_longer t n up e = omega (arith, ap length e)

pub among_way : {A : Type 0} (t : Trees (NodeId × A)) (id n : NodeId) (up : Option NodeId) → way_up t n ≡ n ∷ way_of t up → same n id ≡ false → is_among id (way_up t n) ≡ is_among id (way_of t up)
among_way t id n up e k = ap (is_among id) e ∙ ap (λ b. b || is_among id (way_of t up)) k

pub first_way : {A : Type 0} (t : Trees (NodeId × A)) (id n : NodeId) (up : Option NodeId) → way_up t n ≡ n ∷ way_of t up → same n id ≡ true → is_among id (way_up t n) ≡ true
first_way t id n up e k = ap (is_among id) e ∙ ap (λ b. b || is_among id (way_of t up)) k

pub none_among : {A : Type 0} (t : Trees (NodeId × A)) (id n : NodeId) → is_some (part_at t n) ≡ false → is_among id (way_up t n) ≡ false
none_among t id n e = ap (is_among id) (stale_way t n e)

pub begins_way : {A : Type 0} (t : Trees (NodeId × A)) (id n : NodeId) → is_some (part_at t n) ≡ true → same n id ≡ true → is_among id (way_up t n) ≡ true
begins_way t id n h e = at (way_up t n) (way_head t n n (part_there t n h))
  where
    at : (way : List NodeId) → second (n ∷ way) ≡ Some n → is_among id way ≡ true
    at [] k = absurd cc
    at (m ∷ ms) k = let first : m ≡ n = cc in ap (λ b. b || is_among id ms) (ap (λ z. same z id) first ∙ e)

pub ruleset way_laws = (stale_way, way_longer, among_way, first_way, none_among, begins_way)

-- the top of a list of one tree
pub top_way : {A : Type 0} (t : Trees (NodeId × A)) (root n : NodeId) → top_numbers t ≡ root ∷ [] → 1 ≤ times n t → ((is_top t n ≡ true) × (length (way_up t n) ≡ 1)) ⊎ ((is_top t n ≡ false) × (2 ≤ length (way_up t n)))
top_way leafless root n e h = absurd cc
top_way (tree x below leafless) root n e h =
    by_place x below n
    (λ p. inl (ap (λ b. b || false) p.is, ap length (way_here x below leafless n p)))
    (λ p. inr (ap (λ b. b || false) p.not, omega (arith, ap length (way_below x below leafless n p), length-append (way_up below n) (x.0 ∷ []), way_some below n p.in_below)))
    (λ p. absurd (omega (arith, one_no (same x.0 n) p.not, p.none)))
top_way (tree x below (tree y c d)) root n e h = absurd (omega (arith, ap length e))

-- its value
pub no_value : {A : Type 0} (t : Trees (NodeId × A)) (n : NodeId) → is_some (part_at t n) ≡ false → None ≡ value_at t n
no_value {A} t n e = at (part_at t n) e
  where
    at : (o : Option (Part A)) → is_some o ≡ false → None ≡ value_of o
    at None h = refl
    at (Some p) h = absurd (false≢true (sym h))

module _ {T : Type 0} (slots : List (Option (Slot T))) (root : NodeId) (made nodes kids : ℕ) (t : Trees (NodeId × T)) (fits : Fits slots root made nodes kids t) where
  pub distinct : IsDistinct t
  distinct n = omega (arith, times_within t n, fits.filled n.slot, used_most (shown slots n.slot))

  pub is_whole : whole slots root ≡ t
  is_whole = ap (grown 64 (shown slots)) (sym fits.rooted) ∙ grown_is (shown slots) 64 None t fits.holds fits.low

  pub few_in_slot : (k : ℕ) → in_slot k t ≤ 1
  few_in_slot k = omega (arith, fits.filled k, used_most (shown slots k))

  -- ---- a live number
  pub record Live (n : NodeId) (s : Slot T) : Type 0 where
    pub here : slice_index_or slots n.slot None ≡ Some s
    pub there : times n t ≡ 1
    pub found : Found (shown slots) None t n (record { turn = s.turn; value = s.value; parent = s.parent; children = s.children.items })
    pub step : Step (shown slots) None t n (record { turn = s.turn; value = s.value; parent = s.parent; children = s.children.items })

  slot_turn : (turn : ℕ) (o : Option (Slot T)) (s : Slot T) → of_turn turn o ≡ Some s → (o ≡ Some s) × (s.turn ≡ turn)
  slot_turn turn None s e = absurd cc
  slot_turn turn (Some r) s e = at (cases_eq r.turn turn)
    where
      at : (r.turn ≡ turn) ⊎ (r.turn ≢ turn) → (Some r ≡ Some s) × (s.turn ≡ turn)
      at (inl k) =
          let f : Some r ≡ Some s = sym (cond_yes (r.turn == turn) (Some r) None (eq-eqb r.turn turn k)) ∙ e in
          (f, ap (λ z. z.turn) (sym (some_slot r s f)) ∙ k)
        where
          some_slot : (a b : Slot T) → Some a ≡ Some b → a ≡ b
          some_slot a b q = cc
      at (inr ne) = let f : None ≡ Some s = sym (cond_no (r.turn == turn) (Some r) None (ne_eqb r.turn turn ne)) ∙ e in absurd cc

  pub live : (n : NodeId) (s : Slot T) → held slots n ≡ Some s → Live n s
  live n s e =
      let parts = slot_turn n.turn (slice_index_or slots n.slot None) s e in
      let here : shown slots n.slot ≡ Some _ = ap look parts.0 in
      let one_there : times n t ≡ 1 = times_slot (shown slots) None t n _ fits.holds here parts.1 ∙ fits.filled n.slot ∙ ap used here in
      record {
        here = parts.0;
        there = one_there;
        found = found (shown slots) None t n _ fits.holds here (omega arith);
        step = step_up (shown slots) None t n _ distinct fits.holds here (omega arith);
      }

  -- ---- a stale one
  pub stale : (n : NodeId) → held slots n ≡ None → times n t ≡ 0
  stale n e = at (slice_index_or slots n.slot None) refl e
    where
      none : (s : Slot T) → (slice_index_or slots n.slot None ≡ Some s) → s.turn ≢ n.turn → (times n t ≡ 0) ⊎ (times n t ≢ 0) → times n t ≡ 0
      none s h ne (inl z) = z
      none s h ne (inr nz) = absurd (ne (found (shown slots) None t n _ fits.holds (ap look h) (omega arith)).turn)

      at : (o : Option (Slot T)) → slice_index_or slots n.slot None ≡ o → of_turn n.turn o ≡ None → times n t ≡ 0
      at None h f = let z : in_slot n.slot t ≡ 0 = fits.filled n.slot ∙ ap (λ x. used (look x)) h in omega (arith, times_within t n)
      at (Some s) h f = none s h (λ k. let g : Some s ≡ None = sym (cond_yes (s.turn == n.turn) (Some s) None (eq-eqb s.turn n.turn k)) ∙ f in absurd cc) (cases_eq (times n t) 0)

  pub stale_part : (n : NodeId) → held slots n ≡ None → part_at t n ≡ None
  stale_part n e = part_none t n (stale n e)

  -- ---- what the calls answer
  pub live_value : (n : NodeId) (s : Slot T) → held slots n ≡ Some s → value_at t n ≡ Some s.value
  live_value n s e = ap value_of (live n s e).found.part

  length_tops : (u : Trees (NodeId × T)) → length (top_numbers u) ≡ count_of u
  length_tops leafless = refl
  length_tops (tree x below after) = omega (arith, length_tops after)

  pub live_count : (n : NodeId) (s : Slot T) → held slots n ≡ Some s → count_at t n ≡ length s.children.items
  live_count n s e = let f = (live n s e).found in ap (λ o. count_of (below_of o)) f.part ∙ sym (length_tops f.below) ∙ ap length (sym f.children)

  get_top : (u : Trees (NodeId × T)) (i : ℕ) → number_of (slice_get (tops u) i) ≡ slice_get (top_numbers u) i
  get_top leafless i = refl
  get_top (tree x below after) zero = refl
  get_top (tree x below after) (suc i) = get_top after i

  pub live_child : (n : NodeId) (s : Slot T) (i : ℕ) → held slots n ≡ Some s → child_at t n i ≡ slice_get s.children.items i
  live_child n s i e = let f = (live n s e).found in ap (λ o. number_of (slice_get (tops (below_of o)) i)) f.part ∙ get_top f.below i ∙ ap (λ l. slice_get l i) (sym f.children)

  pub child_there : (n : NodeId) (i : ℕ) (o : Option NodeId) → o ≡ child_at t n i → IfSome o (λ c. IsChild t n i c)
  child_there n i None e = tt
  child_there n i (Some c) e = child_is t n i c distinct (sym e)

  pub live_parent : (n : NodeId) (s : Slot T) → held slots n ≡ Some s → parent_at t n ≡ s.parent
  live_parent n s e = at (live n s e).step
    where
      at : Step (shown slots) None t n (record { turn = s.turn; value = s.value; parent = s.parent; children = s.children.items }) → parent_at t n ≡ s.parent
      at (inl q) = ap second q.1 ∙ sym q.0
      at (inr u) = ap second u.way ∙ way_head t u.upper n u.there ∙ sym u.parent

  pub live_way : (n : NodeId) (s : Slot T) → held slots n ≡ Some s → way_up t n ≡ n ∷ way_of t s.parent
  live_way n s e = at (live n s e).step
    where
      at : Step (shown slots) None t n (record { turn = s.turn; value = s.value; parent = s.parent; children = s.children.items }) → way_up t n ≡ n ∷ way_of t s.parent
      at (inl q) = q.1 ∙ ap (λ o. n ∷ way_of t o) (sym q.0)
      at (inr u) = u.way ∙ ap (λ o. n ∷ way_of t o) (sym u.parent)

  pub parent_live : (n : NodeId) (s : Slot T) (o : Option NodeId) → held slots n ≡ Some s → o ≡ s.parent → IfSome o (λ p. is_some (part_at t p) ≡ true)
  parent_live n s None e k = tt
  parent_live n s (Some p) e k = at (live n s e).step
    where
      at : Step (shown slots) None t n (record { turn = s.turn; value = s.value; parent = s.parent; children = s.children.items }) → is_some (part_at t p) ≡ true
      at (inl q) = let none : Some p ≡ None = k ∙ q.0 in absurd cc
      at (inr u) = let same : u.upper ≡ p = some_is u.upper p (sym u.parent ∙ sym k) in ap (λ m. is_some (part_at t m)) (sym same) ∙ part_some t u.upper u.there

  pub root_parent : (n : NodeId) (s : Slot T) → held slots n ≡ Some s → is_none s.parent ≡ is_top t n
  root_parent n s e = at (live n s e).step (top_way t root n fits.rooted (omega (arith, (live n s e).there)))
    where
      at : Step (shown slots) None t n (record { turn = s.turn; value = s.value; parent = s.parent; children = s.children.items }) →
          ((is_top t n ≡ true) × (length (way_up t n) ≡ 1)) ⊎ ((is_top t n ≡ false) × (2 ≤ length (way_up t n))) → is_none s.parent ≡ is_top t n
      at (inl q) (inl r) = ap is_none q.0 ∙ sym r.0
      at (inl q) (inr r) = absurd (omega (arith, ap length q.1, r.1))
      at (inr u) (inl r) = absurd (omega (arith, ap length u.way, way_some t u.upper u.there, r.1))
      at (inr u) (inr r) = ap is_none u.parent ∙ sym r.0

  -- a live number's slot
  pub live_held : (n : NodeId) → is_some (part_at t n) ≡ true → (s : Slot T) × (held slots n ≡ Some s)
  live_held n h = at (held slots n) refl
    where
      at : (o : Option (Slot T)) → held slots n ≡ o → (s : Slot T) × (held slots n ≡ Some s)
      at None e = absurd (false≢true (ap is_some (sym (stale_part n e)) ∙ h))
      at (Some s) e = (s, e)

  pub live_numbers : (n : NodeId) (s : Slot T) → held slots n ≡ Some s → top_numbers (below_at t n) ≡ s.children.items
  live_numbers n s e = let f = (live n s e).found in ap (λ o. top_numbers (below_of o)) f.part ∙ sym f.children

  -- the tree of a live number
  pub tree_of : (n : NodeId) (s : Slot T) (e : held slots n ≡ Some s) → tree_at n t ≡ tree (n, s.value) (live n s e).found.below leafless
  tree_of n s e = let l = live n s e in tree_is n t (s.value, l.found.below) (omega (arith, l.there)) l.found.part

  pub way_low : (n : NodeId) (s : Slot T) (e : held slots n ≡ Some s) → length (way_up t n) + height_of (live n s e).found.below ≤ 64
  way_low n s e = omega (arith, way_height t n (s.value, (live n s e).found.below) (live n s e).found.part, fits.low)

  pub way_most : (n : NodeId) → length (way_up t n) ≤ 64
  way_most n = at (held slots n) refl
    where
      at : (o : Option (Slot T)) → held slots n ≡ o → length (way_up t n) ≤ 64
      at None e = omega (arith, ap length (way_none t n (stale n e)))
      at (Some s) e = omega (arith, way_low n s e)

  pub tree_holds : (n : NodeId) (s : Slot T) (e : held slots n ≡ Some s) → Holds (shown slots) s.parent (tree (n, s.value) (live n s e).found.below leafless)
  tree_holds n s e =
      let l = live n s e in
      (ap look l.here ∙ (λ i. Some (record { turn = l.found.turn i; value = s.value; parent = s.parent; children = l.found.children i })), (l.found.holds, tt))

  pub tree_height : (n : NodeId) (s : Slot T) → held slots n ≡ Some s → height_of (grown 64 (shown slots) (n ∷ [])) ≡ height_of (tree_at n t)
  tree_height n s e =
      let l = live n s e in
      let some_way : 1 ≤ length (way_up t n) = way_some t n (omega (arith, l.there)) in
      ap height_of (grown_is (shown slots) 64 s.parent (tree (n, s.value) l.found.below leafless) (tree_holds n s e) (omega (arith, way_low n s e)) ∙ sym (tree_of n s e))

  pub stale_parent : (n : NodeId) → held slots n ≡ None → parent_at t n ≡ None
  stale_parent n e = ap second (way_none t n (stale n e))

  pub live_is : (n : NodeId) (s : Slot T) → held slots n ≡ Some s → is_some (part_at t n) ≡ true
  live_is n s e = ap is_some (live n s e).found.part

  -- the slot of a live number
  pub live_slot : (n : NodeId) (s : Slot T) → is_some (part_at t n) ≡ true → slice_index_or slots n.slot None ≡ Some s → held slots n ≡ Some s
  live_slot n s h e = at (cases_eq s.turn n.turn)
    where
      at : (s.turn ≡ n.turn) ⊎ (s.turn ≢ n.turn) → held slots n ≡ Some s
      at (inl k) = ap (of_turn n.turn) e ∙ cond_yes (s.turn == n.turn) (Some s) None (eq-eqb s.turn n.turn k)
      at (inr ne) =
          let none : held slots n ≡ None = ap (of_turn n.turn) e ∙ cond_no (s.turn == n.turn) (Some s) None (ne_eqb s.turn n.turn ne) in
          absurd (false≢true (ap is_some (sym (stale_part n none)) ∙ h))

  pub numbers : IsNumbered t
  numbers = numbered t distinct

  pub sound : IsSound (record { tree = t; made = made; most_nodes = nodes; most_children = kids })
  sound = record { distinct = distinct; numbered = numbers; turns = fits.turns; low = fits.low; few = fits.few; narrow = fits.narrow }
