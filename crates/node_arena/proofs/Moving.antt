-- The slots once a node, and all below it, were put under another parent.
use Rattle.std.proofs.Common.{◌≡◌, ◌≢◌, ℕ, ◌+◌, ◌≤◌, ◌<◌, true, false, List, insert, Option, Some, None, length, refl, sym, ap, ◌∙◌, arith, inl, inr, Bool, Ok, subst}
use Rattle.std.specs.Prelude.{◌==◌, ◌⊎◌, ◌&&◌, IfSome, if◌then◌else◌, not, nat_lt, nat_le}
use Rattle.std.proofs.lemmas.Bool.{cases_eq, cases_lt, false≢true, eq-eqb, and_parts, ltb-false, leb-false}
use Rattle.plain_tree.specs.Trees.{Trees, leafless, tree, height_of, count_of}
use Rattle.node_arena.specs.declared.number.NodeId.{NodeId}
use Rattle.node_arena.specs.declared.slots.Slot.{Slot}
use Rattle.node_arena.specs.declared.error.ArenaError.TheVariants.{Stale, Root, Cycle, BadIndex, TooDeep, Full}
use Rattle.node_arena.specs.Numbers.{below_at, top_numbers, times, way_up, dropped, is_among, EachNode, IsNarrow}
use Rattle.node_arena.specs.Edits.{graft, grafted, removed, moved, tree_at}
use Rattle.node_arena.specs.Faults.{Answers, is_top, move_fault}
use Rattle.node_arena.specs.Plain.{Nodes, is_live}
use Rattle.node_arena.specs.Inside.{look, shown, held, Holds, in_slot, used, Fits, whole, listed, unlisted, below_parent, Reshows}
use Rattle.node_arena.proofs.Same.{one_yes}
use Rattle.node_arena.proofs.Standing.{Found, found, times_within}
use Rattle.node_arena.proofs.Edited.{graft_in_slot, graft_size, graft_low, graft_narrow, tops_grafted, each_edited, each_put, each_tree, narrow_tree}
use Rattle.node_arena.proofs.Changed.{holds_agree}
use Rattle.node_arena.proofs.Linked.{holds_grafted}
use Rattle.node_arena.proofs.Ways.{within_way, way_removed}
use Rattle.node_arena.proofs.Reading.{Live, live, is_whole, few_in_slot, live_numbers, live_held}
use Rattle.node_arena.proofs.Removing.{mine, moving, moving_is, cut_shows, cut_used, parts_in_slot, parts_size, parts_times, moving_below, moving_top, rest_holds, rest_rooted, rest_low, rest_turns, rest_narrow}

-- ---- what an Ok of the tests says
pub record MayMove {T : Type 0} (n : Nodes T) (id parent : NodeId) (index : ℕ) : Type 0 where
  pub live : is_live n id ≡ true
  pub live_parent : is_live n parent ≡ true
  pub apart : is_among id (way_up n.tree parent) ≡ false
  pub place : index ≤ length (dropped id (top_numbers (below_at n.tree parent)))
  pub level : length (way_up n.tree parent) + height_of (tree_at id n.tree) ≤ 64
  pub narrow : length (dropped id (top_numbers (below_at n.tree parent))) < n.most_children

record None_of (a b c d e f : Bool) : Type 0 where
  pub first : a ≡ true
  pub second : b ≡ false
  pub third : c ≡ false
  pub fourth : d ≡ false
  pub fifth : e ≡ false
  pub sixth : f ≡ false

tests : {X : Type 0} (x : X) (a b c d e f : Bool) → Answers (if not a then Some Stale else if b then Some Root else if c then Some Cycle else if d then Some BadIndex else if e then Some TooDeep else if f then Some Full else None) (Ok x) → None_of a b c d e f
tests x false b c d e f h = absurd cc
tests x true true c d e f h = absurd cc
tests x true false true d e f h = absurd cc
tests x true false false true e f h = absurd cc
tests x true false false false true f h = absurd cc
tests x true false false false false true h = absurd cc
tests x true false false false false false h = record { first = refl; second = refl; third = refl; fourth = refl; fifth = refl; sixth = refl }

pub may_move : {T X : Type 0} (x : X) (n : Nodes T) (id parent : NodeId) (index : ℕ) → Answers (move_fault n id parent index) (Ok x) → MayMove n id parent index
may_move x n id parent index h =
    let all = tests x (is_live n id && is_live n parent) (is_top n.tree id) (is_among id (way_up n.tree parent)) (nat_lt (length (dropped id (top_numbers (below_at n.tree parent)))) index) (nat_lt 64 (length (way_up n.tree parent) + height_of (tree_at id n.tree)))
    (nat_le n.most_children (length (dropped id (top_numbers (below_at n.tree parent))))) h in
    let both = and_parts (is_live n id) (is_live n parent) all.first in
    record {
      live = both.0;
      live_parent = both.1;
      apart = all.third;
      place = ltb-false _ _ all.fourth;
      level = ltb-false _ _ all.fifth;
      narrow = leb-false _ _ all.sixth;
    }

pub may_move_in : {T X : Type 0} (x : X) (n now : Nodes T) (id parent : NodeId) (index : ℕ) → n ≡ now → Answers (move_fault now id parent index) (Ok x) → MayMove n id parent index
may_move_in x n now id parent index e h = subst (λ m. MayMove m id parent index) (sym e) (may_move x now id parent index h)

module _ {T : Type 0} (slots : List (Option (Slot T))) (root : NodeId) (made nodes kids : ℕ) (t : Trees (NodeId × T)) (fits : Fits slots root made nodes kids t)
    (n p : NodeId) (s : Slot T) (e : held slots n ≡ Some s) (q : s.parent ≡ Some p) (cut : List (Option (Slot T))) (r : Reshows slots cut p.slot (unlisted n (shown slots p.slot)))
    (parent : NodeId) (index : ℕ) (may : MayMove (record { tree = t; made = made; most_nodes = nodes; most_children = kids }) n parent index)
    (turned : List (Option (Slot T))) (r2 : Reshows cut turned n.slot (below_parent parent (shown cut n.slot))) where
  abbrev tree_moved : Trees (NodeId × T)
  tree_moved = moving slots root made nodes kids t fits n p s e q cut r

  has : (s : Slot T) × (held slots parent ≡ Some s)
  has = live_held slots root made nodes kids t fits parent may.live_parent

  upper : Live slots root made nodes kids t fits parent has.0
  upper = live slots root made nodes kids t fits parent has.0 has.1

  abbrev low : Live slots root made nodes kids t fits n s
  low = mine slots root made nodes kids t fits n p s e q cut r

  -- ---- the new parent stands in what is left
  not_in_moving : times parent tree_moved ≡ 0
  not_in_moving = at (cases_lt 0 (times parent tree_moved))
    where
      at : (0 < times parent tree_moved) ⊎ (times parent tree_moved ≤ 0) → times parent tree_moved ≡ 0
      at (inl m) = absurd (false≢true (sym may.apart ∙ within_way t n parent (s.value, low.found.below) low.found.part (omega (arith, upper.there)) (omega arith)))
      at (inr m) = omega arith

  in_rest : times parent (removed n t) ≡ 1
  in_rest = omega (arith, parts_times slots root made nodes kids t fits n p s e q cut r parent, not_in_moving, upper.there)

  rest_slot : 1 ≤ in_slot parent.slot (removed n t)
  rest_slot = omega (arith, times_within (removed n t) parent, in_rest)

  moving_slot : 1 ≤ in_slot n.slot tree_moved
  moving_slot = omega (arith, one_yes (n.slot == n.slot) (eq-eqb n.slot n.slot refl))

  few : (k : ℕ) → in_slot k (removed n t) + in_slot k tree_moved ≤ 1
  few k = omega (arith, parts_in_slot slots root made nodes kids t fits n p s e q cut r k, few_in_slot slots root made nodes kids t fits k)

  slots_differ : parent.slot ≢ n.slot
  slots_differ k = let f = few n.slot in let same_slot : in_slot parent.slot (removed n t) ≡ in_slot n.slot (removed n t) = ap (λ z. in_slot z (removed n t)) k in absurd (omega (arith, rest_slot, moving_slot))

  parent_cut : shown cut parent.slot ≡ Some (record { turn = has.0.turn; value = has.0.value; parent = has.0.parent; children = dropped n has.0.children.items })
  parent_cut =
      cut_shows slots root made nodes kids t fits n p s e q cut r parent.slot (omega (arith, parts_in_slot slots root made nodes kids t fits n p s e q cut r parent.slot, rest_slot))
      ∙ ap (λ o. unlisted n (look o)) upper.here

  parent_turned : shown turned parent.slot ≡ Some (record { turn = has.0.turn; value = has.0.value; parent = has.0.parent; children = dropped n has.0.children.items })
  parent_turned = r2.others parent.slot slots_differ ∙ parent_cut

  in_range : index ≤ length (dropped n has.0.children.items)
  in_range = omega (arith, may.place, ap (λ l. length (dropped n l)) (live_numbers slots root made nodes kids t fits parent has.0 has.1))

  pub place_kept : IfSome (shown turned parent.slot) (λ x. index ≤ length x.children)
  place_kept = subst (λ o. IfSome o (λ x. index ≤ length x.children)) (sym parent_turned) in_range

  in_parent : Found (shown cut) None (removed n t) parent (record { turn = has.0.turn; value = has.0.value; parent = has.0.parent; children = dropped n has.0.children.items })
  in_parent = found (shown cut) None (removed n t) parent _ (rest_holds slots root made nodes kids t fits n p s e q cut r) parent_cut (omega (arith, in_rest))

  module _ (last : List (Option (Slot T))) (r3 : Reshows turned last parent.slot (listed index n (shown turned parent.slot))) where
    here : shown last parent.slot ≡ Some (record { turn = has.0.turn; value = has.0.value; parent = has.0.parent; children = insert (dropped n has.0.children.items) index n })
    here = r3.changed ∙ ap (listed index n) parent_turned

    top_here : shown last n.slot ≡ Some (record { turn = n.turn; value = s.value; parent = Some parent; children = top_numbers low.found.below })
    top_here = r3.others n.slot (λ k. slots_differ (sym k)) ∙ r2.changed ∙ ap (below_parent parent) (moving_top slots root made nodes kids t fits n p s e q cut r)

    far : (j : ℕ) → j ≢ parent.slot → j ≢ n.slot → shown last j ≡ shown cut j
    far j ne nn = r3.others j ne ∙ r2.others j nn

    -- a slot of what is left is not the moved node's, and one below that is neither's
    rest_apart : (j : ℕ) → 1 ≤ in_slot j (removed n t) → j ≢ n.slot
    rest_apart j m k = let f = few n.slot in let same_slot : in_slot j (removed n t) ≡ in_slot n.slot (removed n t) = ap (λ z. in_slot z (removed n t)) k in absurd (omega (arith, moving_slot))

    below_apart : (j : ℕ) → 1 ≤ in_slot j low.found.below → j ≢ n.slot
    below_apart j m k =
        let f = few n.slot in
        let same_slot : in_slot j low.found.below ≡ in_slot n.slot low.found.below = ap (λ z. in_slot z low.found.below) k in
        absurd (omega (arith, one_yes (n.slot == n.slot) (eq-eqb n.slot n.slot refl)))

    below_far : (j : ℕ) → 1 ≤ in_slot j low.found.below → j ≢ parent.slot
    below_far j m k =
        let f = few parent.slot in
        let same_slot : in_slot j low.found.below ≡ in_slot parent.slot low.found.below = ap (λ z. in_slot z low.found.below) k in
        absurd (omega (arith, rest_slot))

    moved_holds : Holds (shown last) (Some parent) tree_moved
    moved_holds =
        (top_here, (holds_agree (shown cut) (shown last) (Some n) low.found.below (λ j m. far j (below_far j m) (below_apart j m)) (moving_below slots root made nodes kids t fits n p s e q cut r), tt))

    abbrev result : Trees (NodeId × T)
    result = grafted parent index tree_moved (removed n t)

    holds : Holds (shown last) None result
    holds =
        holds_grafted (shown cut) (shown last) parent n _ index tree_moved parent_cut in_parent.turn in_range refl here moved_holds None (removed n t)
        (λ j. let f = few j in omega arith) (λ j ne m. far j ne (rest_apart j m)) (rest_holds slots root made nodes kids t fits n p s e q cut r)

    once : times parent (removed n t) ≤ 1
    once = omega (arith, in_rest)

    last_used : (k : ℕ) → (k ≡ parent.slot) ⊎ (k ≢ parent.slot) → (k ≡ n.slot) ⊎ (k ≢ n.slot) → used (shown last k) ≡ used (shown slots k)
    last_used k (inl a) b = ap (λ z. used (shown last z)) a ∙ ap used here ∙ sym (ap (λ o. used (look o)) upper.here) ∙ ap (λ z. used (shown slots z)) (sym a)
    last_used k (inr a) (inl b) = ap (λ z. used (shown last z)) b ∙ ap used top_here ∙ sym (ap (λ o. used (look o)) low.here) ∙ ap (λ z. used (shown slots z)) (sym b)
    last_used k (inr a) (inr b) = ap used (far k a b) ∙ cut_used slots root made nodes kids t fits n p s e q cut r k

    way_kept : length (way_up (removed n t) parent) ≡ length (way_up t parent)
    way_kept = ap length (way_removed t n parent (omega (arith, upper.there)) may.apart)

    height_is : height_of (tree_at n t) ≡ height_of tree_moved
    height_is = ap height_of (moving_is slots root made nodes kids t fits n p s e q cut r)

    length_tops : (u : Trees (NodeId × T)) → length (top_numbers u) ≡ count_of u
    length_tops leafless = refl
    length_tops (tree x below after) = omega (arith, length_tops after)

    room : 1 + count_of in_parent.below ≤ kids
    room = omega (arith, may.narrow, ap (λ l. length (dropped n l)) (live_numbers slots root made nodes kids t fits parent has.0 has.1), ap length in_parent.children, length_tops in_parent.below)

    fits_result : Fits last root made nodes kids result
    fits_result =
        record {
          holds = holds;
          rooted = tops_grafted parent index tree_moved (removed n t) ∙ rest_rooted slots root made nodes kids t fits n p s e q cut r;
          filled = λ k. omega (arith, graft_in_slot parent index tree_moved (removed n t) _ once in_parent.part k, parts_in_slot slots root made nodes kids t fits n p s e q cut r k, fits.filled k, last_used k (cases_eq k parent.slot) (cases_eq k n.slot));
          counted = omega (arith, r3.counted, r2.counted, r.counted, fits.counted, graft_size parent index tree_moved (removed n t) _ once in_parent.part, parts_size slots root made nodes kids t fits n p s e q cut r);
          low = graft_low parent index tree_moved (removed n t) _ once in_parent.part 64 (rest_low slots root made nodes kids t fits n p s e q cut r) (omega (arith, way_kept, height_is, may.level));
          turns = each_edited (λ x. x.0.turn < made) parent (graft index tree_moved) (removed n t)
              (λ x below a b. (
                a,
                (
                  each_put (λ x. x.0.turn < made) index tree_moved below
                      (subst (EachNode (λ x. x.0.turn < made)) (moving_is slots root made nodes kids t fits n p s e q cut r) (each_tree n (λ x. x.0.turn < made) t fits.turns)) b,
                  tt,
                ),
              ))
              (rest_turns slots root made nodes kids t fits n p s e q cut r);
          few = omega (arith, fits.few, graft_size parent index tree_moved (removed n t) _ once in_parent.part, parts_size slots root made nodes kids t fits n p s e q cut r);
          narrow = graft_narrow parent index tree_moved (removed n t) _ once in_parent.part kids (rest_narrow slots root made nodes kids t fits n p s e q cut r)
              (subst (IsNarrow kids) (moving_is slots root made nodes kids t fits n p s e q cut r) (narrow_tree n kids t fits.narrow)) (omega (arith, room));
        }

    pub fits_moved : Fits last root made nodes kids (moved n parent index t)
    fits_moved = subst (λ z. Fits last root made nodes kids (grafted parent index z (removed n t))) (sym (moving_is slots root made nodes kids t fits n p s e q cut r)) fits_result

    pub whole_moved : whole last root ≡ moved n parent index t
    whole_moved = is_whole last root made nodes kids (moved n parent index t) fits_moved

    pub whole_fits_moved : Fits last root made nodes kids (whole last root)
    whole_fits_moved = rw whole_moved fits_moved
