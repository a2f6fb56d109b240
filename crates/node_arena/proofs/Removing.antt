-- The slots once a node, and all below it, were taken out of its parent's children.
use Rattle.std.proofs.Common.{◌≡◌, ◌≢◌, ℕ, ◌+◌, ◌≤◌, ◌<◌, false, List, [], ◌∷◌, Option, Some, None, is_none, refl, sym, ap, ◌∙◌, arith, inl, inr}
use Rattle.std.specs.Prelude.{◌==◌, ◌⊎◌, ◌||◌}
use Rattle.std.proofs.lemmas.Bool.{cases_eq, cases_lt, false≢true, false_from_ne_true, eq-eqb}
use Rattle.plain_tree.specs.Trees.{Trees, leafless, tree, size_of, height_of}
use Rattle.node_arena.specs.declared.number.NodeId.{NodeId}
use Rattle.node_arena.specs.declared.slots.Slot.{Slot}
use Rattle.node_arena.specs.Numbers.{same, one, top_numbers, times, dropped, EachNode, IsNarrow}
use Rattle.node_arena.specs.Edits.{nothing, removed, tree_at}
use Rattle.node_arena.specs.Faults.{is_top}
use Rattle.node_arena.specs.Inside.{Shown, look, shown, held, Holds, in_slot, used, Fits, whole, unlisted, Reshows, swept}
use Rattle.node_arena.proofs.Same.{one_yes, cond_no, same_refl}
use Rattle.node_arena.proofs.Parts.{below_within}
use Rattle.node_arena.proofs.Standing.{way_some}
use Rattle.node_arena.proofs.Edited.{summed, summed_edited, size_summed, in_slot_summed, times_summed, height_edited, each_edited, narrow_edited}
use Rattle.node_arena.proofs.Changed.{holds_agree}
use Rattle.node_arena.proofs.Linked.{holds_apart, holds_removed, tops_removed, dropped_none, not_listed, Emptied, emptied}
use Rattle.node_arena.proofs.Reading.{Live, live, is_whole, few_in_slot, root_parent, tree_of, way_low, way_most}

module _ {T : Type 0} where
  used_unlisted : (n : NodeId) (o : Option (Shown T)) → used (unlisted n o) ≡ used o
  used_unlisted n None = refl
  used_unlisted n (Some s) = refl

  used_some : (o : Option (Shown T)) → used o ≡ 1 → (s : Shown T) × (o ≡ Some s)
  used_some None e = absurd (omega arith)
  used_some (Some s) e = (s, refl)

  top_root : (t : Trees (NodeId × T)) (root n : NodeId) → top_numbers t ≡ root ∷ [] → is_top t n ≡ false → same root n ≡ false
  top_root leafless root n e h = absurd cc
  top_root (tree x below after) root n e h = false_from_ne_true (same root n) (λ k. let first : x.0 ≡ root = first_is x.0 root (top_numbers after) e in
      false≢true (sym h ∙ ap (λ b. b || is_top after n) (ap (λ m. same m n) first ∙ k)))
    where
      first_is : (a b : NodeId) (rest : List NodeId) → a ∷ rest ≡ b ∷ [] → a ≡ b
      first_is a b rest q = cc

module _ {T : Type 0} (slots : List (Option (Slot T))) (root : NodeId) (made nodes kids : ℕ) (t : Trees (NodeId × T)) (fits : Fits slots root made nodes kids t)
    (n p : NodeId) (s : Slot T) (e : held slots n ≡ Some s) (q : s.parent ≡ Some p) (cut : List (Option (Slot T))) (r : Reshows slots cut p.slot (unlisted n (shown slots p.slot))) where
  abbrev pub mine : Live slots root made nodes kids t fits n s
  mine = live slots root made nodes kids t fits n s e

  abbrev pub moving : Trees (NodeId × T)
  moving = tree (n, s.value) mine.found.below leafless

  pub moving_is : tree_at n t ≡ moving
  moving_is = tree_of slots root made nodes kids t fits n s e

  -- each slot of the tree shows the same, but without the number
  pub cut_shows : (j : ℕ) → 1 ≤ in_slot j t → shown cut j ≡ unlisted n (shown slots j)
  cut_shows j m = at (cases_eq j p.slot) (used_some (shown slots j) (omega (arith, fits.filled j, few_in_slot slots root made nodes kids t fits j)))
    where
      at : (j ≡ p.slot) ⊎ (j ≢ p.slot) → (x : Shown T) × (shown slots j ≡ Some x) → shown cut j ≡ unlisted n (shown slots j)
      at (inl k) x = ap (shown cut) k ∙ r.changed ∙ ap (λ m. unlisted n (shown slots m)) (sym k)
      at (inr ne) x =
          r.others j ne ∙ x.1
          ∙ ap (λ l. Some (record { turn = x.0.turn; value = x.0.value; parent = x.0.parent; children = l })) (sym (not_listed (shown slots) n p _ (ap look mine.here) q None t j x.0 fits.holds x.1 m ne))
          ∙ sym (ap (unlisted n) x.1)

  pub cut_used : (j : ℕ) → used (shown cut j) ≡ used (shown slots j)
  cut_used j = at (cases_eq j p.slot)
    where
      at : (j ≡ p.slot) ⊎ (j ≢ p.slot) → used (shown cut j) ≡ used (shown slots j)
      at (inl k) = ap (λ m. used (shown cut m)) k ∙ ap used r.changed ∙ used_unlisted n (shown slots p.slot) ∙ ap (λ m. used (shown slots m)) (sym k)
      at (inr ne) = ap used (r.others j ne)

  once : times n t ≤ 1
  once = omega (arith, mine.there)

  -- ---- sums
  pub parts_summed : (w : NodeId × T → ℕ) → summed w (removed n t) + summed w moving ≡ summed w t
  parts_summed w = omega (arith, summed_edited w n nothing t (s.value, mine.found.below) once mine.found.part)

  pub parts_in_slot : (k : ℕ) → in_slot k (removed n t) + in_slot k moving ≡ in_slot k t
  parts_in_slot k = omega (arith, in_slot_summed k (removed n t), in_slot_summed k moving, in_slot_summed k t, parts_summed (λ x. one (x.0.slot == k)))

  pub parts_size : size_of (removed n t) + size_of moving ≡ size_of t
  parts_size = omega (arith, size_summed (removed n t), size_summed moving, size_summed t, parts_summed (λ _. 1))

  pub parts_times : (m : NodeId) → times m (removed n t) + times m moving ≡ times m t
  parts_times m = omega (arith, times_summed m (removed n t), times_summed m moving, times_summed m t, parts_summed (λ x. one (same x.0 m)))

  pub none_below : times n mine.found.below ≡ 0
  none_below = omega (arith, below_within t n n (s.value, mine.found.below) mine.found.part, one_yes (same n n) (same_refl n), once)

  -- ---- what the two parts are
  pub rest_holds : Holds (shown cut) None (removed n t)
  rest_holds = holds_removed (shown slots) (shown cut) n None t once cut_shows fits.holds

  in_moving : (j : ℕ) → 1 ≤ in_slot j moving → 1 ≤ in_slot j t
  in_moving j m = omega (arith, parts_in_slot j)

  pub moving_below : Holds (shown cut) (Some n) mine.found.below
  moving_below = holds_apart (shown slots) (shown cut) n (Some n) mine.found.below none_below (λ j m. cut_shows j (in_moving j (omega arith))) mine.found.holds

  pub moving_top : shown cut n.slot ≡ Some (record { turn = n.turn; value = s.value; parent = s.parent; children = top_numbers mine.found.below })
  moving_top =
      cut_shows n.slot (in_moving n.slot (omega (arith, one_yes (n.slot == n.slot) (eq-eqb n.slot n.slot refl)))) ∙ ap (λ o. unlisted n (look o)) mine.here
      ∙ (λ i. Some (record { turn = mine.found.turn i; value = s.value; parent = s.parent; children = (ap (dropped n) mine.found.children ∙ dropped_none n mine.found.below none_below) i }))

  pub not_root : same root n ≡ false
  not_root = top_root t root n fits.rooted (sym (root_parent slots root made nodes kids t fits n s e) ∙ ap is_none q)

  pub rest_rooted : top_numbers (removed n t) ≡ root ∷ []
  rest_rooted = tops_removed n t ∙ ap (dropped n) fits.rooted ∙ cond_no (same root n) [] (root ∷ []) not_root

  pub rest_low : height_of (removed n t) ≤ 64
  rest_low = height_edited n nothing 64 t (s.value, mine.found.below) once mine.found.part fits.low (omega (arith, way_most slots root made nodes kids t fits n))

  pub rest_turns : EachNode (λ x. x.0.turn < made) (removed n t)
  rest_turns = each_edited (λ x. x.0.turn < made) n nothing t (λ x below a b. tt) fits.turns

  pub rest_narrow : IsNarrow kids (removed n t)
  rest_narrow = narrow_edited kids n nothing t (λ x below. omega arith) (λ part f h. tt) once fits.narrow

  -- ---- the node and all below it taken out
  moving_holds : Holds (shown cut) s.parent moving
  moving_holds = (moving_top, (moving_below, tt))

  gone : Emptied cut (swept 64 (n ∷ []) cut) moving
  gone = emptied 64 cut s.parent moving (omega (arith, way_low slots root made nodes kids t fits n s e, way_some t n (omega (arith, mine.there)))) (λ k. omega (arith, parts_in_slot k, few_in_slot slots root made nodes kids t fits k)) moving_holds

  pub fits_removed : Fits (swept 64 (n ∷ []) cut) root made nodes kids (removed n t)
  fits_removed =
      record {
        holds = holds_agree (shown cut) (shown (swept 64 (n ∷ []) cut)) None (removed n t) (λ k m. gone.others k (omega (arith, parts_in_slot k, few_in_slot slots root made nodes kids t fits k))) rest_holds;
        rooted = rest_rooted;
        filled = λ k. filled k (cases_lt 0 (in_slot k moving));
        counted = omega (arith, gone.counted, r.counted, fits.counted, parts_size);
        low = rest_low;
        turns = rest_turns;
        few = omega (arith, fits.few, parts_size);
        narrow = rest_narrow;
      }
    where
      filled : (k : ℕ) → (0 < in_slot k moving) ⊎ (in_slot k moving ≤ 0) → in_slot k (removed n t) ≡ used (shown (swept 64 (n ∷ []) cut) k)
      filled k (inl m) = let none : used (shown (swept 64 (n ∷ []) cut) k) ≡ 0 = ap used (gone.gone k m) in omega (arith, parts_in_slot k, few_in_slot slots root made nodes kids t fits k)
      filled k (inr m) =
          let as_before : used (shown (swept 64 (n ∷ []) cut) k) ≡ used (shown slots k) = ap used (gone.others k (omega arith)) ∙ cut_used k in
          omega (arith, parts_in_slot k, fits.filled k)

  pub whole_removed : whole (swept 64 (n ∷ []) cut) root ≡ removed n t
  whole_removed = is_whole (swept 64 (n ∷ []) cut) root made nodes kids (removed n t) fits_removed

  pub whole_fits_removed : Fits (swept 64 (n ∷ []) cut) root made nodes kids (whole (swept 64 (n ∷ []) cut) root)
  whole_fits_removed = rw whole_removed fits_removed
