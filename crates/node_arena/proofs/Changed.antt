-- What slots hold after a change of some.
use Rattle.std.proofs.Common.{◌≡◌, ◌≢◌, ℕ, zero, suc, ◌+◌, ◌≤◌, ◌<◌, true, false, List, [], ◌∷◌, Option, Some, None, is_some, count_by, length, refl, sym, ap, ◌∙◌, arith, inl, inr, cond, slice_index_or, get_or-set_same, get_or-set_other}
use Rattle.std.specs.Prelude.{◌==◌, ◌⊎◌, slice_set}
use Rattle.std.proofs.lemmas.Bool.{cases_eq, eq-eqb}
use Rattle.std.proofs.lemmas.List.Sums.{sum_by-cons}
use Rattle.plain_tree.specs.Trees.{Trees, leafless, tree, size_of, height_of, count_of}
use Rattle.node_arena.specs.declared.number.NodeId.{NodeId}
use Rattle.node_arena.specs.declared.slots.Slot.{Slot}
use Rattle.node_arena.specs.Numbers.{same, one, mapped, top_numbers, times, EachNode, IsNarrow, replaced}
use Rattle.node_arena.specs.Inside.{Shown, look, shown, held, Holds, in_slot, used, Fits, whole, Alike}
use Rattle.node_arena.proofs.Same.{same_from, same_not, same_both, one_yes, cond_yes, cond_no}
use Rattle.node_arena.proofs.Standing.{some_is}
use Rattle.node_arena.proofs.Reading.{live, is_whole}

-- ---- lists of slots
module _ {X : Type 0} where
  pub slot_within : (xs : List (Option X)) (k : ℕ) (x : X) → slice_index_or xs k None ≡ Some x → k < length xs
  slot_within [] k x e = absurd cc
  slot_within (y ∷ ys) zero x e = omega arith
  slot_within (y ∷ ys) (suc k) x e = omega (arith, slot_within ys k x e)

  pub set_here : (xs : List (Option X)) (k : ℕ) (x : X) (y : Option X) → slice_index_or xs k None ≡ Some x → slice_index_or (slice_set xs k y) k None ≡ y
  set_here xs k x y e = get_or-set_same xs k y None (slot_within xs k x e)

  pub set_other : (xs : List (Option X)) (k j : ℕ) (y : Option X) → j ≢ k → slice_index_or (slice_set xs k y) j None ≡ slice_index_or xs j None
  set_other xs k j y ne = get_or-set_other xs k j y None ne

  counted_cons : (x : Option X) (xs : List (Option X)) → count_by is_some (x ∷ xs) ≡ cond (is_some x) 1 0 + count_by is_some xs
  counted_cons x xs = sum_by-cons (λ o. cond (is_some o) 1 0) x xs

  pub count_set : (xs : List (Option X)) (k : ℕ) (x : X) (y : Option X) → slice_index_or xs k None ≡ Some x → count_by is_some (slice_set xs k y) + 1 ≡ count_by is_some xs + cond (is_some y) 1 0
  count_set [] k x y e = absurd cc
  count_set (z ∷ xs) zero x y e =
      let first : z ≡ Some x = e in
      let old : count_by is_some (z ∷ xs) ≡ 1 + count_by is_some xs = counted_cons z xs ∙ ap (λ o. cond (is_some o) 1 0 + count_by is_some xs) first in
      let new : count_by is_some (slice_set (z ∷ xs) 0 y) ≡ cond (is_some y) 1 0 + count_by is_some xs = counted_cons y xs in
      omega arith
  count_set (z ∷ xs) (suc k) x y e = omega (arith, counted_cons z xs, counted_cons z (slice_set xs k y), count_set xs k x y e)

-- ---- the same slots where the tree stands
module _ {T : Type 0} where
  pub holds_agree : (slots new : ℕ → Option (Shown T)) (parent : Option NodeId) (t : Trees (NodeId × T)) → ((k : ℕ) → 1 ≤ in_slot k t → new k ≡ slots k) → Holds slots parent t → Holds new parent t
  holds_agree slots new parent leafless a h = tt
  holds_agree slots new parent (tree x below after) a h =
      let mine : one (x.0.slot == x.0.slot) ≡ 1 = one_yes (x.0.slot == x.0.slot) (eq-eqb x.0.slot x.0.slot refl) in
      (a x.0.slot (omega arith) ∙ h.0, (holds_agree slots new (Some x.0) below (λ k l. a k (omega arith)) h.1.0, holds_agree slots new parent after (λ k l. a k (omega arith)) h.1.1))

-- ---- each value by a function
module _ {A B : Type 0} (f : NodeId → A → B) where
  pub size_mapped : (t : Trees (NodeId × A)) → size_of (mapped f t) ≡ size_of t
  size_mapped leafless = refl
  size_mapped (tree x below after) = omega (arith, size_mapped below, size_mapped after)

  pub height_mapped : (t : Trees (NodeId × A)) → height_of (mapped f t) ≡ height_of t
  height_mapped leafless = refl
  height_mapped (tree x below after) = omega (arith, height_mapped below, height_mapped after)

  pub count_of_mapped : (t : Trees (NodeId × A)) → count_of (mapped f t) ≡ count_of t
  count_of_mapped leafless = refl
  count_of_mapped (tree x below after) = omega (arith, count_of_mapped after)

  pub tops_mapped : (t : Trees (NodeId × A)) → top_numbers (mapped f t) ≡ top_numbers t
  tops_mapped leafless = refl
  tops_mapped (tree x below after) = ap (λ l. x.0 ∷ l) (tops_mapped after)

  pub in_slot_mapped : (k : ℕ) (t : Trees (NodeId × A)) → in_slot k (mapped f t) ≡ in_slot k t
  in_slot_mapped k leafless = refl
  in_slot_mapped k (tree x below after) = omega (arith, in_slot_mapped k below, in_slot_mapped k after)

  pub times_mapped : (n : NodeId) (t : Trees (NodeId × A)) → times n (mapped f t) ≡ times n t
  times_mapped n leafless = refl
  times_mapped n (tree x below after) = omega (arith, times_mapped n below, times_mapped n after)

  pub turns_mapped : (P : NodeId → Type 0) (t : Trees (NodeId × A)) → EachNode (λ x. P x.0) t → EachNode (λ x. P x.0) (mapped f t)
  turns_mapped P leafless h = tt
  turns_mapped P (tree x below after) h = (h.0, (turns_mapped P below h.1.0, turns_mapped P after h.1.1))

  pub narrow_mapped : (most : ℕ) (t : Trees (NodeId × A)) → IsNarrow most t → IsNarrow most (mapped f t)
  narrow_mapped most leafless h = tt
  narrow_mapped most (tree x below after) h = (omega (arith, count_of_mapped below, h.0), (narrow_mapped most below h.1.0, narrow_mapped most after h.1.1))

-- ---- a value replaced
module _ {T : Type 0} where
  pub holds_replaced : (slots new : ℕ → Option (Shown T)) (n : NodeId) (s : Shown T) (w : T) (parent : Option NodeId) (t : Trees (NodeId × T)) → slots n.slot ≡ Some s → s.turn ≡ n.turn →
      new n.slot ≡ Some (record { turn = s.turn; value = w; parent = s.parent; children = s.children }) → ((k : ℕ) → k ≢ n.slot → new k ≡ slots k) → Holds slots parent t → Holds new parent (replaced n w t)
  holds_replaced slots new n s w parent leafless e u m o h = tt
  holds_replaced slots new n s w parent (tree x below after) e u m o h =
      (at (cases_eq x.0.slot n.slot), (holds_replaced slots new n s w (Some x.0) below e u m o h.1.0, holds_replaced slots new n s w parent after e u m o h.1.1))
    where
      at : (x.0.slot ≡ n.slot) ⊎ (x.0.slot ≢ n.slot) → new x.0.slot ≡ Some (record { turn = x.0.turn; value = cond (same x.0 n) w x.1; parent = parent; children = top_numbers (replaced n w below) })
      at (inl k) =
          let y : s ≡ record { turn = x.0.turn; value = x.1; parent = parent; children = top_numbers below } = some_is s _ (sym e ∙ ap slots (sym k) ∙ h.0) in
          let yes : same x.0 n ≡ true = same_from x.0 n (same_both x.0 n k (sym (ap (λ z. z.turn) y) ∙ u)) in
          ap new k ∙ m ∙ (λ i. Some (record { turn = (y i).turn; value = w; parent = (y i).parent; children = (y i).children }))
          ∙ (λ i. Some (record { turn = x.0.turn; value = sym (cond_yes (same x.0 n) w x.1 yes) i; parent = parent; children = sym (tops_mapped (λ k v. cond (same k n) w v) below) i }))
      at (inr ne) =
          let no : same x.0 n ≡ false = same_not x.0 n (λ q. ne (ap (λ z. z.slot) q)) in
          o x.0.slot ne ∙ h.0 ∙ (λ i. Some (record { turn = x.0.turn; value = sym (cond_no (same x.0 n) w x.1 no) i; parent = parent; children = sym (tops_mapped (λ k v. cond (same k n) w v) below) i }))

  used_value : (s : Slot T) (w : T) → used (look (Some s)) ≡ 1
  used_value s w = refl

  -- the slots with another value in a live number's
  module _ (slots : List (Option (Slot T))) (root : NodeId) (made nodes kids : ℕ) (t : Trees (NodeId × T)) (fits : Fits slots root made nodes kids t) (n : NodeId) (s : Slot T) (e : held slots n ≡ Some s) (w : T) where
    abbrev written : List (Option (Slot T))
    written = slice_set slots n.slot (Some (record { turn = s.turn; value = w; parent = s.parent; children = s.children }))

    here : slice_index_or slots n.slot None ≡ Some s
    here = (live slots root made nodes kids t fits n s e).here

    written_here : shown written n.slot ≡ Some (record { turn = s.turn; value = w; parent = s.parent; children = s.children.items })
    written_here = ap look (set_here slots n.slot s (Some (record { turn = s.turn; value = w; parent = s.parent; children = s.children })) here)

    written_other : (k : ℕ) → k ≢ n.slot → shown written k ≡ shown slots k
    written_other k ne = ap look (set_other slots n.slot k (Some (record { turn = s.turn; value = w; parent = s.parent; children = s.children })) ne)

    written_used : (k : ℕ) → used (shown written k) ≡ used (shown slots k)
    written_used k = at (cases_eq k n.slot)
      where
        at : (k ≡ n.slot) ⊎ (k ≢ n.slot) → used (shown written k) ≡ used (shown slots k)
        at (inl q) = ap (λ j. used (shown written j)) q ∙ ap used written_here ∙ sym (ap (λ o. used (look o)) here) ∙ ap (λ j. used (shown slots j)) (sym q)
        at (inr ne) = ap used (written_other k ne)

    pub fits_written : Fits written root made nodes kids (replaced n w t)
    fits_written =
        let turn = (live slots root made nodes kids t fits n s e).found.turn in
        record {
          holds = holds_replaced (shown slots) (shown written) n (record { turn = s.turn; value = s.value; parent = s.parent; children = s.children.items }) w None t (ap look here) turn written_here written_other fits.holds;
          rooted = tops_mapped (λ k v. cond (same k n) w v) t ∙ fits.rooted;
          filled = λ k. in_slot_mapped (λ k v. cond (same k n) w v) k t ∙ fits.filled k ∙ sym (written_used k);
          counted = omega (arith, count_set slots n.slot s (Some (record { turn = s.turn; value = w; parent = s.parent; children = s.children })) here, fits.counted, size_mapped (λ k v. cond (same k n) w v) t);
          low = omega (arith, fits.low, height_mapped (λ k v. cond (same k n) w v) t);
          turns = turns_mapped (λ k v. cond (same k n) w v) (λ m. m.turn < made) t fits.turns;
          few = omega (arith, fits.few, size_mapped (λ k v. cond (same k n) w v) t);
          narrow = narrow_mapped (λ k v. cond (same k n) w v) kids t fits.narrow;
        }

    pub whole_written : whole written root ≡ replaced n w t
    whole_written = is_whole written root made nodes kids (replaced n w t) fits_written

    pub whole_fits_written : Fits written root made nodes kids (whole written root)
    whole_fits_written = rw whole_written fits_written

-- two lenders that end alike
pub same_lend : {N A B : Type 0} (n : N) (f g : A → B) → ((w : A) → f w ≡ g w) → ◌≡◌ {A = (N × (A → B)) ⊎ B} (inl (n, f)) (inl (n, g))
same_lend n f g h = λ i. inl (n, λ w. h w i)

-- ---- slots that show the same
module _ {T : Type 0} (slots new : List (Option (Slot T))) (root : NodeId) (made nodes kids : ℕ) (t : Trees (NodeId × T)) (fits : Fits slots root made nodes kids t) (a : Alike slots new) where
  pub fits_alike : Fits new root made nodes kids t
  fits_alike =
      record {
        holds = holds_agree (shown slots) (shown new) None t (λ k m. a.each k) fits.holds;
        rooted = fits.rooted;
        filled = λ k. fits.filled k ∙ ap used (sym (a.each k));
        counted = a.counted ∙ fits.counted;
        low = fits.low;
        turns = fits.turns;
        few = fits.few;
        narrow = fits.narrow;
      }

  pub whole_alike : whole new root ≡ t
  whole_alike = is_whole new root made nodes kids t fits_alike

  pub whole_fits_alike : Fits new root made nodes kids (whole new root)
  whole_fits_alike = rw whole_alike fits_alike
