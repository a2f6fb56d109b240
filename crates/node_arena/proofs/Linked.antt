-- What slots hold once a tree was put under a number, or taken out.
use Rattle.std.proofs.Common.{◌≡◌, ◌≢◌, ℕ, zero, suc, ◌+◌, ◌≤◌, ◌<◌, true, false, List, [], ◌∷◌, insert, Option, Some, None, is_some, count_by, length, refl, sym, ap, ◌∙◌, arith, inl, inr, slice_index_or, subst}
use Rattle.std.specs.Prelude.{◌==◌, ◌⊎◌, slice_set}
use Rattle.std.proofs.lemmas.Bool.{cases_eq, cases_Bool, ne_eqb, eq-eqb, cases_lt}
use Rattle.plain_tree.specs.Trees.{Trees, leafless, tree, joined, size_of, height_of}
use Rattle.node_arena.specs.declared.number.NodeId.{NodeId}
use Rattle.node_arena.specs.declared.slots.Slot.{Slot}
use Rattle.node_arena.specs.Numbers.{same, one, top_numbers, times, dropped}
use Rattle.node_arena.specs.Edits.{put_at, graft, grafted, nothing, removed}
use Rattle.node_arena.specs.Inside.{Shown, look, shown, Holds, in_slot, unlisted, swept, swept_from}
use Rattle.node_arena.proofs.Same.{same_is, same_both, not_same, one_yes, one_no, cond_yes, cond_no}
use Rattle.node_arena.proofs.Standing.{some_is}
use Rattle.node_arena.proofs.Edited.{edited_here, edited_not, tops_put, tops_grafted}
use Rattle.node_arena.proofs.Changed.{holds_agree, set_here, set_other, count_set}

pub my_slot : {T : Type 0} (x : NodeId × T) (below after : Trees (NodeId × T)) → 1 ≤ in_slot x.0.slot (tree x below after)
my_slot x below after = omega (arith, one_yes (x.0.slot == x.0.slot) (eq-eqb x.0.slot x.0.slot refl))

module _ {T : Type 0} where
  pub holds_joined : (slots : ℕ → Option (Shown T)) (parent : Option NodeId) (s t : Trees (NodeId × T)) → Holds slots parent s → Holds slots parent t → Holds slots parent (joined s t)
  holds_joined slots parent leafless t h k = k
  holds_joined slots parent (tree x below after) t h k = (h.0, (h.1.0, holds_joined slots parent after t h.1.1 k))

  pub holds_put : (slots : ℕ → Option (Shown T)) (parent : Option NodeId) (index : ℕ) (new t : Trees (NodeId × T)) → Holds slots parent new → Holds slots parent t → Holds slots parent (put_at index new t)
  holds_put slots parent index new leafless h k = h
  holds_put slots parent zero new (tree x below after) h k = holds_joined slots parent new (tree x below after) h k
  holds_put slots parent (suc index) new (tree x below after) h k = (k.0, (k.1.0, holds_put slots parent index new after h k.1.1))

  -- ---- a tree put under a number
  module _ (slots new : ℕ → Option (Shown T)) (n id : NodeId) (s : Shown T) (index : ℕ) (added : Trees (NodeId × T)) (e : slots n.slot ≡ Some s) (u : s.turn ≡ n.turn) (l : index ≤ length s.children) (k : top_numbers added ≡ id ∷ [])
      (c : new n.slot ≡ Some (record { turn = s.turn; value = s.value; parent = s.parent; children = insert s.children index id })) (held : Holds new (Some n) added) where
    pub holds_grafted : (parent : Option NodeId) (t : Trees (NodeId × T)) → ((j : ℕ) → in_slot j t ≤ 1) → ((j : ℕ) → j ≢ n.slot → 1 ≤ in_slot j t → new j ≡ slots j) → Holds slots parent t → Holds new parent (grafted n index added t)
    holds_grafted parent leafless d o h = tt
    holds_grafted parent (tree x below after) d o h =
        at (cases_Bool (same x.0 n))
        (holds_grafted (Some x.0) below (λ j. let f = d j in omega arith) (λ j ne m. o j ne (omega arith)) h.1.0)
        (holds_grafted parent after (λ j. let f = d j in omega arith) (λ j ne m. o j ne (omega arith)) h.1.1)
      where
        agree : (m : ℕ) → (same x.0 n ≡ true) → 1 ≤ in_slot m below + in_slot m after → new m ≡ slots m
        agree m p q = o m (λ z. let f = d m in absurd (omega (arith, one_yes (x.0.slot == m) (eq-eqb x.0.slot m (ap (λ y. y.slot) (same_is x.0 n p) ∙ sym z))))) (omega arith)

        here : same x.0 n ≡ true → new x.0.slot ≡ Some (record { turn = x.0.turn; value = x.1; parent = parent; children = top_numbers (put_at index added below) })
        here p =
            let is = same_is x.0 n p in
            let y : s ≡ record { turn = x.0.turn; value = x.1; parent = parent; children = top_numbers below } = some_is s _ (sym e ∙ ap (λ m. slots m.slot) (sym is) ∙ h.0) in
            let kids : s.children ≡ top_numbers below = ap (λ z. z.children) y in
            ap (λ m. new m.slot) is ∙ c ∙ (λ i. Some (record { turn = (y i).turn; value = (y i).value; parent = (y i).parent; children = insert (y i).children index id }))
            ∙ ap (λ m. Some (record { turn = x.0.turn; value = x.1; parent = parent; children = m })) (sym (tops_put index added below id k (omega (arith, l, ap length kids))))

        far : same x.0 n ≡ false → x.0.slot ≢ n.slot
        far p q = not_same x.0 n p (same_both x.0 n q (sym (ap (λ z. z.turn) (some_is s (record { turn = x.0.turn; value = x.1; parent = parent; children = top_numbers below }) (sym e ∙ ap slots (sym q) ∙ h.0))) ∙ u))

        at : (same x.0 n ≡ true) ⊎ (same x.0 n ≡ false) → Holds new (Some x.0) (grafted n index added below) → Holds new parent (grafted n index added after) → Holds new parent (grafted n index added (tree x below after))
        at (inl p) b a =
            rw (edited_here n (graft index added) x below after p) (
              here p,
              (
                holds_put new (Some x.0) index added below (rw (same_is x.0 n p) held) (holds_agree slots new (Some x.0) below (λ m q. agree m p (omega arith)) h.1.0),
                holds_agree slots new parent after (λ m q. agree m p (omega arith)) h.1.1,
              ),
            )
        at (inr p) b a =
            rw (edited_not n (graft index added) x below after p)
            (o x.0.slot (far p) (my_slot x below after) ∙ h.0 ∙ ap (λ m. Some (record { turn = x.0.turn; value = x.1; parent = parent; children = m })) (sym (tops_grafted n index added below)), (b, a))

  -- ---- a number taken out
  pub tops_removed : (n : NodeId) (t : Trees (NodeId × T)) → top_numbers (removed n t) ≡ dropped n (top_numbers t)
  tops_removed n leafless = refl
  tops_removed n (tree x below after) = at (cases_Bool (same x.0 n)) (tops_removed n after)
    where
      at : (same x.0 n ≡ true) ⊎ (same x.0 n ≡ false) → top_numbers (removed n after) ≡ dropped n (top_numbers after) → top_numbers (removed n (tree x below after)) ≡ dropped n (top_numbers (tree x below after))
      at (inl p) a = ap top_numbers (edited_here n nothing x below after p) ∙ sym (cond_yes (same x.0 n) (top_numbers after) (x.0 ∷ dropped n (top_numbers after)) p)
      at (inr p) a = ap top_numbers (edited_not n nothing x below after p) ∙ ap (λ m. x.0 ∷ m) a ∙ sym (cond_no (same x.0 n) (top_numbers after) (x.0 ∷ dropped n (top_numbers after)) p)

  pub dropped_none : (n : NodeId) (t : Trees (NodeId × T)) → times n t ≡ 0 → dropped n (top_numbers t) ≡ top_numbers t
  dropped_none n leafless e = refl
  dropped_none n (tree x below after) e = at (cases_Bool (same x.0 n)) (λ k. dropped_none n after k)
    where
      at : (same x.0 n ≡ true) ⊎ (same x.0 n ≡ false) → (times n after ≡ 0 → dropped n (top_numbers after) ≡ top_numbers after) → dropped n (top_numbers (tree x below after)) ≡ top_numbers (tree x below after)
      at (inl p) a = absurd (omega (arith, one_yes (same x.0 n) p))
      at (inr p) a = cond_no (same x.0 n) _ _ p ∙ ap (λ m. x.0 ∷ m) (a (omega (arith, one_no (same x.0 n) p)))

  module _ (slots new : ℕ → Option (Shown T)) (n : NodeId) where
    pub holds_apart : (parent : Option NodeId) (t : Trees (NodeId × T)) → times n t ≡ 0 → ((j : ℕ) → 1 ≤ in_slot j t → new j ≡ unlisted n (slots j)) → Holds slots parent t → Holds new parent t
    holds_apart parent leafless z o h = tt
    holds_apart parent (tree x below after) z o h = (
      o x.0.slot (my_slot x below after) ∙ ap (unlisted n) h.0 ∙ ap (λ m. Some (record { turn = x.0.turn; value = x.1; parent = parent; children = m })) (dropped_none n below (omega arith)),
      (
        holds_apart (Some x.0) below (omega arith) (λ j m. o j (omega arith)) h.1.0,
        holds_apart parent after (omega arith) (λ j m. o j (omega arith)) h.1.1,
      ),
    )

    pub holds_removed : (parent : Option NodeId) (t : Trees (NodeId × T)) → times n t ≤ 1 → ((j : ℕ) → 1 ≤ in_slot j t → new j ≡ unlisted n (slots j)) → Holds slots parent t → Holds new parent (removed n t)
    holds_removed parent leafless z o h = tt
    holds_removed parent (tree x below after) z o h =
        at (cases_Bool (same x.0 n)) (λ k. holds_removed (Some x.0) below k (λ j m. o j (omega arith)) h.1.0) (λ k. holds_removed parent after k (λ j m. o j (omega arith)) h.1.1)
      where
        at : (same x.0 n ≡ true) ⊎ (same x.0 n ≡ false) → (times n below ≤ 1 → Holds new (Some x.0) (removed n below)) → (times n after ≤ 1 → Holds new parent (removed n after)) → Holds new parent (removed n (tree x below after))
        at (inl p) b a = rw (edited_here n nothing x below after p) (holds_apart parent after (omega (arith, one_yes (same x.0 n) p)) (λ j m. o j (omega arith)) h.1.1)
        at (inr p) b a =
            rw (edited_not n nothing x below after p)
            (o x.0.slot (my_slot x below after) ∙ ap (unlisted n) h.0 ∙ ap (λ m. Some (record { turn = x.0.turn; value = x.1; parent = parent; children = m })) (sym (tops_removed n below)), (b (omega arith), a (omega arith)))

  -- ---- a number is listed by its parent alone
  module _ (slots : ℕ → Option (Shown T)) (n p : NodeId) (f : Shown T) (e : slots n.slot ≡ Some f) (q : f.parent ≡ Some p) where
    tops_not : (parent : NodeId) (t : Trees (NodeId × T)) → parent.slot ≢ p.slot → Holds slots (Some parent) t → dropped n (top_numbers t) ≡ top_numbers t
    tops_not parent leafless ne h = refl
    tops_not parent (tree x below after) ne h = at (cases_Bool (same x.0 n)) (tops_not parent after ne h.1.1)
      where
        at : (same x.0 n ≡ true) ⊎ (same x.0 n ≡ false) → dropped n (top_numbers after) ≡ top_numbers after → dropped n (top_numbers (tree x below after)) ≡ top_numbers (tree x below after)
        at (inl s) a =
            let y : f ≡ record { turn = x.0.turn; value = x.1; parent = Some parent; children = top_numbers below } = some_is f _ (sym e ∙ ap (λ m. slots m.slot) (sym (same_is x.0 n s)) ∙ h.0) in
            let z : Some p ≡ Some parent = sym q ∙ ap (λ w. w.parent) y in
            let same_parent : p ≡ parent = cc in
            absurd (ne (ap (λ m. m.slot) (sym same_parent)))
        at (inr s) a = cond_no (same x.0 n) _ _ s ∙ ap (λ m. x.0 ∷ m) a

    pub not_listed : (parent : Option NodeId) (t : Trees (NodeId × T)) (k : ℕ) (s : Shown T) → Holds slots parent t → slots k ≡ Some s → 1 ≤ in_slot k t → k ≢ p.slot → dropped n s.children ≡ s.children
    not_listed parent leafless k s h g m ne = absurd (omega arith)
    not_listed parent (tree x below after) k s h g m ne =
        at (cases_eq x.0.slot k) (cases_lt 0 (in_slot k below)) (λ m2. not_listed (Some x.0) below k s h.1.0 g m2 ne) (λ m2. not_listed parent after k s h.1.1 g m2 ne)
      where
        at : (x.0.slot ≡ k) ⊎ (x.0.slot ≢ k) → (0 < in_slot k below) ⊎ (in_slot k below ≤ 0) → (1 ≤ in_slot k below → dropped n s.children ≡ s.children) → (1 ≤ in_slot k after → dropped n s.children ≡ s.children) → dropped n s.children ≡ s.children
        at (inl z) d b a =
            let y : s ≡ record { turn = x.0.turn; value = x.1; parent = parent; children = top_numbers below } = some_is s _ (sym g ∙ ap slots (sym z) ∙ h.0) in
            let kids : s.children ≡ top_numbers below = ap (λ w. w.children) y in
            ap (dropped n) kids ∙ tops_not x.0 below (λ w. ne (sym z ∙ w)) h.1.0 ∙ sym kids
        at (inr z) (inl d) b a = b (omega arith)
        at (inr z) (inr d) b a = a (omega (arith, one_no (x.0.slot == k) (ne_eqb x.0.slot k z)))

-- ---- the slots of a tree emptied
module _ {T : Type 0} where
  some_slot : (o : Option (Slot T)) (s : Shown T) → look o ≡ Some s → (r : Slot T) × (o ≡ Some r)
  some_slot None s e = absurd cc
  some_slot (Some r) s e = (r, refl)

  pub record Emptied (slots new : List (Option (Slot T))) (t : Trees (NodeId × T)) : Type 0 where
    pub gone : (k : ℕ) → 1 ≤ in_slot k t → shown new k ≡ None
    pub others : (k : ℕ) → in_slot k t ≡ 0 → shown new k ≡ shown slots k
    pub counted : count_by is_some new + size_of t ≡ count_by is_some slots

  pub emptied : (levels : ℕ) (slots : List (Option (Slot T))) (parent : Option NodeId) (t : Trees (NodeId × T)) → height_of t ≤ levels → ((k : ℕ) → in_slot k t ≤ 1) → Holds (shown slots) parent t → Emptied slots (swept levels (top_numbers t) slots) t
  unfolding swept
  emptied levels slots parent leafless l d h = record { gone = λ k m. absurd (omega arith); others = λ k m. refl; counted = omega arith }
  emptied zero slots parent (tree x below after) l d h = absurd (omega arith)
  emptied (suc levels) slots parent (tree x below after) l d h =
      let mine : one (x.0.slot == x.0.slot) ≡ 1 = one_yes (x.0.slot == x.0.slot) (eq-eqb x.0.slot x.0.slot refl) in
      let r = some_slot (slice_index_or slots x.0.slot None) _ h.0 in
      let kids : r.0.children.items ≡ top_numbers below = children_is r.0 _ (sym (ap look r.1) ∙ h.0) in
      let apart : (k : ℕ) → 1 ≤ in_slot k below + in_slot k after → k ≢ x.0.slot = λ k m z. apart_from k m z in
      let e1 = emptied levels (slice_set slots x.0.slot None) (Some x.0) below (omega arith) (λ k. let f = d k in omega arith)
      (holds_agree (shown slots) (shown (slice_set slots x.0.slot None)) (Some x.0) below (λ k m. ap look (set_other slots x.0.slot k None (apart k (omega arith)))) h.1.0) in
      let e2 = emptied (suc levels) (swept levels (top_numbers below) (slice_set slots x.0.slot None)) parent after (omega arith) (λ k. let f = d k in omega arith)
      (holds_agree (shown slots) (shown (swept levels (top_numbers below) (slice_set slots x.0.slot None))) parent after
      (λ k m. let f = d k in e1.others k (omega arith) ∙ ap look (set_other slots x.0.slot k None (apart k (omega arith)))) h.1.1) in
      subst (λ z. Emptied slots z (tree x below after))
      (sym (ap (λ o. swept (suc levels) (top_numbers after) (swept_from (swept levels) o x.0.slot slots)) r.1 ∙ ap (λ m. swept (suc levels) (top_numbers after) (swept levels m (slice_set slots x.0.slot None))) kids))
      (both _ _ e1 e2 r.0 r.1)
    where
      children_is : (r : Slot T) (s : Shown T) → look (Some r) ≡ Some s → r.children.items ≡ s.children
      children_is r s e = ap (λ z. z.children) (some_is _ s e)

      apart_from : (k : ℕ) → 1 ≤ in_slot k below + in_slot k after → k ≢ x.0.slot
      apart_from k m z = let f = d k in absurd (omega (arith, one_yes (x.0.slot == k) (eq-eqb x.0.slot k (sym z))))

      both : (second third : List (Option (Slot T))) → Emptied (slice_set slots x.0.slot None) second below → Emptied second third after → (r : Slot T) → slice_index_or slots x.0.slot None ≡ Some r → Emptied slots third (tree x below after)
      both second third e1 e2 r e =
          record {
            gone = λ k m. gone k m (cases_lt 0 (in_slot k after)) (cases_lt 0 (in_slot k below)) (cases_eq x.0.slot k);
            others = λ k m. e2.others k (omega arith) ∙ e1.others k (omega arith) ∙ ap look (set_other slots x.0.slot k None (λ z. absurd (omega (arith, one_yes (x.0.slot == k) (eq-eqb x.0.slot k (sym z))))));
            counted = omega (arith, e1.counted, e2.counted, count_set slots x.0.slot r None e);
          }
        where
          gone : (k : ℕ) → 1 ≤ in_slot k (tree x below after) → (0 < in_slot k after) ⊎ (in_slot k after ≤ 0) → (0 < in_slot k below) ⊎ (in_slot k below ≤ 0) → (x.0.slot ≡ k) ⊎ (x.0.slot ≢ k) → shown third k ≡ None
          gone k m (inl a) b c = e2.gone k (omega arith)
          gone k m (inr a) (inl b) c = e2.others k (omega arith) ∙ e1.gone k (omega arith)
          gone k m (inr a) (inr b) (inl c) = e2.others k (omega arith) ∙ e1.others k (omega arith) ∙ ap (shown (slice_set slots x.0.slot None)) (sym c) ∙ ap look (set_here slots x.0.slot r None e)
          gone k m (inr a) (inr b) (inr c) = absurd (omega (arith, one_no (x.0.slot == k) (ne_eqb x.0.slot k c)))
