-- The slots of a tree of one node.
use Rattle.std.proofs.Common.{◌≡◌, ◌≢◌, ℕ, ◌+◌, ◌≤◌, [], Some, None, is_some, count_by, refl, sym, ap, ◌∙◌, arith, inl, inr, slice_index_or}
use Rattle.std.specs.Prelude.{◌==◌, ◌⊎◌}
use Rattle.std.proofs.lemmas.Bool.{cases_eq, ne_eqb, eq-eqb}
use Rattle.slab.specs.Slab.{Slab, slab_len, Updates}
use Rattle.plain_tree.specs.Trees.{leafless, tree}
use Rattle.node_arena.specs.declared.number.NodeId.{NodeId}
use Rattle.node_arena.specs.declared.slots.Slot.{Slot}
use Rattle.node_arena.specs.Numbers.{one}
use Rattle.node_arena.specs.Inside.{look, shown, used, Fits, whole}
use Rattle.node_arena.proofs.Same.{one_yes, one_no}
use Rattle.node_arena.proofs.Reading.{is_whole}

module _ {T : Type 0} (old new : Slab (Slot T)) (key nodes kids : ℕ) (s : Slot T) (e : old.slots ≡ []) (u : Updates old new key (Some s)) (l : slab_len new ≡ slab_len old + 1) (t : s.turn ≡ 0) (q : s.parent ≡ None) (c : s.children.items ≡ []) (h : 1 ≤ nodes) where
  abbrev pub first : NodeId
  first = record { slot = key; turn = 0 }

  none : (k : ℕ) → slice_index_or old.slots k None ≡ None
  none k = ap (λ l. slice_index_or l k None) e

  here : shown new.slots key ≡ Some (record { turn = 0; value = s.value; parent = None; children = [] })
  here = ap look u.changed ∙ (λ i. Some (record { turn = t i; value = s.value; parent = q i; children = c i }))

  filled : (k : ℕ) → (k ≡ key) ⊎ (k ≢ key) → one (key == k) + 0 + 0 ≡ used (shown new.slots k)
  filled k (inl same) =
      let mine : one (key == k) ≡ 1 = one_yes (key == k) (eq-eqb key k (sym same)) in
      let its : used (shown new.slots k) ≡ 1 = ap (λ j. used (shown new.slots j)) same ∙ ap used here in
      omega arith
  filled k (inr ne) =
      let mine : one (key == k) ≡ 0 = one_no (key == k) (ne_eqb key k (λ x. ne (sym x))) in
      let its : used (shown new.slots k) ≡ 0 = ap (λ o. used (look o)) (u.others k ne ∙ none k) in
      omega arith

  pub fits_first : Fits new.slots first 1 nodes kids (tree (first, s.value) leafless leafless)
  fits_first =
      record {
        holds = (here, (tt, tt));
        rooted = refl;
        filled = λ k. filled k (cases_eq k key);
        counted = l ∙ ap (λ z. count_by is_some z + 1) e;
        low = omega arith;
        turns = (omega arith, (tt, tt));
        few = omega arith;
        narrow = (omega arith, (tt, tt));
      }

  pub whole_first : whole new.slots first ≡ tree (first, s.value) leafless leafless
  whole_first = is_whole new.slots first 1 nodes kids _ fits_first

  pub whole_fits_first : Fits new.slots first 1 nodes kids (whole new.slots first)
  whole_fits_first = rw whole_first fits_first
