-- One turn of a loop over numbers.
use Rattle.std.proofs.Common.{◌≡◌, ℕ, zero, suc, ◌+◌, ◌-◌, ◌≤◌, ◌<◌, max, true, false, List, [], ◌∷◌, ◌++◌, take, drop, Option, Some, None, length, get_or, refl, sym, ap, ◌∙◌, arith, slice_index_or, drop-cons, add-one, length-drop, take-suc, append_assoc}
use Rattle.std.specs.Prelude.{slice_set, remove}
use Rattle.plain_tree.specs.Trees.{Trees, height_of}
use Rattle.node_arena.specs.declared.number.NodeId.{NodeId}
use Rattle.node_arena.specs.declared.slots.Slot.{Slot}
use Rattle.node_arena.specs.Numbers.{same, dropped}
use Rattle.node_arena.specs.Inside.{look, shown, branch_of, grown, swept, swept_from}
use Rattle.node_arena.proofs.Same.{cond_yes, cond_no}

-- ---- a number taken out of a list
pub dropped_no : (n : NodeId) (xs : List NodeId) (i : ℕ) (d : NodeId) → i < length xs → same (get_or xs i d) n ≡ false → dropped n (drop i xs) ≡ get_or xs i d ∷ dropped n (drop (i + 1) xs)
dropped_no n xs i d h e = rw add-one (ap (dropped n) (drop-cons xs i d h) ∙ cond_no (same (get_or xs i d) n) _ _ e)

pub dropped_yes : (n : NodeId) (xs : List NodeId) (i : ℕ) (d : NodeId) → i < length xs → same (get_or xs i d) n ≡ true → dropped n (drop i xs) ≡ drop (i + 1) xs
dropped_yes n xs i d h e = rw add-one (ap (dropped n) (drop-cons xs i d h) ∙ cond_yes (same (get_or xs i d) n) _ _ e)

pub fewer : (n : NodeId) (xs : List NodeId) (i : ℕ) (d : NodeId) → i < length xs → same (get_or xs i d) n ≡ true → length (dropped n (drop i xs)) + i + 1 ≡ length xs
fewer n xs i d h e = omega (arith, ap length (dropped_yes n xs i d h e), length-drop (i + 1) xs)

pub as_many : (n : NodeId) (xs : List NodeId) (i : ℕ) (d : NodeId) → i < length xs → same (get_or xs i d) n ≡ false → length (dropped n (drop i xs)) ≡ 1 + length (dropped n (drop (i + 1) xs))
as_many n xs i d h e = omega (arith, ap length (dropped_no n xs i d h e))

pub taken_out : (n : NodeId) (xs : List NodeId) (i : ℕ) (d : NodeId) → i < length xs → same (get_or xs i d) n ≡ true → take i xs ++ dropped n (drop i xs) ≡ remove xs i
taken_out n xs i d h e = ap (λ l. take i xs ++ l) (dropped_yes n xs i d h e) ∙ ap (λ k. take i xs ++ drop k xs) (add-one i)

pub passed : (n : NodeId) (xs : List NodeId) (i : ℕ) (d : NodeId) → i < length xs → same (get_or xs i d) n ≡ false → take i xs ++ dropped n (drop i xs) ≡ take (i + 1) xs ++ dropped n (drop (i + 1) xs)
passed n xs i d h e =
    ap (λ l. take i xs ++ l) (dropped_no n xs i d h e) ∙ sym (append_assoc (take i xs) (get_or xs i d ∷ []) (dropped n (drop (i + 1) xs))) ∙ sym (ap (λ l. l ++ dropped n (drop (i + 1) xs)) (ap (λ k. take k xs) (add-one i) ∙ take-suc xs i d h))

pub ruleset list_laws = (fewer, as_many, taken_out, passed)

-- ---- levels
module _ {T : Type 0} (slots : List (Option (Slot T))) where
  opened : (levels : ℕ) (ns : List NodeId) (i : ℕ) (d : NodeId) → 0 < levels → i < length ns →
      grown levels (shown slots) (drop i ns) ≡ branch_of (get_or ns i d) (look (slice_index_or slots (get_or ns i d).slot None)) (grown (levels - 1) (shown slots)) (grown levels (shown slots) (drop (i + 1) ns))
  unfolding grown
  opened zero ns i d l h = absurd (omega arith)
  opened (suc levels) ns i d l h =
      let less : suc levels - 1 ≡ levels = omega arith in
      rw (add-one, less) (ap (grown (suc levels) (shown slots)) (drop-cons ns i d h))

  branch_none : (n : NodeId) (o : Option (Slot T)) (below : List NodeId → Trees (NodeId × T)) (after : Trees (NodeId × T)) → o ≡ None → height_of (branch_of n (look o) below after) ≡ height_of after
  branch_none n o below after e = ap (λ p. height_of (branch_of n (look p) below after)) e

  branch_some : (n : NodeId) (o : Option (Slot T)) (s : Slot T) (below : List NodeId → Trees (NodeId × T)) (after : Trees (NodeId × T)) → o ≡ Some s → height_of (branch_of n (look o) below after) ≡ max (1 + height_of (below s.children.items)) (height_of after)
  branch_some n o s below after e = ap (λ p. height_of (branch_of n (look p) below after)) e

  pub no_levels : (ns : List NodeId) → height_of (grown 0 (shown slots) ns) ≡ 0
  unfolding grown
  no_levels [] = refl
  no_levels (n ∷ ns) = refl

  pub none_left : (levels : ℕ) (ns : List NodeId) (i : ℕ) → length ns ≤ i → height_of (grown levels (shown slots) (drop i ns)) ≡ 0
  unfolding grown
  none_left levels [] zero h = refl
  none_left levels [] (suc i) h = refl
  none_left levels (n ∷ ns) zero h = absurd (omega arith)
  none_left levels (n ∷ ns) (suc i) h = none_left levels ns i (omega arith)

  pub next_none : (levels : ℕ) (ns : List NodeId) (i : ℕ) (d : NodeId) → 0 < levels → i < length ns → None ≡ slice_index_or slots (get_or ns i d).slot None →
      height_of (grown levels (shown slots) (drop i ns)) ≡ height_of (grown levels (shown slots) (drop (i + 1) ns))
  next_none levels ns i d l h e = ap height_of (opened levels ns i d l h) ∙ branch_none (get_or ns i d) _ (grown (levels - 1) (shown slots)) _ (sym e)

  pub next_some : (levels : ℕ) (ns : List NodeId) (i : ℕ) (d : NodeId) (s : Slot T) → 0 < levels → i < length ns → Some s ≡ slice_index_or slots (get_or ns i d).slot None →
      height_of (grown levels (shown slots) (drop i ns)) ≡ max (1 + height_of (grown (levels - 1) (shown slots) s.children.items)) (height_of (grown levels (shown slots) (drop (i + 1) ns)))
  next_some levels ns i d s l h e = ap height_of (opened levels ns i d l h) ∙ branch_some (get_or ns i d) _ s (grown (levels - 1) (shown slots)) _ (sym e)

-- one more number
pub one_higher : (highest result height rest whole : ℕ) {now below : ℕ} → now ≡ max highest (height + 1) → height ≡ below → result ≡ max (1 + below) rest → max highest result ≡ whole → max now rest ≡ whole
one_higher highest result height rest whole a b c d = omega arith

pub within_levels : (now highest height levels : ℕ) → now ≡ max highest (height + 1) → height ≤ levels - 1 → 0 < levels → highest ≤ levels → now ≤ levels
within_levels now highest height levels a b c d = omega arith

pub ruleset height_laws = (no_levels, none_left, next_none, next_some)

-- ---- slots taken out
module _ {T : Type 0} where
  sweep_opened : (levels : ℕ) (slots : List (Option (Slot T))) (ns : List NodeId) (i : ℕ) (d : NodeId) → 0 < levels → i < length ns →
      swept levels (drop i ns) slots ≡ swept levels (drop (i + 1) ns) (swept_from (swept (levels - 1)) (slice_index_or slots (get_or ns i d).slot None) (get_or ns i d).slot slots)
  unfolding swept
  sweep_opened zero slots ns i d l h = absurd (omega arith)
  sweep_opened (suc levels) slots ns i d l h =
      let less : suc levels - 1 ≡ levels = omega arith in
      rw (add-one, less) (ap (λ m. swept (suc levels) m slots) (drop-cons ns i d h))

  pub sweep_no_levels : (slots : List (Option (Slot T))) (ns : List NodeId) → swept 0 ns slots ≡ slots
  unfolding swept
  sweep_no_levels slots [] = refl
  sweep_no_levels slots (n ∷ ns) = refl

  pub sweep_none_left : (levels : ℕ) (slots : List (Option (Slot T))) (ns : List NodeId) (i : ℕ) → length ns ≤ i → swept levels (drop i ns) slots ≡ slots
  unfolding swept
  sweep_none_left levels slots [] zero h = refl
  sweep_none_left levels slots [] (suc i) h = refl
  sweep_none_left levels slots (n ∷ ns) zero h = absurd (omega arith)
  sweep_none_left levels slots (n ∷ ns) (suc i) h = sweep_none_left levels slots ns i (omega arith)

  pub sweep_none : (levels : ℕ) (slots : List (Option (Slot T))) (ns : List NodeId) (i : ℕ) (d : NodeId) → 0 < levels → i < length ns → None ≡ slice_index_or slots (get_or ns i d).slot None →
      swept levels (drop i ns) slots ≡ swept levels (drop (i + 1) ns) slots
  sweep_none levels slots ns i d l h e = sweep_opened levels slots ns i d l h ∙ ap (λ o. swept levels (drop (i + 1) ns) (swept_from (swept (levels - 1)) o (get_or ns i d).slot slots)) (sym e)

  pub sweep_some : (levels : ℕ) (slots : List (Option (Slot T))) (ns : List NodeId) (i : ℕ) (d : NodeId) (s : Slot T) → 0 < levels → i < length ns → Some s ≡ slice_index_or slots (get_or ns i d).slot None →
      swept levels (drop i ns) slots ≡ swept levels (drop (i + 1) ns) (swept (levels - 1) s.children.items (slice_set slots (get_or ns i d).slot None))
  sweep_some levels slots ns i d s l h e = sweep_opened levels slots ns i d l h ∙ ap (λ o. swept levels (drop (i + 1) ns) (swept_from (swept (levels - 1)) o (get_or ns i d).slot slots)) (sym e)

pub ruleset sweep_laws = (sweep_no_levels, sweep_none_left, sweep_none, sweep_some)
