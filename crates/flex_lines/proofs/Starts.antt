-- A line as it begins.
use Rattle.std.proofs.Common.{ap, ◌≡◌, ◌∙◌, sym, ℕ, ◌+◌, ◌<◌, ℤ, pos, ◌+ℤ◌, Bool, true, false, List, ◌∷◌, drop, get_or, length, map, Option, Some, None, if◌then◌else◌}
use Rattle.std.proofs.lemmas.List.{drop_more}
use Rattle.part_rules.specs.declared.flex.FlexItem.{FlexItem}
use Rattle.part_rules.specs.Lists.{sum_of}
use Rattle.part_rules.specs.FlexLines.{Piece, begin, hypothetical, is_free, is_inflexible, outer_hypothetical, outer_now, size_of}
use Rattle.flex_lines.specs.Rounds.{held_by}

abbrev some_if : Bool → ℤ → Option ℤ
some_if b z = if b then Some z else None

abbrev piece_if : Bool → FlexItem → Piece
piece_if b i = record { item = i; frozen = some_if b (hypothetical i) }

begins : (grow : Bool) (i : FlexItem) (b : Bool) → is_inflexible grow i ≡ b → begin grow i ≡ piece_if b i
begins grow i b e = ap (λ (c : Bool). piece_if c i) e

pub size_frozen : (grow : Bool) (i : FlexItem) → is_inflexible grow i ≡ true → hypothetical i ≡ size_of (begin grow i)
size_frozen grow i e = sym (ap size_of (begins grow i true e))

pub size_free : (grow : Bool) (i : FlexItem) → is_inflexible grow i ≡ false → i.base ≡ size_of (begin grow i)
size_free grow i e = sym (ap size_of (begins grow i false e))

abbrev held_part : Piece → ℤ
held_part p = if is_free p then pos 0 else outer_now p

pub held_frozen : (grow : Bool) (i : FlexItem) → is_inflexible grow i ≡ true → outer_hypothetical i ≡ (if is_free (begin grow i) then pos 0 else outer_now (begin grow i))
held_frozen grow i e = sym (ap held_part (begins grow i true e))

pub held_free : (grow : Bool) (i : FlexItem) → is_inflexible grow i ≡ false → pos 0 ≡ (if is_free (begin grow i) then pos 0 else outer_now (begin grow i))
held_free grow i e = sym (ap held_part (begins grow i false e))

drop_item : (xs : List FlexItem) (i : ℕ) (x : FlexItem) → i < length xs → x ≡ get_or xs i x → drop i xs ≡ x ∷ drop (i + 1) xs
drop_item xs i x h is = drop_more xs i x h ∙ ap (λ y. y ∷ drop (i + 1) xs) (sym is)

pub held_next_item : (grow : Bool) (items : List FlexItem) (i : ℕ) (x : FlexItem) → i < length items → x ≡ get_or items i x
    → held_by (map (begin grow) (drop i items)) ≡ held_part (begin grow x) +ℤ held_by (map (begin grow) (drop (i + 1) items))
held_next_item grow items i x h is = ap (λ xs. held_by (map (begin grow) xs)) (drop_item items i x h is)

pub outer_next_item : (items : List FlexItem) (i : ℕ) (x : FlexItem) → i < length items → x ≡ get_or items i x
    → sum_of (map outer_hypothetical (drop i items)) ≡ outer_hypothetical x +ℤ sum_of (map outer_hypothetical (drop (i + 1) items))
outer_next_item items i x h is = ap (λ xs. sum_of (map outer_hypothetical xs)) (drop_item items i x h is)
