-- The main sizes of the items of a flex container are at least their borders and paddings.
use Rattle.std.proofs.Common.{arith, ap, subst, ◌≡◌, ◌∙◌, sym, refl, true≢false, ℕ, zero, suc, ◌+◌, ◌-◌, ℤ, pos, ◌≤ℤ◌, Bool, true, false, ◌&&◌, List, [], ◌∷◌, ◌++◌, drop, take, map, length, Option, Some, None, int_le, if◌then◌else◌}
use Rattle.std.specs.Prelude.{is_some, ◌==◌, slice_range, unwrap_or}
use Rattle.std.specs.List.{list_all}
use Rattle.std.specs.Int.{int_max}
use Rattle.std.proofs.lemmas.List.{append_assoc, drop_at, length-append, take_at}
use Rattle.inline_sizes.proofs.Limits.{box_least, first_least}
use Rattle.lunit.specs.Units.{IsUnits, clamp}
use Rattle.part_rules.specs.declared.flex.FlexItem.{FlexItem}
use Rattle.part_rules.specs.FlexLines.{Piece, begin, free_space, freezes, frozen_by, given_parts, given_space, grows, is_free, is_inflexible, hypothetical, limited_main, line_length, line_ranges, line_sizes, lines_of, main_sizes, one_line, ranges_from, resolved, size_of, tried, turn, violation, weight_of}
use Rattle.part_rules.specs.Lists.{at_most, filled, filled_from, joined, sum_of, total_of, zipped}
use Rattle.part_rules.specs.Sharing.{apportioned_after, apportioned_whole}
use Rattle.part_rules.proofs.Frozen.{all_frozen}
use Rattle.block_sizes.specs.Flexes.{AreCovering, HaveInner}

-- ---- one line

abbrev Covers : ℤ → Option ℤ → Type 0
Covers inner None = Unit {0}
Covers inner (Some v) = inner ≤ℤ v

-- a piece of this item, which is frozen at no less than borders and paddings
record IsHeld (i : FlexItem) (p : Piece) : Type 0 where
  item : p.item ≡ i
  held : Covers i.inner p.frozen

abbrev AreHeld : List FlexItem → List Piece → Type 0
AreHeld [] [] = Unit {0}
AreHeld [] (p ∷ pieces) = ⊥
AreHeld (i ∷ items) [] = ⊥
AreHeld (i ∷ items) (p ∷ pieces) = IsHeld i p × AreHeld items pieces

limited_covers : (i : FlexItem) (size : ℤ) → IsUnits i.inner → i.inner ≤ℤ clamp (limited_main i size)
limited_covers i size h = box_least i.inner (int_max i.min (at_most i.max size)) h

hypothetical_covers : (i : FlexItem) → i.inner ≤ℤ hypothetical i
hypothetical_covers i = first_least i.inner (int_max i.min (at_most i.max i.base))

begun_held : (grow : Bool) (items : List FlexItem) → AreHeld items (map (begin grow) items)
begun_held grow [] = tt
begun_held grow (i ∷ items) = (record { item = refl; held = go (is_inflexible grow i) }, begun_held grow items)
  where
    go : (b : Bool) → Covers i.inner (if b then Some (hypothetical i) else None)
    go true = hypothetical_covers i
    go false = tt

one_held : (i : FlexItem) (p : Piece) (sum size : ℤ) → IsUnits i.inner → IsHeld i p → IsHeld i (frozen_by sum p size)
one_held i p sum size u h = go (is_free p && freezes sum (violation p size))
  where
    covered : i.inner ≤ℤ clamp (limited_main p.item size)
    covered = subst (λ (x : FlexItem). i.inner ≤ℤ clamp (limited_main x size)) (sym h.item) (limited_covers i size u)

    go : (b : Bool) → IsHeld i (if b then record p { frozen = Some (clamp (limited_main p.item size)) } else p)
    go true = record { item = h.item; held = covered }
    go false = h

zipped_held : (items : List FlexItem) (line : List Piece) (sum : ℤ) (sizes : List ℤ) → HaveInner items → length sizes ≡ length line → AreHeld items line → AreHeld items (zipped (frozen_by sum) line sizes)
zipped_held [] [] sum sizes u l h = tt
zipped_held [] (p ∷ line) sum sizes u l h = absurd h
zipped_held (i ∷ items) [] sum sizes u l h = absurd h
zipped_held (i ∷ items) (p ∷ line) sum [] u l h = absurd (omega (arith, l))
zipped_held (i ∷ items) (p ∷ line) sum (size ∷ sizes) u l h = (one_held i p sum size u.0 h.0, zipped_held items line sum sizes u.1 (omega (arith, l)) h.1)

zipped_counted : {A B C : Type 0} (f : A → B → C) (xs : List A) (ys : List B) → length ys ≡ length xs → length (zipped f xs ys) ≡ length xs
zipped_counted f [] ys h = refl
zipped_counted f (x ∷ xs) [] h = absurd (omega (arith, h))
zipped_counted f (x ∷ xs) (y ∷ ys) h =
    let rest : length ys ≡ length xs = omega (arith, h) in
    ap (λ (n : ℕ). suc n) (zipped_counted f xs ys rest)

mapped_counted : {A B : Type 0} (f : A → B) (xs : List A) → length (map f xs) ≡ length xs
mapped_counted f [] = refl
mapped_counted f (x ∷ xs) = ap (λ (n : ℕ). suc n) (mapped_counted f xs)

parts_counted : (before : ℕ) (space : ℤ) (whole : ℕ) (weights : List ℕ) → length (apportioned_after before space whole weights) ≡ length weights
parts_counted before space whole [] = refl
parts_counted before space whole (w ∷ ws) = ap (λ (n : ℕ). suc n) (parts_counted (before + w) space whole ws)

given_counted : (grow : Bool) (space : ℤ) (line : List Piece) → length (given_parts grow space line) ≡ length line
given_counted grow space line = go (total_of (map (weight_of grow) line) == 0)
  where
    go : (b : Bool) → length (if b then map (λ (p : Piece). pos 0) line else apportioned_whole space (map (weight_of grow) line)) ≡ length line
    go true = mapped_counted (λ (p : Piece). pos 0) line
    go false = parts_counted 0 space (total_of (map (weight_of grow) line)) (map (weight_of grow) line) ∙ mapped_counted (weight_of grow) line

turn_held : (grow : Bool) (main gap initial : ℤ) (items : List FlexItem) (line : List Piece) → HaveInner items → AreHeld items line → AreHeld items (turn grow main gap initial line)
turn_held grow main gap initial items line u h =
    let space : ℤ = given_space grow main gap initial line in
    let sizes : List ℤ = zipped (tried grow) line (given_parts grow space line) in
    zipped_held items line (sum_of (zipped violation line sizes)) sizes u (zipped_counted (tried grow) line (given_parts grow space line) (given_counted grow space line)) h

turns_held : (turns : ℕ) (grow : Bool) (main gap initial : ℤ) (items : List FlexItem) (line : List Piece) → HaveInner items → AreHeld items line → AreHeld items (resolved turns grow main gap initial line)
unfolding resolved
turns_held zero grow main gap initial items line u h = h
turns_held (suc turns) grow main gap initial items line u h = turns_held turns grow main gap initial items (turn grow main gap initial line) u (turn_held grow main gap initial items line u h)

size_covers : (inner base : ℤ) (frozen : Option ℤ) → is_some frozen ≡ true → Covers inner frozen → inner ≤ℤ unwrap_or frozen base
size_covers inner base None e h = absurd (true≢false (sym e))
size_covers inner base (Some v) e h = h

sizes_cover : (items : List FlexItem) (line : List Piece) → list_all (λ (p : Piece). is_some p.frozen) line ≡ true → AreHeld items line → AreCovering items (map size_of line)
sizes_cover [] [] e h = tt
sizes_cover [] (p ∷ line) e h = absurd h
sizes_cover (i ∷ items) [] e h = absurd h
sizes_cover (i ∷ items) (p ∷ line) e h = go (is_some p.frozen) refl e (λ r. sizes_cover items line r h.1)
  where
    go : (b : Bool) → is_some p.frozen ≡ b → (b && list_all (λ (q : Piece). is_some q.frozen) line) ≡ true → (list_all (λ (q : Piece). is_some q.frozen) line ≡ true → AreCovering items (map size_of line)) → AreCovering (i ∷ items) (map size_of (p ∷ line))
    go true s r rec = (size_covers i.inner p.item.base p.frozen s h.0.held, rec r)
    go false s r rec = absurd (true≢false (sym r))

line_covers : (main gap : ℤ) (items : List FlexItem) → HaveInner items → AreCovering items (line_sizes main gap items)
line_covers main gap items u =
    let grow : Bool = grows main gap items in
    let initial : ℤ = free_space grow main gap (map (begin grow) items) in
    sizes_cover items (resolved (length items) grow main gap initial (map (begin grow) items)) (all_frozen grow main gap initial items) (turns_held (length items) grow main gap initial items (map (begin grow) items) u (begun_held grow items))

-- ---- all lines

append_covers : (a b : List FlexItem) (s t : List ℤ) → AreCovering a s → AreCovering b t → AreCovering (a ++ b) (s ++ t)
append_covers [] b [] t h k = k
append_covers [] b (x ∷ s) t h k = absurd h
append_covers (i ∷ a) b [] t h k = absurd h
append_covers (i ∷ a) b (x ∷ s) t h k = (h.0, append_covers a b s t h.1 k)

first_inner : (a b : List FlexItem) → HaveInner (a ++ b) → HaveInner a
first_inner [] b h = tt
first_inner (i ∷ a) b h = (h.0, first_inner a b h.1)

last_inner : (a b : List FlexItem) → HaveInner (a ++ b) → HaveInner b
last_inner [] b h = h
last_inner (i ∷ a) b h = last_inner a b h.1

-- the items of a line
its_items : (before line rest : List FlexItem) → slice_range (before ++ (line ++ rest)) (length before) (length before + length line) ≡ line
its_items before line rest =
    let count : length before + length line - length before ≡ length line = omega arith in
    ap (λ (n : ℕ). take n (drop (length before) (before ++ (line ++ rest)))) count
    ∙ ap (take (length line)) (drop_at before (line ++ rest) (length before) refl)
    ∙ take_at line rest (length line) refl

lines_cover : (main gap : ℤ) (before : List FlexItem) (lines : List (List FlexItem)) (n : ℕ) → n ≡ length before → HaveInner (joined lines) → AreCovering (joined lines) (main_sizes main gap (before ++ joined lines) (ranges_from n lines))
lines_cover main gap before [] n e u = tt
lines_cover main gap before (line ∷ lines) n e u =
    let rest : List FlexItem = joined lines in
    let here : line_sizes main gap line ≡ line_sizes main gap (slice_range (before ++ (line ++ rest)) n (n + length line)) =
    ap (line_sizes main gap) (sym (ap (λ (m : ℕ). slice_range (before ++ (line ++ rest)) m (m + length line)) e ∙ its_items before line rest)) in
    let first : AreCovering line (line_sizes main gap (slice_range (before ++ (line ++ rest)) n (n + length line))) =
    subst (AreCovering line) here (line_covers main gap line (first_inner line rest u)) in
    let count : n + length line ≡ length (before ++ line) = omega (arith, e, length-append before line) in
    let others : AreCovering rest (main_sizes main gap ((before ++ line) ++ rest) (ranges_from (n + length line) lines)) =
    lines_cover main gap (before ++ line) lines (n + length line) count (last_inner line rest u) in
    let same : AreCovering rest (main_sizes main gap (before ++ (line ++ rest)) (ranges_from (n + length line) lines)) =
    subst (λ (items : List FlexItem). AreCovering rest (main_sizes main gap items (ranges_from (n + length line) lines))) (append_assoc before line rest) others in
    append_covers line rest (line_sizes main gap (slice_range (before ++ (line ++ rest)) n (n + length line))) (main_sizes main gap (before ++ (line ++ rest)) (ranges_from (n + length line) lines)) first same

append_none : {A : Type 0} (xs : List A) → xs ++ [] ≡ xs
append_none [] = refl
append_none (x ∷ xs) = ap (λ ys. x ∷ ys) (append_none xs)

one_joined : (items : List FlexItem) → joined (one_line items) ≡ items
one_joined [] = refl
one_joined (i ∷ items) = append_none (i ∷ items)

filled_joined : (fits : List FlexItem → Bool) (line rest : List FlexItem) → joined (filled_from fits line rest) ≡ line ++ rest
filled_joined fits line [] = refl
filled_joined fits line (x ∷ rest) = go (fits (line ++ x ∷ [])) (filled_joined fits (line ++ x ∷ []) rest) (filled_joined fits (x ∷ []) rest)
  where
    go : (b : Bool) → joined (filled_from fits (line ++ x ∷ []) rest) ≡ (line ++ x ∷ []) ++ rest → joined (filled_from fits (x ∷ []) rest) ≡ x ∷ rest → joined (if b then filled_from fits (line ++ x ∷ []) rest else line ∷ filled_from fits (x ∷ []) rest) ≡ line ++ x ∷ rest
    go true joins begins = joins ∙ append_assoc line (x ∷ []) rest
    go false joins begins = ap (λ ys. line ++ ys) begins

all_joined : (fits : List FlexItem → Bool) (items : List FlexItem) → joined (filled fits items) ≡ items
all_joined fits [] = refl
all_joined fits (i ∷ items) = filled_joined fits (i ∷ []) items

lines_joined : (main gap : ℤ) (wrap : Bool) (items : List FlexItem) → joined (lines_of main gap wrap items) ≡ items
lines_joined main gap true items = all_joined (λ line. int_le (line_length gap line) main) items
lines_joined main gap false items = one_joined items

pub mains_cover : (main gap : ℤ) (wrap : Bool) (items : List FlexItem) → HaveInner items → AreCovering items (main_sizes main gap items (line_ranges main gap wrap items))
mains_cover main gap wrap items u =
    let lines : List (List FlexItem) = lines_of main gap wrap items in
    let same : joined lines ≡ items = lines_joined main gap wrap items in
    subst (λ (xs : List FlexItem). AreCovering xs (main_sizes main gap xs (ranges_from 0 lines))) same (lines_cover main gap [] lines 0 refl (subst HaveInner (sym same) u))

-- ---- there are as many as items

turn_counted : (grow : Bool) (main gap initial : ℤ) (line : List Piece) → length (turn grow main gap initial line) ≡ length line
turn_counted grow main gap initial line =
    let parts : List ℤ = given_parts grow (given_space grow main gap initial line) line in
    let sizes : List ℤ = zipped (tried grow) line parts in
    zipped_counted (frozen_by (sum_of (zipped violation line sizes))) line sizes (zipped_counted (tried grow) line parts (given_counted grow (given_space grow main gap initial line) line))

turns_counted : (turns : ℕ) (grow : Bool) (main gap initial : ℤ) (line : List Piece) → length (resolved turns grow main gap initial line) ≡ length line
unfolding resolved
turns_counted zero grow main gap initial line = refl
turns_counted (suc turns) grow main gap initial line = turns_counted turns grow main gap initial (turn grow main gap initial line) ∙ turn_counted grow main gap initial line

line_counted : (main gap : ℤ) (items : List FlexItem) → length (line_sizes main gap items) ≡ length items
line_counted main gap items =
    let grow : Bool = grows main gap items in
    let begun : List Piece = map (begin grow) items in
    let initial : ℤ = free_space grow main gap begun in
    mapped_counted size_of (resolved (length items) grow main gap initial begun) ∙ turns_counted (length items) grow main gap initial begun ∙ mapped_counted (begin grow) items

lines_counted : (main gap : ℤ) (before : List FlexItem) (lines : List (List FlexItem)) (n : ℕ) → n ≡ length before → length (main_sizes main gap (before ++ joined lines) (ranges_from n lines)) ≡ length (joined lines)
lines_counted main gap before [] n e = refl
lines_counted main gap before (line ∷ lines) n e =
    let rest : List FlexItem = joined lines in
    let here : length (line_sizes main gap (slice_range (before ++ (line ++ rest)) n (n + length line))) ≡ length line =
    line_counted main gap (slice_range (before ++ (line ++ rest)) n (n + length line)) ∙ ap length (ap (λ (m : ℕ). slice_range (before ++ (line ++ rest)) m (m + length line)) e ∙ its_items before line rest) in
    let count : n + length line ≡ length (before ++ line) = omega (arith, e, length-append before line) in
    let others : length (main_sizes main gap (before ++ (line ++ rest)) (ranges_from (n + length line) lines)) ≡ length rest =
    sym (ap (λ (items : List FlexItem). length (main_sizes main gap items (ranges_from (n + length line) lines))) (append_assoc before line rest)) ∙ lines_counted main gap (before ++ line) lines (n + length line) count in
    length-append (line_sizes main gap (slice_range (before ++ (line ++ rest)) n (n + length line))) (main_sizes main gap (before ++ (line ++ rest)) (ranges_from (n + length line) lines))
    ∙ (λ i. here i + others i) ∙ sym (length-append line rest)

pub mains_counted : (main gap : ℤ) (wrap : Bool) (items : List FlexItem) → length (main_sizes main gap items (line_ranges main gap wrap items)) ≡ length items
mains_counted main gap wrap items =
    let lines : List (List FlexItem) = lines_of main gap wrap items in
    let same : joined lines ≡ items = lines_joined main gap wrap items in
    subst (λ (xs : List FlexItem). length (main_sizes main gap xs (ranges_from 0 lines)) ≡ length xs) same (lines_counted main gap [] lines 0 refl)
