-- Rows that are filled to one level, at the end of the rounds.
use Rattle.std.proofs.Common.{arith, ap, ◌≡◌, ◌∙◌, sym, refl, subst, ℕ, suc, ◌-◌, ◌≤◌, ℤ, pos, negsuc, ◌+ℤ◌, ◌≤ℤ◌, ◌<ℤ◌, ◌⊎◌, inl, inr, false, List, [], ◌∷◌, ◌++◌, map, take, drop, Option}
use Rattle.std.proofs.lemmas.Int.{ints}
use Rattle.std.proofs.lemmas.List.{take-append-drop}
use Rattle.part_rules.specs.declared.share.Share.{Share}
use Rattle.part_rules.specs.Sharing.{has_room, Handed, round, rounds, handed, shared_rows, left_over, IsShared, filled_to, above, used}
use Rattle.part_rules.proofs.Sharing.{is_shared, sums_up}
use Rattle.part_rules.specs.Lists.{sum_of, above_zero}
use Rattle.std.specs.List.{list_any}
use Rattle.share_out.specs.Levels.{filled_rows}
use Rattle.part_rules.proofs.Levels.{finished, round_ends, round_still, filled_none, from_level}
use Rattle.part_rules.proofs.Rounds.{plain, rounds_still, none_left, enough}

-- No row takes more.
pub full : (level n : ℕ) (rows : List Share) → above level rows ≡ 0 → finished level n rows ≡ plain (map (filled_to level) rows) n
unfolding finished
full level n rows none = rounds_still n n (map (filled_to level) rows) (round_still level rows none)

map_parts : (f : Share → Share) (xs ys : List Share) → map f (xs ++ ys) ≡ map f xs ++ map f ys
map_parts f [] ys = refl
map_parts f (x ∷ xs) ys = ap (λ (zs : List Share). f x ∷ zs) (map_parts f xs ys)

-- The odd units go to the first rows that take more.
pub ends : (level higher n : ℕ) (rows : List Share) → above level (take higher rows) ≡ n → finished level n rows ≡ plain (filled_rows level higher rows) 0
unfolding finished rounds
ends level higher n rows e =
    let first : List Share = take higher rows in
    let others : List Share = map (filled_to level) (drop higher rows) in
    let parts : map (filled_to level) rows ≡ map (filled_to level) first ++ others = ap (map (filled_to level)) (sym (take-append-drop higher rows)) ∙ map_parts (filled_to level) first (drop higher rows) in
    enough n (suc n) n (map (filled_to level) rows) (omega arith) (omega arith)
    ∙ ap (λ (m : ℕ). rounds n (round m (map (filled_to level) rows))) (sym e)
    ∙ ap (λ (xs : List Share). rounds n (round (above level first) xs)) parts
    ∙ ap (rounds n) (round_ends level first others)
    ∙ none_left n (filled_rows level higher rows)

-- All rows are full at this level.
pub full_at : (level n : ℕ) (rows : List Share) → used level rows ≤ n → above level rows ≡ 0 → handed n rows ≡ plain (map (filled_to level) rows) (n - used level rows)
full_at level n rows h none = from_level level n rows h ∙ full level (n - used level rows) rows none

-- The units that are left at this level are too few for a whole round.
pub ends_at : (level higher n : ℕ) (rows : List Share) → used level rows ≤ n → above level (take higher rows) ≡ n - used level rows → handed n rows ≡ plain (filled_rows level higher rows) 0
ends_at level higher n rows h e = from_level level n rows h ∙ ends level higher (n - used level rows) rows e

-- ---- the space

pub of_space : (space : ℤ) (n left : ℕ) (rows done : List Share) → pos 0 ≤ℤ space → n ≡ above_zero space → handed n rows ≡ plain done left → (done ≡ shared_rows space rows) × (pos left ≡ left_over space rows)
of_space (pos m) n left rows done some e f =
    let g : handed m rows ≡ plain done left = ap (λ (k : ℕ). handed k rows) (sym e) ∙ f in
    (ap (λ (h : Handed). h.rows) (sym g), ap (λ (h : Handed). pos h.left) (sym g))
of_space (negsuc m) n left rows done some e f = absurd (omega (arith, ints))

pub of_debt : (space : ℤ) (rows : List Share) → space <ℤ pos 0 → (map (filled_to 0) rows ≡ shared_rows space rows) × (space ≡ left_over space rows)
of_debt (pos m) rows none = absurd (omega (arith, ints))
of_debt (negsuc m) rows none = (filled_none rows, refl)

-- No more than nothing is left, or no row has room.
pub used_up : (space : ℤ) (rows : List Share) → pos 0 ≤ℤ space → (left_over space rows ≡ pos 0) ⊎ (list_any has_room (shared_rows space rows) ≡ false)
used_up (pos m) rows some = go (is_shared (pos m) rows)
  where
    go : IsShared (pos m) rows → (left_over (pos m) rows ≡ pos 0) ⊎ (list_any has_room (shared_rows (pos m) rows) ≡ false)
    go (inl e) = inl (ap pos e)
    go (inr e) = inr e
used_up (negsuc m) rows some = absurd (omega (arith, ints))

-- Nothing is lost.
pub sum_of_space : (space : ℤ) (n left : ℕ) (rows done : List Share) → pos 0 ≤ℤ space → n ≡ above_zero space → handed n rows ≡ plain done left → sum_of (map (λ (s : Share). s.got) done) +ℤ pos left ≡ space
sum_of_space space n left rows done some e f =
    let is : (done ≡ shared_rows space rows) × (pos left ≡ left_over space rows) = of_space space n left rows done some e f in
    ap (λ (xs : List Share). sum_of (map (λ (s : Share). s.got) xs) +ℤ pos left) is.0
    ∙ ap (λ (z : ℤ). sum_of (map (λ (s : Share). s.got) (shared_rows space rows)) +ℤ z) is.1
    ∙ sums_up space rows

pub sum_of_debt : (space : ℤ) (rows : List Share) → space <ℤ pos 0 → sum_of (map (λ (s : Share). s.got) (map (filled_to 0) rows)) +ℤ space ≡ space
sum_of_debt space rows none =
    let is : (map (filled_to 0) rows ≡ shared_rows space rows) × (space ≡ left_over space rows) = of_debt space rows none in
    ap (λ (xs : List Share). sum_of (map (λ (s : Share). s.got) xs) +ℤ space) is.0
    ∙ ap (λ (z : ℤ). sum_of (map (λ (s : Share). s.got) (shared_rows space rows)) +ℤ z) is.1
    ∙ sums_up space rows

pub used_of_space : (space : ℤ) (n left : ℕ) (rows done : List Share) → pos 0 ≤ℤ space → n ≡ above_zero space → handed n rows ≡ plain done left → (pos left ≡ pos 0) ⊎ (list_any has_room done ≡ false)
used_of_space space n left rows done some e f =
    let is : (done ≡ shared_rows space rows) × (pos left ≡ left_over space rows) = of_space space n left rows done some e f in
    subst (λ (z : ℤ). (z ≡ pos 0) ⊎ (list_any has_room done ≡ false)) (sym is.1)
    (subst (λ (xs : List Share). (left_over space rows ≡ pos 0) ⊎ (list_any has_room xs ≡ false)) (sym is.0) (used_up space rows some))

-- ---- the rooms

pub rooms_filled : (level : ℕ) (rows : List Share) → map (λ (s : Share). s.room) (map (filled_to level) rows) ≡ map (λ (s : Share). s.room) rows
rooms_filled level [] = refl
rooms_filled level (s ∷ rest) = ap (λ (rooms : List (Option ℤ)). s.room ∷ rooms) (rooms_filled level rest)

rooms_join : (level higher : ℕ) (xs ys : List Share) → map (λ (s : Share). s.room) (map (filled_to higher) xs ++ map (filled_to level) ys) ≡ map (λ (s : Share). s.room) (xs ++ ys)
rooms_join level higher [] ys = rooms_filled level ys
rooms_join level higher (s ∷ xs) ys = ap (λ (rooms : List (Option ℤ)). s.room ∷ rooms) (rooms_join level higher xs ys)

-- No room is changed.
pub rooms_kept : (level higher : ℕ) (rows : List Share) → map (λ (s : Share). s.room) (filled_rows level higher rows) ≡ map (λ (s : Share). s.room) rows
rooms_kept level higher rows = rooms_join level (suc level) (take higher rows) (drop higher rows) ∙ ap (map (λ (s : Share). s.room)) (take-append-drop higher rows)
