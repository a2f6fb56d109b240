-- A line that its items fill just as they are: nothing is shared, and each keeps its base size.
use Rattle.std.proofs.Common.{arith, rules, ap, subst, ◌≡◌, ◌∙◌, sym, refl, ℕ, zero, suc, ◌+◌, ◌<◌, ◌≤◌, ℤ, pos, ◌+ℤ◌, ◌-ℤ◌, ◌*ℤ◌, ◌≤ℤ◌, int_le, Bool, true, false, ◌&&◌, List, [], ◌∷◌, ◌++◌, length, map, take, get_or, Option, Some, None, if◌then◌else◌}
use Rattle.std.specs.Prelude.{◌==◌, nat_lt, unwrap_or}
use Rattle.std.specs.Int.{int_max, int_min}
use Rattle.std.proofs.lemmas.Bool.{and_parts, eqb-false}
use Rattle.std.proofs.lemmas.Int.{ints}
use Rattle.std.proofs.lemmas.List.{take_all, take_more}
use Rattle.lunit.specs.Units.{IsUnits, clamp, floor_div}
use Rattle.part_rules.specs.declared.flex.FlexItem.{FlexItem}
use Rattle.part_rules.specs.FlexLines.{Piece, begin, free_factor, free_space, freezes, frozen_by, gaps, given_space, grows, hypothetical, is_free, is_inflexible, limited_main, line_length, line_sizes, outer_hypothetical, outer_now, resolved, size_of, tried, turn, violation, weight_of}
use Rattle.part_rules.specs.Lists.{sum_of, total_of, zipped}
use Rattle.part_rules.specs.Sharing.{part}
use Rattle.part_rules.proofs.Floor.{floor_div_unique}
use Rattle.flex_lines.specs.Filling.{AreSized, IsSized, bases_of}
use Rattle.flex_lines.specs.Rounds.{given, reach, tries}
use Rattle.flex_lines.proofs.Kept.{turn_is}
use Rattle.flex_lines.proofs.Sizes.{clamp_units}
use Rattle.flex_lines.proofs.Turns.{mapped-length}

-- ---- what the tests say

le_from : (a b : ℤ) → int_le a b ≡ true → a ≤ℤ b
le_from a b h = search rules

pub same_is : (a b : ℤ) → (int_le a b && int_le b a) ≡ true → a ≡ b
same_is a b h =
    let parts = and_parts (int_le a b) (int_le b a) h in
    omega (arith, ints, le_from a b parts.0, le_from b a parts.1)

pub sized_is : (i : FlexItem) (size base : ℤ) → size ≡ hypothetical i → base ≡ i.base → IsUnits base → (int_le size base && int_le base size) ≡ true → IsSized i
sized_is i size base own is units h = record { limits = sym own ∙ same_is size base h ∙ is; units = subst (λ (z : ℤ). clamp z ≡ z) is (clamp_units base units) }

sized_push : (items : List FlexItem) (i : FlexItem) → AreSized items → IsSized i → AreSized (items ++ i ∷ [])
sized_push [] i h s = (s, tt)
sized_push (x ∷ items) i h s = (h.0, sized_push items i h.1 s)

pub sized_more : (items : List FlexItem) (k : ℕ) (i : FlexItem) → k < length items → i ≡ get_or items k i → AreSized (take k items) → IsSized i → AreSized (take (k + 1) items)
sized_more items k i h is so s = subst AreSized (sym (take_more items k i h)) (sized_push (take k items) (get_or items k i) so (subst IsSized is s))

pub sized_all : (items : List FlexItem) (k : ℕ) → length items ≤ k → AreSized (take k items) → AreSized items
sized_all items k l h = subst AreSized (take_all k items l) h

-- ---- the pieces of such a line

abbrev pub item_in : Piece → FlexItem
item_in p = p.item

-- frozen at its base size, or not frozen
abbrev pub IsAt : FlexItem → Option ℤ → Type 0
IsAt i None = Unit {0}
IsAt i (Some s) = s ≡ i.base

pub record IsWhole (p : Piece) : Type 0 where
  pub sized : IsSized p.item
  pub at : IsAt p.item p.frozen

abbrev pub AreWhole : List Piece → Type 0
AreWhole [] = Unit {0}
AreWhole (p ∷ line) = IsWhole p × AreWhole line

-- the line of these items
pub record IsLine (items : List FlexItem) (line : List Piece) : Type 0 where
  pub whole : AreWhole line
  pub same : map item_in line ≡ items

frozen_at : (i : FlexItem) (b : Bool) → IsSized i → IsAt i (if b then Some (hypothetical i) else None)
frozen_at i true h = h.limits
frozen_at i false h = tt

begun : (grow : Bool) (items : List FlexItem) → AreSized items → AreWhole (map (begin grow) items)
begun grow [] h = tt
begun grow (i ∷ items) h = (record { sized = h.0; at = frozen_at i (is_inflexible grow i) h.0 }, begun grow items h.1)

begun_items : (grow : Bool) (items : List FlexItem) → map item_in (map (begin grow) items) ≡ items
begun_items grow [] = refl
begun_items grow (i ∷ items) = ap (λ l. i ∷ l) (begun_items grow items)

size_at : (i : FlexItem) (o : Option ℤ) → IsAt i o → unwrap_or o i.base ≡ i.base
size_at i None h = refl
size_at i (Some s) h = h

whole_sizes : (line : List Piece) → AreWhole line → map size_of line ≡ bases_of (map item_in line)
whole_sizes [] h = refl
whole_sizes (p ∷ line) h = λ j. size_at p.item p.frozen h.0.at j ∷ whole_sizes line h.1 j

-- ---- nothing is left

abbrev outer_base : FlexItem → ℤ
outer_base i = i.base +ℤ i.margins

whole_outer : (line : List Piece) → AreWhole line → sum_of (map outer_now line) ≡ sum_of (map outer_base (map item_in line))
whole_outer [] h = refl
whole_outer (p ∷ line) h = λ j. (size_at p.item p.frozen h.0.at j +ℤ p.item.margins) +ℤ whole_outer line h.1 j

sized_outer : (items : List FlexItem) → AreSized items → sum_of (map outer_hypothetical items) ≡ sum_of (map outer_base items)
sized_outer [] h = refl
sized_outer (i ∷ items) h = λ j. (h.0.limits j +ℤ i.margins) +ℤ sized_outer items h.1 j

no_space : (grow : Bool) (rest : ℤ) → rest ≡ pos 0 → clamp (int_max (pos 0) (if grow then rest else pos 0 -ℤ rest)) ≡ pos 0
unfolding clamp
no_space true rest e = ap (λ (z : ℤ). clamp (int_max (pos 0) z)) e
no_space false rest e = ap (λ (z : ℤ). clamp (int_max (pos 0) (pos 0 -ℤ z))) e

space_none : (grow : Bool) (main gap : ℤ) (items : List FlexItem) (line : List Piece) → line_length gap items ≡ main → AreSized items → IsLine items line → free_space grow main gap line ≡ pos 0
space_none grow main gap items line full sized is =
    let count : length line ≡ length items = sym (mapped-length item_in line) ∙ ap length is.same in
    let outer : sum_of (map outer_now line) ≡ sum_of (map outer_base items) = whole_outer line is.whole ∙ ap (λ (l : List FlexItem). sum_of (map outer_base l)) is.same in
    let own : sum_of (map outer_hypothetical items) ≡ sum_of (map outer_base items) = sized_outer items sized in
    let between : gaps gap (length line) ≡ gaps gap (length items) = ap (gaps gap) count in
    no_space grow (main -ℤ gaps gap (length line) -ℤ sum_of (map outer_now line)) (omega (arith, ints, full, outer, own, between))

part_none : (weight whole : ℕ) → 0 < whole → floor_div (pos 0 *ℤ pos weight) whole ≡ pos 0
part_none weight whole h = floor_div_unique (pos 0 *ℤ pos weight) (pos 0) whole h (omega (arith, ints)) (omega (arith, ints))

given_none : (initial space : ℤ) (sum : ℕ) → initial ≡ pos 0 → space ≡ pos 0 → (if nat_lt sum 1000 then int_min space (floor_div (initial *ℤ pos sum) 1000) else space) ≡ pos 0
given_none initial space sum e f = go (nat_lt sum 1000)
  where
    some : floor_div (initial *ℤ pos sum) 1000 ≡ pos 0
    some = ap (λ (z : ℤ). floor_div (z *ℤ pos sum) 1000) e ∙ part_none sum 1000 (omega arith)

    go : (b : Bool) → (if b then int_min space (floor_div (initial *ℤ pos sum) 1000) else space) ≡ pos 0
    go true = λ j. int_min (f j) (some j)
    go false = f

-- ---- so each size that is tried is the base size

reach_none : (whole weight : ℕ) → reach (pos 0) whole weight ≡ pos 0
reach_none whole weight = go (whole == 0) refl
  where
    go : (b : Bool) → (whole == 0) ≡ b → (if b then pos 0 else part (pos 0) whole weight) ≡ pos 0
    go true e = refl
    go false e = part_none weight whole (omega (arith, eqb-false whole 0 e))

tried_none : (grow : Bool) (p : Piece) (more : ℤ) → more ≡ pos 0 → tried grow p more ≡ p.item.base
tried_none true p more e = omega (arith, ints, e)
tried_none false p more e = omega (arith, ints, e)

tries_none : (grow : Bool) (whole before : ℕ) (line : List Piece) → tries grow (pos 0) whole before line ≡ bases_of (map item_in line)
tries_none grow whole before [] = refl
tries_none grow whole before (p ∷ line) =
    let none : given (pos 0) whole before (weight_of grow p) ≡ pos 0 = λ j. reach_none whole (before + weight_of grow p) j -ℤ reach_none whole before j in
    λ j. tried_none grow p (given (pos 0) whole before (weight_of grow p)) none j ∷ tries_none grow whole (before + weight_of grow p) line j

-- ---- and a turn leaves the line as it is

frozen_whole : (sum : ℤ) (p : Piece) → IsWhole p → IsWhole (frozen_by sum p p.item.base)
frozen_whole sum p h = go (is_free p && freezes sum (violation p p.item.base))
  where
    go : (b : Bool) → IsWhole (if b then record p { frozen = Some (clamp (limited_main p.item p.item.base)) } else p)
    go true = record { sized = h.sized; at = ap clamp h.sized.limits ∙ h.sized.units }
    go false = h

frozen_item : (sum size : ℤ) (p : Piece) → item_in (frozen_by sum p size) ≡ p.item
frozen_item sum size p = go (is_free p && freezes sum (violation p size))
  where
    go : (b : Bool) → item_in (if b then record p { frozen = Some (clamp (limited_main p.item size)) } else p) ≡ p.item
    go true = refl
    go false = refl

turned_whole : (sum : ℤ) (line : List Piece) → AreWhole line → AreWhole (zipped (frozen_by sum) line (bases_of (map item_in line)))
turned_whole sum [] h = tt
turned_whole sum (p ∷ line) h = (frozen_whole sum p h.0, turned_whole sum line h.1)

turned_items : (sum : ℤ) (line : List Piece) → map item_in (zipped (frozen_by sum) line (bases_of (map item_in line))) ≡ map item_in line
turned_items sum [] = refl
turned_items sum (p ∷ line) = λ j. frozen_item sum p.item.base p j ∷ turned_items sum line j

turn_line : (grow : Bool) (main gap initial : ℤ) (items : List FlexItem) (line : List Piece) → line_length gap items ≡ main → AreSized items → initial ≡ pos 0 → IsLine items line → IsLine items (turn grow main gap initial line)
turn_line grow main gap initial items line full sized none is =
    let space : given_space grow main gap initial line ≡ pos 0 = given_none initial (free_space grow main gap line) (total_of (map (free_factor grow) line)) none (space_none grow main gap items line full sized is) in
    let whole : ℕ = total_of (map (weight_of grow) line) in
    let bases : List ℤ = bases_of (map item_in line) in
    let sum : ℤ = sum_of (zipped violation line bases) in
    let tries_are : tries grow (given_space grow main gap initial line) whole 0 line ≡ bases = ap (λ (z : ℤ). tries grow z whole 0 line) space ∙ tries_none grow whole 0 line in
    let turned : turn grow main gap initial line ≡ zipped (frozen_by sum) line bases = turn_is grow main gap initial line ∙ ap (λ (xs : List ℤ). zipped (frozen_by (sum_of (zipped violation line xs))) line xs) tries_are in
    subst (IsLine items) (sym turned) (record { whole = turned_whole sum line is.whole; same = turned_items sum line ∙ is.same })

resolved_line : (turns : ℕ) (grow : Bool) (main gap initial : ℤ) (items : List FlexItem) (line : List Piece) → line_length gap items ≡ main → AreSized items → initial ≡ pos 0 → IsLine items line → IsLine items (resolved turns grow main gap initial line)
unfolding resolved
resolved_line zero grow main gap initial items line full sized none is = is
resolved_line (suc turns) grow main gap initial items line full sized none is =
    resolved_line turns grow main gap initial items (turn grow main gap initial line) full sized none (turn_line grow main gap initial items line full sized none is)

pub full_sizes : (main gap : ℤ) (items : List FlexItem) → line_length gap items ≡ main → AreSized items → bases_of items ≡ line_sizes main gap items
full_sizes main gap items full sized =
    let grow : Bool = grows main gap items in
    let start : List Piece = map (begin grow) items in
    let initial : ℤ = free_space grow main gap start in
    let first : IsLine items start = record { whole = begun grow items sized; same = begun_items grow items } in
    let none : initial ≡ pos 0 = space_none grow main gap items start full sized first in
    let last : IsLine items (resolved (length items) grow main gap initial start) = resolved_line (length items) grow main gap initial items start full sized none first in
    sym (whole_sizes (resolved (length items) grow main gap initial start) last.whole ∙ ap bases_of last.same)
