-- The lines of a flex container, the main sizes of their items and their cross sizes (CSS Flexbox 1, section 9).
use Rattle.std.specs.Prelude.{◌≡◌, refl, ℕ, zero, suc, ◌+◌, ◌-◌, ◌*◌, nat_lt, ◌==◌, ℤ, pos, negsuc, ◌+ℤ◌, ◌-ℤ◌, ◌*ℤ◌, int_lt, int_le, Bool, true, false, ◌&&◌, ◌||◌, List, [], ◌∷◌, ◌++◌, map, length, Option, Some, None, is_some, unwrap_or, slice_range, if◌then◌else◌}
use Rattle.std.specs.Int.{int_max, int_min}
use Rattle.lunit.specs.Units.{clamp, floor_div}
use Rattle.part_rules.specs.declared.flex.FlexItem.{FlexItem}
use Rattle.part_rules.specs.Lists.{sum_of, total_of, filled, zipped, at_most, greatest_with, above_zero}
use Rattle.part_rules.specs.Sharing.{apportioned_whole, shares, handed_by_level}

-- ---- lines (CSS Flexbox 1, 9.3)

-- a size limited by the maximum, and then by the minimum and by borders and paddings (CSS Flexbox 1, 9.7)
abbrev pub limited_main : FlexItem → ℤ → ℤ
limited_main i x = int_max i.inner (int_max i.min (at_most i.max x))

-- the hypothetical main size (CSS Flexbox 1, 9.2)
abbrev pub hypothetical : FlexItem → ℤ
hypothetical i = limited_main i i.base

-- with the margins (CSS Flexbox 1, 9.2)
abbrev pub outer_hypothetical : FlexItem → ℤ
outer_hypothetical i = hypothetical i +ℤ i.margins

-- the gaps between so many items
abbrev pub gaps : ℤ → ℕ → ℤ
gaps gap n = gap *ℤ pos (n - 1)

-- the outer hypothetical sizes of a line and the gaps between them
abbrev pub line_length : ℤ → List FlexItem → ℤ
line_length gap line = sum_of (map outer_hypothetical line) +ℤ gaps gap (length line)

-- one line of all items, or none without items
abbrev pub one_line : {A : Type 0} → List A → List (List A)
one_line [] = []
one_line (x ∷ rest) = (x ∷ rest) ∷ []

-- The lines: one without wrapping; else an item joins a line where the line with it does not pass the main size.
abbrev pub lines_of : ℤ → ℤ → Bool → List FlexItem → List (List FlexItem)
lines_of main gap wrap items = if wrap then filled (λ line. int_le (line_length gap line) main) items else one_line items

-- lines as ranges of the items, from the first that is told
abbrev pub ranges_from : {A : Type 0} → ℕ → List (List A) → List (ℕ × ℕ)
ranges_from n [] = []
ranges_from n (line ∷ rest) = (n, n + length line) ∷ ranges_from (n + length line) rest

-- The lines as ranges of the items (CSS Flexbox 1, 9.3).
abbrev pub line_ranges : ℤ → ℤ → Bool → List FlexItem → List (ℕ × ℕ)
line_ranges main gap wrap items = ranges_from 0 (lines_of main gap wrap items)

-- ---- the main sizes of one line (CSS Flexbox 1, 9.7)

-- an item of the line, with its size once it is frozen
pub record Piece : Type 0 where
  pub item : FlexItem
  pub frozen : Option ℤ

-- whether the items of the line grow, else they shrink
abbrev pub grows : ℤ → ℤ → List FlexItem → Bool
grows main gap line = int_lt (line_length gap line) main

-- the grow factor where items grow, else the shrink factor (CSS Flexbox 1, 9.7)
abbrev pub factor_of : Bool → FlexItem → ℕ
factor_of grow i = if grow then i.grow else i.shrink

-- an item that is frozen from the start: its factor is 0, or its limits hold it against the way in which sizes change
abbrev pub is_inflexible : Bool → FlexItem → Bool
is_inflexible grow i = (factor_of grow i == 0) || (if grow then int_lt (hypothetical i) i.base else int_lt i.base (hypothetical i))

-- an item as the line begins: frozen at its hypothetical size, or not (CSS Flexbox 1, 9.7, step 2)
abbrev pub begin : Bool → FlexItem → Piece
begin grow i = record { item = i; frozen = if is_inflexible grow i then Some (hypothetical i) else None }

-- the outer size of a frozen item, and the outer base size of another
abbrev pub outer_now : Piece → ℤ
outer_now p = unwrap_or p.frozen p.item.base +ℤ p.item.margins

-- What the line leaves of the main size, or what it lacks where the items shrink. That it is at least 0 is an own rule; it is
-- limited as each space that is shared.
abbrev pub free_space : Bool → ℤ → ℤ → List Piece → ℤ
free_space grow main gap line =
    let rest = main -ℤ gaps gap (length line) -ℤ sum_of (map outer_now line) in
    clamp (int_max (pos 0) (if grow then rest else pos 0 -ℤ rest))

-- not frozen yet
abbrev pub is_free : Piece → Bool
is_free p = if is_some p.frozen then false else true

-- the flex factor of an item that is not frozen
abbrev pub free_factor : Bool → Piece → ℕ
free_factor grow p = if is_free p then factor_of grow p.item else 0

-- The space that is given: where the factors sum to less than 1 (1000 thousandths), at most that part of the initial space.
abbrev pub given_space : Bool → ℤ → ℤ → ℤ → List Piece → ℤ
given_space grow main gap initial line =
    let sum = total_of (map (free_factor grow) line) in
    let whole = free_space grow main gap line in
    if nat_lt sum 1000 then int_min whole (floor_div (initial *ℤ pos sum) 1000) else whole

-- the weight of an item: its grow factor, or its shrink factor times its inner base size
abbrev pub weight_of : Bool → Piece → ℕ
weight_of grow p = if grow then free_factor grow p else free_factor grow p * above_zero (p.item.base -ℤ p.item.inner)

-- what each item is given; nothing where the weights sum to 0
abbrev pub given_parts : Bool → ℤ → List Piece → List ℤ
given_parts grow space line =
    let weights = map (weight_of grow) line in
    if total_of weights == 0 then map (λ (p : Piece). pos 0) line else apportioned_whole space weights

-- the size that an item would have; a sum, which is not limited by the range (own rule)
abbrev pub tried : Bool → Piece → ℤ → ℤ
tried grow p part = if grow then p.item.base +ℤ part else p.item.base -ℤ part

-- what its own limits change of it
abbrev pub violation : Piece → ℤ → ℤ
violation p size = if is_free p then limited_main p.item size -ℤ size else pos 0

-- All items are frozen where the changes sum to 0; where the sum is above 0 those that were raised, and else those that were
-- lowered. A frozen item stays as it is.
abbrev pub freezes : ℤ → ℤ → Bool
freezes sum change =
    (int_le (pos 0) sum && int_le sum (pos 0)) || ((int_lt (pos 0) sum && int_lt (pos 0) change) || (int_lt sum (pos 0) && int_lt change (pos 0)))

-- the item after its size was tried; a size that it is frozen at is limited as each box size is (CSS Flexbox 1, 9.7, step 4;
-- the range is an own rule)
abbrev pub frozen_by : ℤ → Piece → ℤ → Piece
frozen_by sum p size = if is_free p && freezes sum (violation p size) then record p { frozen = Some (clamp (limited_main p.item size)) } else p

-- one time through the steps
abbrev pub turn : Bool → ℤ → ℤ → ℤ → List Piece → List Piece
turn grow main gap initial line =
    let sizes = zipped (tried grow) line (given_parts grow (given_space grow main gap initial line) line) in
    zipped (frozen_by (sum_of (zipped violation line sizes))) line sizes

-- The line once all its items are frozen. Each turn freezes an item, so as many turns as items are enough.
unfoldable pub resolved : ℕ → Bool → ℤ → ℤ → ℤ → List Piece → List Piece
resolved zero grow main gap initial line = line
resolved (suc turns) grow main gap initial line = resolved turns grow main gap initial (turn grow main gap initial line)

-- the size of a frozen item
abbrev pub size_of : Piece → ℤ
size_of p = unwrap_or p.frozen p.item.base

-- The main sizes of the items of one line.
abbrev pub line_sizes : ℤ → ℤ → List FlexItem → List ℤ
line_sizes main gap line =
    let grow = grows main gap line in
    let start = map (begin grow) line in
    map size_of (resolved (length line) grow main gap (free_space grow main gap start) start)

-- The main sizes of the items of all lines, which are ranges of the items.
abbrev pub main_sizes : ℤ → ℤ → List FlexItem → List (ℕ × ℕ) → List ℤ
main_sizes main gap items [] = []
main_sizes main gap items (range ∷ rest) = line_sizes main gap (slice_range items range.0 range.1) ++ main_sizes main gap items rest

-- ---- the cross sizes of the lines (CSS Flexbox 1, 9.4, steps 8 and 9)

-- the greatest outer hypothetical cross size of the items of a line, at least 0
abbrev pub greatest_outer : List ℤ → ℕ × ℕ → ℤ
greatest_outer outer range = greatest_with (pos 0) (slice_range outer range.0 range.1)

-- A container without wrapping whose cross size is known gives it to its line; a single line of one that wraps does not get it
-- (as CSS Flexbox 1, 9.4, step 8 has it: it speaks of single-line containers).
abbrev pub own_cross : List ℤ → Option ℤ → Bool → ℕ × ℕ → ℤ
own_cross outer (Some cross) false range = clamp cross
own_cross outer cross wrap range = greatest_outer outer range

-- the rest of a known cross size that lines and gaps leave, where it is positive
abbrev pub cross_rest : ℤ → ℤ → List ℤ → ℤ
cross_rest cross gap sizes = clamp (int_max (pos 0) (cross -ℤ gaps gap (length sizes) -ℤ sum_of sizes))

-- lines that share what a known cross size leaves (CSS Flexbox 1, 9.4, step 9)
abbrev pub stretched_lines : Option ℤ → ℤ → Bool → List ℤ → List ℤ
stretched_lines (Some cross) gap true sizes =
    zipped (λ size share. clamp (size +ℤ share)) sizes
    (shares (cross_rest cross gap sizes) (map (λ (size : ℤ). let none : Option ℤ = None in none) sizes))
stretched_lines cross gap stretch sizes = sizes

-- The cross sizes of the lines. With wrapping and `align-content` `normal` or `stretch` the positive rest of a known cross size
-- goes to the lines in equal parts.
abbrev pub line_crosses : List ℤ → List (ℕ × ℕ) → Option ℤ → ℤ → Bool → Bool → List ℤ
line_crosses outer lines cross gap wrap stretch = stretched_lines cross gap (wrap && stretch) (map (own_cross outer cross wrap) lines)

-- ---- `auto` margins on a line (CSS Flexbox 1, 9.5, step 12)

-- What the margins of a line take of its rest, in the order of the items and the start before the end: those that are `auto`
-- share it in equal parts (the odd units to the first ones: own rule; the start margins could also have gone before all ends).
-- The rest is limited as each space that is shared (own rule).
abbrev pub line_margins : ℤ → List Bool → List ℤ
line_margins rest autos = shares (clamp rest) (map (λ (auto : Bool). if auto then None else Some (pos 0)) autos)

-- ---- worked rows, in units

abbrev item : ℤ → ℤ → Option ℤ → ℕ → ℕ → FlexItem
item base min max grow shrink = record { base = base; min = min; max = max; margins = pos 0; inner = pos 0; grow = grow; shrink = shrink }

-- 6400 by two equal factors: 3200 each; the first is lowered to 1920 and frozen. Then 4480 are left for the second.
one_limit : line_sizes (pos 6400) (pos 0) (item (pos 0) (pos 0) (Some (pos 1920)) 1000 1000 ∷ item (pos 0) (pos 0) None 1000 1000 ∷ []) ≡
    pos 1920 ∷ pos 4480 ∷ []
unfolding resolved clamp floor_div handed_by_level
one_limit = refl

-- The first has the greatest size already, and margins that take it back. Of 200 each gets 100: the first is lowered by 100 and
-- the second raised by 50, so the first is frozen, and the second takes all. The range alone lowers no size.
past_the_range : line_sizes (pos 200) (pos 0)
    (record {
      base = pos 1073741824;
      min = pos 0;
      max = Some (pos 1073741824);
      margins = negsuc 1073741823;
      inner = pos 0;
      grow = 1000;
      shrink
          = 1000;
    } ∷ item (pos 0) (pos 150) None 1000 1000 ∷ []) ≡ pos 1073741824 ∷ pos 200 ∷ []
unfolding resolved clamp floor_div handed_by_level
past_the_range = refl

-- A factor of 0.25 alone takes a quarter of 6400.
quarter : line_sizes (pos 6400) (pos 0) (item (pos 0) (pos 0) None 250 1000 ∷ []) ≡ pos 1600 ∷ []
unfolding resolved clamp floor_div handed_by_level
quarter = refl

-- 300 by three: 100 each; 50 less for the first and 50 more for the second sum to 0, so all are frozen.
limits_even_out : line_sizes (pos 300) (pos 0)
    (item (pos 0) (pos 0) (Some (pos 50)) 1000 1000 ∷ item (pos 0) (pos 150) None 1000 1000 ∷ item (pos 0) (pos 0) None 1000 1000 ∷ []) ≡
    pos 50 ∷ pos 150 ∷ pos 100 ∷ []
unfolding resolved clamp floor_div handed_by_level
limits_even_out = refl

-- 50 are lacking; the weights 100 and 50 take floor(5000 / 150) = 33 and the rest 17.
shrinks : line_sizes (pos 100) (pos 0) (item (pos 100) (pos 0) None 0 1000 ∷ item (pos 50) (pos 0) None 0 1000 ∷ []) ≡ pos 67 ∷ pos 33 ∷ []
unfolding resolved clamp floor_div handed_by_level
shrinks = refl

-- With a minimum of 90 for the first of these items 67 is raised by 23, so it alone is frozen, and the second gives all 40 that lack.
shrinks_to_minimum : line_sizes (pos 100) (pos 0) (item (pos 100) (pos 90) None 0 1000 ∷ item (pos 50) (pos 0) None 0 1000 ∷ []) ≡ pos 90 ∷ pos 10 ∷ []
unfolding resolved clamp floor_div handed_by_level
shrinks_to_minimum = refl

-- A shrink factor of 0.5 alone gives back half of the 100 that lack.
shrinks_half : line_sizes (pos 100) (pos 0) (item (pos 200) (pos 0) None 0 500 ∷ []) ≡ pos 150 ∷ []
unfolding resolved clamp floor_div handed_by_level
shrinks_half = refl

-- Borders and paddings do not shrink: the weights are 60 - 20 and 60 - 40, so 30 are taken as 20 and 10.
inner_kept : line_sizes (pos 90) (pos 0)
    (record { base = pos 60; min = pos 0; max = None; margins = pos 0; inner = pos 20; grow = 0; shrink = 1000 } ∷
    record { base = pos 60; min = pos 0; max = None; margins = pos 0; inner = pos 40; grow = 0; shrink = 1000 } ∷ []) ≡ pos 40 ∷ pos 50 ∷ []
unfolding resolved clamp floor_div handed_by_level
inner_kept = refl

-- Margins of 30 and a gap of 5 go off 100: 65 for two items, by the weights 1 and 3; floor(65 / 4) = 16 and 49.
margins_and_gap : line_sizes (pos 100) (pos 5)
    (record { base = pos 0; min = pos 0; max = None; margins = pos 30; inner = pos 0; grow = 1000; shrink = 1000 } ∷
    item (pos 0) (pos 0) None 3000 1000 ∷ []) ≡ pos 16 ∷ pos 49 ∷ []
unfolding resolved clamp floor_div handed_by_level
margins_and_gap = refl

-- An item without a factor keeps its hypothetical size, here its maximum; the other takes the rest.
no_factor : line_sizes (pos 100) (pos 0) (item (pos 40) (pos 0) (Some (pos 30)) 0 1000 ∷ item (pos 0) (pos 0) None 1000 1000 ∷ []) ≡ pos 30 ∷ pos 70 ∷ []
unfolding resolved clamp floor_div handed_by_level
no_factor = refl

-- 40 + 10 + 40 = 90 fits 100, and 140 does not.
two_lines : line_ranges (pos 100) (pos 10) true
    (item (pos 40) (pos 0) None 0 1000 ∷ item (pos 40) (pos 0) None 0 1000 ∷ item (pos 40) (pos 0) None 0 1000 ∷ []) ≡ (0, 2) ∷ (2, 3) ∷ []
two_lines = refl

-- The first item of a line joins it also where it passes the main size alone.
wide_item : line_ranges (pos 100) (pos 0) true (item (pos 150) (pos 0) None 0 1000 ∷ item (pos 20) (pos 0) None 0 1000 ∷ []) ≡ (0, 1) ∷ (1, 2) ∷ []
wide_item = refl

no_wrap : line_ranges (pos 10) (pos 0) false (item (pos 150) (pos 0) None 0 1000 ∷ item (pos 20) (pos 0) None 0 1000 ∷ []) ≡ (0, 2) ∷ []
no_wrap = refl

no_items : line_ranges (pos 10) (pos 0) false [] ≡ []
no_items = refl

-- Lines of 30 and 20 with a gap of 5 in 100: the rest of 45 goes to them as 23 and 22.
cross_stretch : line_crosses (pos 10 ∷ pos 30 ∷ pos 20 ∷ []) ((0, 2) ∷ (2, 3) ∷ []) (Some (pos 100)) (pos 5) true true ≡ pos 53 ∷ pos 42 ∷ []
unfolding clamp handed_by_level
cross_stretch = refl

cross_start : line_crosses (pos 10 ∷ pos 30 ∷ pos 20 ∷ []) ((0, 2) ∷ (2, 3) ∷ []) (Some (pos 100)) (pos 5) true false ≡ pos 30 ∷ pos 20 ∷ []
cross_start = refl

-- Without wrapping the line has the known cross size; a line of margins below zero has the cross size 0 where it is not known.
cross_known : line_crosses (pos 10 ∷ pos 30 ∷ []) ((0, 2) ∷ []) (Some (pos 80)) (pos 5) false true ≡ pos 80 ∷ []
unfolding clamp
cross_known = refl

cross_unknown : line_crosses (negsuc 4 ∷ []) ((0, 1) ∷ []) None (pos 5) false true ≡ pos 0 ∷ []
cross_unknown = refl

-- Three of four margins are `auto` and share 10 as 4, 3 and 3.
margins_share : line_margins (pos 10) (true ∷ false ∷ true ∷ true ∷ []) ≡ pos 4 ∷ pos 0 ∷ pos 3 ∷ pos 3 ∷ []
unfolding clamp handed_by_level
margins_share = refl

margins_none : line_margins (negsuc 2) (true ∷ []) ≡ pos 0 ∷ []
unfolding clamp
margins_none = refl
