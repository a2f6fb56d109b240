-- The children of a flex container stand near the border box of their parent.
use Rattle.std.proofs.Common.{arith, ap, ◌≡◌, sym, subst, refl, ℕ, zero, suc, ◌+◌, ◌-◌, ◌*◌, ◌^◌, ◌<◌, ◌≤◌, ℤ, pos, negsuc, neg_ℤ, ◌+ℤ◌, ◌-ℤ◌, ◌*ℤ◌, ◌≤ℤ◌, int_lt, Bool, true, false, ◌&&◌, ◌||◌, List, [], ◌∷◌, ◌++◌, drop, take, length, map, Option, Some, None, if◌then◌else◌}
use Rattle.std.specs.Prelude.{slice_range}
use Rattle.std.proofs.lemmas.Int.{ints, int_max_is, int_min_is}
use Rattle.std.specs.Int.{int_min}
use Rattle.inline_sizes.proofs.InRange.{margins_units}
use Rattle.inline_sizes.specs.Sums.{IsPair}
use Rattle.lunit.specs.Units.{IsUnits, bottom, clamp, floor_div, top}
use Rattle.part_rules.specs.Alignment.{auto_taken, content_moved, self_moved}
use Rattle.part_rules.specs.FlexLines.{gaps, line_margins}
use Rattle.part_rules.specs.Lists.{joined, sum_of}
use Rattle.part_rules.specs.Sharing.{Handed, after_row, has_room, one_more, roomy, round, rounds, shared_rows, with_nothing}
use Rattle.part_rules.specs.declared.share.Share.{Share}
use Rattle.part_rules.proofs.Sharing.{shares_are, sums_up}
use Rattle.placing.specs.Ranges.{IsEdge, IsGridAxis, IsGridStyle, IsMargin, IsSize}
use Rattle.style_types.specs.declared.value.Align.{Align}
use Rattle.style_types.specs.declared.value.Size.{Size}
use Rattle.style_types.specs.declared.value.Size.TheVariants as size
use Rattle.tree_rules.specs.Distribution.{is_safe, mode_of}
use Rattle.tree_rules.specs.FlexSizes.{cross_content, cross_grid, is_stretched_across, line_align, main_grid}
use Rattle.tree_rules.specs.Frames as rules
use Rattle.tree_rules.specs.Frames.{LineAt, auto_margins, flex_child, place_across, size_across}
use Rattle.tree_rules.specs.Labels.{Label}
use Rattle.tree_rules.specs.NodeSizes.{bounds_of, fitted, inner_start, is_auto_margin, margin, margins}
use Rattle.tree_rules.specs.Repetitions.{gap_by}
use Rattle.box_layout.specs.Near.{AreSized, AreUnits, IsSized, StandNear, StandsNear}
use Rattle.box_layout.specs.Ranges.{IsAlong, IsEdges, IsFree, IsLineRest, IsOuterSum, IsReach, IsRest, IsRoom, IsSpot, IsSum, IsWithin}
use Rattle.box_layout.specs.Sittings.{flex_numbered}
use Rattle.box_layout.proofs.Reaches.{moved_free}
use Rattle.box_layout.proofs.Rooms.{after_room, before_room, chosen_rest, edges_start, moved_rest}
use Rattle.box_layout.proofs.Sums.{cross_left_is, gaps_are, line_rest_is, rest_is, room_is, start_is}

-- ---- lengths

zero_units : IsUnits (pos 0)
zero_units = (omega (arith, ints), omega (arith, ints))

pub clamped_units : (z : ℤ) → IsUnits (clamp z)
unfolding clamp
clamped_units z = (omega (arith, ints, int_min_is top z, int_max_is bottom (int_min top z)), omega (arith, ints, int_min_is top z, int_max_is bottom (int_min top z)))

pub chosen_units : (b : Bool) (x y : ℤ) → IsUnits x → IsUnits y → IsUnits (if b then x else y)
chosen_units true x y h k = h
chosen_units false x y h k = k

edge_units : (x : ℤ) → IsEdge x → IsUnits x
edge_units x h = (omega (arith, ints, h.low), omega (arith, ints, h.high))

pub gap_units : (base : Option ℤ) (s : Size) → IsSize s → IsUnits (gap_by base (pos 0) s)
gap_units None size.Auto h = zero_units
gap_units None size.Absent h = zero_units
gap_units None size.Normal h = zero_units
gap_units None size.Content h = zero_units
gap_units None (size.Length x) h = edge_units x h
gap_units None (size.Percent t) h = zero_units
gap_units (Some b) size.Auto h = zero_units
gap_units (Some b) size.Absent h = zero_units
gap_units (Some b) size.Normal h = zero_units
gap_units (Some b) size.Content h = zero_units
gap_units (Some b) (size.Length x) h = edge_units x h
gap_units (Some b) (size.Percent t) h = clamped_units (floor_div (b *ℤ pos t) 100000)

pub margin_units : (m : Option ℤ) → IsMargin m → IsUnits (margin m)
margin_units None h = zero_units
margin_units (Some x) h = (omega (arith, ints, h.low), omega (arith, ints, h.high))

pub pair_of : (z : ℤ) → IsUnits z → IsPair z
pair_of z h = (omega (arith, ints, h.0), omega (arith, ints, h.1))

main_axis : (column : Bool) (y : Label) → IsGridStyle y.grid → IsGridAxis (main_grid column y)
main_axis true y h = h.rows
main_axis false y h = h.columns

cross_axis : (column : Bool) (y : Label) → IsGridStyle y.grid → IsGridAxis (cross_grid column y)
cross_axis true y h = h.columns
cross_axis false y h = h.rows

-- ---- shares

abbrev AreSome : List Share → Type 0
AreSome [] = Unit {0}
AreSome (s ∷ rest) = (pos 0 ≤ℤ s.got) × AreSome rest

round_some : (n : ℕ) (rows : List Share) → AreSome rows → AreSome (round n rows).rows
round_some zero rows h = h
round_some (suc n) [] h = tt
round_some (suc n) (s ∷ rest) h = go (has_room s) (round_some n rest h.1) (round_some (suc n) rest h.1)
  where
    go : (b : Bool) → AreSome (round n rest).rows → AreSome (round (suc n) rest).rows → AreSome (if b then after_row (one_more s) (round n rest) else after_row s (round (suc n) rest)).rows
    go true p q = (omega (arith, ints, h.0), p)
    go false p q = (h.0, q)

rounds_some : (k : ℕ) (h : Handed) → AreSome h.rows → AreSome (rounds k h).rows
unfolding rounds
rounds_some zero h some = some
rounds_some (suc k) h some = rounds_some k (round h.left h.rows) (round_some h.left h.rows some)

nothing_some : (rows : List Share) → AreSome (map with_nothing rows)
nothing_some [] = tt
nothing_some (s ∷ rest) = (omega (arith, ints), nothing_some rest)

shared_some : (space : ℤ) (rows : List Share) → AreSome (shared_rows space rows)
shared_some (pos n) rows = rounds_some n (record { rows = map with_nothing rows; left = n }) (nothing_some rows)
shared_some (negsuc n) rows = nothing_some rows

sum_some : (rows : List Share) → AreSome rows → pos 0 ≤ℤ sum_of (map (λ (s : Share). s.got) rows)
sum_some [] h = omega (arith, ints)
sum_some (s ∷ rest) h = omega (arith, ints, h.0, sum_some rest h.1)

each_units : (rows : List Share) → AreSome rows → sum_of (map (λ (s : Share). s.got) rows) ≤ℤ top → AreUnits (map (λ (s : Share). s.got) rows)
each_units [] h few = tt
each_units (s ∷ rest) h few =
    let more : pos 0 ≤ℤ sum_of (map (λ (s : Share). s.got) rest) = sum_some rest h.1 in
    ((omega (arith, ints, h.0), omega (arith, ints, more, few)), each_units rest h.1 (omega (arith, ints, h.0, few)))

zeros_sum : (rows : List Share) → sum_of (map (λ (s : Share). s.got) (map with_nothing rows)) ≡ pos 0
zeros_sum [] = refl
zeros_sum (s ∷ rest) = omega (arith, ints, zeros_sum rest)

sum_top : (space : ℤ) (rows : List Share) → IsUnits space → sum_of (map (λ (s : Share). s.got) (shared_rows space rows)) ≤ℤ top
sum_top (pos n) rows h = omega (arith, ints, h.1, sums_up (pos n) rows)
sum_top (negsuc n) rows h = omega (arith, ints, zeros_sum rows)

-- what the `auto` margins of a line take, each and in sum, are lengths
taken_units : (rest : ℤ) (autos : List Bool) → AreUnits (line_margins rest autos)
taken_units rest autos =
    let rooms : List (Option ℤ) = map (λ (auto : Bool). if auto then None else Some (pos 0)) autos in
    let rows : List Share = shared_rows (clamp rest) (map roomy rooms) in
    subst AreUnits (sym (shares_are (clamp rest) rooms)) (each_units rows (shared_some (clamp rest) (map roomy rooms)) (sum_top (clamp rest) (map roomy rooms) (clamped_units rest)))

taken_sum : (rest : ℤ) (autos : List Bool) → IsUnits (sum_of (line_margins rest autos))
taken_sum rest autos =
    let rooms : List (Option ℤ) = map (λ (auto : Bool). if auto then None else Some (pos 0)) autos in
    let rows : List Share = shared_rows (clamp rest) (map roomy rooms) in
    let some : pos 0 ≤ℤ sum_of (map (λ (s : Share). s.got) rows) = sum_some rows (shared_some (clamp rest) (map roomy rooms)) in
    let most : sum_of (map (λ (s : Share). s.got) rows) ≤ℤ top = sum_top (clamp rest) (map roomy rooms) (clamped_units rest) in
    subst IsUnits (ap sum_of (sym (shares_are (clamp rest) rooms))) (omega (arith, ints, some), omega (arith, ints, most))

-- ---- one child

spot_sum : (at m t s : ℤ) → IsReach at → IsUnits m → IsRoom t → IsRest s → IsSpot (at +ℤ m +ℤ t +ℤ s)
spot_sum at m t s g h k l = (omega (arith, ints, g.0, g.1, h.0, h.1, k.0, k.1, l.0, l.1), omega (arith, ints, g.0, g.1, h.0, h.1, k.0, k.1, l.0, l.1))

offset_within : (i z : ℤ) → IsEdges i → IsSpot z → IsWithin (2 ^ 50) (i +ℤ z)
offset_within i z h k = (omega (arith, ints, h.0, h.1, k.0, k.1), omega (arith, ints, h.0, h.1, k.0, k.1))

free_of : (rest taken : ℤ) → IsLineRest rest → IsUnits taken → IsFree (rest -ℤ taken)
free_of rest taken h k = (omega (arith, ints, h.0, h.1, k.0, k.1), omega (arith, ints, h.0, h.1, k.0, k.1))

reach_of : (k : ℕ) (at m : ℤ) → k ≤ 65536 → neg_ℤ (pos (2147483648 * k)) ≤ℤ at → at ≤ℤ pos (2147483648 * k) → IsFree m → IsReach (at +ℤ m)
reach_of k at m few low high h = (omega (arith, ints, few, low, h.0), omega (arith, ints, few, high, h.1))

place_near : (column : Bool) (x y : Label) (l : LineAt) (box : ℤ) → IsReach l.at → IsUnits l.size → IsUnits box → IsGridAxis (cross_grid column y) → IsSpot (place_across column x l y box)
place_near column x y l box reach h k axis =
    let g = cross_grid column y in
    let a : Align = line_align x y in
    let free = l.size -ℤ box -ℤ margins g in
    let taken : ℤ × ℤ = auto_taken free (is_auto_margin g.margin_start) (is_auto_margin g.margin_end) in
    let rest = free -ℤ taken.0 -ℤ taken.1 in
    let moved = self_moved (mode_of a.mode) (is_safe a) rest in
    let room : IsRoom free = room_is l.size box (margins g) h k (pair_of (margins g) (margins_units g axis)) in
    let before : IsRoom taken.0 = before_room free (is_auto_margin g.margin_start) (is_auto_margin g.margin_end) room in
    let after : IsRoom taken.1 = after_room free (is_auto_margin g.margin_start) (is_auto_margin g.margin_end) room in
    let by : IsRest moved = moved_rest (mode_of a.mode) (is_safe a) rest (rest_is free taken.0 taken.1 room before after) in
    let test = int_lt free (pos 0) && (is_auto_margin g.margin_start || is_auto_margin g.margin_end) in
    spot_sum l.at (margin g.margin_start) taken.0 (if test then pos 0 else moved) reach (margin_units g.margin_start axis.margin_start) before (chosen_rest test moved by)

size_near : (column : Bool) (x : Label) (cross : ℤ) (l : LineAt) (s : rules.Sitting) → IsUnits s.cross → IsUnits (size_across column x cross l s)
size_near column x cross l s h =
    let y = s.settled.member.kid.label in
    let b = bounds_of (Some cross) y.content.border_box (cross_grid column y) (cross_content column y) in
    chosen_units (is_stretched_across column x y) (clamp (fitted b (l.size -ℤ margins (cross_grid column y)))) s.cross (clamped_units (fitted b (l.size -ℤ margins (cross_grid column y)))) h

child_near : (column : Bool) (x : Label) (cross : ℤ) (l : LineAt) (start : ℤ) (s : rules.Sitting) → IsGridStyle x.grid → IsReach l.at → IsUnits l.size → IsSpot start → IsSized s → StandsNear (flex_child column x cross l start s)
child_near true x cross l start s h reach size spot sized =
    let y = s.settled.member.kid.label in
    let box = size_across true x cross l s in
    let across : IsSpot (place_across true x l y box) = place_near true x y l box reach size (size_near true x cross l s sized.cross) (cross_axis true y sized.grid) in
    record { x = offset_within (inner_start x.grid.columns) (place_across true x l y box) (edges_start x.grid.columns h.columns) across; y = offset_within (inner_start x.grid.rows) start (edges_start x.grid.rows h.rows) spot }
child_near false x cross l start s h reach size spot sized =
    let y = s.settled.member.kid.label in
    let box = size_across false x cross l s in
    let across : IsSpot (place_across false x l y box) = place_near false x y l box reach size (size_near false x cross l s sized.cross) (cross_axis false y sized.grid) in
    record { x = offset_within (inner_start x.grid.columns) start (edges_start x.grid.columns h.columns) spot; y = offset_within (inner_start x.grid.rows) (place_across false x l y box) (edges_start x.grid.rows h.rows) across }

-- ---- a line

along_of : (k : ℕ) (at : ℤ) → k ≤ 65536 → neg_ℤ (pos (6442450944 * k)) ≤ℤ at → at ≤ℤ pos (6442450944 * k) → IsAlong at
along_of k at few low high = (omega (arith, ints, few, low), omega (arith, ints, few, high))

next_low : (k : ℕ) (at t u main both gap : ℤ) → neg_ℤ (pos (6442450944 * k)) ≤ℤ at → IsUnits t → IsUnits u → IsUnits main → IsUnits both → IsUnits gap → neg_ℤ (pos (6442450944 * (k + 1))) ≤ℤ (at +ℤ t +ℤ u +ℤ main +ℤ both +ℤ gap)
next_low k at t u main both gap low a b c d e = omega (arith, ints, low, a.0, b.0, c.0, d.0, e.0)

next_high : (k : ℕ) (at t u main both gap : ℤ) → at ≤ℤ pos (6442450944 * k) → IsUnits t → IsUnits u → IsUnits main → IsUnits both → IsUnits gap → (at +ℤ t +ℤ u +ℤ main +ℤ both +ℤ gap) ≤ℤ pos (6442450944 * (k + 1))
next_high k at t u main both gap high a b c d e = omega (arith, ints, high, a.1, b.1, c.1, d.1, e.1)

module _ (column : Bool) (x : Label) (cross gap : ℤ) (style : IsGridStyle x.grid) (gap_is : IsUnits gap) where
  along_near : (l : LineAt) (moved : ℕ → ℤ) (n : ℕ) → IsReach l.at → IsUnits l.size → n ≤ 65536 → ((k : ℕ) → k < n → IsFree (moved k)) → (k : ℕ) (at : ℤ) (taken : List ℤ) (line : List rules.Sitting)
      → k + length line ≤ n → neg_ℤ (pos (6442450944 * k)) ≤ℤ at → at ≤ℤ pos (6442450944 * k) → AreUnits taken → AreSized line → StandNear (rules.along_line column x cross l moved gap k at taken line)
  along_near l moved n reach size few frees k at [] line within low high units sized = tt
  along_near l moved n reach size few frees k at (t ∷ []) line within low high units sized = tt
  along_near l moved n reach size few frees k at (t ∷ u ∷ taken) [] within low high units sized = tt
  along_near l moved n reach size few frees k at (t ∷ u ∷ taken) (s ∷ rest) within low high units sized =
      let y = s.settled.member.kid.label in
      let g = main_grid column y in
      let axis : IsGridAxis g = main_axis column y sized.0.grid in
      let both : IsUnits (margins g) = margins_units g axis in
      let start = at +ℤ moved k +ℤ margin g.margin_start +ℤ t in
      let next = at +ℤ t +ℤ u +ℤ s.main +ℤ margins g +ℤ gap in
      let spot : IsSpot start = start_is at (moved k) (margin g.margin_start) t (along_of k at (omega (arith, within, few)) low high) (frees k (omega (arith, within))) (margin_units g.margin_start axis.margin_start) units.0 in (
        child_near column x cross l start s style reach size spot sized.0,
        along_near l moved n reach size few frees (k + 1) next taken rest (omega (arith, within)) (next_low k at t u s.main (margins g) gap low units.0 units.1.0 sized.0.main both gap_is) (next_high k at t u s.main (margins g) gap high units.0 units.1.0 sized.0.main both gap_is) units.1.1 sized.1,
      )

  outer_near : (line : List rules.Sitting) → AreSized line → IsOuterSum (length line) (sum_of (map (λ (s : rules.Sitting). s.main +ℤ margins (main_grid column s.settled.member.kid.label)) line))
  outer_near [] h = (omega (arith, ints), omega (arith, ints))
  outer_near (s ∷ rest) h =
      let y = s.settled.member.kid.label in
      let both : IsUnits (margins (main_grid column y)) = margins_units (main_grid column y) (main_axis column y h.0.grid) in
      let more = outer_near rest h.1 in
      (omega (arith, ints, h.0.main.0, both.0, more.0), omega (arith, ints, h.0.main.1, both.1, more.1))

  line_near : (main : ℤ) (l : LineAt) (line : List rules.Sitting) → IsUnits main → IsReach l.at → IsUnits l.size → length line ≤ 65536 → AreSized line → StandNear (rules.line_framed column x main cross gap l line)
  line_near main l line main_is reach size few sized =
      let outer = sum_of (map (λ (s : rules.Sitting). s.main +ℤ margins (main_grid column s.settled.member.kid.label)) line) in
      let rest = main -ℤ gaps gap (length line) -ℤ outer in
      let autos : List Bool = joined (map (λ (s : rules.Sitting). auto_margins (main_grid column s.settled.member.kid.label)) line) in
      let taken : List ℤ = line_margins rest autos in
      let free = rest -ℤ sum_of taken in
      let a : Align = x.content.inline.distribution in
      let rest_is : IsLineRest rest = line_rest_is main (gaps gap (length line)) outer (length line) main_is (gaps_are gap (length line) gap_is few) (outer_near line sized) few in
      let frees : IsFree free = free_of rest (sum_of taken) rest_is (taken_sum rest autos) in
      along_near l (λ k. content_moved (mode_of a.mode) (is_safe a) free k (length line)) (length line) reach size few (λ k less. moved_free (mode_of a.mode) (is_safe a) free k (length line) less frees) 0 (pos 0) taken line (omega arith) (omega (arith, ints)) (omega (arith, ints))
      (taken_units rest autos) sized

-- ---- all lines

near_append : (first later : List (ℕ × rules.Framed)) → StandNear first → StandNear later → StandNear (first ++ later)
near_append [] later h k = k
near_append (e ∷ first) later h k = (h.0, near_append first later h.1 k)

sized_drop : (n : ℕ) (all : List rules.Sitting) → AreSized all → AreSized (drop n all)
sized_drop zero all h = h
sized_drop (suc n) [] h = tt
sized_drop (suc n) (s ∷ rest) h = sized_drop n rest h.1

sized_take : (n : ℕ) (all : List rules.Sitting) → AreSized all → AreSized (take n all)
sized_take zero all h = tt
sized_take (suc n) [] h = tt
sized_take (suc n) (s ∷ rest) h = (h.0, sized_take n rest h.1)

drop_few : {A : Type 0} (n : ℕ) (all : List A) → length (drop n all) ≤ length all
drop_few zero all = omega arith
drop_few (suc n) [] = omega arith
drop_few (suc n) (s ∷ rest) = omega (arith, drop_few n rest)

take_few : {A : Type 0} (n : ℕ) (all : List A) → length (take n all) ≤ length all
take_few zero all = omega arith
take_few (suc n) [] = omega arith
take_few (suc n) (s ∷ rest) = omega (arith, take_few n rest)

row_low : (k : ℕ) (at size between : ℤ) → neg_ℤ (pos (2147483648 * k)) ≤ℤ at → IsUnits size → IsUnits between → neg_ℤ (pos (2147483648 * (k + 1))) ≤ℤ (at +ℤ size +ℤ between)
row_low k at size between low h g = omega (arith, ints, low, h.0, g.0)

row_high : (k : ℕ) (at size between : ℤ) → at ≤ℤ pos (2147483648 * k) → IsUnits size → IsUnits between → (at +ℤ size +ℤ between) ≤ℤ pos (2147483648 * (k + 1))
row_high k at size between high h g = omega (arith, ints, high, h.1, g.1)

pub sum_near : (sizes : List ℤ) → AreUnits sizes → IsSum (length sizes) (sum_of sizes)
sum_near [] h = (omega (arith, ints), omega (arith, ints))
sum_near (z ∷ rest) h = let more = sum_near rest h.1 in (omega (arith, ints, h.0.0, more.0), omega (arith, ints, h.0.1, more.1))

module _ (column : Bool) (x : Label) (main cross gap between : ℤ) (style : IsGridStyle x.grid) (main_is : IsUnits main) (gap_is : IsUnits gap) (between_is : IsUnits between) where
  lines_near : (moved : ℕ → ℤ) (n : ℕ) → n ≤ 65536 → ((k : ℕ) → k < n → IsFree (moved k)) → (k : ℕ) (at : ℤ) (sizes : List ℤ) (ranges : List (ℕ × ℕ)) (all : List rules.Sitting)
      → k + length sizes ≤ n → neg_ℤ (pos (2147483648 * k)) ≤ℤ at → at ≤ℤ pos (2147483648 * k) → AreUnits sizes → length all ≤ 65536 → AreSized all → StandNear (rules.lines_framed column x main cross gap between moved k at sizes ranges all)
  lines_near moved n few frees k at [] ranges all within low high units count sized = tt
  lines_near moved n few frees k at (z ∷ sizes) [] all within low high units count sized = tt
  lines_near moved n few frees k at (z ∷ sizes) (range ∷ ranges) all within low high units count sized =
      let l : LineAt = record { at = at +ℤ moved k; size = z } in
      let line : List rules.Sitting = slice_range all range.0 range.1 in
      let next = at +ℤ z +ℤ between in
      let reach : IsReach (at +ℤ moved k) = reach_of k at (moved k) (omega (arith, within, few)) low high (frees k (omega (arith, within))) in
      let small : length line ≤ 65536 = omega (arith, count, drop_few range.0 all, take_few (range.1 - range.0) (drop range.0 all)) in
      let first : StandNear (rules.line_framed column x main cross gap l line) = line_near column x cross gap style gap_is main l line main_is reach units.0 small (sized_take (range.1 - range.0) (drop range.0 all) (sized_drop range.0 all sized)) in
      let later : StandNear (rules.lines_framed column x main cross gap between moved (k + 1) next sizes ranges all) = lines_near moved n few frees (k + 1) next sizes ranges all (omega (arith, within)) (row_low k at z between low units.0 between_is)
      (row_high k at z between high units.0 between_is) units.1 count sized in
      near_append (rules.line_framed column x main cross gap l line) (rules.lines_framed column x main cross gap between moved (k + 1) next sizes ranges all) first later

pub flex_near : (column : Bool) (x : Label) (main cross : ℤ) (sizes : List ℤ) (ranges : List (ℕ × ℕ)) (all : List rules.Sitting) → IsGridStyle x.grid → IsUnits main → IsUnits cross → AreUnits sizes → length sizes ≤ 65536 → AreSized all → length all ≤ 65536
    → StandNear (flex_numbered column x main cross sizes ranges all)
flex_near column x main cross sizes ranges all style main_is cross_is units few sized count =
    let gap = gap_by (Some main) (pos 0) (main_grid column x).gap in
    let between = gap_by (Some cross) (pos 0) (cross_grid column x).gap in
    let gap_is : IsUnits gap = gap_units (Some main) (main_grid column x).gap (main_axis column x style).gap in
    let between_is : IsUnits between = gap_units (Some cross) (cross_grid column x).gap (cross_axis column x style).gap in
    let free = cross -ℤ gaps between (length sizes) -ℤ sum_of sizes in
    let a : Align = x.content.block.distribution in
    let free_is : IsFree free = cross_left_is cross (gaps between (length sizes)) (sum_of sizes) (length sizes) cross_is (gaps_are between (length sizes) between_is few) (sum_near sizes units) few in
    lines_near column x main cross gap between style main_is gap_is between_is (λ k. content_moved (mode_of a.mode) (is_safe a) free k (length sizes)) (length sizes) few (λ k less. moved_free (mode_of a.mode) (is_safe a) free k (length sizes) less free_is) 0 (pos 0) sizes ranges all
    (omega arith) (omega (arith, ints)) (omega (arith, ints)) units count sized
