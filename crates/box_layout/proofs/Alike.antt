-- The seats of the children of a flex container are the frames of the definitions.
use Rattle.std.proofs.Common.{arith, ap, ◌≡◌, ◌∙◌, sym, refl, ℕ, zero, suc, ◌+◌, ◌-◌, ℤ, pos, ◌+ℤ◌, ◌-ℤ◌, ◌≤ℤ◌, Bool, true, false, int_le, List, [], ◌∷◌, ◌++◌, drop, take, length, map, Option, Some, None, if◌then◌else◌}
use Rattle.std.specs.Prelude.{option_map, slice_range, unwrap_or}
use Rattle.std.specs.Int.{int_max, int_min}
use Rattle.std.specs.List.{drop-map, take-map}
use Rattle.std.specs.Ordering.{int_eq}
use Rattle.std.proofs.lemmas.Bool.Decides.{Decides-int_eq}
use Rattle.std.proofs.lemmas.Int.{ints, int_max_is, int_min_is}
use Rattle.std.proofs.lemmas.List.{length-map, map-append}
use Rattle.lunit.specs.Units.{bottom, clamp, top}
use Rattle.node_arena.specs.declared.number.NodeId.{NodeId}
use Rattle.part_rules.specs.FlexLines.{gaps, line_margins}
use Rattle.part_rules.specs.Lists.{at_most, joined, sum_of}
use Rattle.placing.proofs.Numbers.{map_sorted}
use Rattle.placing.specs.declared.node.Frame.{Frame}
use Rattle.tree_rules.specs.FlexSizes.{Settled, cross_content, cross_grid, is_stretched_across, main_grid, settled_at}
use Rattle.tree_rules.specs.Frames as rules
use Rattle.tree_rules.specs.Frames.{LineAt, auto_margins, column_child, flex_child, given_box, place_across, row_child, settled_across, size_across}
use Rattle.tree_rules.specs.Labels.{Label}
use Rattle.tree_rules.specs.NodeSizes.{Bounds, bounds_of, fitted, inner_start, margin, margins}
use Rattle.tree_rules.specs.Orders.{sorted_by}
use Rattle.tree_rules.specs.declared.query.Given.{Given}
use Rattle.box_layout.specs.declared.seats.Seat.{Seat}
use Rattle.box_layout.specs.declared.sitting.Container.{Container}
use Rattle.box_layout.specs.declared.sitting.Sitting.{Sitting}
use Rattle.box_layout.specs.Seats.{all_seats, autos_of, frame_of_seat, line_seats, moved_by_rest, ordered_seats, outer_main, place_in, seat_by, seat_in, seats_along, seats_from, seats_given, size_in}
use Rattle.box_layout.specs.Sittings.{AreGiven, IsGiven, container_by, flex_numbered, flex_ordered, framed_child, greatest_across, least_across, limits_across, sitting_of}

-- ---- limits

max_left : (a b : ℤ) → b ≤ℤ a → int_max a b ≡ a
max_left a b h = omega (arith, ints, h, int_max_is a b)

max_right : (a b : ℤ) → a ≤ℤ b → int_max a b ≡ b
max_right a b h = omega (arith, ints, h, int_max_is a b)

min_left : (a b : ℤ) → a ≤ℤ b → int_min a b ≡ a
min_left a b h = omega (arith, ints, h, int_min_is a b)

min_right : (a b : ℤ) → b ≤ℤ a → int_min a b ≡ b
min_right a b h = omega (arith, ints, h, int_min_is a b)

clamp_rises : (a b : ℤ) → a ≤ℤ b → clamp a ≤ℤ clamp b
unfolding clamp
clamp_rises a b h = omega (arith, ints, h, int_min_is top a, int_max_is bottom (int_min top a), int_min_is top b, int_max_is bottom (int_min top b))

clamp_top : (z : ℤ) → clamp z ≤ℤ top
unfolding clamp
clamp_top z = omega (arith, ints, int_min_is top z, int_max_is bottom (int_min top z))

clamp_max : (a b : ℤ) → clamp (int_max a b) ≡ int_max (clamp a) (clamp b)
clamp_max a b = by (int_le a b) refl
  where
    by : (t : Bool) → int_le a b ≡ t → clamp (int_max a b) ≡ int_max (clamp a) (clamp b)
    by true e = let h : a ≤ℤ b = omega (arith, ints) in ap clamp (max_right a b h) ∙ sym (max_right (clamp a) (clamp b) (clamp_rises a b h))
    by false e = let h : b ≤ℤ a = omega (arith, ints) in ap clamp (max_left a b h) ∙ sym (max_left (clamp a) (clamp b) (clamp_rises b a h))

clamp_min : (a b : ℤ) → clamp (int_min a b) ≡ int_min (clamp a) (clamp b)
clamp_min a b = by (int_le a b) refl
  where
    by : (t : Bool) → int_le a b ≡ t → clamp (int_min a b) ≡ int_min (clamp a) (clamp b)
    by true e = let h : a ≤ℤ b = omega (arith, ints) in ap clamp (min_left a b h) ∙ sym (min_left (clamp a) (clamp b) (clamp_rises a b h))
    by false e = let h : b ≤ℤ a = omega (arith, ints) in ap clamp (min_right a b h) ∙ sym (min_right (clamp a) (clamp b) (clamp_rises b a h))

max_same : (a b c : ℤ) → int_max (int_max a b) c ≡ int_max a (int_max b c)
max_same a b c = omega (arith, ints, int_max_is a b, int_max_is (int_max a b) c, int_max_is b c, int_max_is a (int_max b c))

most_alike : (most : Option ℤ) (room : ℤ) → int_min (unwrap_or (option_map clamp most) top) (clamp room) ≡ clamp (at_most most room)
most_alike None room = min_right top (clamp room) (clamp_top room)
most_alike (Some m) room = sym (clamp_min m room)

-- limits of lengths are the limits, of which the length is taken at last
fit_alike : (b : Bounds) (room : ℤ) → int_max (least_across b) (int_min (greatest_across b) (clamp room)) ≡ clamp (fitted b room)
fit_alike b room =
    let l = unwrap_or b.least (pos 0) in
    let m = at_most b.most room in
    ap (int_max (least_across b)) (most_alike b.most room)
    ∙ ap (λ z. int_max z (clamp m)) (clamp_max b.inner l)
    ∙ max_same (clamp b.inner) (clamp l) (clamp m)
    ∙ ap (int_max (clamp b.inner)) (sym (clamp_max l m))
    ∙ sym (clamp_max b.inner (int_max l m))

kept : (own z : ℤ) → int_max own (int_min own z) ≡ own
kept own z = omega (arith, ints, int_min_is own z, int_max_is own (int_min own z))

limits_alike : (stretched : Bool) (b : Bounds) (own room : ℤ) → int_max (limits_across stretched b own).0 (int_min (limits_across stretched b own).1 (clamp room)) ≡ (if stretched then clamp (fitted b room) else own)
limits_alike true b own room = fit_alike b room
limits_alike false b own room = kept own (clamp room)

-- ---- one child

-- what a child is given after its line is known
pub new_inline : (s : Settled) (size : ℤ) → s.inline ≡ given_box s.member.kid.label.grid.columns s.box → (settled_across s size).inline ≡ given_box s.member.kid.label.grid.columns size
new_inline s size h = by (int_eq s.box size) refl
  where
    by : (t : Bool) → int_eq s.box size ≡ t → (if t then s else settled_at s.member size).inline ≡ given_box s.member.kid.label.grid.columns size
    by true e = h ∙ ap (given_box s.member.kid.label.grid.columns) ((Decides-int_eq s.box size).0 e)
    by false e = refl

-- a seat as its number with its frame
abbrev seat_pair : Seat → ℤ × Frame
seat_pair s = (s.number, frame_of_seat s)

module _ (x : Label) (main cross : ℤ) (child : ℕ → NodeId) where
  abbrev framed_pair : ℕ × rules.Framed → ℤ × Frame
  framed_pair e = (pos e.0, framed_child child e)

  size_alike : (column : Bool) (l : LineAt) (s : rules.Sitting) → size_in l.size (sitting_of column cross x child s) ≡ size_across column x cross l s
  size_alike column l s =
      let y = s.settled.member.kid.label in
      limits_alike (is_stretched_across column x y) (bounds_of (Some cross) y.content.border_box (cross_grid column y) (cross_content column y)) s.cross (l.size -ℤ margins (cross_grid column y))

  place_alike : (column : Bool) (l : LineAt) (s : rules.Sitting) (size : ℤ) → place_in l (sitting_of column cross x child s) size ≡ place_across column x l s.settled.member.kid.label size
  place_alike column l s size = refl

  seat_alike : (column : Bool) (start across size : ℤ) (s : rules.Sitting) → IsGiven column s
      → seat_pair (seat_by (container_by column x main cross) start across size (sitting_of column cross x child s)) ≡ framed_pair (if column then column_child x start across size s else row_child x start across size s)
  seat_alike true start across size s h =
      let y = s.settled.member.kid.label in
      let n = s.settled.member.number in
      ap (λ (g : Given). (pos n, record { child = child n; rect = record { x = inner_start x.grid.columns +ℤ across; y = inner_start x.grid.rows +ℤ start; width = size; height = s.main }; inline = g; block = given_box y.grid.rows s.main })) (sym (new_inline s.settled size h))
  seat_alike false start across size s h =
      let y = s.settled.member.kid.label in
      let n = s.settled.member.number in
      ap (λ (g : Given). (pos n, record { child = child n; rect = record { x = inner_start x.grid.columns +ℤ start; y = inner_start x.grid.rows +ℤ across; width = s.main; height = size }; inline = g; block = given_box y.grid.rows size })) (sym h)

  child_alike : (column : Bool) (l : LineAt) (start : ℤ) (s : rules.Sitting) → IsGiven column s
      → seat_pair (seat_in (container_by column x main cross) l start (sitting_of column cross x child s)) ≡ framed_pair (flex_child column x cross l start s)
  child_alike column l start s h =
      let y = s.settled.member.kid.label in
      let size = size_across column x cross l s in
      ap (λ z. seat_pair (seat_by (container_by column x main cross) start (place_in l (sitting_of column cross x child s) z) z (sitting_of column cross x child s))) (size_alike column l s)
      ∙ seat_alike column start (place_across column x l y size) size s h

  -- ---- a line

  along_alike : (column : Bool) (l : LineAt) (moved : ℕ → ℤ) (k : ℕ) (at : ℤ) (taken : List ℤ) (line : List rules.Sitting) → AreGiven column line
      → map seat_pair (seats_along (container_by column x main cross) l moved k at taken (map (sitting_of column cross x child) line))
      ≡ map framed_pair (rules.along_line column x cross l moved (container_by column x main cross).gap k at taken line)
  along_alike column l moved k at [] line h = refl
  along_alike column l moved k at (t ∷ []) line h = refl
  along_alike column l moved k at (t ∷ u ∷ taken) [] h = refl
  along_alike column l moved k at (t ∷ u ∷ taken) (s ∷ rest) h =
      let c : Container = container_by column x main cross in
      let g = main_grid column s.settled.member.kid.label in
      let start = at +ℤ moved k +ℤ margin g.margin_start +ℤ t in
      let next = at +ℤ t +ℤ u +ℤ s.main +ℤ margins g +ℤ c.gap in
      ap (λ p. p ∷ map seat_pair (seats_along c l moved (k + 1) next taken (map (sitting_of column cross x child) rest))) (child_alike column l start s h.0)
      ∙ ap (λ ps. framed_pair (flex_child column x cross l start s) ∷ ps) (along_alike column l moved (k + 1) next taken rest h.1)

  outer_alike : (column : Bool) (line : List rules.Sitting) → sum_of (map outer_main (map (sitting_of column cross x child) line)) ≡ sum_of (map (λ (s : rules.Sitting). s.main +ℤ margins (main_grid column s.settled.member.kid.label)) line)
  outer_alike column [] = refl
  outer_alike column (s ∷ rest) = ap (λ z. s.main +ℤ margins (main_grid column s.settled.member.kid.label) +ℤ z) (outer_alike column rest)

  autos_alike : (column : Bool) (line : List rules.Sitting) → joined (map autos_of (map (sitting_of column cross x child) line)) ≡ joined (map (λ (s : rules.Sitting). auto_margins (main_grid column s.settled.member.kid.label)) line)
  autos_alike column [] = refl
  autos_alike column (s ∷ rest) = ap (λ bs. auto_margins (main_grid column s.settled.member.kid.label) ++ bs) (autos_alike column rest)

  line_alike : (column : Bool) (l : LineAt) (line : List rules.Sitting) → AreGiven column line
      → map seat_pair (line_seats (container_by column x main cross) l (map (sitting_of column cross x child) line))
      ≡ map framed_pair (rules.line_framed column x main cross (container_by column x main cross).gap l line)
  line_alike column l line h =
      let c : Container = container_by column x main cross in
      let sat : List Sitting = map (sitting_of column cross x child) line in
      let outer = sum_of (map (λ (s : rules.Sitting). s.main +ℤ margins (main_grid column s.settled.member.kid.label)) line) in
      let autos : List Bool = joined (map (λ (s : rules.Sitting). auto_margins (main_grid column s.settled.member.kid.label)) line) in
      let rest = c.main -ℤ gaps c.gap (length line) -ℤ outer in
      let taken : List ℤ = line_margins rest autos in
      ap (λ n. map seat_pair (seats_given c l n (sum_of (map outer_main sat)) (joined (map autos_of sat)) sat)) (length-map line (sitting_of column cross x child))
      ∙ ap (λ z. map seat_pair (seats_given c l (length line) z (joined (map autos_of sat)) sat)) (outer_alike column line)
      ∙ ap (λ bs. map seat_pair (seats_given c l (length line) outer bs sat)) (autos_alike column line)
      ∙ along_alike column l (moved_by_rest c.along (rest -ℤ sum_of taken) (length line)) 0 (pos 0) taken line h

  -- ---- all lines

  given_drop : (column : Bool) (n : ℕ) (all : List rules.Sitting) → AreGiven column all → AreGiven column (drop n all)
  given_drop column zero all h = h
  given_drop column (suc n) [] h = tt
  given_drop column (suc n) (s ∷ rest) h = given_drop column n rest h.1

  given_take : (column : Bool) (n : ℕ) (all : List rules.Sitting) → AreGiven column all → AreGiven column (take n all)
  given_take column zero all h = tt
  given_take column (suc n) [] h = tt
  given_take column (suc n) (s ∷ rest) h = (h.0, given_take column n rest h.1)

  slice_alike : (column : Bool) (all : List rules.Sitting) (a b : ℕ) → slice_range (map (sitting_of column cross x child) all) a b ≡ map (sitting_of column cross x child) (slice_range all a b)
  slice_alike column all a b = ap (take (b - a)) (drop-map (sitting_of column cross x child) a all) ∙ take-map (sitting_of column cross x child) (b - a) (drop a all)

  lines_alike : (column : Bool) (moved : ℕ → ℤ) (k : ℕ) (at : ℤ) (sizes : List ℤ) (ranges : List (ℕ × ℕ)) (all : List rules.Sitting) → AreGiven column all
      → map seat_pair (seats_from (container_by column x main cross) moved k at sizes ranges (map (sitting_of column cross x child) all))
      ≡ map framed_pair (rules.lines_framed column x main cross (container_by column x main cross).gap (container_by column x main cross).between moved k at sizes ranges all)
  lines_alike column moved k at [] ranges all h = refl
  lines_alike column moved k at (size ∷ sizes) [] all h = refl
  lines_alike column moved k at (size ∷ sizes) (range ∷ ranges) all h =
      let c : Container = container_by column x main cross in
      let l : LineAt = record { at = at +ℤ moved k; size = size } in
      let next = at +ℤ size +ℤ c.between in
      let line : List rules.Sitting = slice_range all range.0 range.1 in
      let more : List Seat = seats_from c moved (k + 1) next sizes ranges (map (sitting_of column cross x child) all) in
      let first : List (ℕ × rules.Framed) = rules.line_framed column x main cross c.gap l line in
      let later : List (ℕ × rules.Framed) = rules.lines_framed column x main cross c.gap c.between moved (k + 1) next sizes ranges all in
      let given : AreGiven column line = given_take column (range.1 - range.0) (drop range.0 all) (given_drop column range.0 all h) in
      ap (λ (xs : List Sitting). map seat_pair (line_seats c l xs ++ more)) (slice_alike column all range.0 range.1)
      ∙ map-append seat_pair (line_seats c l (map (sitting_of column cross x child) line)) more
      ∙ ap (λ ps. ps ++ map seat_pair more) (line_alike column l line given)
      ∙ ap (λ ps. map framed_pair first ++ ps) (lines_alike column moved (k + 1) next sizes ranges all h)
      ∙ sym (map-append framed_pair first later)

  -- ---- in document order

  seconds : {A : Type 0} (f : A → ℤ × Frame) (xs : List A) → map (λ (p : ℤ × Frame). p.1) (map f xs) ≡ map (λ a. (f a).1) xs
  seconds f [] = refl
  seconds f (a ∷ xs) = ap (λ fs. (f a).1 ∷ fs) (seconds f xs)

  order_alike : (seats : List Seat) (framed : List (ℕ × rules.Framed)) → map seat_pair seats ≡ map framed_pair framed → map frame_of_seat (ordered_seats seats) ≡ flex_ordered child framed
  order_alike seats framed e =
      let first : ℤ × Frame → ℤ = λ p. p.0 in
      let sorted : List Seat = ordered_seats seats in
      let ordered : List (ℕ × rules.Framed) = sorted_by (λ (f : ℕ × rules.Framed). pos f.0) framed in
      let same : map seat_pair sorted ≡ map framed_pair ordered =
      sym (map_sorted seat_pair (λ (s : Seat). s.number) first (λ s. refl) seats) ∙ ap (sorted_by first) e ∙ map_sorted framed_pair (λ (f : ℕ × rules.Framed). pos f.0) first (λ f. refl) framed in
      sym (seconds seat_pair sorted) ∙ ap (map (λ (p : ℤ × Frame). p.1)) same ∙ seconds framed_pair ordered

  pub frames_alike : (column : Bool) (sizes : List ℤ) (ranges : List (ℕ × ℕ)) (all : List rules.Sitting) → AreGiven column all
      → map frame_of_seat (ordered_seats (all_seats (container_by column x main cross) sizes ranges (map (sitting_of column cross x child) all))) ≡ flex_ordered child (flex_numbered column x main cross sizes ranges all)
  frames_alike column sizes ranges all h =
      let c : Container = container_by column x main cross in
      order_alike (all_seats c sizes ranges (map (sitting_of column cross x child) all)) (flex_numbered column x main cross sizes ranges all)
      (lines_alike column (moved_by_rest c.across (cross -ℤ gaps c.between (length sizes) -ℤ sum_of sizes) (length sizes)) 0 (pos 0) sizes ranges all h)
