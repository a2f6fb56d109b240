-- Sharing a space among rows: in equal parts, and by weights.
use Rattle.std.specs.Prelude.{◌≡◌, refl, ℕ, zero, suc, ◌+◌, ◌-◌, ◌/◌, ◌==◌, ◌≤◌, ◌<◌, nat_lt, ℤ, pos, negsuc, ◌+ℤ◌, ◌-ℤ◌, ◌*ℤ◌, int_lt, Bool, true, false, ◌||◌, ◌⊎◌, List, [], ◌∷◌, map, length, Option, Some, None, if◌then◌else◌}
use Rattle.std.specs.List.{list_any}
use Rattle.lunit.specs.Units.{floor_div}
use Rattle.part_rules.specs.declared.share.Share.{Share}
use Rattle.part_rules.specs.Lists.{total_of}

-- ---- in equal parts (own rule): one unit at a time to the rows in their order, round after round

-- whether this room, of which so much is used, takes one unit more; no room has no end
abbrev pub below : Option ℤ → ℤ → Bool
below None got = true
below (Some room) got = int_lt got room

-- whether a row takes one unit more
abbrev pub has_room : Share → Bool
has_room s = below s.room s.got

-- a row with one unit more
abbrev pub one_more : Share → Share
one_more s = record s { got = s.got +ℤ pos 1 }

-- rows with what each has got so far, and the units that are left
pub record Handed : Type 0 where
  pub rows : List Share
  pub left : ℕ

-- rows with what each has got, with this row before the others
abbrev pub after_row : Share → Handed → Handed
after_row s h = record { rows = s ∷ h.rows; left = h.left }

-- One round with so many units (own rule): each row in its order gets one unit, but for a row whose room is used up; the
-- round ends where no unit is left.
abbrev pub round : ℕ → List Share → Handed
round zero rows = record { rows = rows; left = 0 }
round (suc n) [] = record { rows = []; left = suc n }
round (suc n) (s ∷ rest) = if has_room s then after_row (one_more s) (round n rest) else after_row s (round (suc n) rest)

-- What is handed out after so many rounds, each with the units that the last one left.
unfoldable pub rounds : ℕ → Handed → Handed
rounds zero h = h
rounds (suc k) h = rounds k (round h.left h.rows)

-- a row before it has got anything
abbrev pub with_nothing : Share → Share
with_nothing s = record s { got = pos 0 }

-- What is handed out of so many units (own rule). A round that gives no unit finds no row with room, so after as many rounds as there are
-- units either no unit is left or no row has room.
abbrev pub handed : ℕ → List Share → Handed
handed n rows = rounds n (record { rows = map with_nothing rows; left = n })

-- no unit is left, or no row has room (own rule)
abbrev pub IsDone : Handed → Type 0
IsDone h = (h.left ≡ 0) ⊎ (list_any has_room h.rows ≡ false)

-- The rows with what each gets of the space (own rule). Nothing is given of a space below zero.
abbrev pub shared_rows : ℤ → List Share → List Share
shared_rows (pos n) rows = (handed n rows).rows
shared_rows (negsuc n) rows = map with_nothing rows

-- What is left of the space (own rule). A space below zero is left as it is.
abbrev pub left_over : ℤ → List Share → ℤ
left_over (pos n) rows = pos (handed n rows).left
left_over (negsuc n) rows = negsuc n

-- a space of at least 0 is handed out to the end, or no row has room
abbrev pub IsShared : ℤ → List Share → Type 0
IsShared (pos n) rows = IsDone (handed n rows)
IsShared (negsuc n) rows = Unit {0}

-- ---- the same by levels (own rule): rows that are filled side by side, as buckets

-- the most units that a row of this room takes, or none where it takes any number; a room below zero takes no unit
abbrev pub end_of : Option ℤ → Option ℕ
end_of None = None
end_of (Some (pos units)) = Some units
end_of (Some (negsuc n)) = Some 0

-- whether a row of this end takes more than the level
abbrev pub is_above : ℕ → Option ℕ → Bool
is_above level None = true
is_above level (Some end) = nat_lt level end

-- what a row of this end has at the level: as much as the level, or its end where that is less
abbrev pub up_to : ℕ → Option ℕ → ℕ
up_to level None = level
up_to level (Some end) = if nat_lt level end then level else end

-- a row that is filled to the level
abbrev pub filled_to : ℕ → Share → Share
filled_to level s = record s { got = pos (up_to level (end_of s.room)) }

-- how many rows take more than the level
abbrev pub above : ℕ → List Share → ℕ
above level [] = 0
above level (s ∷ rest) = if is_above level (end_of s.room) then suc (above level rest) else above level rest

-- the units that rows filled to the level have
abbrev pub used : ℕ → List Share → ℕ
used level [] = 0
used level (s ∷ rest) = up_to level (end_of s.room) + used level rest

-- The level rises in turns: by what each row that takes more would get of the units that are left, until that is not one unit
-- more for each of them, or no row takes more.
abbrev pub level_from : ℕ → ℕ → List Share → ℕ → ℕ
level_from zero n rows level = level
level_from (suc turns) n rows level =
    let left = n - used level rows in
    let more = above level rows in
    if nat_lt left more || more == 0 then level else level_from turns n rows (level + left / more)

-- The level to which so many units fill the rows. Each turn that leaves units for a further one has filled up a row, so as many
-- turns as rows and one are enough.
abbrev pub level_of : ℕ → List Share → ℕ
level_of n rows = level_from (suc (length rows)) n rows 0

-- the greatest level whose total does not pass the units, or one that no row takes more than
pub record IsLevel (n : ℕ) (rows : List Share) (level : ℕ) : Type 0 where
  pub fits : used level rows ≤ n
  pub greatest : (n < used (suc level) rows) ⊎ (above level rows ≡ 0)

-- What is handed out of so many units by one level (own rule): all rows rise to it together, and the odd units go to the first rows that
-- take more, as in one round. It is what the rounds hand out (see the laws), and computes at any size.
unfoldable pub handed_by_level : ℕ → List Share → Handed
handed_by_level n rows =
    let level = level_of n rows in
    round (n - used level rows) (map (filled_to level) rows)

-- a row with this room, in cases so that the room is computed once
abbrev pub roomy : Option ℤ → Share
roomy None = record { room = None; got = pos 0 }
roomy (Some (pos n)) = record { room = Some (pos n); got = pos 0 }
roomy (Some (negsuc n)) = record { room = Some (negsuc n); got = pos 0 }

-- What is handed out of so many units to rows with these rooms.
abbrev pub handed_to : ℕ → List (Option ℤ) → Handed
handed_to n rooms = handed_by_level n (map roomy rooms)

-- What each row gets of the space, by the rooms alone (own rule).
abbrev pub shares : ℤ → List (Option ℤ) → List ℤ
shares (pos n) rooms = map (λ (s : Share). s.got) (handed_to n rooms).rows
shares (negsuc n) rooms = map (λ (r : Option ℤ). pos 0) rooms

-- What is left of the space when the rows have got theirs (own rule).
abbrev pub unshared : ℤ → List (Option ℤ) → ℤ
unshared (pos n) rooms = pos (handed_to n rooms).left
unshared (negsuc n) rooms = negsuc n

-- ---- by weights (own rule)

-- the part of a space that so much of the whole weight makes, rounded down
abbrev pub part : ℤ → ℕ → ℕ → ℤ
part space whole weight = floor_div (space *ℤ pos weight) whole

-- The parts of the rows after rows of the weight `before`: each is what the sum of the weights up to the row makes, less
-- what the sum of the weights before it makes.
abbrev pub apportioned_after : ℕ → ℤ → ℕ → List ℕ → List ℤ
apportioned_after before space whole [] = []
apportioned_after before space whole (w ∷ ws) = (part space whole (before + w) -ℤ part space whole before) ∷ apportioned_after (before + w) space whole ws

-- The parts of a space by weights, of a whole weight that can be greater than their sum (own rule).
abbrev pub apportioned : ℤ → ℕ → List ℕ → List ℤ
apportioned = apportioned_after 0

-- The parts of a space by weights, where nothing else is named as the whole weight (own rule).
abbrev pub apportioned_whole : ℤ → List ℕ → List ℤ
apportioned_whole space ws = apportioned space (total_of ws) ws

-- ---- worked rows

-- 6401 units to two rows: 3200 rounds give each row 3200, and the odd unit goes to the first.
odd_unit : shares (pos 6401) (None ∷ None ∷ []) ≡ pos 3201 ∷ pos 3200 ∷ []
unfolding handed_by_level
odd_unit = refl

-- 6400 units to three rows: 2133 rounds of three units, and one unit more.
thirds : shares (pos 6400) (None ∷ None ∷ None ∷ []) ≡ pos 2134 ∷ pos 2133 ∷ pos 2133 ∷ []
unfolding handed_by_level
thirds = refl

-- 100,000 units, the second row with a room of 30: at the level 33,333 the rows have 66,696, and what is left makes 16,652 more for
-- each of the two others, so 49,985.
many_units : shares (pos 100000) (None ∷ Some (pos 30) ∷ None ∷ []) ≡ pos 49985 ∷ pos 30 ∷ pos 49985 ∷ []
unfolding handed_by_level
many_units = refl

-- 2^30 units to three rows: 357,913,941 for each, and the odd unit to the first.
most_units : shares (pos 1073741824) (None ∷ None ∷ None ∷ []) ≡ pos 357913942 ∷ pos 357913941 ∷ pos 357913941 ∷ []
unfolding handed_by_level
most_units = refl

-- The rounds are worked too: 7 units, rooms 1, 4 and without end, are 1, 1, 1 and 0, 1, 1 and 0, 1, 1.
by_rounds : shared_rows (pos 7) (roomy (Some (pos 1)) ∷ roomy (Some (pos 4)) ∷ roomy None ∷ []) ≡
    record { room = Some (pos 1); got = pos 1 } ∷ record { room = Some (pos 4); got = pos 3 } ∷ record { room = None; got = pos 3 } ∷ []
unfolding rounds
by_rounds = refl

by_levels : shares (pos 7) (Some (pos 1) ∷ Some (pos 4) ∷ None ∷ []) ≡ pos 1 ∷ pos 3 ∷ pos 3 ∷ []
unfolding handed_by_level
by_levels = refl

-- 5 units, rooms 1, without end and 2. First round 1, 1, 1. Second: the first row is full, so 0, 1, 1. Nothing is left.
full_row : shares (pos 5) (Some (pos 1) ∷ None ∷ Some (pos 2) ∷ []) ≡ pos 1 ∷ pos 2 ∷ pos 2 ∷ []
unfolding handed_by_level
full_row = refl

-- 19200 units, rooms 1280 and 30: both are used up, and 19200 - 1310 = 17890 units are left.
all_full : unshared (pos 19200) (Some (pos 1280) ∷ Some (pos 30) ∷ []) ≡ pos 17890
unfolding handed_by_level
all_full = refl

-- No room and a room below zero take nothing: 7 units all go to the third row.
no_room : shares (pos 7) (Some (pos 0) ∷ Some (negsuc 4) ∷ None ∷ []) ≡ pos 0 ∷ pos 0 ∷ pos 7 ∷ []
unfolding handed_by_level
no_room = refl

no_rows : unshared (pos 3) [] ≡ pos 3
unfolding handed_by_level
no_rows = refl

-- A space of -4: nothing is given, and -4 is left.
below_zero : shares (negsuc 3) (None ∷ []) ≡ pos 0 ∷ []
below_zero = refl

below_zero_left : unshared (negsuc 3) (None ∷ []) ≡ negsuc 3
below_zero_left = refl

-- What a row had before does not count: 4 units to one row that came with 9.
had_before : shared_rows (pos 4) (record { room = None; got = pos 9 } ∷ []) ≡ record { room = None; got = pos 4 } ∷ []
unfolding rounds
had_before = refl

-- 6400 by the weights 1, 1, 1: the sums make floor(6400 / 3) = 2133, floor(12800 / 3) = 4266 and 6400.
three_parts : apportioned_whole (pos 6400) (1000 ∷ 1000 ∷ 1000 ∷ []) ≡ pos 2133 ∷ pos 2133 ∷ pos 2134 ∷ []
unfolding floor_div
three_parts = refl

-- 6400 by the weight 500 of a whole weight of 1000: half of it.
half_weight : apportioned (pos 6400) 1000 (500 ∷ []) ≡ pos 3200 ∷ []
unfolding floor_div
half_weight = refl

-- -7 by the weights 1, 0, 2: floor(-7 / 3) = -3, again -3, and -7; so -3, 0 and -4.
negative_parts : apportioned_whole (negsuc 6) (1 ∷ 0 ∷ 2 ∷ []) ≡ negsuc 2 ∷ pos 0 ∷ negsuc 3 ∷ []
unfolding floor_div
negative_parts = refl
