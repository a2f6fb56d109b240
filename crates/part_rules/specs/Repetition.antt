-- How often an automatic repeat stands, which of its tracks collapse, and the functions of the tracks of an axis (CSS Grid 2, 7.2.3.2 and 7.6).
use Rattle.std.specs.Prelude.{◌≡◌, refl, ℕ, zero, suc, ◌+◌, ◌-◌, ◌*◌, ◌%◌, min, nat_lt, ℤ, pos, negsuc, ◌+ℤ◌, ◌-ℤ◌, ◌*ℤ◌, int_lt, int_le, Bool, true, false, not, ◌&&◌, List, [], ◌∷◌, length, Option, Some, None, unwrap_or, slice_get, if◌then◌else◌}
use Rattle.std.specs.Int.{int_max}
use Rattle.std.specs.List.{list_any}
use Rattle.lunit.specs.Units.{floor_div}
use Rattle.lunit.specs.declared.geometry.Span.{Span}
use Rattle.part_rules.specs.declared.names.RepeatSpace.{RepeatSpace}
use Rattle.part_rules.specs.declared.names.RepeatSpace.TheVariants.{Fits, Fills, Endless}
use Rattle.part_rules.specs.Lists.{sum_of, above_zero}

-- ---- counting (CSS Grid 2, 7.2.3.2)

-- The length as which a track counts, from its min and its max function where these are a length or a percentage: the max function,
-- floored by the min function; else the min function; at least 64 units, which is one pixel (own rule).
abbrev pub counted : Option ℤ → Option ℤ → ℤ
counted least (Some most) = int_max (pos 64) (int_max (unwrap_or least most) most)
counted least None = int_max (pos 64) (unwrap_or least (pos 0))

-- the total of the other tracks, so many repetitions, and the gutters between all tracks
abbrev pub total_with : List ℤ → List ℤ → ℤ → ℕ → ℤ
total_with fixed repeated gap count = sum_of fixed +ℤ sum_of repeated *ℤ pos count +ℤ gap *ℤ pos (length fixed + length repeated * count - 1)

-- the greatest number from 1 to this one that passes the test, or 1
unfoldable pub greatest_passing : (ℕ → Bool) → ℕ → ℕ
greatest_passing test zero = 1
greatest_passing test (suc n) = if test (suc n) then suc n else greatest_passing test n

-- the least number, from this one up to so many more, that passes the test, or else the last of them
unfoldable pub least_passing : (ℕ → Bool) → ℕ → ℕ → ℕ
least_passing test zero n = n
least_passing test (suc more) n = if test n then n else least_passing test more (n + 1)

-- The number of repetitions: the most whose total does not pass the size, at least 1; or the fewest whose total reaches the least
-- size, at least 1 (a least size of 0 could also ask for none); else 1. It is at most 10,000 (own rule).
unfoldable pub repetitions : List ℤ → List ℤ → ℤ → RepeatSpace → ℕ
repetitions fixed repeated gap (Fits size) = greatest_passing (λ count. int_le (total_with fixed repeated gap count) size) 10000
repetitions fixed repeated gap (Fills size) = least_passing (λ count. int_le size (total_with fixed repeated gap count)) 9999 1
repetitions fixed repeated gap Endless = 1

-- ---- the same by division

-- what one repetition more takes
abbrev pub step_of : List ℤ → ℤ → ℤ
step_of repeated gap = sum_of repeated +ℤ gap *ℤ pos (length repeated)

-- how many repetitions of this step beside the first one fit the room that the first one leaves, up to 9,999
abbrev pub further_fitting : ℤ → ℤ → ℕ
further_fitting (pos (suc s)) room = min (above_zero (floor_div room (suc s))) 9999
further_fitting step room = if int_le (step *ℤ pos 9999) room then 9999 else 0

-- how many it takes to fill that room, up to 9,999
abbrev pub further_filling : ℤ → ℤ → ℕ
further_filling (pos (suc s)) room = min (above_zero (floor_div (room +ℤ pos s) (suc s))) 9999
further_filling step room = if int_le room (pos 0) then 0 else 9999

-- The number of repetitions by one division. It is the number that is counted (see the laws), and computes sooner.
abbrev pub repetitions_by_division : List ℤ → List ℤ → ℤ → RepeatSpace → ℕ
repetitions_by_division fixed repeated gap (Fits size) = further_fitting (step_of repeated gap) (size -ℤ total_with fixed repeated gap 1) + 1
repetitions_by_division fixed repeated gap (Fills size) = further_filling (step_of repeated gap) (size -ℤ total_with fixed repeated gap 1) + 1
repetitions_by_division fixed repeated gap Endless = 1

-- ---- `auto-fit` (CSS Grid 2, 7.2.3.2)

-- whether a span has the track at this coordinate
abbrev pub covers : ℤ → Span → Bool
covers at s = int_le s.start at && int_lt at s.end

-- Whether the track at this coordinate collapses: it is one of the repeated ones, from the first of them up to the one after the
-- last, and no item's area, once cut to the limit, covers it.
abbrev pub collapses : ℤ → ℤ → List Span → ℤ → Bool
collapses first after areas at = (int_le first at && int_lt at after) && not (list_any (covers at) areas)

-- ---- the functions of tracks (CSS Grid 2, 7.1 and 7.6)

-- the item of a list that repeats without end
abbrev pub cycled : {A : Type 0} → List A → ℕ → Option A
cycled [] n = None
cycled (x ∷ xs) n = slice_get (x ∷ xs) (n % length (x ∷ xs))

-- the item of a list that repeats without end, counted back from its last item
abbrev pub cycled_back : {A : Type 0} → List A → ℕ → Option A
cycled_back [] n = None
cycled_back (x ∷ xs) n = slice_get (x ∷ xs) (length xs - n % length (x ∷ xs))

-- The size of the track at this coordinate: a track of the template has its own; the automatic list repeats from the first track
-- after the template's, also where that is explicit by areas alone, and back from the track before coordinate 0.
abbrev pub size_at : {A : Type 0} → List A → List A → ℤ → Option A
size_at template autos (pos at) = if nat_lt at (length template) then slice_get template at else cycled autos (at - length template)
size_at template autos (negsuc back) = cycled_back autos back

-- ---- worked rows, in units

-- Three tracks of 6400 and two gutters of 640 are 20480, and four are 27520: 22400 has room for three.
three_fit : repetitions [] (pos 6400 ∷ []) (pos 640) (Fits (pos 22400)) ≡ 3
unfolding repetitions greatest_passing
three_fit = refl

just_three : repetitions [] (pos 6400 ∷ []) (pos 640) (Fits (pos 20480)) ≡ 3
unfolding repetitions greatest_passing
just_three = refl

not_three : repetitions [] (pos 6400 ∷ []) (pos 640) (Fits (pos 20479)) ≡ 2
unfolding repetitions greatest_passing
not_three = refl

-- Not even one fits: still one.
none_fits : repetitions [] (pos 6400 ∷ []) (pos 0) (Fits (pos 100)) ≡ 1
unfolding repetitions greatest_passing
none_fits = refl

-- A track of 100 beside two of 64 and 64: with one repetition 100 + 128 + 20 = 248, with two 100 + 256 + 40 = 396.
with_fixed : repetitions (pos 100 ∷ []) (pos 64 ∷ pos 64 ∷ []) (pos 10) (Fits (pos 395)) ≡ 1
unfolding repetitions greatest_passing
with_fixed = refl

-- Three tracks of 6400 and two gutters reach 20000, and two with one gutter, 13440, do not.
three_fill : repetitions [] (pos 6400 ∷ []) (pos 640) (Fills (pos 20000)) ≡ 3
unfolding repetitions least_passing
three_fill = refl

-- A least size of 0 is reached by none, but there is one repetition.
one_fills : repetitions [] (pos 6400 ∷ []) (pos 0) (Fills (pos 0)) ≡ 1
unfolding repetitions least_passing
one_fills = refl

endless : repetitions [] (pos 64 ∷ []) (pos 0) Endless ≡ 1
unfolding repetitions
endless = refl

-- 2^30 over tracks of 64 would be 16,777,216.
at_most_10000 : repetitions [] (pos 64 ∷ []) (pos 0) (Fits (pos 1073741824)) ≡ 10000
unfolding repetitions greatest_passing
at_most_10000 = refl

-- How often the tracks of the rows above stand, by division. 22400 - 6400 = 16000 has room for two steps of 7040; 13600 is reached by two
-- of them.
three_fit_by_division : repetitions_by_division [] (pos 6400 ∷ []) (pos 640) (Fits (pos 22400)) ≡ 3
unfolding floor_div
three_fit_by_division = refl

not_three_by_division : repetitions_by_division [] (pos 6400 ∷ []) (pos 640) (Fits (pos 20479)) ≡ 2
unfolding floor_div
not_three_by_division = refl

none_fits_by_division : repetitions_by_division [] (pos 6400 ∷ []) (pos 0) (Fits (pos 100)) ≡ 1
unfolding floor_div
none_fits_by_division = refl

three_fill_by_division : repetitions_by_division [] (pos 6400 ∷ []) (pos 640) (Fills (pos 20000)) ≡ 3
unfolding floor_div
three_fill_by_division = refl

most_by_division : repetitions_by_division [] (pos 64 ∷ []) (pos 0) (Fits (pos 1073741824)) ≡ 10000
unfolding floor_div
most_by_division = refl

-- A max function of 50 under a min function of 80 counts as 80; a min function of 10 alone as 64.
counted_both : counted (Some (pos 80)) (Some (pos 50)) ≡ pos 80
counted_both = refl

counted_least : counted (Some (pos 10)) None ≡ pos 64
counted_least = refl

-- Of the tracks 0 to 2 the area over 0 to 1 keeps the first, and track 3 is not repeated.
collapsed_second : collapses (pos 0) (pos 3) (record { start = pos 0; end = pos 1 } ∷ []) (pos 1) ≡ true
collapsed_second = refl

kept_first : collapses (pos 0) (pos 3) (record { start = pos 0; end = pos 1 } ∷ []) (pos 0) ≡ false
kept_first = refl

not_repeated : collapses (pos 0) (pos 3) [] (pos 3) ≡ false
not_repeated = refl

-- A template of two and an automatic list of 7, 8 and 9: track 2 has 7, track 5 again 7, track -1 has 9 and track -4 again 9.
auto_first : size_at {A = ℕ} (1 ∷ 2 ∷ []) (7 ∷ 8 ∷ 9 ∷ []) (pos 2) ≡ Some 7
auto_first = refl

auto_again : size_at {A = ℕ} (1 ∷ 2 ∷ []) (7 ∷ 8 ∷ 9 ∷ []) (pos 5) ≡ Some 7
auto_again = refl

auto_back : size_at {A = ℕ} (1 ∷ 2 ∷ []) (7 ∷ 8 ∷ 9 ∷ []) (negsuc 0) ≡ Some 9
auto_back = refl

auto_back_again : size_at {A = ℕ} (1 ∷ 2 ∷ []) (7 ∷ 8 ∷ 9 ∷ []) (negsuc 3) ≡ Some 9
auto_back_again = refl

by_template : size_at {A = ℕ} (1 ∷ 2 ∷ []) (7 ∷ 8 ∷ 9 ∷ []) (pos 1) ≡ Some 2
by_template = refl
