-- The names of the lines of an axis, and the lines that the placement properties name (CSS Grid 2, sections 7, 8.3 and 9).
use Rattle.std.specs.Prelude.{◌≡◌, refl, ℕ, zero, suc, ◌+◌, ◌-◌, min, ℤ, pos, negsuc, neg_ℤ, ◌+ℤ◌, ◌-ℤ◌, int_lt, int_le, Bool, true, false, List, [], ◌∷◌, ◌++◌, filter, reverse, length, codes, bytes_eq, Option, Some, None, unwrap_or, slice_get, get_or, if◌then◌else◌}
use Rattle.std.specs.Int.{int_max, int_min}
use Rattle.std.specs.List.{list_any}
use Rattle.std.specs.Ordering.{int_eq}
use Rattle.lunit.specs.Areas.{spans_overlap}
use Rattle.lunit.specs.Names.{edge_of}
use Rattle.lunit.specs.declared.geometry.Span.{Span}
use Rattle.lunit.specs.declared.geometry.Spot.{Spot}
use Rattle.lunit.specs.declared.geometry.Spot.TheVariants.{At, Free}
use Rattle.lunit.specs.declared.line_value.LineValue.{LineValue}
use Rattle.lunit.specs.declared.line_value.LineValue.TheVariants.{Auto, Line, Reach, Named}
use Rattle.part_rules.specs.Lists.{above_zero}

-- ---- tables of names (CSS Grid 2, 7.2 and 9)

-- a named area of cells, in one axis: its name and the lines between which it lies
abbrev pub NamedSpan : Type 0
NamedSpan = List ℕ × Span

-- The explicit lines of an axis: those from 0 to the number of tracks, each with its names; the areas that give names to subgrids
-- too; and the limit in which all items lie.
pub record Table : Type 0 where
  pub tracks : ℕ
  pub lines : List (List (List ℕ))
  pub areas : List NamedSpan
  -- the first and the last line of the limit
  pub low : ℤ
  pub high : ℤ

-- the name that an area gives to this line at its start or its end (CSS Grid 2, 7.3.2)
abbrev pub area_names : ℤ → NamedSpan → List (List ℕ)
area_names line a =
    let start = if int_eq a.1.start line then edge_of false a.0 ∷ [] else [] in
    let end = if int_eq a.1.end line then edge_of true a.0 ∷ [] else [] in
    start ++ end

-- the names that all these areas give to a line
abbrev pub names_by_areas : ℤ → List NamedSpan → List (List ℕ)
names_by_areas line [] = []
names_by_areas line (a ∷ rest) = area_names line a ++ names_by_areas line rest

-- the names of a line of this table; a line beyond the explicit ones has none
abbrev pub names_at : Table → ℤ → List (List ℕ)
names_at t (pos line) = get_or t.lines line []
names_at t (negsuc line) = []

-- a list of so many lines from this one on, with the names that a function gives them
abbrev pub lines_by : (ℕ → List (List ℕ)) → ℕ → ℕ → List (List (List ℕ))
lines_by names zero line = []
lines_by names (suc more) line = names line ∷ lines_by names more (line + 1)

-- The lines of a grid that is no subgrid in this axis: the sets of its template and the names by its areas. The limit is the lines
-- -10,000 to 10,000 (own rule).
abbrev pub own_table : List (List (List ℕ)) → ℕ → List NamedSpan → Table
own_table sets tracks areas = record {
  tracks = tracks;
  lines = lines_by (λ line. get_or sets line [] ++ names_by_areas (pos line) areas) (tracks + 1) 0;
  areas = areas;
  low =
      neg_ℤ (pos 10000);
  high = pos 10000;
}

-- an area cut to a span and told from its start, if it has a track in common with it
abbrev pub cut_area : Span → NamedSpan → List NamedSpan
cut_area span a =
    if spans_overlap span a.1 then
    (a.0, record { start = int_max span.start a.1.start -ℤ span.start; end = int_min span.end a.1.end -ℤ span.start }) ∷ [] else []

-- all these areas, cut to a span
abbrev pub cut_areas : Span → List NamedSpan → List NamedSpan
cut_areas span [] = []
cut_areas span (a ∷ rest) = cut_area span a ++ cut_areas span rest

-- The lines of a subgrid over a span of its parent (CSS Grid 2, section 9): its own sets, of which spare ones are left out, the names by
-- its own areas, and all names of the parent's lines. Areas of the parent, or taken over by it, that have a track of this axis in
-- common with the span are taken over, cut to it (own rule: only this axis counts; a line in common could also do). Of an own area
-- wholly past the span nothing is left (its start could also name the last line).
abbrev pub subgrid_table : Table → Span → List (List (List ℕ)) → List NamedSpan → Table
subgrid_table parent span sets areas =
    let tracks = above_zero (span.end -ℤ span.start) in
    let own = cut_areas (record { start = pos 0; end = pos tracks }) areas in
    let all = own ++ cut_areas span parent.areas in
    record {
      tracks = tracks;
      lines = lines_by
          (λ line. get_or sets line [] ++ names_by_areas (pos line) all ++ names_at parent (span.start +ℤ pos line)) (tracks + 1) 0;
      areas =
          all;
      low = pos 0;
      high = pos tracks;
    }

-- ---- one line value (CSS Grid 2, 8.3)

-- whether the name is among these
abbrev pub holds_name : List ℕ → List (List ℕ) → Bool
holds_name name names = list_any (λ held. bytes_eq held name) names

-- the lines of this name, among those from this one on
abbrev pub named_from : List ℕ → ℤ → List (List (List ℕ)) → List ℤ
named_from name line [] = []
named_from name line (names ∷ rest) =
    let more = named_from name (line +ℤ pos 1) rest in
    if holds_name name names then line ∷ more else more

-- the lines of this name, in order
abbrev pub named_lines : Table → List ℕ → List ℤ
named_lines t name = named_from name (pos 0) t.lines

-- The k-th of these lines going on; where there are fewer, each line after `last` counts as one.
abbrev pub going_on : List ℤ → ℕ → ℤ → ℤ
going_on lines k last = unwrap_or (slice_get lines (k - 1)) (last +ℤ pos (k - length lines))

-- The k-th of these lines going back; where there are fewer, each line before `first` counts as one.
abbrev pub going_back : List ℤ → ℕ → ℤ → ℤ
going_back lines k first = unwrap_or (slice_get (reverse lines) (k - 1)) (first -ℤ pos (k - length lines))

-- the line of a number: from the start above 0, from the end below 0
abbrev pub numbered : Table → ℤ → ℤ
numbered t (pos k) = pos k -ℤ pos 1
numbered t (negsuc k) = pos t.tracks -ℤ pos k

-- the so-manyth line of a name
abbrev pub numbered_named : Table → ℤ → List ℕ → ℤ
numbered_named t (pos k) name = going_on (named_lines t name) k (pos t.tracks)
numbered_named t (negsuc k) name = going_back (named_lines t name) (k + 1) (pos 0)

-- a bare name: the first line that an area of this name begins or ends at, else the first line of the name itself
abbrev pub named : Table → Bool → List ℕ → ℤ
named t end name = unwrap_or (slice_get (named_lines t (edge_of end name)) 0) (going_on (named_lines t name) 1 (pos t.tracks))

-- what a line value stands for: a line, a span with or without a name, or nothing
pub data Side : Type 0 where
  line : ℤ → Side
  spanning : ℕ → Option (List ℕ) → Side
  open_side : Side

-- what the value at the start, or at the end, stands for (CSS Grid 2, 8.3)
abbrev pub side : Table → Bool → LineValue → Side
side t end Auto = open_side
side t end (Line k None) = line (numbered t k)
side t end (Line k (Some name)) = line (numbered_named t k name)
side t end (Reach k name) = spanning k name
side t end (Named name) = line (named t end name)

-- ---- both sides (CSS Grid 2, 8.3 and 8.3.1)

-- a place from a line to a line
abbrev pub definite : ℤ → ℤ → Spot
definite start end = At (record { start = start; end = end })

-- a span from a line on: so many tracks, or to the so-manyth line of a name after it
abbrev pub span_on : Table → ℤ → ℕ → Option (List ℕ) → ℤ
span_on t start k None = start +ℤ pos k
span_on t start k (Some name) = going_on (filter (λ l. int_lt start l) (named_lines t name)) k (int_max (pos t.tracks) start)

-- a span that ends at a line: so many tracks, or back to the so-manyth line of a name before it
abbrev pub span_back : Table → ℤ → ℕ → Option (List ℕ) → ℤ
span_back t end k None = end -ℤ pos k
span_back t end k (Some name) = going_back (filter (λ l. int_lt l end) (named_lines t name)) k (int_min (pos 0) end)

-- a span beside no line: one with a name counts as 1
abbrev pub free_span : ℕ → Option (List ℕ) → ℕ
free_span k None = k
free_span k (Some name) = 1

-- two lines: in the wrong order they are swapped, and of two equal ones the end is dropped
abbrev pub two_lines : ℕ → ℤ → ℤ → Spot
two_lines automatic s e = if int_lt s e then definite s e else if int_lt e s then definite e s else definite s (s +ℤ pos automatic)

-- The place that two sides stand for, with the span of an item that has none. Of two spans the end's is dropped.
abbrev pub both_sides : Table → ℕ → Side → Side → Spot
both_sides t automatic (line s) (line e) = two_lines automatic s e
both_sides t automatic (line s) (spanning k name) = definite s (span_on t s k name)
both_sides t automatic (line s) open_side = definite s (s +ℤ pos automatic)
both_sides t automatic (spanning k name) (line e) = definite (span_back t e k name) e
both_sides t automatic (spanning k name) (spanning j other) = Free (free_span k name)
both_sides t automatic (spanning k name) open_side = Free (free_span k name)
both_sides t automatic open_side (line e) = definite (e -ℤ pos automatic) e
both_sides t automatic open_side (spanning k name) = Free (free_span k name)
both_sides t automatic open_side open_side = Free automatic

-- ---- the limit (CSS Grid 2, 5.4; that it is at 10,000 is an own rule)

-- A span cut to the limit; one wholly outside becomes the last track on that side.
abbrev pub cut_span : ℤ → ℤ → Span → Span
cut_span low high s =
    if int_le s.end low then record { start = low; end = low +ℤ pos 1 }
    else if int_le high s.start then record { start = high -ℤ pos 1; end = high }
    else record { start = int_max low s.start; end = int_min high s.end }

-- a place within the limit: a definite span is cut, and a free one is no longer than the limit
abbrev pub cut_spot : ℤ → ℤ → Spot → Spot
cut_spot low high (At s) = At (cut_span low high s)
cut_spot low high (Free k) = Free (min k (above_zero (high -ℤ low)))

-- The place of an item in this axis, by its two line values.
abbrev pub resolved : Table → LineValue → LineValue → ℕ → Spot
resolved t start end automatic = cut_spot t.low t.high (both_sides t automatic (side t false start) (side t true end))

-- ---- worked rows

abbrev a_name : List ℕ
a_name = codes "a"

abbrev b_name : List ℕ
b_name = codes "b"

-- two tracks without names
abbrev two_tracks : Table
two_tracks = own_table [] 2 []

-- three tracks with the lines `a`, `a`, `a` and `z`
abbrev repeated : Table
repeated = own_table ((a_name ∷ []) ∷ (a_name ∷ []) ∷ (a_name ∷ []) ∷ (codes "z" ∷ []) ∷ []) 3 []

abbrev number : ℤ → LineValue
number k = Line k None

-- 3 / 1 is 1 / 3: the lines 0 and 2.
wrong_order : resolved two_tracks (number (pos 3)) (number (pos 1)) 1 ≡ definite (pos 0) (pos 2)
wrong_order = refl

-- 2 / 2: the end is dropped.
equal_lines : resolved two_tracks (number (pos 2)) (number (pos 2)) 1 ≡ definite (pos 1) (pos 2)
equal_lines = refl

-- span 2 / span 3: the end's is dropped.
two_spans : resolved two_tracks (Reach 2 None) (Reach 3 None) 1 ≡ Free 2
two_spans = refl

-- -1 / auto: the last line of the explicit grid, and one track from it on.
last_line : resolved two_tracks (number (negsuc 0)) Auto 1 ≡ definite (pos 2) (pos 3)
last_line = refl

-- 20000 / auto lies past the limit: the last track there.
far_line : resolved two_tracks (number (pos 20000)) Auto 1 ≡ definite (pos 9999) (pos 10000)
far_line = refl

-- -20000 / auto: 2 + 1 - 20000 is before the limit.
far_back : resolved two_tracks (number (neg_ℤ (pos 20000))) Auto 1 ≡ definite (neg_ℤ (pos 10000)) (neg_ℤ (pos 9999))
far_back = refl

-- -1 a is the last line of the name: line 2.
last_named : resolved repeated (Line (negsuc 0) (Some a_name)) Auto 1 ≡ definite (pos 2) (pos 3)
last_named = refl

-- 5 a: there are three, so the second line after line 3. -5 a: the second line before line 0.
past_named : resolved repeated (Line (pos 5) (Some a_name)) Auto 1 ≡ definite (pos 5) (pos 6)
past_named = refl

before_named : resolved repeated (Line (negsuc 4) (Some a_name)) Auto 1 ≡ definite (neg_ℤ (pos 2)) (neg_ℤ (pos 1))
before_named = refl

-- 1 / span 2 a: of the lines after line 0 the second of the name is line 2. 1 / span 4 a: two follow, so line 3 + 2.
span_to_name : resolved repeated (number (pos 1)) (Reach 2 (Some a_name)) 1 ≡ definite (pos 0) (pos 2)
span_to_name = refl

span_past_name : resolved repeated (number (pos 1)) (Reach 4 (Some a_name)) 1 ≡ definite (pos 0) (pos 5)
span_past_name = refl

-- span 2 z / 2: no line of the name stands before line 1, so two lines before line 0.
span_back_past : resolved repeated (Reach 2 (Some (codes "z"))) (number (pos 2)) 1 ≡ definite (neg_ℤ (pos 2)) (pos 1)
span_back_past = refl

-- span 3 a / auto: a span with a name beside no line is 1; auto / auto has the automatic span.
named_span : resolved repeated (Reach 3 (Some a_name)) Auto 4 ≡ Free 1
named_span = refl

automatic : resolved repeated Auto Auto 4 ≡ Free 4
automatic = refl

-- auto / 4: the automatic span back from line 3.
automatic_back : resolved repeated Auto (number (pos 4)) 2 ≡ definite (pos 1) (pos 3)
automatic_back = refl

-- an area `b` over the lines 1 to 2 of two tracks: b / b lies on it
area_lines : resolved (own_table [] 2 ((b_name, record { start = pos 1; end = pos 2 }) ∷ [])) (Named b_name) (Named b_name) 1 ≡ definite (pos 1) (pos 2)
area_lines = refl

-- a name that no line has: `1 b` is the first line after the explicit ones, for both sides, so the end is dropped
no_such_name : resolved two_tracks (Named b_name) (Named b_name) 1 ≡ definite (pos 3) (pos 4)
no_such_name = refl

-- A subgrid over the lines 1 to 3 of a parent with the area `b` over 0 to 2: it begins at the subgrid's line 0, cut, and ends at 1.
abbrev cut_parent : Table
cut_parent = subgrid_table (own_table [] 3 ((b_name, record { start = pos 0; end = pos 2 }) ∷ [])) (record { start = pos 1; end = pos 3 }) [] []

taken_over : resolved cut_parent (Named b_name) (Named b_name) 1 ≡ definite (pos 0) (pos 1)
taken_over = refl

-- In a subgrid the limit is its own lines: 5 / auto is the last track, and a free span is at most 2.
subgrid_limit : resolved cut_parent (number (pos 5)) Auto 1 ≡ definite (pos 1) (pos 2)
subgrid_limit = refl

subgrid_span : resolved cut_parent (Reach 7 None) Auto 1 ≡ Free 2
subgrid_span = refl

-- Its lines have its own sets, of which a fourth is spare, and the names of the parent's lines 1 and 2, `a` and `a`.
inherited : named_lines (subgrid_table repeated (record { start = pos 1; end = pos 3 }) ([] ∷ [] ∷ (a_name ∷ []) ∷ (a_name ∷ []) ∷ []) []) a_name
    ≡ pos 0 ∷ pos 1 ∷ pos 2 ∷ []
inherited = refl

-- Lines of the parent past its explicit ones have no names, and an own area wholly past the span gives none.
past_parent : named_lines
    (subgrid_table repeated (record { start = pos 3; end = pos 5 }) [] ((b_name, record { start = pos 2; end = pos 4 }) ∷ []))
    (codes "b-start") ≡ []
past_parent = refl

-- An own area that reaches past the span ends at its last line.
own_cut : named_lines (subgrid_table repeated (record { start = pos 0; end = pos 2 }) [] ((b_name, record { start = pos 1; end = pos 4 }) ∷ []))
    (codes "b-end") ≡ pos 2 ∷ []
own_cut = refl
