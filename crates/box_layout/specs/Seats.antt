-- Where the children of a flex container stand in their lines, by what the code holds of them. The proofs show that these are the frames of
-- the definitions (CSS Flexbox 1, 9.4 to 9.6).
use Rattle.std.specs.Prelude.{ℕ, ◌+◌, ℤ, pos, ◌+ℤ◌, ◌-ℤ◌, int_lt, Bool, ◌&&◌, ◌||◌, List, [], ◌∷◌, ◌++◌, map, length, slice_range, if◌then◌else◌}
use Rattle.std.specs.Int.{int_max, int_min}
use Rattle.lunit.specs.Units.{clamp}
use Rattle.part_rules.specs.Alignment.{auto_taken, content_moved, self_moved}
use Rattle.part_rules.specs.FlexLines.{gaps, line_margins}
use Rattle.part_rules.specs.Lists.{joined, sum_of}
use Rattle.placing.specs.declared.node.Frame.{Frame}
use Rattle.style_types.specs.declared.value.Align.{Align}
use Rattle.tree_rules.specs.Distribution.{is_safe, mode_of}
use Rattle.tree_rules.specs.Frames.{LineAt}
use Rattle.tree_rules.specs.NodeSizes.{content_of_box, is_auto_margin, margin}
use Rattle.tree_rules.specs.Orders.{sorted_by}
use Rattle.tree_rules.specs.declared.query.Given.TheVariants as given
use Rattle.box_layout.specs.declared.aligned.Margins.{Margins}
use Rattle.box_layout.specs.BothMargins.{both_margins}
use Rattle.box_layout.specs.declared.seats.Seat.{Seat}
use Rattle.box_layout.specs.declared.sitting.Container.{Container}
use Rattle.box_layout.specs.declared.sitting.Sitting.{Sitting}

-- ---- one child

-- the size of its border box across, in a line of this size
abbrev pub size_in : ℤ → Sitting → ℤ
size_in size s = int_max s.least (int_min s.most (clamp (size -ℤ both_margins s.across)))

-- whether a margin across is `auto`
abbrev pub has_auto : Margins → Bool
has_auto m = is_auto_margin m.start || is_auto_margin m.end

-- where its border box of this size starts across
abbrev pub place_in : LineAt → Sitting → ℤ → ℤ
place_in l s size =
    let room = l.size -ℤ size -ℤ both_margins s.across in
    let taken = auto_taken room (is_auto_margin s.across.start) (is_auto_margin s.across.end) in
    let by = self_moved (mode_of s.align.mode) (is_safe s.align) (room -ℤ taken.0 -ℤ taken.1) in
    let start = if int_lt room (pos 0) && has_auto s.across then pos 0 else by in
    l.at +ℤ margin s.across.start +ℤ taken.0 +ℤ start

-- the seat of a child with these places, and this size across
abbrev pub seat_by : Container → ℤ → ℤ → ℤ → Sitting → Seat
seat_by c start across size s =
    let row : Seat = record {
      number = pos s.number;
      child = s.child;
      rect = record
          { x = c.inline_start +ℤ start; y = c.block_start +ℤ across; width = s.main; height = size };
      inline = content_of_box s.inline_inner
          s.main;
      block = content_of_box s.block_inner size;
    } in
    let column : Seat = record {
      number = pos s.number;
      child = s.child;
      rect = record
          { x = c.inline_start +ℤ across; y = c.block_start +ℤ start; width = size; height = s.main };
      inline = content_of_box s.inline_inner
          size;
      block = content_of_box s.block_inner s.main;
    } in
    if c.column then column else row

-- the seat of a child in its line
abbrev pub seat_in : Container → LineAt → ℤ → Sitting → Seat
seat_in c l start s = seat_by c start (place_in l s (size_in l.size s)) (size_in l.size s) s

-- the frame of a seat
abbrev pub frame_of_seat : Seat → Frame
frame_of_seat s = record { child = s.child; rect = s.rect; inline = given.Size s.inline; block = given.Size s.block }

-- ---- a line

-- the size along the line with both margins
abbrev pub outer_main : Sitting → ℤ
outer_main s = s.main +ℤ both_margins s.along

-- whether each margin along the line is `auto`
abbrev pub autos_of : Sitting → List Bool
autos_of s = is_auto_margin s.along.start ∷ is_auto_margin s.along.end ∷ []

-- the seats of the children of a line, one after another
abbrev pub seats_along : Container → LineAt → (ℕ → ℤ) → ℕ → ℤ → List ℤ → List Sitting → List Seat
seats_along c l moved k at [] rest = []
seats_along c l moved k at (t ∷ []) rest = []
seats_along c l moved k at (t ∷ u ∷ taken) [] = []
seats_along c l moved k at (t ∷ u ∷ taken) (s ∷ rest) =
    let start = at +ℤ moved k +ℤ margin s.along.start +ℤ t in
    let next = at +ℤ t +ℤ u +ℤ s.main +ℤ both_margins s.along +ℤ c.gap in
    seat_in c l start s ∷ seats_along c l moved (k + 1) next taken rest

-- what a line of so many children, whose outer sizes sum to this, leaves of the main size
abbrev pub line_rest : Container → ℕ → ℤ → ℤ
line_rest c count outer = c.main -ℤ gaps c.gap count -ℤ outer

-- how far child k of so many is moved by what is left
abbrev pub moved_by_rest : Align → ℤ → ℕ → ℕ → ℤ
moved_by_rest a free n = λ k. content_moved (mode_of a.mode) (is_safe a) free k n

-- the seats of a line of so many children, whose outer sizes sum to this, and with these `auto` margins
abbrev pub seats_given : Container → LineAt → ℕ → ℤ → List Bool → List Sitting → List Seat
seats_given c l count outer autos line =
    let rest = line_rest c count outer in
    let taken = line_margins rest autos in
    seats_along c l (moved_by_rest c.along (rest -ℤ sum_of taken) count) 0 (pos 0) taken line

abbrev pub line_seats : Container → LineAt → List Sitting → List Seat
line_seats c l line = seats_given c l (length line) (sum_of (map outer_main line)) (joined (map autos_of line)) line

-- ---- all lines

-- the seats of the lines, one line after another
abbrev pub seats_from : Container → (ℕ → ℤ) → ℕ → ℤ → List ℤ → List (ℕ × ℕ) → List Sitting → List Seat
seats_from c moved k at [] ranges all = []
seats_from c moved k at (size ∷ sizes) [] all = []
seats_from c moved k at (size ∷ sizes) (range ∷ ranges) all =
    line_seats c (record { at = at +ℤ moved k; size = size }) (slice_range all range.0 range.1) ++
    seats_from c moved (k + 1) (at +ℤ size +ℤ c.between) sizes ranges all

-- what the lines leave of the cross size
abbrev pub cross_left : Container → List ℤ → ℤ
cross_left c sizes = c.cross -ℤ gaps c.between (length sizes) -ℤ sum_of sizes

abbrev pub all_seats : Container → List ℤ → List (ℕ × ℕ) → List Sitting → List Seat
all_seats c sizes ranges all = seats_from c (moved_by_rest c.across (cross_left c sizes) (length sizes)) 0 (pos 0) sizes ranges all

-- in document order
abbrev pub ordered_seats : List Seat → List Seat
ordered_seats seats = sorted_by (λ (s : Seat). s.number) seats
