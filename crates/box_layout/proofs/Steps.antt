-- One child more, and one line more.
use Rattle.std.proofs.Common.{arith, ap, ◌≡◌, ◌∙◌, sym, ℕ, zero, suc, ◌+◌, ◌*◌, ◌<◌, ◌≤◌, ℤ, pos, ◌+ℤ◌, ◌-ℤ◌, Bool, List, [], ◌∷◌, ◌++◌, drop, get_or, length, map}
use Rattle.std.specs.Prelude.{slice_range}
use Rattle.std.proofs.lemmas.Int.{ints}
use Rattle.std.proofs.lemmas.List.{append_assoc, drop_all, drop_more}
use Rattle.flex_lines.specs.Lines.{AreRanges, IsRange}
use Rattle.part_rules.specs.FlexLines.{line_margins}
use Rattle.part_rules.specs.Lists.{joined, sum_of}
use Rattle.tree_rules.specs.Frames.{LineAt}
use Rattle.tree_rules.specs.NodeSizes.{margin}
use Rattle.box_layout.specs.declared.seats.Seat.{Seat}
use Rattle.box_layout.specs.declared.sitting.Container.{Container}
use Rattle.box_layout.specs.declared.sitting.Sitting.{Sitting}
use Rattle.box_layout.specs.BothMargins.{both_margins}
use Rattle.box_layout.specs.Seats.{autos_of, line_rest, line_seats, moved_by_rest, outer_main, seat_in, seats_along, seats_from}

-- ---- sums

pub outer_next : (line : List Sitting) (i : ℕ) (d : Sitting) → i < length line → sum_of (map outer_main (drop i line)) ≡ outer_main (get_or line i d) +ℤ sum_of (map outer_main (drop (i + 1) line))
outer_next line i d h = ap (λ (xs : List Sitting). sum_of (map outer_main xs)) (drop_more line i d h)

pub all_outer : (line : List Sitting) (i : ℕ) (sum : ℤ) → length line ≤ i → sum +ℤ sum_of (map outer_main (drop i line)) ≡ sum_of (map outer_main line) → sum ≡ sum_of (map outer_main line)
all_outer line i sum h e = let none : sum_of (map outer_main (drop i line)) ≡ pos 0 = ap (λ (xs : List Sitting). sum_of (map outer_main xs)) (drop_all i line h) in omega (arith, ints, e, none)

pub outer_step : (line : List Sitting) (i : ℕ) (s d : Sitting) (sum part next all : ℤ) → i < length line → s ≡ get_or line i d → part ≡ outer_main s → next ≡ sum +ℤ part
    → sum +ℤ sum_of (map outer_main (drop i line)) ≡ all → next +ℤ sum_of (map outer_main (drop (i + 1) line)) ≡ all
outer_step line i s d sum part next all h is parts nexts e =
    let first : outer_main (get_or line i d) ≡ part = sym (parts ∙ ap outer_main is) in
    let whole : sum_of (map outer_main (drop i line)) ≡ part +ℤ sum_of (map outer_main (drop (i + 1) line)) = outer_next line i d h ∙ ap (λ z. z +ℤ sum_of (map outer_main (drop (i + 1) line))) first in
    omega (arith, ints, nexts, whole, e)

-- ---- along a line

two_next : (taken : List ℤ) (k : ℕ) (t u d e : ℤ) → 2 * k + 1 < length taken → t ≡ get_or taken (2 * k) d → u ≡ get_or taken (2 * k + 1) e → drop (2 * k) taken ≡ t ∷ u ∷ drop (2 * (k + 1)) taken
two_next taken k t u d e h first second =
    let far : 2 * k + 1 + 1 ≡ 2 * (k + 1) = omega arith in
    drop_more taken (2 * k) d (omega (arith, h))
    ∙ ap (λ z. z ∷ drop (2 * k + 1) taken) (sym first)
    ∙ ap (λ (xs : List ℤ). t ∷ xs) (drop_more taken (2 * k + 1) e h)
    ∙ ap (λ z. t ∷ z ∷ drop (2 * k + 1 + 1) taken) (sym second)
    ∙ ap (λ n. t ∷ u ∷ drop n taken) far

-- the child that is next
along_next : (c : Container) (l : LineAt) (moved : ℕ → ℤ) (k : ℕ) (place t u : ℤ) (s : Sitting) (taken : List ℤ) (line : List Sitting) (d e : ℤ) (other : Sitting) → k < length line → length taken ≡ 2 * length line
    → s ≡ get_or line k other → t ≡ get_or taken (2 * k) d → u ≡ get_or taken (2 * k + 1) e
    → seats_along c l moved k place (drop (2 * k) taken) (drop k line) ≡ seats_along c l moved k place (t ∷ u ∷ drop (2 * (k + 1)) taken) (s ∷ drop (k + 1) line)
along_next c l moved k place t u s taken line d e other h count is first second =
    ap (λ (xs : List ℤ). seats_along c l moved k place xs (drop k line)) (two_next taken k t u d e (omega (arith, h, count)) first second)
    ∙ ap (seats_along c l moved k place (t ∷ u ∷ drop (2 * (k + 1)) taken)) (drop_more line k other h ∙ ap (λ (x : Sitting). x ∷ drop (k + 1) line) (sym is))

same_start : (place m t x start moved : ℤ) → m ≡ moved → start ≡ place +ℤ m +ℤ x +ℤ t → place +ℤ moved +ℤ x +ℤ t ≡ start
same_start place m t x start moved e f = omega (arith, ints, e, f)

same_next : (place t u main both gap step next : ℤ) → step ≡ t +ℤ u +ℤ (main +ℤ both) +ℤ gap → next ≡ place +ℤ step → place +ℤ t +ℤ u +ℤ main +ℤ both +ℤ gap ≡ next
same_next place t u main both gap step next e f = omega (arith, ints, e, f)

pub seats_step : (d e : ℤ) (other : Sitting) (c : Container) (l : LineAt) (moved : ℕ → ℤ) (k : ℕ) (place start step next m t u : ℤ) (s : Sitting) (taken : List ℤ) (line : List Sitting) (seats pushed all : List Seat) (seat : Seat)
    → k < length line → length taken ≡ 2 * length line → s ≡ get_or line k other → t ≡ get_or taken (2 * k) d → u ≡ get_or taken (2 * k + 1) e → m ≡ moved k
    → start ≡ place +ℤ m +ℤ margin s.along.start +ℤ t → seat ≡ seat_in c l start s → pushed ≡ seats ++ seat ∷ [] → step ≡ t +ℤ u +ℤ outer_main s +ℤ c.gap → next ≡ place +ℤ step
    → seats ++ seats_along c l moved k place (drop (2 * k) taken) (drop k line) ≡ all
    → pushed ++ seats_along c l moved (k + 1) next (drop (2 * (k + 1)) taken) (drop (k + 1) line) ≡ all
seats_step d e other c l moved k place start step next m t u s taken line seats pushed all seat h count is first second by starts is_seat push steps nexts holds =
    let left : List ℤ = drop (2 * (k + 1)) taken in
    let more : List Sitting = drop (k + 1) line in
    let begins : place +ℤ moved k +ℤ margin s.along.start +ℤ t ≡ start = same_start place m t (margin s.along.start) start (moved k) by starts in
    let goes : place +ℤ t +ℤ u +ℤ s.main +ℤ both_margins s.along +ℤ c.gap ≡ next = same_next place t u s.main (both_margins s.along) c.gap step next steps nexts in
    let seated : seat_in c l (place +ℤ moved k +ℤ margin s.along.start +ℤ t) s ≡ seat = ap (λ z. seat_in c l z s) begins ∙ sym is_seat in
    let whole : seats_along c l moved k place (drop (2 * k) taken) (drop k line) ≡ seat ∷ seats_along c l moved (k + 1) next left more =
    along_next c l moved k place t u s taken line d e other h count is first second
    ∙ ap (λ (x : Seat). x ∷ seats_along c l moved (k + 1) (place +ℤ t +ℤ u +ℤ s.main +ℤ both_margins s.along +ℤ c.gap) left more) seated
    ∙ ap (λ z. seat ∷ seats_along c l moved (k + 1) z left more) goes in
    ap (λ (xs : List Seat). xs ++ seats_along c l moved (k + 1) next left more) push
    ∙ append_assoc seats (seat ∷ []) (seats_along c l moved (k + 1) next left more)
    ∙ sym (ap (λ (xs : List Seat). seats ++ xs) whole) ∙ holds

-- the seats of a line by what it leaves and what its margins take
pub line_is : (c : Container) (l : LineAt) (line : List Sitting) (rest free : ℤ) (taken : List ℤ) → rest ≡ line_rest c (length line) (sum_of (map outer_main line)) → taken ≡ line_margins rest (joined (map autos_of line)) → free ≡ rest -ℤ sum_of taken
    → seats_along c l (moved_by_rest c.along free (length line)) 0 (pos 0) taken line ≡ line_seats c l line
line_is c l line rest free taken e f g =
    let autos : List Bool = joined (map autos_of line) in
    let Whole : ℤ → List ℤ → List Seat = λ r ts. seats_along c l (moved_by_rest c.along (r -ℤ sum_of ts) (length line)) 0 (pos 0) ts line in
    ap (λ z. seats_along c l (moved_by_rest c.along z (length line)) 0 (pos 0) taken line) g
    ∙ ap (λ ts. Whole rest ts) f
    ∙ ap (λ r. Whole r (line_margins r autos)) e

-- ---- line after line

-- a line among ranges is a range
pub range_read : (d : ℕ × ℕ) (items : ℕ) (lines : List (ℕ × ℕ)) (i : ℕ) → AreRanges items lines → i < length lines → IsRange items (get_or lines i d)
range_read d items [] i h lt = absurd (omega (arith, lt))
range_read d items (line ∷ lines) zero h lt = h.0
range_read d items (line ∷ lines) (suc i) h lt = range_read d items lines i h.1 (omega (arith, lt))

pub lines_step : (e : ℤ) (d : ℕ × ℕ) (c : Container) (moved : ℕ → ℤ) (k : ℕ) (at start step next m size : ℤ) (sizes : List ℤ) (ranges : List (ℕ × ℕ)) (children line : List Sitting) (seats more all : List Seat)
    → k < length sizes → length sizes ≡ length ranges → size ≡ get_or sizes k e → line ≡ slice_range children (get_or ranges k d).0 (get_or ranges k d).1 → m ≡ moved k → start ≡ at +ℤ m → step ≡ size +ℤ c.between → next ≡ at +ℤ step
    → more ≡ seats ++ line_seats c (record { at = start; size = size }) line
    → seats ++ seats_from c moved k at (drop k sizes) (drop k ranges) children ≡ all
    → more ++ seats_from c moved (k + 1) next (drop (k + 1) sizes) (drop (k + 1) ranges) children ≡ all
lines_step e d c moved k at start step next m size sizes ranges children line seats more all h same is_size is_line by starts steps nexts mores holds =
    let range : ℕ × ℕ = get_or ranges k d in
    let begins : at +ℤ moved k ≡ start = omega (arith, ints, by, starts) in
    let goes : at +ℤ size +ℤ c.between ≡ next = omega (arith, ints, steps, nexts) in
    let first : List Seat = line_seats c (record { at = start; size = size }) line in
    let rest : List Seat = seats_from c moved (k + 1) next (drop (k + 1) sizes) (drop (k + 1) ranges) children in
    let whole : seats_from c moved k at (drop k sizes) (drop k ranges) children ≡ first ++ rest =
    ap (λ (xs : List ℤ). seats_from c moved k at xs (drop k ranges) children) (drop_more sizes k e h ∙ ap (λ z. z ∷ drop (k + 1) sizes) (sym is_size))
    ∙ ap (λ (xs : List (ℕ × ℕ)). seats_from c moved k at (size ∷ drop (k + 1) sizes) xs children) (drop_more ranges k d (omega (arith, h, same)))
    ∙ ap (λ z. line_seats c (record { at = z; size = size }) (slice_range children range.0 range.1) ++ seats_from c moved (k + 1) (at +ℤ size +ℤ c.between) (drop (k + 1) sizes) (drop (k + 1) ranges) children) begins
    ∙ ap (λ z. line_seats c (record { at = start; size = size }) (slice_range children range.0 range.1) ++ seats_from c moved (k + 1) z (drop (k + 1) sizes) (drop (k + 1) ranges) children) goes
    ∙ ap (λ (xs : List Sitting). line_seats c (record { at = start; size = size }) xs ++ rest) (sym is_line) in
    ap (λ (xs : List Seat). xs ++ rest) mores ∙ append_assoc seats first rest ∙ sym (ap (λ (xs : List Seat). seats ++ xs) whole) ∙ holds
