-- Rows that are filled to one level, under rounds.
use Rattle.std.proofs.Common.{arith, ap, ◌≡◌, ◌∙◌, sym, refl, subst, ℕ, zero, suc, ◌+◌, ◌-◌, ◌*◌, ◌/◌, ◌==◌, ◌<◌, ◌≤◌, ℤ, pos, negsuc, ◌⊎◌, ◌||◌, inl, inr, Bool, true, false, nat_lt, List, [], ◌∷◌, ◌++◌, map, length, take, drop, Option, Some, None, if◌then◌else◌}
use Rattle.std.proofs.lemmas.Int.{ints}
use Rattle.std.proofs.lemmas.Bool.{ltb-true, ltb-false, le-ltb, lt-ltb, eqb-true, true≢false}
use Rattle.std.proofs.lemmas.List.{take-append-drop}
use Rattle.part_rules.specs.declared.share.Share.{Share}
use Rattle.part_rules.specs.Sharing.{below, one_more, Handed, after_row, round, rounds, with_nothing, handed, end_of, is_above, up_to, filled_to, above, used, level_from, level_of, IsLevel, handed_by_level}
use Rattle.part_rules.proofs.Rounds.{plain, IsStill, takes, passes, still_none, rounds_still, none_left, enough, then_more, then_one}

-- Rows that are filled to a level, with so many units left, handed out to the end.
unfoldable pub finished : ℕ → ℕ → List Share → Handed
finished level n rows = rounds n (record { rows = map (filled_to level) rows; left = n })

-- ---- one row

abbrev part : Bool → ℕ → ℕ → ℕ
part b level end = if b then level else end

room_above : (level : ℕ) (room : Option ℤ) → below room (pos (up_to level (end_of room))) ≡ is_above level (end_of room)
room_above level None = refl
room_above level (Some (pos end)) = go (nat_lt level end) refl
  where
    go : (b : Bool) → nat_lt level end ≡ b → nat_lt (part b level end) end ≡ b
    go true e = e
    go false e = le-ltb end end (omega arith)
room_above level (Some (negsuc n)) = sym (le-ltb level 0 (omega arith))

rises : (level : ℕ) (end : Option ℕ) → is_above level end ≡ true → up_to (suc level) end ≡ suc (up_to level end)
rises level None e = refl
rises level (Some end) e = go (nat_lt (suc level) end) refl ∙ ap suc (sym (ap (λ (b : Bool). part b level end) e))
  where
    go : (b : Bool) → nat_lt (suc level) end ≡ b → part b (suc level) end ≡ suc level
    go true f = refl
    go false f = omega (arith, ltb-true level end e, ltb-false (suc level) end f)

stays : (level : ℕ) (end : Option ℕ) → is_above level end ≡ false → up_to (suc level) end ≡ up_to level end
stays level None e = absurd (true≢false e)
stays level (Some end) e = ap (λ (b : Bool). part b (suc level) end) (le-ltb (suc level) end (omega (arith, ltb-false level end e))) ∙ sym (ap (λ (b : Bool). part b level end) e)

row_rises : (level : ℕ) (s : Share) → is_above level (end_of s.room) ≡ true → one_more (filled_to level s) ≡ filled_to (suc level) s
row_rises level s e = ap (λ (z : ℤ). record s { got = z }) (omega (arith, ints, rises level (end_of s.room) e))

row_stays : (level : ℕ) (s : Share) → is_above level (end_of s.room) ≡ false → filled_to level s ≡ filled_to (suc level) s
row_stays level s e = ap (λ (n : ℕ). record s { got = pos n }) (sym (stays level (end_of s.room) e))

no_level : (room : Option ℤ) → up_to 0 (end_of room) ≡ 0
no_level None = refl
no_level (Some (pos end)) = go (nat_lt 0 end) refl
  where
    go : (b : Bool) → nat_lt 0 end ≡ b → part b 0 end ≡ 0
    go true e = refl
    go false e = omega (arith, ltb-false 0 end e)
no_level (Some (negsuc n)) = refl

-- ---- one round

abbrev pub count : Bool → ℕ → ℕ
count b n = if b then suc n else n

-- A round with a unit for each row that takes more fills all rows to the next level.
pub round_fills : (level n : ℕ) (rows : List Share) → above level rows ≤ n → round n (map (filled_to level) rows) ≡ plain (map (filled_to (suc level)) rows) (n - above level rows)
round_fills level n [] h = still_none n ∙ ap (plain []) (let e : n ≡ n - 0 = omega arith in e)
round_fills level n (s ∷ rest) h = go n (is_above level (end_of s.room)) refl h (λ m p. round_fills level m rest p)
  where
    go : (n : ℕ) (b : Bool) → is_above level (end_of s.room) ≡ b → count b (above level rest) ≤ n
        → ((m : ℕ) → above level rest ≤ m → round m (map (filled_to level) rest) ≡ plain (map (filled_to (suc level)) rest) (m - above level rest))
        → round n (filled_to level s ∷ map (filled_to level) rest) ≡ plain (filled_to (suc level) s ∷ map (filled_to (suc level)) rest) (n - count b (above level rest))
    go zero true e h again = absurd (omega arith)
    go (suc n) true e h again =
        takes n (filled_to level s) (map (filled_to level) rest) (room_above level s.room ∙ e)
        ∙ ap (λ (x : Share). after_row x (round n (map (filled_to level) rest))) (row_rises level s e)
        ∙ ap (after_row (filled_to (suc level) s)) (again n (omega arith))
        ∙ ap (plain (filled_to (suc level) s ∷ map (filled_to (suc level)) rest)) (let f : n - above level rest ≡ suc n - suc (above level rest) = omega arith in f)
    go n false e h again =
        passes n (filled_to level s) (map (filled_to level) rest) (room_above level s.room ∙ e)
        ∙ ap (λ (x : Share). after_row x (round n (map (filled_to level) rest))) (row_stays level s e)
        ∙ ap (after_row (filled_to (suc level) s)) (again n h)

-- A round with fewer units gives one to each of the first rows that take more, as many as there are units.
pub round_ends : (level : ℕ) (rows others : List Share) → round (above level rows) (map (filled_to level) rows ++ others) ≡ plain (map (filled_to (suc level)) rows ++ others) 0
round_ends level [] others = refl
round_ends level (s ∷ rest) others = go (is_above level (end_of s.room)) refl (round_ends level rest others)
  where
    go : (b : Bool) → is_above level (end_of s.room) ≡ b
        → round (above level rest) (map (filled_to level) rest ++ others) ≡ plain (map (filled_to (suc level)) rest ++ others) 0
        → round (count b (above level rest)) (filled_to level s ∷ map (filled_to level) rest ++ others) ≡ plain (filled_to (suc level) s ∷ map (filled_to (suc level)) rest ++ others) 0
    go true e again =
        takes (above level rest) (filled_to level s) (map (filled_to level) rest ++ others) (room_above level s.room ∙ e)
        ∙ ap (λ (x : Share). after_row x (round (above level rest) (map (filled_to level) rest ++ others))) (row_rises level s e)
        ∙ ap (after_row (filled_to (suc level) s)) again
    go false e again =
        passes (above level rest) (filled_to level s) (map (filled_to level) rest ++ others) (room_above level s.room ∙ e)
        ∙ ap (λ (x : Share). after_row x (round (above level rest) (map (filled_to level) rest ++ others))) (row_stays level s e)
        ∙ ap (after_row (filled_to (suc level) s)) again

-- Where no row takes more, no round changes anything.
pub round_still : (level : ℕ) (rows : List Share) → above level rows ≡ 0 → IsStill (map (filled_to level) rows)
round_still level [] e = still_none
round_still level (s ∷ rest) e = go (is_above level (end_of s.room)) refl e (λ p. round_still level rest p)
  where
    go : (b : Bool) → is_above level (end_of s.room) ≡ b → count b (above level rest) ≡ 0 → (above level rest ≡ 0 → IsStill (map (filled_to level) rest)) → IsStill (map (filled_to level) (s ∷ rest))
    go true f e again = absurd (omega arith)
    go false f e again = λ n. passes n (filled_to level s) (map (filled_to level) rest) (room_above level s.room ∙ f) ∙ ap (after_row (filled_to level s)) (again e n)

-- ---- rounds up to a level

one_row : (level : ℕ) (end : Option ℕ) (b : Bool) → is_above level end ≡ b → up_to (suc level) end ≡ (if b then suc (up_to level end) else up_to level end)
one_row level end true e = rises level end e
one_row level end false e = stays level end e

-- What rows have rises by a unit for each that takes more.
used_rises : (level : ℕ) (rows : List Share) → used (suc level) rows ≡ used level rows + above level rows
used_rises level [] = refl
used_rises level (s ∷ rest) = go (is_above level (end_of s.room)) refl (used_rises level rest)
  where
    go : (b : Bool) → is_above level (end_of s.room) ≡ b → used (suc level) rest ≡ used level rest + above level rest
        → up_to (suc level) (end_of s.room) + used (suc level) rest ≡ up_to level (end_of s.room) + used level rest + count b (above level rest)
    go true e again = omega (arith, one_row level (end_of s.room) true e)
    go false e again = omega (arith, one_row level (end_of s.room) false e)

used_next : (level k : ℕ) (rows : List Share) → used (level + suc k) rows ≡ used (level + k) rows + above (level + k) rows
used_next level k rows = ap (λ (l : ℕ). used l rows) (let e : level + suc k ≡ suc (level + k) = omega arith in e) ∙ used_rises (level + k) rows

-- This many whole rounds fill the rows by as many levels, where there are units for them.
rounds_fill : (k level n : ℕ) (rows : List Share) → used (level + k) rows ≤ used level rows + n
    → rounds k (plain (map (filled_to level) rows) n) ≡ plain (map (filled_to (level + k)) rows) (used level rows + n - used (level + k) rows)
unfolding rounds
rounds_fill zero level n rows h =
    let none : level ≡ level + 0 = omega arith in
    ap (λ (l : ℕ). plain (map (filled_to l) rows) n) none
    ∙ ap (plain (map (filled_to (level + 0)) rows)) (let e : n ≡ used level rows + n - used (level + 0) rows = omega (arith, ap (λ (l : ℕ). used l rows) none) in e)
rounds_fill (suc k) level n rows h =
    let up : suc (level + k) ≡ level + suc k = omega arith in
    let next : used (level + suc k) rows ≡ used (level + k) rows + above (level + k) rows = used_next level k rows in
    let left : ℕ = used level rows + n - used (level + k) rows in
    then_one k (plain (map (filled_to level) rows) n)
    ∙ ap (λ (g : Handed). round g.left g.rows) (rounds_fill k level n rows (omega arith))
    ∙ round_fills (level + k) left rows (omega arith)
    ∙ ap (λ (l : ℕ). plain (map (filled_to l) rows) (left - above (level + k) rows)) up
    ∙ ap (plain (map (filled_to (level + suc k)) rows)) (let e : left - above (level + k) rows ≡ used level rows + n - used (level + suc k) rows = omega arith in e)

-- At the level 0 they have nothing.
pub used_none : (rows : List Share) → used 0 rows ≡ 0
used_none [] = refl
used_none (s ∷ rest) = omega (arith, no_level s.room, used_none rest)

above_append : (level : ℕ) (xs ys : List Share) → above level (xs ++ ys) ≡ above level xs + above level ys
above_append level [] ys = omega arith
above_append level (s ∷ xs) ys = go (is_above level (end_of s.room)) (above_append level xs ys)
  where
    go : (b : Bool) → above level (xs ++ ys) ≡ above level xs + above level ys → count b (above level (xs ++ ys)) ≡ count b (above level xs) + above level ys
    go true e = omega arith
    go false e = e

-- The rows before a place and the rows from it on are all rows.
pub above_parts : (level place : ℕ) (rows : List Share) → above level (take place rows) + above level (drop place rows) ≡ above level rows
above_parts level place rows = sym (above_append level (take place rows) (drop place rows)) ∙ ap (above level) (take-append-drop place rows)

-- ---- to the end

pub filled_none : (rows : List Share) → map (filled_to 0) rows ≡ map with_nothing rows
filled_none [] = refl
filled_none (s ∷ rest) = ap (λ (n : ℕ). (record s { got = pos n }) ∷ map (filled_to 0) rest) (no_level s.room) ∙ ap (λ (xs : List Share). with_nothing s ∷ xs) (filled_none rest)

-- Rows may first be filled to any level for which there are units.
pub from_level : (level n : ℕ) (rows : List Share) → used level rows ≤ n → handed n rows ≡ finished level (n - used level rows) rows
unfolding finished
from_level level n rows h =
    let start : Handed = plain (map with_nothing rows) n in
    let up : 0 + level ≡ level = omega arith in
    enough n (level + n) n (map with_nothing rows) (omega arith) (omega arith)
    ∙ then_more level n start
    ∙ ap (λ (xs : List Share). rounds n (rounds level (plain xs n))) (sym (filled_none rows))
    ∙ ap (rounds n) (rounds_fill level 0 n rows (omega (arith, used_none rows, ap (λ (l : ℕ). used l rows) up)))
    ∙ ap (λ (l : ℕ). rounds n (plain (map (filled_to l) rows) (used 0 rows + n - used l rows))) up
    ∙ ap (λ (m : ℕ). rounds n (plain (map (filled_to level) rows) m)) (let e : used 0 rows + n - used level rows ≡ n - used level rows = omega (arith, used_none rows) in e)
    ∙ enough n (n - used level rows) (n - used level rows) (map (filled_to level) rows) (omega arith) (omega arith)

-- ---- the next level

same_more : (level k : ℕ) (end : Option ℕ) → is_above level end ≡ false → up_to (level + k) end ≡ up_to level end
same_more level k None e = absurd (true≢false e)
same_more level k (Some end) e = ap (λ (b : Bool). part b (level + k) end) (le-ltb (level + k) end (omega (arith, ltb-false level end e))) ∙ sym (ap (λ (b : Bool). part b level end) e)

up_to_most : (level : ℕ) (end : Option ℕ) → up_to level end ≤ level
up_to_most level None = omega arith
up_to_most level (Some end) = go (nat_lt level end) refl
  where
    go : (b : Bool) → nat_lt level end ≡ b → part b level end ≤ level
    go true e = omega arith
    go false e = ltb-false level end e

up_to_above : (level : ℕ) (end : Option ℕ) → is_above level end ≡ true → up_to level end ≡ level
up_to_above level None e = refl
up_to_above level (Some end) e = ap (λ (b : Bool). part b level end) e

times_more : (k a : ℕ) → k * suc a ≡ k + k * a
times_more k a = grind arith

-- To fill the rows so much higher takes at most so many units for each row that takes more.
pub used_most : (level k : ℕ) (rows : List Share) → used (level + k) rows ≤ used level rows + k * above level rows
used_most level k [] = omega arith
used_most level k (s ∷ rest) = go (is_above level (end_of s.room)) refl (used_most level k rest)
  where
    go : (b : Bool) → is_above level (end_of s.room) ≡ b → used (level + k) rest ≤ used level rest + k * above level rest
        → up_to (level + k) (end_of s.room) + used (level + k) rest ≤ up_to level (end_of s.room) + used level rest + k * count b (above level rest)
    go true e again = omega (arith, up_to_most (level + k) (end_of s.room), up_to_above level (end_of s.room) e, times_more k (above level rest))
    go false e again = omega (arith, same_more level k (end_of s.room) e)

used_grows : (level k : ℕ) (rows : List Share) → used level rows ≤ used (level + k) rows
used_grows level zero rows = omega (arith, ap (λ (l : ℕ). used l rows) (let e : level + 0 ≡ level = omega arith in e))
used_grows level (suc k) rows = omega (arith, used_grows level k rows, used_next level k rows)

-- To fill the rows higher takes at least one unit for each row that takes more.
pub used_least : (level k : ℕ) (rows : List Share) → 0 < k → used level rows + above level rows ≤ used (level + k) rows
used_least level zero rows some = absurd (omega arith)
used_least level (suc k) rows some = omega (arith, used_rises level rows, used_grows (suc level) k rows, ap (λ (l : ℕ). used l rows) (let e : suc level + k ≡ level + suc k = omega arith in e))

-- A row that takes more has as much as the level.
pub level_least : (level : ℕ) (rows : List Share) → 0 < above level rows → level ≤ used level rows
level_least level [] some = absurd (omega arith)
level_least level (s ∷ rest) some = go (is_above level (end_of s.room)) refl some (λ p. level_least level rest p)
  where
    go : (b : Bool) → is_above level (end_of s.room) ≡ b → 0 < count b (above level rest) → (0 < above level rest → level ≤ used level rest) → level ≤ up_to level (end_of s.room) + used level rest
    go true e some again = omega (arith, up_to_above level (end_of s.room) e)
    go false e some again = omega (arith, again some)

whole_part : (m a : ℕ) → 0 < a → (m / a) * a ≤ m
whole_part m a some = omega arith

some_factor : (q a : ℕ) → 0 < q * a → 0 < q
some_factor q a h = grind arith

some_part : (m a : ℕ) → 0 < a → a ≤ m → 0 < m / a
some_part m a some h = some_factor (m / a) a (omega arith)

less_part : (q a m : ℕ) → 0 < a → q * a ≤ m → q ≤ m
less_part q a m some h = grind arith

-- The level to which the units may fill the rows from a lower one.
pub record IsNextLevel (level next n : ℕ) (rows : List Share) : Type 0 where
  pub low : next ≤ n
  pub fits : used next rows ≤ n
  pub falls : n - used next rows < n - used level rows

pub next_level : (level n u a : ℕ) (rows : List Share) → u ≡ used level rows → a ≡ above level rows → 0 < a → a ≤ n - u → IsNextLevel level (level + (n - u) / a) n rows
next_level level n u a rows e f some h =
    let q : ℕ = (n - u) / a in
    let whole : q * a ≤ n - u = whole_part (n - u) a some in
    let one : 0 < q = some_part (n - u) a some h in
    let same : q * a ≡ q * above level rows = ap (λ (m : ℕ). q * m) f in
    record {
      low = omega (arith, level_least level rows (omega arith), less_part q a (n - u) some whole);
      fits = omega (arith, used_most level q rows);
      falls = omega (arith, used_least level q rows one, used_most level q rows);
    }

-- ---- the level of a number of units

up_to_grows : (level k : ℕ) (end : Option ℕ) → up_to level end ≤ up_to (level + k) end
up_to_grows level k None = omega arith
up_to_grows level k (Some end) = go (nat_lt level end) (nat_lt (level + k) end) refl refl
  where
    go : (b c : Bool) → nat_lt level end ≡ b → nat_lt (level + k) end ≡ c → part b level end ≤ part c (level + k) end
    go true true e f = omega arith
    go true false e f = omega (arith, ltb-true level end e)
    go false true e f = omega (arith, ltb-false level end e)
    go false false e f = omega arith

-- To fill the rows so much higher takes at least so many units for each row that takes more than the higher level.
used_least_times : (level k : ℕ) (rows : List Share) → used level rows + k * above (level + k) rows ≤ used (level + k) rows
used_least_times level k [] = omega arith
used_least_times level k (s ∷ rest) = go (is_above (level + k) (end_of s.room)) refl (used_least_times level k rest)
  where
    go : (b : Bool) → is_above (level + k) (end_of s.room) ≡ b → used level rest + k * above (level + k) rest ≤ used (level + k) rest
        → up_to level (end_of s.room) + used level rest + k * count b (above (level + k) rest) ≤ up_to (level + k) (end_of s.room) + used (level + k) rest
    go true e again = omega (arith, up_to_most level (end_of s.room), up_to_above (level + k) (end_of s.room) e, times_more k (above (level + k) rest))
    go false e again = omega (arith, up_to_grows level k (end_of s.room))

above_few : (level : ℕ) (rows : List Share) → above level rows ≤ length rows
above_few level [] = omega arith
above_few level (s ∷ rest) = go (is_above level (end_of s.room)) (above_few level rest)
  where
    go : (b : Bool) → above level rest ≤ length rest → count b (above level rest) ≤ suc (length rest)
    go true h = omega arith
    go false h = omega arith

abbrev stops : ℕ → List Share → ℕ → Bool
stops n rows level = nat_lt (n - used level rows) (above level rows) || above level rows == 0

stops_is : (n : ℕ) (rows : List Share) (level : ℕ) → used level rows ≤ n → stops n rows level ≡ true → IsLevel n rows level
stops_is n rows level h e = go (nat_lt (n - used level rows) (above level rows)) (above level rows == 0) refl refl e
  where
    go : (b c : Bool) → nat_lt (n - used level rows) (above level rows) ≡ b → (above level rows == 0) ≡ c → (b || c) ≡ true → IsLevel n rows level
    go true c p q f = record { fits = h; greatest = inl (omega (arith, used_rises level rows, ltb-true (n - used level rows) (above level rows) p)) }
    go false true p q f = record { fits = h; greatest = inr (eqb-true (above level rows) 0 q) }
    go false false p q f = absurd (true≢false (sym f))

-- Where there is no unit more for each row that takes more, the level stays.
some_above : (a : ℕ) → (a == 0) ≡ false → 0 < a
some_above zero e = absurd (true≢false e)
some_above (suc a) e = omega arith

stays_there : (turns n : ℕ) (rows : List Share) (level : ℕ) → n - used level rows < above level rows → level_from turns n rows level ≡ level
stays_there zero n rows level h = refl
stays_there (suc turns) n rows level h =
    ap (λ (b : Bool). if b || above level rows == 0 then level else level_from turns n rows (level + (n - used level rows) / above level rows)) (lt-ltb (n - used level rows) (above level rows) h)

division : (m a : ℕ) → 0 < a → m < m / a * a + a
division m a some = omega arith

times_least : (q a b : ℕ) → a ≤ b → q * a ≤ q * b
times_least q a b h = grind arith

-- Where a turn fills up no row, too few units are left for one more.
few_left : (level n : ℕ) (rows : List Share) → used level rows ≤ n → 0 < above level rows
    → (let next : ℕ = level + (n - used level rows) / above level rows in above level rows ≤ above next rows → n - used next rows < above next rows)
few_left level n rows h some same =
    let a : ℕ = above level rows in
    let q : ℕ = (n - used level rows) / a in
    omega (arith, division (n - used level rows) a some, used_least_times level q rows, times_least q a (above (level + q) rows) same)

level_goes : (turns n : ℕ) (rows : List Share) (level : ℕ) → used level rows ≤ n → above level rows < turns → IsLevel n rows (level_from turns n rows level)
level_goes zero n rows level h few = absurd (omega arith)
level_goes (suc turns) n rows level h few = go (nat_lt (n - used level rows) (above level rows)) (above level rows == 0) refl refl (λ l p q. level_goes turns n rows l p q)
  where
    q : ℕ
    q = (n - used level rows) / above level rows

    next : ℕ
    next = level + q

    Again : Type 0
    Again = (l : ℕ) → used l rows ≤ n → above l rows < turns → IsLevel n rows (level_from turns n rows l)

    by : (c : Bool) → nat_lt (above next rows) (above level rows) ≡ c → 0 < above level rows → used next rows ≤ n → Again → IsLevel n rows (level_from turns n rows next)
    by true e some fits again = again next fits (omega (arith, ltb-true (above next rows) (above level rows) e))
    by false e some fits again =
        let few : n - used next rows < above next rows = few_left level n rows h some (ltb-false (above next rows) (above level rows) e) in
        subst (IsLevel n rows) (sym (stays_there turns n rows next few)) (record { fits = fits; greatest = inl (omega (arith, few, used_rises next rows)) })

    go : (b c : Bool) → nat_lt (n - used level rows) (above level rows) ≡ b → (above level rows == 0) ≡ c
        → Again → IsLevel n rows (if b || c then level else level_from turns n rows next)
    go true c p q again = stops_is n rows level h (ap (λ (b : Bool). b || above level rows == 0) p)
    go false true p q again = stops_is n rows level h (ap (λ (b : Bool). b || above level rows == 0) p ∙ q)
    go false false p q again =
        let some : 0 < above level rows = some_above (above level rows) q in
        by (nat_lt (above next rows) (above level rows)) refl some (next_level level n (used level rows) (above level rows) rows refl refl some (ltb-false (n - used level rows) (above level rows) p)).fits again

pub level_is : (n : ℕ) (rows : List Share) → IsLevel n rows (level_of n rows)
level_is n rows = level_goes (suc (length rows)) n rows 0 (omega (arith, used_none rows)) (omega (arith, above_few 0 rows))

-- ---- what one level hands out

left_none : (m level : ℕ) (rows : List Share) → m ≤ above level rows → (round m (map (filled_to level) rows)).left ≡ 0
left_none zero level rows h = refl
left_none (suc m) level [] h = absurd (omega arith)
left_none (suc m) level (s ∷ rest) h = go (is_above level (end_of s.room)) refl h (λ p. left_none m level rest p) (λ p. left_none (suc m) level rest p)
  where
    go : (b : Bool) → is_above level (end_of s.room) ≡ b → suc m ≤ count b (above level rest)
        → (m ≤ above level rest → (round m (map (filled_to level) rest)).left ≡ 0)
        → (suc m ≤ above level rest → (round (suc m) (map (filled_to level) rest)).left ≡ 0)
        → (round (suc m) (filled_to level s ∷ map (filled_to level) rest)).left ≡ 0
    go true e p less same =
        ap (λ (g : Handed). g.left) (takes m (filled_to level s) (map (filled_to level) rest) (room_above level s.room ∙ e)) ∙ less (omega arith)
    go false e p less same =
        ap (λ (g : Handed). g.left) (passes (suc m) (filled_to level s) (map (filled_to level) rest) (room_above level s.room ∙ e)) ∙ same p

-- After a round that leaves no unit the others change nothing.
one_round : (m : ℕ) (rows : List Share) → (round m rows).left ≡ 0 → rounds m (plain rows m) ≡ round m rows
unfolding rounds
one_round zero rows e = refl
one_round (suc m) rows e =
    let g : Handed = round (suc m) rows in
    ap (λ (l : ℕ). rounds m (plain g.rows l)) e ∙ none_left m g.rows ∙ ap (plain g.rows) (sym e)

-- What one level hands out is what the rounds hand out.
pub by_level : (n : ℕ) (rows : List Share) → handed_by_level n rows ≡ handed n rows
unfolding handed_by_level finished
by_level n rows = go (level_of n rows) (level_is n rows)
  where
    go : (level : ℕ) → IsLevel n rows level → round (n - used level rows) (map (filled_to level) rows) ≡ handed n rows
    go level is = by is.greatest
      where
        m : ℕ
        m = n - used level rows

        by : (n < used (suc level) rows) ⊎ (above level rows ≡ 0) → round m (map (filled_to level) rows) ≡ handed n rows
        by (inl few) = sym (from_level level n rows is.fits ∙ one_round m (map (filled_to level) rows) (left_none m level rows (omega (arith, used_rises level rows))))
        by (inr none) =
            round_still level rows none m
            ∙ sym (from_level level n rows is.fits ∙ rounds_still m m (map (filled_to level) rows) (round_still level rows none))
