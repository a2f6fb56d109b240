-- What a space that is handed out gives: nothing below 0, nothing beyond the space, and nothing where there is no room.
use Rattle.std.proofs.Common.{arith, ap, ◌≡◌, ◌∙◌, sym, refl, ℕ, zero, suc, ℤ, pos, negsuc, ◌-ℤ◌, ◌≤ℤ◌, Bool, true, false, List, [], ◌∷◌, ◌++◌, map, length, Option, Some, None, if◌then◌else◌, int_lt}
use Rattle.std.specs.Int.{int_max}
use Rattle.std.proofs.lemmas.Int.{ints, clamps}
use Rattle.part_rules.specs.declared.share.Share.{Share}
use Rattle.part_rules.specs.Lists.{sum_of}
use Rattle.part_rules.specs.Sharing.{has_room, one_more, Handed, after_row, round, rounds, with_nothing, handed, shared_rows, left_over, roomy, shares, unshared}
use Rattle.part_rules.proofs.Sharing.{sums_up, shares_are, unshared_is}
use Rattle.track_sizing.specs.Here.{floored}

abbrev pub gots : List Share → List ℤ
gots ss = map (λ (s : Share). s.got) ss

abbrev after : Bool → ℕ → Share → List Share → Handed
after b n s rest =
    let takes = after_row (one_more s) (round n rest) in
    let passes = after_row s (round (suc n) rest) in
    if b then takes else passes

takes : (n : ℕ) (s : Share) (rest : List Share) → has_room s ≡ true → round (suc n) (s ∷ rest) ≡ after_row (one_more s) (round n rest)
takes n s rest e = ap (λ (b : Bool). after b n s rest) e

passes : (n : ℕ) (s : Share) (rest : List Share) → has_room s ≡ false → round n (s ∷ rest) ≡ after_row s (round n rest)
passes zero s rest e = refl
passes (suc n) s rest e = ap (λ (b : Bool). after b n s rest) e

-- ---- nothing below 0

abbrev pub HaveGot : List Share → Type 0
HaveGot [] = Unit {0}
HaveGot (s ∷ rest) = (pos 0 ≤ℤ s.got) × HaveGot rest

round_got : (n : ℕ) (rows : List Share) → HaveGot rows → HaveGot (round n rows).rows
round_got zero rows h = h
round_got (suc n) [] h = tt
round_got (suc n) (s ∷ rest) h = go (has_room s) (round_got n rest h.1) (round_got (suc n) rest h.1)
  where
    go : (b : Bool) → HaveGot (round n rest).rows → HaveGot (round (suc n) rest).rows → HaveGot (after b n s rest).rows
    go true p q = (omega (arith, ints, h.0), p)
    go false p q = (h.0, q)

rounds_got : (k : ℕ) (g : Handed) → HaveGot g.rows → HaveGot (rounds k g).rows
unfolding rounds
rounds_got zero g h = h
rounds_got (suc k) g h = rounds_got k (round g.left g.rows) (round_got g.left g.rows h)

nothing_got : (rows : List Share) → HaveGot (map with_nothing rows)
nothing_got [] = tt
nothing_got (s ∷ rest) = (omega (arith, ints), nothing_got rest)

pub shared_got : (space : ℤ) (rows : List Share) → HaveGot (shared_rows space rows)
shared_got (pos n) rows = rounds_got n (record { rows = map with_nothing rows; left = n }) (nothing_got rows)
shared_got (negsuc n) rows = nothing_got rows

-- ---- nothing beyond the space

abbrev pub HaveAtMost : ℤ → List Share → Type 0
HaveAtMost most [] = Unit {0}
HaveAtMost most (s ∷ rest) = ((pos 0 ≤ℤ s.got) × (s.got ≤ℤ most)) × HaveAtMost most rest

sum_some : (rows : List Share) → HaveGot rows → pos 0 ≤ℤ sum_of (gots rows)
sum_some [] h = omega (arith, ints)
sum_some (s ∷ rest) h = omega (arith, ints, h.0, sum_some rest h.1)

at_most_sum : (most : ℤ) (rows : List Share) → HaveGot rows → sum_of (gots rows) ≤ℤ most → HaveAtMost most rows
at_most_sum most [] h m = tt
at_most_sum most (s ∷ rest) h m = ((h.0, omega (arith, ints, sum_some rest h.1)), at_most_sum most rest h.1 (omega (arith, ints, h.0)))

pub shared_most : (space : ℤ) (rows : List Share) → HaveAtMost (space -ℤ left_over space rows) (shared_rows space rows)
shared_most space rows = at_most_sum (space -ℤ left_over space rows) (shared_rows space rows) (shared_got space rows) (omega (arith, ints, sums_up space rows))

pub left_some : (space : ℤ) (rows : List Share) → pos 0 ≤ℤ space → pos 0 ≤ℤ left_over space rows
left_some (pos n) rows h = omega (arith, ints)
left_some (negsuc n) rows h = absurd (omega (arith, ints))

pub left_most : (space : ℤ) (rows : List Share) → left_over space rows ≤ℤ space
left_most space rows = omega (arith, ints, sums_up space rows, sum_some (shared_rows space rows) (shared_got space rows))

-- ---- a room below 0 takes as little as none

abbrev pub floor_share : Share → Share
floor_share s = record s { room = floored s.room }

floor_room : (room : Option ℤ) (got : ℤ) → pos 0 ≤ℤ got → has_room (record { room = floored room; got = got }) ≡ has_room (record { room = room; got = got })
floor_room None got h = refl
floor_room (Some z) got h = go (int_lt got (int_max (pos 0) z)) (int_lt got z) refl refl
  where
    go : (a b : Bool) → int_lt got (int_max (pos 0) z) ≡ a → int_lt got z ≡ b → a ≡ b
    go true true e d = refl
    go true false e d = absurd (omega (arith, ints, clamps))
    go false true e d = absurd (omega (arith, ints, clamps))
    go false false e d = refl

abbrev floor_handed : Handed → Handed
floor_handed h = record { rows = map floor_share h.rows; left = h.left }

round_floor : (n : ℕ) (rows : List Share) → HaveGot rows → round n (map floor_share rows) ≡ floor_handed (round n rows)
round_floor zero rows h = refl
round_floor (suc n) [] h = refl
round_floor (suc n) (s ∷ rest) h = go (has_room s) refl (round_floor n rest h.1) (round_floor (suc n) rest h.1)
  where
    go : (b : Bool) → has_room s ≡ b → round n (map floor_share rest) ≡ floor_handed (round n rest) → round (suc n) (map floor_share rest) ≡ floor_handed (round (suc n) rest)
        → round (suc n) (map floor_share (s ∷ rest)) ≡ floor_handed (round (suc n) (s ∷ rest))
    go true e p q =
        takes n (floor_share s) (map floor_share rest) (floor_room s.room s.got h.0 ∙ e) ∙ ap (after_row (one_more (floor_share s))) p ∙ sym (ap floor_handed (takes n s rest e))
    go false e p q =
        passes (suc n) (floor_share s) (map floor_share rest) (floor_room s.room s.got h.0 ∙ e) ∙ ap (after_row (floor_share s)) q ∙ sym (ap floor_handed (passes (suc n) s rest e))

rounds_floor : (k : ℕ) (g : Handed) → HaveGot g.rows → rounds k (floor_handed g) ≡ floor_handed (rounds k g)
unfolding rounds
rounds_floor zero g h = refl
rounds_floor (suc k) g h = ap (rounds k) (round_floor g.left g.rows h) ∙ rounds_floor k (round g.left g.rows) (round_got g.left g.rows h)

nothing_floor : (rows : List Share) → map with_nothing (map floor_share rows) ≡ map floor_share (map with_nothing rows)
nothing_floor [] = refl
nothing_floor (s ∷ rest) = ap (λ (xs : List Share). with_nothing (floor_share s) ∷ xs) (nothing_floor rest)

handed_floor : (n : ℕ) (rows : List Share) → handed n (map floor_share rows) ≡ floor_handed (handed n rows)
handed_floor n rows = ap (λ (xs : List Share). rounds n (record { rows = xs; left = n })) (nothing_floor rows) ∙ rounds_floor n (record { rows = map with_nothing rows; left = n }) (nothing_got rows)

gots_floor : (rows : List Share) → gots (map floor_share rows) ≡ gots rows
gots_floor [] = refl
gots_floor (s ∷ rest) = ap (λ (xs : List ℤ). s.got ∷ xs) (gots_floor rest)

pub shared_floor : (space : ℤ) (rows : List Share) → gots (shared_rows space (map floor_share rows)) ≡ gots (shared_rows space rows)
shared_floor (pos n) rows = ap (λ (h : Handed). gots h.rows) (handed_floor n rows) ∙ gots_floor (handed n rows).rows
shared_floor (negsuc n) rows = ap gots (nothing_floor rows) ∙ gots_floor (map with_nothing rows)

pub left_floor : (space : ℤ) (rows : List Share) → left_over space (map floor_share rows) ≡ left_over space rows
left_floor (pos n) rows = ap (λ (h : Handed). pos h.left) (handed_floor n rows)
left_floor (negsuc n) rows = refl

-- ---- tracks without room beside others

-- rows that have no room and have got nothing
abbrev pub AreClosed : List (Option ℤ) → Type 0
AreClosed [] = Unit {0}
AreClosed (room ∷ rest) = (room ≡ Some (pos 0)) × AreClosed rest

abbrev AreFull : List Share → Type 0
AreFull [] = Unit {0}
AreFull (s ∷ rest) = (has_room s ≡ false) × AreFull rest

round_full : (n : ℕ) (rows : List Share) → AreFull rows → round n rows ≡ record { rows = rows; left = n }
round_full zero rows h = refl
round_full (suc n) [] h = refl
round_full (suc n) (s ∷ rest) h = passes (suc n) s rest h.0 ∙ ap (after_row s) (round_full (suc n) rest h.1)

-- what is handed out, with other rows before and behind
abbrev pub beside : List Share → List Share → Handed → Handed
beside before behind h = record { rows = before ++ (h.rows ++ behind); left = h.left }

round_behind : (n : ℕ) (rows behind : List Share) → AreFull behind → round n (rows ++ behind) ≡ beside [] behind (round n rows)
round_behind zero rows behind h = refl
round_behind (suc n) [] behind h = round_full (suc n) behind h
round_behind (suc n) (s ∷ rest) behind h = go (has_room s) refl (round_behind n rest behind h) (round_behind (suc n) rest behind h)
  where
    go : (b : Bool) → has_room s ≡ b → round n (rest ++ behind) ≡ beside [] behind (round n rest) → round (suc n) (rest ++ behind) ≡ beside [] behind (round (suc n) rest)
        → round (suc n) (s ∷ rest ++ behind) ≡ beside [] behind (round (suc n) (s ∷ rest))
    go true e p q = takes n s (rest ++ behind) e ∙ ap (after_row (one_more s)) p ∙ sym (ap (beside [] behind) (takes n s rest e))
    go false e p q = passes (suc n) s (rest ++ behind) e ∙ ap (after_row s) q ∙ sym (ap (beside [] behind) (passes (suc n) s rest e))

round_beside : (n : ℕ) (before rows behind : List Share) → AreFull before → AreFull behind → round n (before ++ (rows ++ behind)) ≡ beside before behind (round n rows)
round_beside n [] rows behind f g = round_behind n rows behind g
round_beside n (s ∷ before) rows behind f g = passes n s (before ++ (rows ++ behind)) f.0 ∙ ap (after_row s) (round_beside n before rows behind f.1 g)

rounds_beside : (k : ℕ) (before behind : List Share) (g : Handed) → AreFull before → AreFull behind → rounds k (beside before behind g) ≡ beside before behind (rounds k g)
unfolding rounds
rounds_beside zero before behind g f h = refl
rounds_beside (suc k) before behind g f h = ap (rounds k) (round_beside g.left before g.rows behind f h) ∙ rounds_beside k before behind (round g.left g.rows) f h

abbrev pub closed : Option ℤ → Share
closed room = record { room = room; got = pos 0 }

start_full : (rooms : List (Option ℤ)) → AreClosed rooms → AreFull (map closed rooms)
start_full [] h = tt
start_full (room ∷ rest) h = (ap (λ (r : Option ℤ). has_room (closed r)) h.0, start_full rest h.1)

nothing_of : (rooms : List (Option ℤ)) → map with_nothing (map closed rooms) ≡ map closed rooms
nothing_of [] = refl
nothing_of (room ∷ rest) = ap (λ (xs : List Share). closed room ∷ xs) (nothing_of rest)

roomy_is : (room : Option ℤ) → roomy room ≡ closed room
roomy_is None = refl
roomy_is (Some (pos n)) = refl
roomy_is (Some (negsuc n)) = refl

roomy_of : (rooms : List (Option ℤ)) → map roomy rooms ≡ map closed rooms
roomy_of [] = refl
roomy_of (room ∷ rest) = ap (λ (s : Share). s ∷ map roomy rest) (roomy_is room) ∙ ap (λ (xs : List Share). closed room ∷ xs) (roomy_of rest)

closed_parts : (xs ys : List (Option ℤ)) → map closed (xs ++ ys) ≡ map closed xs ++ map closed ys
closed_parts [] ys = refl
closed_parts (x ∷ xs) ys = ap (λ (zs : List Share). closed x ∷ zs) (closed_parts xs ys)

handed_beside : (n : ℕ) (before rooms behind : List (Option ℤ)) → AreClosed before → AreClosed behind
    → handed n (map closed (before ++ (rooms ++ behind))) ≡ beside (map closed before) (map closed behind) (handed n (map closed rooms))
handed_beside n before rooms behind f g =
    ap (λ (xs : List Share). rounds n (record { rows = xs; left = n })) (nothing_of (before ++ (rooms ++ behind)) ∙ closed_parts before (rooms ++ behind) ∙ ap (λ (xs : List Share). map closed before ++ xs) (closed_parts rooms behind))
    ∙ rounds_beside n (map closed before) (map closed behind) (record { rows = map closed rooms; left = n }) (start_full before f) (start_full behind g)
    ∙ ap (λ (xs : List Share). beside (map closed before) (map closed behind) (rounds n (record { rows = xs; left = n }))) (sym (nothing_of rooms))

abbrev pub nothings : List (Option ℤ) → List ℤ
nothings rooms = map (λ (room : Option ℤ). pos 0) rooms

gots_parts : (xs ys : List Share) → gots (xs ++ ys) ≡ gots xs ++ gots ys
gots_parts [] ys = refl
gots_parts (x ∷ xs) ys = ap (λ (zs : List ℤ). x.got ∷ zs) (gots_parts xs ys)

gots_closed : (rooms : List (Option ℤ)) → gots (map closed rooms) ≡ nothings rooms
gots_closed [] = refl
gots_closed (room ∷ rest) = ap (λ (zs : List ℤ). pos 0 ∷ zs) (gots_closed rest)

nothings_parts : (xs ys : List (Option ℤ)) → nothings (xs ++ ys) ≡ nothings xs ++ nothings ys
nothings_parts [] ys = refl
nothings_parts (x ∷ xs) ys = ap (λ (zs : List ℤ). pos 0 ∷ zs) (nothings_parts xs ys)

-- Tracks without room get nothing, and the others get what they would get alone.
pub shares_beside : (space : ℤ) (before rooms behind : List (Option ℤ)) → AreClosed before → AreClosed behind → shares space (before ++ (rooms ++ behind)) ≡ nothings before ++ (shares space rooms ++ nothings behind)
shares_beside (pos n) before rooms behind f g =
    shares_are (pos n) (before ++ (rooms ++ behind))
    ∙ ap (λ (xs : List Share). gots (handed n xs).rows) (roomy_of (before ++ (rooms ++ behind)))
    ∙ ap (λ (h : Handed). gots h.rows) (handed_beside n before rooms behind f g)
    ∙ gots_parts (map closed before) ((handed n (map closed rooms)).rows ++ map closed behind)
    ∙ ap (λ (xs : List ℤ). xs ++ gots ((handed n (map closed rooms)).rows ++ map closed behind)) (gots_closed before)
    ∙ ap (λ (xs : List ℤ). nothings before ++ xs) (gots_parts (handed n (map closed rooms)).rows (map closed behind) ∙ ap (λ (xs : List ℤ). gots (handed n (map closed rooms)).rows ++ xs) (gots_closed behind)
    ∙ ap (λ (xs : List ℤ). xs ++ nothings behind) (sym (shares_are (pos n) rooms ∙ ap (λ (xs : List Share). gots (handed n xs).rows) (roomy_of rooms))))
shares_beside (negsuc n) before rooms behind f g = nothings_parts before (rooms ++ behind) ∙ ap (λ (xs : List ℤ). nothings before ++ xs) (nothings_parts rooms behind)

pub unshared_beside : (space : ℤ) (before rooms behind : List (Option ℤ)) → AreClosed before → AreClosed behind → unshared space (before ++ (rooms ++ behind)) ≡ unshared space rooms
unshared_beside (pos n) before rooms behind f g =
    unshared_is (pos n) (before ++ (rooms ++ behind))
    ∙ ap (λ (xs : List Share). pos (handed n xs).left) (roomy_of (before ++ (rooms ++ behind)))
    ∙ ap (λ (h : Handed). pos h.left) (handed_beside n before rooms behind f g)
    ∙ sym (unshared_is (pos n) rooms ∙ ap (λ (xs : List Share). pos (handed n xs).left) (roomy_of rooms))
unshared_beside (negsuc n) before rooms behind f g = refl

-- ---- what the rows of tracks have got

abbrev pub floored_share : Option ℤ → Share
floored_share room = record { room = floored room; got = pos 0 }

floored_shares : (rooms : List (Option ℤ)) → map floored_share rooms ≡ map floor_share (map roomy rooms)
floored_shares [] = refl
floored_shares (room ∷ rest) = ap (λ (s : Share). floor_share s ∷ map floored_share rest) (sym (roomy_is room)) ∙ ap (λ (xs : List Share). floor_share (roomy room) ∷ xs) (floored_shares rest)

pub shares_of_rows : (space : ℤ) (rooms : List (Option ℤ)) → gots (shared_rows space (map floored_share rooms)) ≡ shares space rooms
shares_of_rows space rooms = ap (λ (xs : List Share). gots (shared_rows space xs)) (floored_shares rooms) ∙ shared_floor space (map roomy rooms) ∙ sym (shares_are space rooms)

pub left_of_rows : (space : ℤ) (rooms : List (Option ℤ)) → left_over space (map floored_share rooms) ≡ unshared space rooms
left_of_rows space rooms = ap (left_over space) (floored_shares rooms) ∙ left_floor space (map roomy rooms) ∙ sym (unshared_is space rooms)

-- ---- as many shares as rooms

round_length : (n : ℕ) (rows : List Share) → length (round n rows).rows ≡ length rows
round_length zero rows = refl
round_length (suc n) [] = refl
round_length (suc n) (s ∷ rest) = go (has_room s) (round_length n rest) (round_length (suc n) rest)
  where
    go : (b : Bool) → length (round n rest).rows ≡ length rest → length (round (suc n) rest).rows ≡ length rest → length (after b n s rest).rows ≡ suc (length rest)
    go true p q = omega arith
    go false p q = omega arith

rounds_length : (k : ℕ) (g : Handed) → length (rounds k g).rows ≡ length g.rows
unfolding rounds
rounds_length zero g = refl
rounds_length (suc k) g = rounds_length k (round g.left g.rows) ∙ round_length g.left g.rows

map_length : {A B : Type 0} (f : A → B) (xs : List A) → length (map f xs) ≡ length xs
map_length f [] = refl
map_length f (x ∷ xs) = omega (arith, map_length f xs)

pub shares_length : (space : ℤ) (rooms : List (Option ℤ)) → length (shares space rooms) ≡ length rooms
shares_length (pos n) rooms =
    ap length (shares_are (pos n) rooms) ∙ map_length (λ (s : Share). s.got) (shared_rows (pos n) (map roomy rooms))
    ∙ rounds_length n (record { rows = map with_nothing (map roomy rooms); left = n }) ∙ map_length with_nothing (map roomy rooms) ∙ map_length roomy rooms
shares_length (negsuc n) rooms = map_length (λ (room : Option ℤ). pos 0) rooms
