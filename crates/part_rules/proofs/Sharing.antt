-- What is shared and what is left are the space, and parts by weights are the whole.
use Rattle.std.proofs.Common.{arith, ap, ◌≡◌, ◌∙◌, sym, refl, ℕ, zero, suc, ℤ, pos, negsuc, ◌+◌, ◌<◌, ◌≤◌, ◌+ℤ◌, ◌-ℤ◌, Bool, true, false, ◌⊎◌, inl, inr, ◌||◌, subst, Option, List, [], ◌∷◌, map, if◌then◌else◌}
use Rattle.std.proofs.lemmas.Int.{ints}
use Rattle.std.specs.List.{list_any}
use Rattle.part_rules.specs.declared.share.Share.{Share}
use Rattle.part_rules.specs.Lists.{sum_of, total_of}
use Rattle.part_rules.specs.Sharing.{has_room, one_more, Handed, IsDone, IsShared, after_row, round, rounds, with_nothing, roomy, handed_to, shares, unshared, handed, shared_rows, left_over, part, apportioned_after, apportioned_whole}
use Rattle.part_rules.proofs.Levels.{by_level}
use Rattle.part_rules.proofs.Floor.{floor_div-times, floor_div-none}

abbrev got : List Share → ℤ
got rows = sum_of (map (λ (s : Share). s.got) rows)

abbrev after : Bool → ℕ → Share → List Share → Handed
after b n s rest = if b then after_row (one_more s) (round n rest) else after_row s (round (suc n) rest)

round_sum : (n : ℕ) (rows : List Share) → got (round n rows).rows +ℤ pos (round n rows).left ≡ got rows +ℤ pos n
round_sum zero rows = refl
round_sum (suc n) [] = refl
round_sum (suc n) (s ∷ rest) = go (has_room s) (round_sum n rest) (round_sum (suc n) rest)
  where
    go : (b : Bool) → got (round n rest).rows +ℤ pos (round n rest).left ≡ got rest +ℤ pos n → got (round (suc n) rest).rows +ℤ pos (round (suc n) rest).left ≡ got rest +ℤ pos (suc n) → got (after b n s rest).rows +ℤ pos (after b n s rest).left ≡ (s.got +ℤ got rest) +ℤ pos (suc n)
    go true p q = omega (arith, ints, p)
    go false p q = omega (arith, ints, q)

rounds_sum : (k : ℕ) (h : Handed) → got (rounds k h).rows +ℤ pos (rounds k h).left ≡ got h.rows +ℤ pos h.left
unfolding rounds
rounds_sum zero h = refl
rounds_sum (suc k) h = rounds_sum k (round h.left h.rows) ∙ round_sum h.left h.rows

got_nothing : (rows : List Share) → got (map with_nothing rows) ≡ pos 0
got_nothing [] = refl
got_nothing (s ∷ rest) = omega (arith, ints, got_nothing rest)

handed_sum : (n : ℕ) (rows : List Share) → got (handed n rows).rows +ℤ pos (handed n rows).left ≡ pos n
handed_sum n rows = omega (arith, ints, rounds_sum n (record { rows = map with_nothing rows; left = n }), got_nothing rows)

-- What is shared and what is left sum to the space.
pub sums_up : (space : ℤ) (rows : List Share) → sum_of (map (λ (s : Share). s.got) (shared_rows space rows)) +ℤ left_over space rows ≡ space
sums_up (pos n) rows = handed_sum n rows
sums_up (negsuc n) rows = omega (arith, ints, got_nothing rows)

round_least : (n : ℕ) (rows : List Share) → (round n rows).left ≤ n
round_least zero rows = omega arith
round_least (suc n) [] = omega arith
round_least (suc n) (s ∷ rest) = go (has_room s) (round_least n rest) (round_least (suc n) rest)
  where
    go : (b : Bool) → (round n rest).left ≤ n → (round (suc n) rest).left ≤ suc n → (after b n s rest).left ≤ suc n
    go true p q = omega (arith, p)
    go false p q = q

abbrev Stuck : ℕ → List Share → Type 0
Stuck n rows = (let h : Handed = record { rows = rows; left = suc n } in round (suc n) rows ≡ h) × (list_any has_room rows ≡ false)

-- a round gives a unit, or there is no row with room
round_falls : (n : ℕ) (rows : List Share) → ((round (suc n) rows).left ≤ n) ⊎ Stuck n rows
round_falls n [] = inr (refl, refl)
round_falls n (s ∷ rest) = go (has_room s) refl (round_least n rest) (round_falls n rest)
  where
    go : (b : Bool) → has_room s ≡ b → (round n rest).left ≤ n → ((round (suc n) rest).left ≤ n) ⊎ Stuck n rest → ((after b n s rest).left ≤ n) ⊎ ((let h : Handed = record { rows = s ∷ rest; left = suc n } in after b n s rest ≡ h) × (list_any has_room (s ∷ rest) ≡ false))
    go true e p q = inl p
    go false e p (inl q) = inl q
    go false e p (inr (same, full)) = inr (ap (after_row s) same, ap (λ (b : Bool). b || list_any has_room rest) e ∙ full)

stays : (k n : ℕ) (rows : List Share) → Stuck n rows → (let h : Handed = record { rows = rows; left = suc n } in rounds k h ≡ h)
unfolding rounds
stays zero n rows s = refl
stays (suc k) n rows s = ap (rounds k) s.0 ∙ stays k n rows s

rounds_done : (k n : ℕ) (rows : List Share) → n ≤ k → IsDone (rounds k (record { rows = rows; left = n }))
unfolding rounds
rounds_done zero n rows h = inl (omega arith)
rounds_done (suc k) zero rows h = rounds_done k zero rows (omega arith)
rounds_done (suc k) (suc n) rows h = go (round_falls n rows) (λ m other p. rounds_done k m other p)
  where
    go : ((round (suc n) rows).left ≤ n) ⊎ Stuck n rows → ((m : ℕ) (other : List Share) → m ≤ k → IsDone (rounds k (record { rows = other; left = m }))) → IsDone (rounds k (round (suc n) rows))
    go (inl p) again = again (round (suc n) rows).left (round (suc n) rows).rows (omega arith)
    go (inr s) again = subst IsDone (sym (ap (rounds k) s.0 ∙ stays k n rows s)) (inr s.1)

-- All is handed out, or no row has room.
pub all_handed : (n : ℕ) (rows : List Share) → IsDone (handed n rows)
all_handed n rows = rounds_done n n (map with_nothing rows) (omega arith)

-- ---- by the rooms alone

handed_roomy : (n : ℕ) (rooms : List (Option ℤ)) → handed_to n rooms ≡ handed n (map roomy rooms)
handed_roomy n rooms = by_level n (map roomy rooms)

got_zero : (rooms : List (Option ℤ)) → map (λ (s : Share). s.got) (map with_nothing (map roomy rooms)) ≡ map (λ (r : Option ℤ). pos 0) rooms
got_zero [] = refl
got_zero (r ∷ rooms) = ap (λ (t : List ℤ). pos 0 ∷ t) (got_zero rooms)

-- By the rooms alone the shares are those of rows with these rooms.
pub shares_are : (space : ℤ) (rooms : List (Option ℤ)) → shares space rooms ≡ map (λ (s : Share). s.got) (shared_rows space (map roomy rooms))
shares_are (pos n) rooms = ap (λ (h : Handed). map (λ (s : Share). s.got) h.rows) (handed_roomy n rooms)
shares_are (negsuc n) rooms = sym (got_zero rooms)

-- What is left by the rooms alone is what is left of rows with these rooms.
pub unshared_is : (space : ℤ) (rooms : List (Option ℤ)) → unshared space rooms ≡ left_over space (map roomy rooms)
unshared_is (pos n) rooms = ap (λ (h : Handed). pos h.left) (handed_roomy n rooms)
unshared_is (negsuc n) rooms = refl

pub is_shared : (space : ℤ) (rows : List Share) → IsShared space rows
is_shared (pos n) rows = all_handed n rows
is_shared (negsuc n) rows = tt

apportioned_sum : (before : ℕ) (space : ℤ) (whole : ℕ) (ws : List ℕ) → sum_of (apportioned_after before space whole ws) ≡ part space whole (before + total_of ws) -ℤ part space whole before
apportioned_sum before space whole [] = omega (arith, ints, ap (part space whole) (let e : before + 0 ≡ before = omega arith in e))
apportioned_sum before space whole (w ∷ ws) = omega (arith, ints, apportioned_sum (before + w) space whole ws, ap (part space whole) (let e : before + (w + total_of ws) ≡ before + w + total_of ws = omega arith in e))

-- Parts by weights of the whole weight sum to the space.
pub parts_sum : (space : ℤ) (ws : List ℕ) → 0 < total_of ws → sum_of (apportioned_whole space ws) ≡ space
parts_sum space ws h = omega (arith, ints, apportioned_sum 0 space (total_of ws) ws, ap (part space (total_of ws)) (let e : 0 + total_of ws ≡ total_of ws = omega arith in e), floor_div-times space (total_of ws) h, floor_div-none space (total_of ws) h)
