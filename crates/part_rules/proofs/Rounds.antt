-- Rounds one after the other, of any rows.
use Rattle.std.proofs.Common.{arith, ap, ◌≡◌, ◌∙◌, sym, refl, ℕ, zero, suc, ◌+◌, ◌≤◌, Bool, true, false, ◌⊎◌, inl, inr, List, [], ◌∷◌, if◌then◌else◌}
use Rattle.part_rules.specs.declared.share.Share.{Share}
use Rattle.part_rules.specs.Sharing.{has_room, one_more, Handed, after_row, round, rounds}

abbrev pub after : Bool → ℕ → Share → List Share → Handed
after b n s rest = if b then after_row (one_more s) (round n rest) else after_row s (round (suc n) rest)

-- a row with room takes a unit
pub takes : (n : ℕ) (s : Share) (rest : List Share) → has_room s ≡ true → round (suc n) (s ∷ rest) ≡ after_row (one_more s) (round n rest)
takes n s rest e = ap (λ (b : Bool). after b n s rest) e

-- a row without room is passed
pub passes : (n : ℕ) (s : Share) (rest : List Share) → has_room s ≡ false → round n (s ∷ rest) ≡ after_row s (round n rest)
passes zero s rest e = refl
passes (suc n) s rest e = ap (λ (b : Bool). after b n s rest) e

abbrev pub plain : List Share → ℕ → Handed
plain rows n = record { rows = rows; left = n }

abbrev pub IsStill : List Share → Type 0
IsStill rows = (n : ℕ) → round n rows ≡ plain rows n

pub still_none : IsStill []
still_none zero = refl
still_none (suc n) = refl

round_least : (n : ℕ) (rows : List Share) → (round n rows).left ≤ n
round_least zero rows = omega arith
round_least (suc n) [] = omega arith
round_least (suc n) (s ∷ rest) = go (has_room s) (round_least n rest) (round_least (suc n) rest)
  where
    go : (b : Bool) → (round n rest).left ≤ n → (round (suc n) rest).left ≤ suc n → (after b n s rest).left ≤ suc n
    go true p q = omega (arith, p)
    go false p q = q

-- a round gives a unit, or no row has room
round_gives : (n : ℕ) (rows : List Share) → ((round (suc n) rows).left ≤ n) ⊎ IsStill rows
round_gives n [] = inr still_none
round_gives n (s ∷ rest) = go (has_room s) refl (round_least n rest) (round_gives n rest)
  where
    go : (b : Bool) → has_room s ≡ b → (round n rest).left ≤ n → ((round (suc n) rest).left ≤ n) ⊎ IsStill rest → ((after b n s rest).left ≤ n) ⊎ IsStill (s ∷ rest)
    go true e p q = inl p
    go false e p (inl q) = inl q
    go false e p (inr still) = inr (λ m. passes m s rest e ∙ ap (after_row s) (still m))

pub rounds_still : (k n : ℕ) (rows : List Share) → IsStill rows → rounds k (plain rows n) ≡ plain rows n
unfolding rounds
rounds_still zero n rows still = refl
rounds_still (suc k) n rows still = ap (rounds k) (still n) ∙ rounds_still k n rows still

-- no round changes rows where no unit is left
pub none_left : (k : ℕ) (rows : List Share) → rounds k (plain rows 0) ≡ plain rows 0
unfolding rounds
none_left zero rows = refl
none_left (suc k) rows = none_left k rows

-- As many rounds as there are units are enough.
pub enough : (j k n : ℕ) (rows : List Share) → n ≤ j → n ≤ k → rounds j (plain rows n) ≡ rounds k (plain rows n)
unfolding rounds
enough j k zero rows g h = none_left j rows ∙ sym (none_left k rows)
enough zero k (suc n) rows g h = absurd (omega arith)
enough (suc j) zero (suc n) rows g h = absurd (omega arith)
enough (suc j) (suc k) (suc n) rows g h = go (round_gives n rows) (λ m other p q. enough j k m other p q)
  where
    go : ((round (suc n) rows).left ≤ n) ⊎ IsStill rows → ((m : ℕ) (other : List Share) → m ≤ j → m ≤ k → rounds j (plain other m) ≡ rounds k (plain other m)) → rounds j (round (suc n) rows) ≡ rounds k (round (suc n) rows)
    go (inl p) again = again (round (suc n) rows).left (round (suc n) rows).rows (omega arith) (omega arith)
    go (inr still) again = ap (rounds j) (still (suc n)) ∙ rounds_still j (suc n) rows still ∙ sym (ap (rounds k) (still (suc n)) ∙ rounds_still k (suc n) rows still)

-- some rounds and then some more
pub then_more : (k j : ℕ) (h : Handed) → rounds (k + j) h ≡ rounds j (rounds k h)
unfolding rounds
then_more zero j h = ap (λ (m : ℕ). rounds m h) (let e : 0 + j ≡ j = omega arith in e)
then_more (suc k) j h = ap (λ (m : ℕ). rounds m h) (let e : suc k + j ≡ suc (k + j) = omega arith in e) ∙ then_more k j (round h.left h.rows)

-- some rounds and then one
pub then_one : (k : ℕ) (h : Handed) → (let g : Handed = rounds k h in rounds (suc k) h ≡ round g.left g.rows)
unfolding rounds
then_one zero h = refl
then_one (suc k) h = then_one k (round h.left h.rows)
