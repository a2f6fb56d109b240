-- One division gives the number of repetitions that is counted.
use Rattle.std.proofs.Common.{arith, ap, ◌≡◌, ◌∙◌, sym, refl, subst, ℕ, zero, suc, ◌+◌, ◌-◌, ◌*◌, ◌<◌, ◌≤◌, min, nat_lt, ℤ, pos, negsuc, ◌+ℤ◌, ◌-ℤ◌, ◌*ℤ◌, ◌≤ℤ◌, ◌<ℤ◌, Bool, true, false, List, length, int_le, if◌then◌else◌}
use Rattle.std.proofs.lemmas.Bool.{ltb-true, ltb-false}
use Rattle.std.proofs.lemmas.Int.{ints}
use Rattle.lunit.specs.Units.{floor_div}
use Rattle.part_rules.specs.declared.names.RepeatSpace.{RepeatSpace}
use Rattle.part_rules.specs.declared.names.RepeatSpace.TheVariants.{Fits, Fills, Endless}
use Rattle.part_rules.specs.Lists.{sum_of, above_zero}
use Rattle.part_rules.specs.Repetition.{total_with, greatest_passing, least_passing, repetitions, step_of, further_fitting, further_filling, repetitions_by_division}
use Rattle.part_rules.proofs.Floor.{floor_div_low, floor_div_high, add-times, times-add}

-- ---- counts

either : (b : Bool) (n : ℕ) → (if b then n else n) ≡ n
either true n = refl
either false n = refl

-- A count that passes where none after it does is the greatest.
pub greatest_is : (test : ℕ → Bool) (n k : ℕ) → k ≤ n → (0 < k → test (suc k) ≡ true) → ((j : ℕ) → k < j → j ≤ n → test (suc j) ≡ false) → greatest_passing test (suc n) ≡ suc k
unfolding greatest_passing
greatest_is test zero zero h passes fails = either (test 1) 1
greatest_is test zero (suc k) h passes fails = absurd (omega arith)
greatest_is test (suc n) k h passes fails = go (nat_lt k (suc n)) refl (λ p q r. greatest_is test n k p q r)
  where
    go : (b : Bool) → nat_lt k (suc n) ≡ b
        → (k ≤ n → (0 < k → test (suc k) ≡ true) → ((j : ℕ) → k < j → j ≤ n → test (suc j) ≡ false) → greatest_passing test (suc n) ≡ suc k)
        → (if test (suc (suc n)) then suc (suc n) else greatest_passing test (suc n)) ≡ suc k
    go true e again =
        let less : k < suc n = ltb-true k (suc n) e in
        ap (λ (b : Bool). if b then suc (suc n) else greatest_passing test (suc n)) (fails (suc n) less (omega arith))
        ∙ again (omega arith) passes (λ j p q. fails j p (omega arith))
    go false e again =
        let same : k ≡ suc n = omega (arith, ltb-false k (suc n) e) in
        ap (λ (b : Bool). if b then suc (suc n) else greatest_passing test (suc n)) (subst (λ (m : ℕ). test (suc m) ≡ true) same (passes (omega arith)))
        ∙ ap suc (sym same)

-- A count that passes where none before it does is the least.
pub least_is : (test : ℕ → Bool) (more n k : ℕ) → k ≤ more → (k < more → test (n + k) ≡ true) → ((j : ℕ) → j < k → test (n + j) ≡ false) → least_passing test more n ≡ n + k
unfolding least_passing
least_is test zero n k h passes fails = omega arith
least_is test (suc more) n zero h passes fails =
    ap (λ (b : Bool). if b then n else least_passing test more (n + 1)) (subst (λ (m : ℕ). test m ≡ true) (let e : n + 0 ≡ n = omega arith in e) (passes (omega arith)))
    ∙ omega arith
least_is test (suc more) n (suc k) h passes fails =
    let next : n + 1 + k ≡ n + suc k = omega arith in
    ap (λ (b : Bool). if b then n else least_passing test more (n + 1)) (subst (λ (m : ℕ). test m ≡ false) (let e : n + 0 ≡ n = omega arith in e) (fails 0 (omega arith)))
    ∙ least_is test more (n + 1) k (omega arith)
    (λ p. subst (λ (m : ℕ). test m ≡ true) (sym next) (passes (omega arith)))
    (λ j p. subst (λ (m : ℕ). test m ≡ false) (let e : n + suc j ≡ n + 1 + j = omega arith in e) (fails (suc j) (omega arith)))
    ∙ next

-- ---- totals

total_numbers : (nf nr k : ℕ) → nf + nr * (k + 1) - 1 ≡ (nf + nr * 1 - 1) + nr * k
total_numbers nf nr k = grind arith

times_times : (x : ℤ) (m n : ℕ) → x *ℤ pos m *ℤ pos n ≡ x *ℤ pos (m * n)
times_times x m zero = omega (arith, ints)
times_times x m (suc n) =
    ap (λ (k : ℕ). x *ℤ pos m *ℤ pos k) (let e : suc n ≡ n + 1 = omega arith in e)
    ∙ omega (arith, ints, times-add (x *ℤ pos m) n 1, times_times x m n, times-add x (m * n) m)
    ∙ ap (λ (k : ℕ). x *ℤ pos k) (let e : m * n + m ≡ m * suc n = grind arith in e)

total_parts : (f r gap : ℤ) (nf nr k : ℕ) → f +ℤ r *ℤ pos (k + 1) +ℤ gap *ℤ pos (nf + nr * (k + 1) - 1) ≡ (f +ℤ r *ℤ pos 1 +ℤ gap *ℤ pos (nf + nr * 1 - 1)) +ℤ (r +ℤ gap *ℤ pos nr) *ℤ pos k
total_parts f r gap nf nr k =
    omega (arith, ints, times-add r k 1, ap (λ (n : ℕ). gap *ℤ pos n) (total_numbers nf nr k), times-add gap (nf + nr * 1 - 1) (nr * k), add-times r (gap *ℤ pos nr) k, times_times gap nr k)

-- The total of so many repetitions more than one.
pub total_of_more : (fixed repeated : List ℤ) (gap : ℤ) (k : ℕ) → total_with fixed repeated gap (suc k) ≡ total_with fixed repeated gap 1 +ℤ step_of repeated gap *ℤ pos k
total_of_more fixed repeated gap k = ap (total_with fixed repeated gap) (let e : suc k ≡ k + 1 = omega arith in e) ∙ total_parts (sum_of fixed) (sum_of repeated) gap (length fixed) (length repeated) k

-- ---- how many fit

le_true : (a b : ℤ) → a ≤ℤ b → int_le a b ≡ true
le_true a b h = go (int_le a b) refl
  where
    go : (t : Bool) → int_le a b ≡ t → t ≡ true
    go true e = refl
    go false e = absurd (omega (arith, ints))

le_false : (a b : ℤ) → b <ℤ a → int_le a b ≡ false
le_false a b h = go (int_le a b) refl
  where
    go : (t : Bool) → int_le a b ≡ t → t ≡ false
    go true e = absurd (omega (arith, ints))
    go false e = refl

at_least_times : (k n d : ℕ) → k ≤ n → d * k ≤ n * d
at_least_times k n d h = grind arith

more_times : (n j d : ℕ) → n < j → n * d + d ≤ d * j
more_times n j d h = grind arith

fitting_passes : (q room : ℤ) (d k : ℕ) → (q *ℤ pos d) ≤ℤ room → k ≤ above_zero q → 0 < k → (pos d *ℤ pos k) ≤ℤ room
fitting_passes (pos n) room d k low h some = omega (arith, ints, at_least_times k n d h)
fitting_passes (negsuc n) room d k low h some = absurd (omega arith)

fitting_fails : (q room : ℤ) (d j : ℕ) → room <ℤ (q *ℤ pos d +ℤ pos d) → above_zero q < j → room <ℤ (pos d *ℤ pos j)
fitting_fails (pos n) room d j high h = omega (arith, ints, more_times n j d h)
fitting_fails (negsuc n) room d j high h = omega (arith, ints)

falls : (n j m : ℕ) → j ≤ m → (negsuc n *ℤ pos m) ≤ℤ (negsuc n *ℤ pos j)
falls n j m h = omega (arith, ints, at_least_times j m (suc n) h)

-- This many of a step fit the room, and one more does not.
pub record FitsTimes (step room : ℤ) (k : ℕ) : Type 0 where
  pub most : k ≤ 9999
  pub passes : 0 < k → (step *ℤ pos k) ≤ℤ room
  pub fails : (j : ℕ) → k < j → j ≤ 9999 → room <ℤ (step *ℤ pos j)

pub fitting : (step room : ℤ) → FitsTimes step room (further_fitting step room)
fitting (pos zero) room = go (int_le (pos zero *ℤ pos 9999) room) refl
  where
    go : (b : Bool) → int_le (pos zero *ℤ pos 9999) room ≡ b → FitsTimes (pos zero) room (if b then 9999 else 0)
    go true e = record { most = omega arith; passes = λ p. omega (arith, ints); fails = λ j p q. absurd (omega arith) }
    go false e = record { most = omega arith; passes = λ p. absurd (omega arith); fails = λ j p q. omega (arith, ints) }
fitting (pos (suc s)) room = record {
  most = omega arith;
  passes = λ p. fitting_passes (floor_div room (suc s)) room (suc s) (min (above_zero (floor_div room (suc s))) 9999) (floor_div_low room (suc s) (omega arith)) (omega arith) p;
  fails = λ j p q. fitting_fails (floor_div room (suc s)) room (suc s) j (floor_div_high room (suc s) (omega arith)) (omega arith);
}
fitting (negsuc n) room = go (int_le (negsuc n *ℤ pos 9999) room) refl
  where
    go : (b : Bool) → int_le (negsuc n *ℤ pos 9999) room ≡ b → FitsTimes (negsuc n) room (if b then 9999 else 0)
    go true e = record { most = omega arith; passes = λ p. omega (arith, ints); fails = λ j p q. absurd (omega arith) }
    go false e = record { most = omega arith; passes = λ p. absurd (omega arith); fails = λ j p q. omega (arith, ints, falls n j 9999 q) }

fits_count : (fixed repeated : List ℤ) (gap size : ℤ) (k : ℕ) → FitsTimes (step_of repeated gap) (size -ℤ total_with fixed repeated gap 1) k → k + 1 ≡ greatest_passing (λ count. int_le (total_with fixed repeated gap count) size) 10000
fits_count fixed repeated gap size k f = omega arith ∙ sym (greatest_is (λ count. int_le (total_with fixed repeated gap count) size) 9999 k f.most
    (λ p. le_true (total_with fixed repeated gap (suc k)) size (omega (arith, ints, total_of_more fixed repeated gap k, f.passes p)))
    (λ j p q. le_false (total_with fixed repeated gap (suc j)) size (omega (arith, ints, total_of_more fixed repeated gap j, f.fails j p q))))

-- ---- how many fill

filling_passes : (q room : ℤ) (s k : ℕ) → (room +ℤ pos s) <ℤ (q *ℤ pos (suc s) +ℤ pos (suc s)) → above_zero q ≤ k → room ≤ℤ (pos (suc s) *ℤ pos k)
filling_passes (pos n) room s k high h = omega (arith, ints, at_least_times n k (suc s) h)
filling_passes (negsuc n) room s k high h = omega (arith, ints)

filling_fails : (q room : ℤ) (s j : ℕ) → (q *ℤ pos (suc s)) ≤ℤ (room +ℤ pos s) → j < above_zero q → (pos (suc s) *ℤ pos j) <ℤ room
filling_fails (pos n) room s j low h = omega (arith, ints, more_times j n (suc s) h)
filling_fails (negsuc n) room s j low h = absurd (omega arith)

-- This many of a step fill the room, if any number up to the most does, and fewer do not.
pub record FillsTimes (step room : ℤ) (k : ℕ) : Type 0 where
  pub most : k ≤ 9999
  pub passes : k < 9999 → room ≤ℤ (step *ℤ pos k)
  pub fails : (j : ℕ) → j < k → (step *ℤ pos j) <ℤ room

pub filling : (step room : ℤ) → FillsTimes step room (further_filling step room)
filling (pos zero) room = go (int_le room (pos 0)) refl
  where
    go : (b : Bool) → int_le room (pos 0) ≡ b → FillsTimes (pos zero) room (if b then 0 else 9999)
    go true e = record { most = omega arith; passes = λ p. omega (arith, ints); fails = λ j p. absurd (omega arith) }
    go false e = record { most = omega arith; passes = λ p. absurd (omega arith); fails = λ j p. omega (arith, ints) }
filling (pos (suc s)) room = record {
  most = omega arith;
  passes = λ p. filling_passes (floor_div (room +ℤ pos s) (suc s)) room s (min (above_zero (floor_div (room +ℤ pos s) (suc s))) 9999) (floor_div_high (room +ℤ pos s) (suc s) (omega arith)) (omega arith);
  fails = λ j p. filling_fails (floor_div (room +ℤ pos s) (suc s)) room s j (floor_div_low (room +ℤ pos s) (suc s) (omega arith)) (omega arith);
}
filling (negsuc n) room = go (int_le room (pos 0)) refl
  where
    go : (b : Bool) → int_le room (pos 0) ≡ b → FillsTimes (negsuc n) room (if b then 0 else 9999)
    go true e = record { most = omega arith; passes = λ p. omega (arith, ints); fails = λ j p. absurd (omega arith) }
    go false e = record { most = omega arith; passes = λ p. absurd (omega arith); fails = λ j p. omega (arith, ints) }

fills_count : (fixed repeated : List ℤ) (gap size : ℤ) (k : ℕ) → FillsTimes (step_of repeated gap) (size -ℤ total_with fixed repeated gap 1) k → k + 1 ≡ least_passing (λ count. int_le size (total_with fixed repeated gap count)) 9999 1
fills_count fixed repeated gap size k f =
    let passes : (m : ℕ) → 1 + m ≡ suc m = λ m. omega arith in
    omega arith ∙ sym (least_is (λ count. int_le size (total_with fixed repeated gap count)) 9999 1 k f.most
    (λ p. ap (λ (m : ℕ). int_le size (total_with fixed repeated gap m)) (passes k) ∙ le_true size (total_with fixed repeated gap (suc k)) (omega (arith, ints, total_of_more fixed repeated gap k, f.passes p)))
    (λ j p. ap (λ (m : ℕ). int_le size (total_with fixed repeated gap m)) (passes j) ∙ le_false size (total_with fixed repeated gap (suc j)) (omega (arith, ints, total_of_more fixed repeated gap j, f.fails j p))))

-- One division gives the number that is counted.
pub by_division : (fixed repeated : List ℤ) (gap : ℤ) (space : RepeatSpace) → repetitions_by_division fixed repeated gap space ≡ repetitions fixed repeated gap space
unfolding repetitions
by_division fixed repeated gap (Fits size) = fits_count fixed repeated gap size (further_fitting (step_of repeated gap) (size -ℤ total_with fixed repeated gap 1)) (fitting (step_of repeated gap) (size -ℤ total_with fixed repeated gap 1))
by_division fixed repeated gap (Fills size) = fills_count fixed repeated gap size (further_filling (step_of repeated gap) (size -ℤ total_with fixed repeated gap 1)) (filling (step_of repeated gap) (size -ℤ total_with fixed repeated gap 1))
by_division fixed repeated gap Endless = refl
