-- A space in equal parts: each track gets as much, and the first ones a unit more.
use Rattle.std.proofs.Common.{arith, ap, subst, ◌≡◌, ◌∙◌, sym, refl, ℕ, zero, suc, ◌+◌, ◌-◌, ◌*◌, ◌/◌, ◌%◌, ◌<◌, ◌≤◌, ◌⊎◌, inl, inr, ℤ, pos, negsuc, ◌+ℤ◌, ◌≤ℤ◌, Bool, true, false, List, [], ◌∷◌, map, take, length, nat_lt, Option}
use Rattle.std.specs.Int.{int_max}
use Rattle.std.proofs.lemmas.Bool.{ltb-true, ltb-false}
use Rattle.std.proofs.lemmas.Int.{ints, clamps}
use Rattle.std.proofs.lemmas.Nat.{div-add-mod', mod_below}
use Rattle.part_rules.specs.declared.share.Share.{Share}
use Rattle.part_rules.specs.Lists.{sum_of, zipped}
use Rattle.part_rules.specs.Sharing.{Handed, above, filled_to, handed, roomy, shares, unshared, used}
use Rattle.part_rules.specs.Tracks.{Track, incur, in_turns, plan, without_end}
use Rattle.part_rules.proofs.Rounds.{plain}
use Rattle.part_rules.proofs.Sharing.{shares_are, unshared_is}
use Rattle.share_out.specs.Levels.{filled_rows}
use Rattle.share_out.proofs.Levels.{ends_at}
use Rattle.track_sizing.specs.Even.{even_shares}
use Rattle.track_sizing.specs.Placed.{AreReady}
use Rattle.track_sizing.proofs.Idle.{idle_turns, none_shared}
use Rattle.track_sizing.proofs.Local.{map_length}
use Rattle.track_sizing.proofs.Shares.{gots, nothings, shares_length}

-- ---- rows without an end

abbrev opens : List Track → List Share
opens ts = map roomy (map without_end ts)

times_next : (k a : ℕ) → k * suc a ≡ k + k * a
times_next k a = grind arith

times_none : (k : ℕ) → k * 0 ≡ 0
times_none k = grind arith

used_open : (level : ℕ) (ts : List Track) → used level (opens ts) ≡ level * length ts
used_open level [] = sym (times_none level)
used_open level (t ∷ ts) = omega (arith, used_open level ts, times_next level (length ts))

above_open : (level k : ℕ) (ts : List Track) → k ≤ length ts → above level (take k (opens ts)) ≡ k
above_open level zero ts h = refl
above_open level (suc k) [] h = absurd (omega arith)
above_open level (suc k) (t ∷ ts) h = ap suc (above_open level k ts (omega arith))

handed_open : (level odd n : ℕ) (ts : List Track) → level * length ts + odd ≡ n → odd ≤ length ts → handed n (opens ts) ≡ plain (filled_rows level odd (opens ts)) 0
handed_open level odd n ts e h =
    let fits : used level (opens ts) ≤ n = omega (arith, used_open level ts, e) in
    let left : odd ≡ n - used level (opens ts) = omega (arith, used_open level ts, e) in
    ends_at level odd n (opens ts) fits (above_open level odd ts h ∙ left)

-- ---- the parts

-- each as much, and so many first ones a unit more
abbrev pub parts : ℕ → ℕ → List Track → List ℤ
parts level odd [] = []
parts level zero (t ∷ ts) = pos level ∷ parts level zero ts
parts level (suc odd) (t ∷ ts) = pos (suc level) ∷ parts level odd ts

got_rest : (level : ℕ) (ts : List Track) → gots (map (filled_to level) (opens ts)) ≡ parts level zero ts
got_rest level [] = refl
got_rest level (t ∷ ts) = ap (λ (zs : List ℤ). pos level ∷ zs) (got_rest level ts)

got_parts : (level odd : ℕ) (ts : List Track) → gots (filled_rows level odd (opens ts)) ≡ parts level odd ts
got_parts level zero ts = got_rest level ts
got_parts level (suc odd) [] = refl
got_parts level (suc odd) (t ∷ ts) = ap (λ (zs : List ℤ). pos (suc level) ∷ zs) (got_parts level odd ts)

pub even_parts : (level odd n : ℕ) (ts : List Track) → level * length ts + odd ≡ n → odd ≤ length ts → even_shares (pos n) ts ≡ parts level odd ts
even_parts level odd n ts e h = shares_are (pos n) (map without_end ts) ∙ ap (λ (g : Handed). gots g.rows) (handed_open level odd n ts e h) ∙ got_parts level odd ts

pub even_whole : (n : ℕ) (ts : List Track) → 0 < length ts → even_shares (pos n) ts ≡ parts (n / length ts) (n % length ts) ts
even_whole n ts some =
    let below : n % length ts < length ts = mod_below n (length ts) some in
    even_parts (n / length ts) (n % length ts) n ts (div-add-mod' n (length ts)) (omega (arith, below))

pub nothing_left : (space : ℤ) (ts : List Track) → pos 0 ≤ℤ space → 0 < length ts → unshared space (map without_end ts) ≡ pos 0
nothing_left (pos n) ts h some =
    let below : n % length ts < length ts = mod_below n (length ts) some in
    unshared_is (pos n) (map without_end ts) ∙ ap (λ (g : Handed). pos g.left) (handed_open (n / length ts) (n % length ts) n ts (div-add-mod' n (length ts)) (omega (arith, below)))
nothing_left (negsuc n) ts h some = absurd (omega (arith, ints))

pub even_length : (space : ℤ) (ts : List Track) → length (even_shares space ts) ≡ length ts
even_length space ts = shares_length space (map without_end ts) ∙ map_length without_end ts

-- no part below 0
abbrev pub AllSome : List ℤ → Type 0
AllSome [] = Unit {0}
AllSome (z ∷ zs) = (pos 0 ≤ℤ z) × AllSome zs

parts_some : (level odd : ℕ) (ts : List Track) → AllSome (parts level odd ts)
parts_some level odd [] = tt
parts_some level zero (t ∷ ts) = (omega (arith, ints), parts_some level zero ts)
parts_some level (suc odd) (t ∷ ts) = (omega (arith, ints), parts_some level odd ts)

pub even_some : (space : ℤ) (ts : List Track) → pos 0 ≤ℤ space → 0 < length ts → AllSome (even_shares space ts)
even_some (pos n) ts h some = subst AllSome (sym (even_whole n ts some)) (parts_some (n / length ts) (n % length ts) ts)
even_some (negsuc n) ts h some = absurd (omega (arith, ints))

sum_parts : (level odd : ℕ) (ts : List Track) → odd ≤ length ts → sum_of (parts level odd ts) ≡ pos (level * length ts + odd)
sum_parts level zero [] h = ap pos (let none : 0 ≡ level * 0 + 0 = omega (arith, times_none level) in none)
sum_parts level (suc odd) [] h = absurd (omega arith)
sum_parts level zero (t ∷ ts) h = omega (arith, ints, sum_parts level zero ts (omega arith), times_next level (length ts))
sum_parts level (suc odd) (t ∷ ts) h = omega (arith, ints, sum_parts level odd ts (omega arith), times_next level (length ts))

-- All of a space is given.
pub even_sum : (space : ℤ) (ts : List Track) → pos 0 ≤ℤ space → 0 < length ts → sum_of (even_shares space ts) ≡ space
even_sum (pos n) ts h some =
    let below : n % length ts < length ts = mod_below n (length ts) some in
    ap (λ (zs : List ℤ). sum_of zs) (even_whole n ts some) ∙ sum_parts (n / length ts) (n % length ts) ts (omega (arith, below)) ∙ ap pos (div-add-mod' n (length ts))
even_sum (negsuc n) ts h some = absurd (omega (arith, ints))

-- ---- of a greater space no part is less

abbrev AreUnder : List ℤ → List ℤ → Type 0
AreUnder [] [] = Unit {0}
AreUnder [] (y ∷ ys) = ⊥
AreUnder (x ∷ xs) [] = ⊥
AreUnder (x ∷ xs) (y ∷ ys) = (x ≤ℤ y) × AreUnder xs ys

under_less : (l o m p : ℕ) (ts : List Track) → l < m → AreUnder (parts l o ts) (parts m p ts)
under_less l zero m zero [] h = tt
under_less l zero m (suc p) [] h = tt
under_less l (suc o) m zero [] h = tt
under_less l (suc o) m (suc p) [] h = tt
under_less l zero m zero (t ∷ ts) h = (omega (arith, ints, h), under_less l zero m zero ts h)
under_less l zero m (suc p) (t ∷ ts) h = (omega (arith, ints, h), under_less l zero m p ts h)
under_less l (suc o) m zero (t ∷ ts) h = (omega (arith, ints, h), under_less l o m zero ts h)
under_less l (suc o) m (suc p) (t ∷ ts) h = (omega (arith, ints, h), under_less l o m p ts h)

under_same : (l o p : ℕ) (ts : List Track) → o ≤ p → AreUnder (parts l o ts) (parts l p ts)
under_same l zero zero [] h = tt
under_same l zero (suc p) [] h = tt
under_same l (suc o) zero [] h = tt
under_same l (suc o) (suc p) [] h = tt
under_same l zero zero (t ∷ ts) h = (omega (arith, ints), under_same l zero zero ts h)
under_same l zero (suc p) (t ∷ ts) h = (omega (arith, ints), under_same l zero p ts (omega arith))
under_same l (suc o) zero (t ∷ ts) h = absurd (omega arith)
under_same l (suc o) (suc p) (t ∷ ts) h = (omega (arith, ints), under_same l o p ts (omega arith))

times_over : (p d a : ℕ) → (p + 1 + d) * a ≡ p * a + a + d * a
times_over p d a = grind arith

-- a greater number of units is at a higher level, or at the same with as many units more
above_or_at : (q r p s a n k : ℕ) → q * a + r ≡ n → p * a + s ≡ k → s < a → n ≤ k → (q < p) ⊎ ((q ≡ p) × (r ≤ s))
above_or_at q r p s a n k e d l h = go (nat_lt q p) (nat_lt p q) refl refl
  where
    go : (b c : Bool) → nat_lt q p ≡ b → nat_lt p q ≡ c → (q < p) ⊎ ((q ≡ p) × (r ≤ s))
    go true c x y = inl (ltb-true q p x)
    go false true x y =
        let more : ℕ = q - (p + 1) in
        let is : q ≡ p + 1 + more = omega (arith, ltb-true p q y) in
        let times : q * a ≡ p * a + a + more * a = ap (λ (m : ℕ). m * a) is ∙ times_over p more a in
        absurd (omega (arith, times, e, d, l, h))
    go false false x y =
        let same : q ≡ p = omega (arith, ltb-false q p x, ltb-false p q y) in
        let times : q * a ≡ p * a = ap (λ (m : ℕ). m * a) same in
        inr (same, omega (arith, times, e, d, h))

under_even : (n k : ℕ) (ts : List Track) → 0 < length ts → n ≤ k → AreUnder (even_shares (pos n) ts) (even_shares (pos k) ts)
under_even n k ts some h =
    let a : ℕ = length ts in
    subst (λ (zs : List ℤ). AreUnder zs (even_shares (pos k) ts)) (sym (even_whole n ts some))
    (subst (λ (zs : List ℤ). AreUnder (parts (n / a) (n % a) ts) zs) (sym (even_whole k ts some))
    (go (above_or_at (n / a) (n % a) (k / a) (k % a) a n k (div-add-mod' n a) (div-add-mod' k a) (mod_below k a some) h)))
  where
    go : ((n / length ts) < (k / length ts)) ⊎ (((n / length ts) ≡ (k / length ts)) × (n % length ts ≤ k % length ts)) → AreUnder (parts (n / length ts) (n % length ts) ts) (parts (k / length ts) (k % length ts) ts)
    go (inl less) = under_less (n / length ts) (n % length ts) (k / length ts) (k % length ts) ts less
    go (inr at) = subst (λ (l : ℕ). AreUnder (parts (n / length ts) (n % length ts) ts) (parts l (k % length ts) ts)) at.0 (under_same (n / length ts) (n % length ts) (k % length ts) ts at.1)

-- ---- what is planned

-- a track of which a share is planned
abbrev pub plan_share : Track → ℤ → Track
plan_share t share = let greatest = int_max t.planned share in record t { planned = greatest }

abbrev pub planned_evenly : ℤ → List Track → List Track
planned_evenly space ts = zipped plan_share ts (even_shares space ts)

twice_up : (ts : List Track) (xs ys : List ℤ) → AreUnder xs ys → zipped plan_share (zipped plan_share ts xs) ys ≡ zipped plan_share ts ys
twice_up [] xs ys h = refl
twice_up (t ∷ ts) [] [] h = refl
twice_up (t ∷ ts) [] (y ∷ ys) h = absurd h
twice_up (t ∷ ts) (x ∷ xs) [] h = absurd h
twice_up (t ∷ ts) (x ∷ xs) (y ∷ ys) h =
    let same : int_max (int_max t.planned x) y ≡ int_max t.planned y = omega (arith, ints, clamps, h.0) in
    ap (λ (z : ℤ). record t { planned = z } ∷ zipped plan_share (zipped plan_share ts xs) ys) same ∙ ap (λ (us : List Track). plan_share t y ∷ us) (twice_up ts xs ys h.1)

twice_down : (ts : List Track) (xs ys : List ℤ) → AreUnder ys xs → zipped plan_share (zipped plan_share ts xs) ys ≡ zipped plan_share ts xs
twice_down [] xs ys h = refl
twice_down (t ∷ ts) [] [] h = refl
twice_down (t ∷ ts) [] (y ∷ ys) h = absurd h
twice_down (t ∷ ts) (x ∷ xs) [] h = absurd h
twice_down (t ∷ ts) (x ∷ xs) (y ∷ ys) h =
    let same : int_max (int_max t.planned x) y ≡ int_max t.planned x = omega (arith, ints, clamps, h.0) in
    ap (λ (z : ℤ). record t { planned = z } ∷ zipped plan_share (zipped plan_share ts xs) ys) same ∙ ap (λ (us : List Track). plan_share t x ∷ us) (twice_down ts xs ys h.1)

-- Of two spaces the greater one counts.
pub plan_twice : (one other : ℤ) (ts : List Track) → pos 0 ≤ℤ one → pos 0 ≤ℤ other → 0 < length ts → zipped plan_share (planned_evenly one ts) (even_shares other ts) ≡ planned_evenly (int_max other one) ts
plan_twice (pos n) (pos k) ts h g some = go (nat_lt n k) refl
  where
    go : (b : Bool) → nat_lt n k ≡ b → zipped plan_share (planned_evenly (pos n) ts) (even_shares (pos k) ts) ≡ planned_evenly (int_max (pos k) (pos n)) ts
    go true e =
        let up : n ≤ k = omega (arith, ltb-true n k e) in
        let most : pos k ≡ int_max (pos k) (pos n) = omega (arith, ints, clamps, up) in
        twice_up ts (even_shares (pos n) ts) (even_shares (pos k) ts) (under_even n k ts some up) ∙ ap (λ (z : ℤ). planned_evenly z ts) most
    go false e =
        let down : k ≤ n = ltb-false n k e in
        let most : pos n ≡ int_max (pos k) (pos n) = omega (arith, ints, clamps, down) in
        twice_down ts (even_shares (pos n) ts) (even_shares (pos k) ts) (under_even k n ts some down) ∙ ap (λ (z : ℤ). planned_evenly z ts) most
plan_twice (pos n) (negsuc k) ts h g some = absurd (omega (arith, ints))
plan_twice (negsuc n) other ts h g some = absurd (omega (arith, ints))

zip_nothing : (ts : List Track) → AreReady ts → zipped plan_share ts (nothings (map without_end ts)) ≡ ts
zip_nothing [] h = refl
zip_nothing (t ∷ ts) h =
    let same : int_max t.planned (pos 0) ≡ t.planned = omega (arith, ints, clamps, h.0.1) in
    ap (λ (z : ℤ). record t { planned = z } ∷ zipped plan_share ts (nothings (map without_end ts))) same ∙ ap (λ (us : List Track). t ∷ us) (zip_nothing ts h.1)

pub planned_none : (ts : List Track) → AreReady ts → planned_evenly (pos 0) ts ≡ ts
planned_none ts h = ap (zipped plan_share ts) (none_shared (map without_end ts)) ∙ zip_nothing ts h

-- ---- turns

-- Where all have room without end, the first turn gives the whole space.
pub given_even : (room : Track → Option ℤ) (rest : List (Track → Option ℤ)) (space : ℤ) (ts : List Track) → map room ts ≡ map without_end ts → pos 0 ≤ℤ space → 0 < length ts → in_turns (room ∷ rest) space ts ≡ zipped incur ts (even_shares space ts)
given_even room rest space ts e h some =
    ap (λ (each : List (Option ℤ)). in_turns rest (unshared space each) (zipped incur ts (shares space each))) e
    ∙ ap (λ (z : ℤ). in_turns rest z (zipped incur ts (even_shares space ts))) (nothing_left space ts h some)
    ∙ idle_turns rest (zipped incur ts (even_shares space ts))

pub planned_shares : (ts : List Track) (ss : List ℤ) → AreReady ts → map plan (zipped incur ts ss) ≡ zipped plan_share ts ss
planned_shares [] ss h = refl
planned_shares (t ∷ ts) [] h = refl
planned_shares (t ∷ ts) (s ∷ ss) h =
    let sum : t.incurred +ℤ s ≡ s = omega (arith, ints, h.0.0) in
    ap (λ (z : ℤ). record t { planned = int_max t.planned z; incurred = pos 0 } ∷ map plan (zipped incur ts ss)) sum
    ∙ ap (λ (z : ℤ). record t { planned = int_max t.planned s; incurred = z } ∷ map plan (zipped incur ts ss)) (sym h.0.0)
    ∙ ap (λ (us : List Track). plan_share t s ∷ us) (planned_shares ts ss h.1)
