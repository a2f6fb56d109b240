-- The fraction that is found gives each flexible track at least its base size.
use Rattle.std.proofs.Common.{arith, subst, ◌≡◌, sym, refl, true≢false, ℕ, zero, suc, ℤ, pos, ◌+◌, ◌<◌, ◌≤◌, ◌+ℤ◌, ◌-ℤ◌, ◌*ℤ◌, ◌≤ℤ◌, Bool, true, false, ◌&&◌, ◌||◌, List, [], ◌∷◌, map, length, if◌then◌else◌, int_le, int_lt}
use Rattle.std.specs.List.{list_any}
use Rattle.std.proofs.lemmas.Int.{ints, clamps}
use Rattle.lunit.specs.Units.{clamp, floor_div, top}
use Rattle.part_rules.specs.declared.fraction.FrRow.{FrRow}
use Rattle.part_rules.specs.declared.fraction.Fraction.{Fraction}
use Rattle.part_rules.specs.Lists.{zipped}
use Rattle.part_rules.specs.Sharing.{part, apportioned_after}
use Rattle.part_rules.specs.Fractions.{is_flexible, factor_of, leftover, weight_of, falls_short, settled, inflexible, left_flexible, found, no_fraction, takes, weight_in, with_part, expanded, NoneBelow, are_bases}
use Rattle.part_rules.proofs.Floor.{floor_div_low, floor_div_high, cancel, add-times, times-add}

-- ---- each start leaves fewer flexible tracks

abbrev one_if : Bool → ℕ
one_if true = 1
one_if false = 0

abbrev flexibles : List FrRow → ℕ
flexibles [] = 0
flexibles (r ∷ rest) = one_if (is_flexible r) + flexibles rest

flexibles_most : (rows : List FrRow) → flexibles rows ≤ length rows
flexibles_most [] = omega arith
flexibles_most (r ∷ rest) = go (is_flexible r) (flexibles_most rest)
  where
    go : (b : Bool) → flexibles rest ≤ length rest → one_if b + flexibles rest ≤ suc (length rest)
    go true h = omega arith
    go false h = omega arith

-- what settling does to one track
settles : (left : ℤ) (weight : ℕ) (r : FrRow) → (one_if (is_flexible (settled left weight r)) ≤ one_if (is_flexible r)) × (falls_short left weight r ≡ true → one_if (is_flexible (settled left weight r)) < one_if (is_flexible r))
settles left weight r = go (is_flexible r) (int_lt (left *ℤ pos (factor_of r)) (r.base *ℤ pos weight)) refl refl
  where
    go : (f s : Bool) → is_flexible r ≡ f → int_lt (left *ℤ pos (factor_of r)) (r.base *ℤ pos weight) ≡ s → (one_if (is_flexible (if f && s then inflexible r else r)) ≤ one_if f) × ((f && s) ≡ true → one_if (is_flexible (if f && s then inflexible r else r)) < one_if f)
    go true true e d = (omega arith, λ h. omega arith)
    go true false e d = (subst (λ (b : Bool). one_if b ≤ 1) (sym e) (omega arith), λ h. absurd (true≢false (sym h)))
    go false s e d = (subst (λ (b : Bool). one_if b ≤ 0) (sym e) (omega arith), λ h. absurd (true≢false (sym h)))

fewer : (left : ℤ) (weight : ℕ) (rows : List FrRow) → (flexibles (map (settled left weight) rows) ≤ flexibles rows) × (list_any (falls_short left weight) rows ≡ true → flexibles (map (settled left weight) rows) < flexibles rows)
fewer left weight [] = (omega arith, λ h. absurd (true≢false (sym h)))
fewer left weight (r ∷ rest) =
    let one = settles left weight r in
    let more = fewer left weight rest in
    (omega (arith, one.0, more.0), λ h. go (falls_short left weight r) (list_any (falls_short left weight) rest) h one.1 more.1 one.0 more.0)
  where
    go : (a b : Bool) → (a || b) ≡ true
        → (a ≡ true → one_if (is_flexible (settled left weight r)) < one_if (is_flexible r))
        → (b ≡ true → flexibles (map (settled left weight) rest) < flexibles rest)
        → one_if (is_flexible (settled left weight r)) ≤ one_if (is_flexible r)
        → flexibles (map (settled left weight) rest) ≤ flexibles rest
        → one_if (is_flexible (settled left weight r)) + flexibles (map (settled left weight) rest) < one_if (is_flexible r) + flexibles rest
    go true b h f g p q = omega (arith, f refl, q)
    go false true h f g p q = omega (arith, g refl, p)
    go false false h f g p q = absurd (true≢false (sym h))

abbrev NoneShort : ℤ → List FrRow → Type 0
NoneShort space rows = list_any (falls_short (leftover space rows) (weight_of rows)) rows ≡ false

none_flexible : (left : ℤ) (weight : ℕ) (rows : List FrRow) → flexibles rows ≤ 0 → list_any (falls_short left weight) rows ≡ false
none_flexible left weight [] h = refl
none_flexible left weight (r ∷ rest) h = go (is_flexible r) h (none_flexible left weight rest)
  where
    go : (b : Bool) → one_if b + flexibles rest ≤ 0 → (flexibles rest ≤ 0 → list_any (falls_short left weight) rest ≡ false) → ((b && int_lt (left *ℤ pos (factor_of r)) (r.base *ℤ pos weight)) || list_any (falls_short left weight) rest) ≡ false
    go true h f = absurd (omega arith)
    go false h f = f (omega arith)

ends : (starts : ℕ) (space : ℤ) (rows : List FrRow) → flexibles rows ≤ starts → NoneShort space (left_flexible starts space rows)
unfolding left_flexible
ends zero space rows h = none_flexible (leftover space rows) (weight_of rows) rows h
ends (suc starts) space rows h = go (list_any (falls_short (leftover space rows) (weight_of rows)) rows) refl ((fewer (leftover space rows) (weight_of rows) rows).1) (ends starts space (map (settled (leftover space rows) (weight_of rows)) rows))
  where
    go : (b : Bool) → list_any (falls_short (leftover space rows) (weight_of rows)) rows ≡ b
        → (list_any (falls_short (leftover space rows) (weight_of rows)) rows ≡ true → flexibles (map (settled (leftover space rows) (weight_of rows)) rows) < flexibles rows)
        → (flexibles (map (settled (leftover space rows) (weight_of rows)) rows) ≤ starts → NoneShort space (left_flexible starts space (map (settled (leftover space rows) (weight_of rows)) rows)))
        → NoneShort space (if b then left_flexible starts space (map (settled (leftover space rows) (weight_of rows)) rows) else rows)
    go true e f g = g (omega (arith, f e))
    go false e f g = e

-- No track that is left flexible gets less than its base size.
pub none_short : (rows : List FrRow) (gutters space : ℤ) → list_any (falls_short (leftover (space -ℤ gutters) (left_flexible (length rows) (space -ℤ gutters) rows)) (weight_of (left_flexible (length rows) (space -ℤ gutters) rows))) (left_flexible (length rows) (space -ℤ gutters) rows) ≡ false
none_short rows gutters space = ends (length rows) (space -ℤ gutters) rows (flexibles_most rows)

-- ---- each track that takes part has at least its base size

part_enough : (space base : ℤ) (whole before weight : ℕ) → 0 < whole → (base *ℤ pos whole) ≤ℤ (space *ℤ pos weight) → base ≤ℤ (part space whole (before + weight) -ℤ part space whole before)
part_enough space base whole before weight h e =
    let low = floor_div_low (space *ℤ pos before) whole h in
    let high = floor_div_high (space *ℤ pos (before + weight)) whole h in
    let c = cancel (floor_div (space *ℤ pos before) whole +ℤ base) (floor_div (space *ℤ pos (before + weight)) whole) whole (omega (arith, ints, low, high, e, add-times (floor_div (space *ℤ pos before) whole) base whole, times-add space before weight)) in
    omega (arith, ints, c)

clamp_keeps : (base x : ℤ) → base ≤ℤ top → base ≤ℤ x → base ≤ℤ clamp x
unfolding clamp
clamp_keeps base x h e = omega (arith, ints, clamps)

both_pass : (u v : Bool) → (u && v) ≡ true → (u ≡ true) × (v ≡ true)
both_pass true v e = (refl, e)
both_pass false v e = (e, absurd (true≢false (sym e)))

le_refl : (z : ℤ) → z ≤ℤ z
le_refl z = omega (arith, ints)

with_part_enough : (f : Fraction) (r : FrRow) (before : ℕ) → 0 < f.weight → int_le r.base top ≡ true → r.base ≤ℤ (with_part f r (part f.space f.weight (before + weight_in f r) -ℤ part f.space f.weight before)).base
with_part_enough f r before h t = go (takes f r) refl
  where
    go : (b : Bool) → takes f r ≡ b → r.base ≤ℤ (if b then record r { base = clamp (part f.space f.weight (before + (if b then factor_of r else 0)) -ℤ part f.space f.weight before) } else r).base
    go true e =
        let le : int_le (r.base *ℤ pos f.weight) (f.space *ℤ pos (factor_of r)) ≡ true = (both_pass (is_flexible r) (int_le (r.base *ℤ pos f.weight) (f.space *ℤ pos (factor_of r))) e).1 in
        clamp_keeps r.base (part f.space f.weight (before + factor_of r) -ℤ part f.space f.weight before) (omega (arith, ints)) (part_enough f.space r.base f.weight before (factor_of r) h (omega (arith, ints)))
    go false e = le_refl r.base

none_below_after : (f : Fraction) (rows : List FrRow) (before : ℕ) → 0 < f.weight → are_bases rows ≡ true → NoneBelow rows (zipped (with_part f) rows (apportioned_after before f.space f.weight (map (weight_in f) rows)))
none_below_after f [] before h t = tt
none_below_after f (r ∷ rest) before h t =
    let ts = both_pass (int_le r.base top) (are_bases rest) t in
    (with_part_enough f r before h ts.0, none_below_after f rest (before + weight_in f r) h ts.1)

-- No track is below its base size once it is expanded.
pub none_below : (f : Fraction) (rows : List FrRow) → 0 < f.weight → are_bases rows ≡ true → NoneBelow rows (expanded f rows)
none_below f rows h t = none_below_after f rows 0 h t

found_weight : (b : Bool) (f g : Fraction) → 0 < f.weight → 0 < g.weight → 0 < (if b then f else g).weight
found_weight true f g p q = p
found_weight false f g p q = q

-- With the fraction that fills a space no track is below its base size.
pub found_none_below : (rows : List FrRow) (gutters space : ℤ) → are_bases rows ≡ true → NoneBelow rows (expanded (found rows gutters space) rows)
found_none_below rows gutters space t =
    let left = left_flexible (length rows) (space -ℤ gutters) rows in
    none_below (found rows gutters space) rows (found_weight (list_any is_flexible left) (record { space = leftover (space -ℤ gutters) left; weight = weight_of left }) no_fraction (omega arith) (omega arith)) t
