-- Flexible tracks expanded.
use Rattle.std.proofs.Common.{arith, ap, subst, ◌≡◌, ◌∙◌, sym, refl, true≢false, ℕ, ◌+◌, ◌-◌, ◌<◌, ◌≤◌, ℤ, pos, ◌+ℤ◌, ◌-ℤ◌, ◌*ℤ◌, ◌≤ℤ◌, Bool, true, false, not, List, [], ◌∷◌, ◌++◌, map, length, cond, filter, Option, Some, None, if◌then◌else◌}
use Rattle.std.specs.Prelude.{unwrap_or}
use Rattle.std.specs.List.{list_any}
use Rattle.std.specs.Ordering.{int_eq}
use Rattle.std.proofs.lemmas.Int.{ints, clamps}
use Rattle.lunit.specs.Units.{clamp}
use Rattle.lunit.specs.declared.item.Item.{Item}
use Rattle.fr_tracks.specs.Settled.{HaveBases}
use Rattle.part_rules.specs.declared.fraction.FrRow.{FrRow}
use Rattle.part_rules.specs.declared.fraction.Fraction.{Fraction}
use Rattle.part_rules.specs.declared.track.Fit.{Fit}
use Rattle.part_rules.specs.declared.track.Most.{Most}
use Rattle.part_rules.specs.declared.track.Most.TheVariants as most
use Rattle.part_rules.specs.Lists.{at_least, at_most, sum_of, zipped}
use Rattle.part_rules.specs.Sharing.{part, apportioned_after}
use Rattle.part_rules.specs.Fractions.{expanded, no_fraction, takes, weight_in, with_part}
use Rattle.part_rules.specs.Tracks.{Track, all_gutters, definite_fraction, expanded_by, expanded_within, factor_of, flexed, flexible, fr_row, fraction_for, greatest_fraction, is_flexible, is_max_content, total, with_base}
use Rattle.track_sizing.specs.Flex.{greatest_over, item_fractions, other_total, space_again, track_fractions}
use Rattle.track_sizing.proofs.Best.{greatest_all, greatest_parts}
use Rattle.track_sizing.proofs.Idle.{either}
use Rattle.track_sizing.proofs.Parted.{neither}
use Rattle.track_sizing.proofs.Parts.{part_rises}

pub max_fraction : (gap : ℤ) (items : List Item) (ts : List Track) (start best : Fraction) → start ≡ greatest_over no_fraction (item_fractions gap ts items) → best ≡ greatest_over start (track_fractions ts) → best ≡ greatest_fraction (track_fractions ts ++ item_fractions gap ts items)
max_fraction gap items ts start best s b = b ∙ ap (λ (f : Fraction). greatest_over f (track_fractions ts)) (s ∙ sym (greatest_all (item_fractions gap ts items))) ∙ sym (greatest_parts (track_fractions ts) (item_fractions gap ts items))

-- ---- sizes are not below 0

rises_kept : (space : ℤ) (whole m n : ℕ) → 0 < whole → pos 0 ≤ℤ space → m ≤ n → pos 0 ≤ℤ clamp (part space whole n -ℤ part space whole m)
unfolding clamp
rises_kept space whole m n some p h = omega (arith, ints, clamps, part_rises space whole m n some p h)

bases_after : (f : Fraction) (before : ℕ) (rows : List FrRow) → 0 < f.weight → pos 0 ≤ℤ f.space → HaveBases rows → HaveBases (zipped (with_part f) rows (apportioned_after before f.space f.weight (map (weight_in f) rows)))
bases_after f before [] w p h = tt
bases_after f before (r ∷ rest) w p h = (go (takes f r) h.0, bases_after f (before + weight_in f r) rest w p h.1)
  where
    go : (b : Bool) → pos 0 ≤ℤ r.base → pos 0 ≤ℤ (if b then record r { base = clamp (part f.space f.weight (before + weight_in f r) -ℤ part f.space f.weight before) } else r).base
    go true q = rises_kept f.space f.weight before (before + weight_in f r) w p (omega arith)
    go false q = q

pub bases_expanded : (f : Fraction) (rows now : List FrRow) → 0 < f.weight → pos 0 ≤ℤ f.space → HaveBases rows → now ≡ expanded f rows → HaveBases now
bases_expanded f rows now w p h e = subst HaveBases (sym e) (bases_after f 0 rows w p h)

pub length_rows : (ts : List Track) → length (map fr_row ts) ≡ length ts
length_rows [] = refl
length_rows (t ∷ ts) = omega (arith, length_rows ts)

-- ---- the total

sum_based : (ts : List Track) (rs : List FrRow) → length rs ≡ length ts → sum_of (map (λ (t : Track). t.base) (zipped with_base ts rs)) ≡ sum_of (map (λ (r : FrRow). r.base) rs)
sum_based [] [] e = refl
sum_based [] (r ∷ rs) e = absurd (omega arith)
sum_based (t ∷ ts) [] e = absurd (omega arith)
sum_based (t ∷ ts) (r ∷ rs) e = ap (λ (z : ℤ). r.base +ℤ z) (sum_based ts rs (omega arith))

abbrev is_open : Track → Bool
is_open t = not t.rule.collapsed

count_based : (ts : List Track) (rs : List FrRow) → length rs ≡ length ts → length (filter is_open (zipped with_base ts rs)) ≡ length (filter is_open ts)
count_based [] rs e = refl
count_based (t ∷ ts) [] e = absurd (omega arith)
count_based (t ∷ ts) (r ∷ rs) e = go (is_open t) (count_based ts rs (omega arith))
  where
    go : (b : Bool) → length (filter is_open (zipped with_base ts rs)) ≡ length (filter is_open ts) → length (cond b (with_base t r ∷ filter is_open (zipped with_base ts rs)) (filter is_open (zipped with_base ts rs))) ≡ length (cond b (t ∷ filter is_open ts) (filter is_open ts))
    go true h = omega (arith, h)
    go false h = h

abbrev gutters_of : ℤ → ℕ → ℤ
gutters_of gap n = gap *ℤ pos (n - 1)

total_based : (gap : ℤ) (ts : List Track) (rs : List FrRow) → length rs ≡ length ts → total gap (zipped with_base ts rs) ≡ sum_of (map (λ (r : FrRow). r.base) rs) +ℤ all_gutters gap ts
total_based gap ts rs e =
    ap (λ (z : ℤ). z +ℤ all_gutters gap (zipped with_base ts rs)) (sum_based ts rs e)
    ∙ ap (λ (n : ℕ). sum_of (map (λ (r : FrRow). r.base) rs) +ℤ gutters_of gap n) (count_based ts rs e)

-- ---- once, or again

abbrev is_known : Option ℤ → Bool
is_known None = false
is_known (Some z) = true

some_none : {z : ℤ} → Some z ≡ None → ⊥
some_none e = true≢false (ap is_known e)

some_same : {y z : ℤ} → Some y ≡ Some z → y ≡ z
some_same {y} {z} e = ap (λ (o : Option ℤ). unwrap_or o y) e

within_none : (min most : Option ℤ) (gap sum : ℤ) (ts done : List Track) → total gap done ≡ sum → other_total min most sum ≡ None → expanded_within min most gap ts done ≡ done
within_none min most gap sum ts done e n = go (int_eq (at_least min (at_most most sum)) sum) refl n
  where
    go : (b : Bool) → int_eq (at_least min (at_most most sum)) sum ≡ b → (if b then None else Some (at_least min (at_most most sum))) ≡ None → expanded_within min most gap ts done ≡ done
    go true d n = ap (λ (z : ℤ). if int_eq (at_least min (at_most most z)) z then done else expanded_by (definite_fraction gap (at_least min (at_most most z)) ts) ts) e ∙ ap (λ (b : Bool). if b then done else expanded_by (definite_fraction gap (at_least min (at_most most sum)) ts) ts) d
    go false d n = absurd (some_none n)

within_some : (min most : Option ℤ) (gap sum again : ℤ) (ts done : List Track) → total gap done ≡ sum → other_total min most sum ≡ Some again → expanded_within min most gap ts done ≡ expanded_by (definite_fraction gap again ts) ts
within_some min most gap sum again ts done e n = go (int_eq (at_least min (at_most most sum)) sum) refl n
  where
    go : (b : Bool) → int_eq (at_least min (at_most most sum)) sum ≡ b → (if b then None else Some (at_least min (at_most most sum))) ≡ Some again → expanded_within min most gap ts done ≡ expanded_by (definite_fraction gap again ts) ts
    go true d n = absurd (some_none (sym n))
    go false d n =
        ap (λ (z : ℤ). if int_eq (at_least min (at_most most z)) z then done else expanded_by (definite_fraction gap (at_least min (at_most most z)) ts) ts) e
        ∙ ap (λ (b : Bool). if b then done else expanded_by (definite_fraction gap (at_least min (at_most most sum)) ts) ts) d
        ∙ ap (λ (z : ℤ). expanded_by (definite_fraction gap z ts) ts) (some_same n)

pub flexed_none : {axis : ℕ} (fit : Fit axis) (items : List Item) (ts now : List Track) (rs : List FrRow) → rs ≡ expanded (fraction_for fit.space fit.gap items ts) (map fr_row ts) → length rs ≡ length ts → space_again fit ts rs ≡ None → now ≡ zipped with_base ts rs → now ≡ flexed fit items ts
flexed_none fit items ts now rs e l n v = v ∙ go (is_max_content fit.space) n
  where
    same : zipped with_base ts rs ≡ expanded_by (fraction_for fit.space fit.gap items ts) ts
    same = ap (zipped with_base ts) e

    go : (b : Bool) → (if b then other_total fit.min fit.max (sum_of (map (λ (r : FrRow). r.base) rs) +ℤ all_gutters fit.gap ts) else None) ≡ None
        → zipped with_base ts rs ≡ (if b then expanded_within fit.min fit.max fit.gap ts (expanded_by (fraction_for fit.space fit.gap items ts) ts) else expanded_by (fraction_for fit.space fit.gap items ts) ts)
    go true n =
        ap (zipped with_base ts) e ∙
        sym (within_none fit.min fit.max fit.gap (sum_of (map (λ (r : FrRow). r.base) rs) +ℤ all_gutters fit.gap ts) ts (expanded_by (fraction_for fit.space fit.gap items ts) ts) (ap (λ (xs : List FrRow). total fit.gap (zipped with_base ts xs)) (sym e) ∙ total_based fit.gap ts rs l) n)
    go false n = ap (zipped with_base ts) e

pub flexed_some : {axis : ℕ} (fit : Fit axis) (items : List Item) (ts now : List Track) (rs again : List FrRow) (space : ℤ) → rs ≡ expanded (fraction_for fit.space fit.gap items ts) (map fr_row ts) → length rs ≡ length ts → space_again fit ts rs ≡ Some space
    → again ≡ expanded (definite_fraction fit.gap space ts) (map fr_row ts) → now ≡ zipped with_base ts again → now ≡ flexed fit items ts
flexed_some fit items ts now rs again space e l n a v = v ∙ ap (zipped with_base ts) a ∙ go (is_max_content fit.space) n
  where
    go : (b : Bool) → (if b then other_total fit.min fit.max (sum_of (map (λ (r : FrRow). r.base) rs) +ℤ all_gutters fit.gap ts) else None) ≡ Some space
        → expanded_by (definite_fraction fit.gap space ts) ts ≡ (if b then expanded_within fit.min fit.max fit.gap ts (expanded_by (fraction_for fit.space fit.gap items ts) ts) else expanded_by (fraction_for fit.space fit.gap items ts) ts)
    go true n = sym (within_some fit.min fit.max fit.gap (sum_of (map (λ (r : FrRow). r.base) rs) +ℤ all_gutters fit.gap ts) space ts (expanded_by (fraction_for fit.space fit.gap items ts) ts) (ap (λ (xs : List FrRow). total fit.gap (zipped with_base ts xs)) (sym e) ∙ total_based fit.gap ts rs l) n)
    go false n = absurd (some_none (sym n))

-- ---- no flexible track

no_factor : (m : Most) → is_flexible m ≡ false → factor_of m ≡ None
no_factor (most.Fixed x) e = refl
no_factor most.MinContent e = refl
no_factor most.MaxContent e = refl
no_factor most.Auto e = refl
no_factor (most.Fit x) e = refl
no_factor (most.Flex w) e = absurd (true≢false e)

base_same : (f : Fraction) (t : Track) (x : ℤ) → flexible t ≡ false → with_base t (with_part f (fr_row t) x) ≡ t
base_same f t x e = ap (λ (o : Option ℕ). with_base t (with_part f (record { base = t.base; factor = o }) x)) (no_factor t.rule.most e)

parts_same : (f : Fraction) (before whole : ℕ) (ts : List Track) → list_any flexible ts ≡ false → zipped with_base ts (zipped (with_part f) (map fr_row ts) (apportioned_after before f.space whole (map (weight_in f) (map fr_row ts)))) ≡ ts
parts_same f before whole [] e = refl
parts_same f before whole (t ∷ ts) e =
    let one = neither (flexible t) (list_any flexible ts) e in
    let after : ℕ = before + weight_in f (fr_row t) in
    ap (λ (x : Track). x ∷ zipped with_base ts (zipped (with_part f) (map fr_row ts) (apportioned_after after f.space whole (map (weight_in f) (map fr_row ts))))) (base_same f t (part f.space whole after -ℤ part f.space whole before) one.0)
    ∙ ap (λ (xs : List Track). t ∷ xs) (parts_same f after whole ts one.1)

expanded_same : (f : Fraction) (ts : List Track) → list_any flexible ts ≡ false → expanded_by f ts ≡ ts
expanded_same f ts e = parts_same f 0 f.weight ts e

within_same : (min most : Option ℤ) (gap : ℤ) (ts done : List Track) → list_any flexible ts ≡ false → done ≡ ts → expanded_within min most gap ts done ≡ ts
within_same min most gap ts done e d =
    let bounded : ℤ = at_least min (at_most most (total gap done)) in
    either (int_eq bounded (total gap done)) done (expanded_by (definite_fraction gap bounded ts) ts) ts d (expanded_same (definite_fraction gap bounded ts) ts e)

pub unflexed : {axis : ℕ} (fit : Fit axis) (items : List Item) (ts : List Track) → list_any flexible ts ≡ false → ts ≡ flexed fit items ts
unflexed fit items ts e =
    let done : List Track = expanded_by (fraction_for fit.space fit.gap items ts) ts in
    let once : done ≡ ts = expanded_same (fraction_for fit.space fit.gap items ts) ts e in
    sym (either (is_max_content fit.space) (expanded_within fit.min fit.max fit.gap ts done) done ts (within_same fit.min fit.max fit.gap ts done e once) once)
