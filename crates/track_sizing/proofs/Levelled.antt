-- Tracks by the items of one track, for a max-content space and for a definite one: they are the same but for base sizes.
use Rattle.std.proofs.Common.{arith, ap, subst, ◌≡◌, ◌∙◌, sym, refl, true≢false, ℕ, zero, suc, ℤ, pos, ◌+ℤ◌, ◌≤ℤ◌, Bool, true, false, List, [], ◌∷◌, map, take, drop, cond, length, Option, Some, if◌then◌else◌}
use Rattle.std.specs.Prelude.{unwrap_or, option_map}
use Rattle.std.specs.Int.{int_max, int_min}
use Rattle.std.specs.Ordering.{int_eq}
use Rattle.std.proofs.lemmas.Int.{ints, clamps}
use Rattle.lunit.specs.declared.item.Item.{Item}
use Rattle.part_rules.specs.declared.track.Least.{Least}
use Rattle.part_rules.specs.declared.track.Least.TheVariants as least
use Rattle.part_rules.specs.declared.track.Most.{Most}
use Rattle.part_rules.specs.declared.track.Most.TheVariants as most
use Rattle.part_rules.specs.declared.track.Space.{Space}
use Rattle.part_rules.specs.declared.track.Space.TheVariants.{Definite, MaxContent}
use Rattle.part_rules.specs.Lists.{at_most, greatest_with}
use Rattle.part_rules.specs.Tracks.{Track, alone, auto_asks, base_for, capped_most, fit_alone, fit_items, fixed_most, flexible, high, is_definite, is_flexible, limit_for, limit_of, low, raise_limit}
use Rattle.track_sizing.specs.Again.{AreOrdered}
use Rattle.track_sizing.specs.Alone.{fit_or_pass, is_alone, single_asks}
use Rattle.track_sizing.specs.Placed.{AreSet}
use Rattle.track_sizing.proofs.Known.{IsAlone, asks_are}
use Rattle.track_sizing.proofs.Order.{that_number}
use Rattle.track_sizing.proofs.Singles.{spanned_at}
use Rattle.track_sizing.proofs.Unchanged.{both_true}

-- ---- base sizes

-- the min-content contribution, limited by the max function
abbrev capped_low : Most → Item → ℤ
capped_low m i = at_most (capped_most m) i.low

abbrev base_by : Bool → Most → List Item → ℤ → ℤ
base_by definite m mine base = greatest_with base (map (single_asks definite m) mine)

base_least : (definite : Bool) (m : Most) (mine : List Item) (base : ℤ) → base ≤ℤ base_by definite m mine base
base_least definite m [] base = omega (arith, ints)
base_least definite m (i ∷ rest) base = omega (arith, ints, clamps, base_least definite m rest base)

base_less : (m : Most) (mine : List Item) (base : ℤ) → base_by true m mine base ≤ℤ base_by false m mine base
base_less m [] base = omega (arith, ints)
base_less m (i ∷ rest) base = omega (arith, ints, clamps, base_less m rest base)

base_most : (m : Most) (mine : List Item) (base : ℤ) → base_by false m mine base ≤ℤ int_max (base_by true m mine base) (greatest_with (pos 0) (map (capped_low m) mine))
base_most m [] base = omega (arith, ints, clamps)
base_most m (i ∷ rest) base = omega (arith, ints, clamps, base_most m rest base)

-- ---- growth limits

low_most : (mine : List Item) → AreOrdered mine → greatest_with (pos 0) (map low mine) ≤ℤ greatest_with (pos 0) (map high mine)
low_most [] h = omega (arith, ints)
low_most (i ∷ rest) h = omega (arith, ints, clamps, h.0, low_most rest h.1)

low_argument : (x : ℤ) (mine : List Item) → AreOrdered mine → greatest_with (pos 0) (map (λ (i : Item). int_min x i.low) mine) ≤ℤ int_max (pos 0) (int_min x (greatest_with (pos 0) (map high mine)))
low_argument x [] h = omega (arith, ints, clamps)
low_argument x (i ∷ rest) h = omega (arith, ints, clamps, h.0, low_argument x rest h.1)

low_fixed : (x : ℤ) (mine : List Item) → greatest_with (pos 0) (map (λ (i : Item). int_min x i.low) mine) ≤ℤ int_max (pos 0) x
low_fixed x [] = omega (arith, ints, clamps)
low_fixed x (i ∷ rest) = omega (arith, ints, clamps, low_fixed x rest)

-- a track has the same growth limit for either base size, also where it has no end
abbrev IsSameEnd : ℤ → ℤ → Option ℤ → Type 0
IsSameEnd less more o = (option_map (int_max less) o ≡ option_map (int_max more) o) × (unwrap_or (option_map (int_max less) o) less ≡ unwrap_or (option_map (int_max more) o) more)

some_end : (less more x : ℤ) → int_max less x ≡ int_max more x → IsSameEnd less more (Some x)
some_end less more x e = (ap Some e, e)

-- A limit is raised to either base size alike: what the greater one has more, the limit has too.
same_limit : (m : Most) (mine : List Item) (limit : Option ℤ) (base less more : ℤ) → is_flexible m ≡ false → limit ≡ option_map (int_max base) (fixed_most m) → AreOrdered mine → pos 0 ≤ℤ base → base ≤ℤ less → less ≤ℤ more → more ≤ℤ int_max less (greatest_with (pos 0) (map (capped_low m) mine))
    → IsSameEnd less more (limit_for mine m limit)
same_limit m [] limit base less more f e o s a b c =
    let same : less ≡ more = omega (arith, ints, clamps, s, a, b, c) in
    (ap (λ (z : ℤ). option_map (int_max z) limit) same, ap (λ (z : ℤ). unwrap_or (option_map (int_max z) limit) z) same)
same_limit most.MinContent (i ∷ rest) limit base less more f e o s a b c = some_end less more (greatest_with (pos 0) (map low (i ∷ rest))) (omega (arith, ints, clamps, a, b, c))
same_limit most.Auto (i ∷ rest) limit base less more f e o s a b c = some_end less more (greatest_with (pos 0) (map high (i ∷ rest))) (omega (arith, ints, clamps, a, b, c, low_most (i ∷ rest) o))
same_limit most.MaxContent (i ∷ rest) limit base less more f e o s a b c = some_end less more (greatest_with (pos 0) (map high (i ∷ rest))) (omega (arith, ints, clamps, a, b, c, low_most (i ∷ rest) o))
same_limit (most.Fit x) (i ∷ rest) limit base less more f e o s a b c = some_end less more (int_min x (greatest_with (pos 0) (map high (i ∷ rest)))) (omega (arith, ints, clamps, s, a, b, c, low_argument x (i ∷ rest) o))
same_limit (most.Fixed x) (i ∷ rest) limit base less more f e o s a b c = subst (IsSameEnd less more) (sym e) (some_end less more (int_max base x) (omega (arith, ints, clamps, s, a, b, c, low_fixed x (i ∷ rest))))
same_limit (most.Flex w) (i ∷ rest) limit base less more f e o s a b c = absurd (true≢false f)

-- ---- one track

-- a track that is another but for its base size, which is not greater and not below 0
pub record IsLess (less more : Track) : Type 0 where
  pub same : (record less { base = more.base }) ≡ more
  pub some : pos 0 ≤ℤ less.base
  pub least : less.base ≤ℤ more.base
  pub ends : limit_of less ≡ limit_of more

-- a track before it is sized
pub record IsInitial (t : Track) : Type 0 where
  pub limit : t.limit ≡ option_map (int_max t.base) (fixed_most t.rule.most)
  pub some : pos 0 ≤ℤ t.base

abbrev fitted_to : Track → ℤ → Option ℤ → Track
fitted_to t base limit = raise_limit (record t { base = base; limit = limit })

less_of : (t : Track) (limit : Option ℤ) (less more : ℤ) → IsSameEnd less more limit → pos 0 ≤ℤ less → less ≤ℤ more → IsLess (fitted_to t less limit) (fitted_to t more limit)
less_of t limit less more e s l = record { same = ap (λ (o : Option ℤ). record t { base = more; limit = o }) e.0; some = s; least = l; ends = e.1 }

unchanged_by : (t : Track) (limit : Option ℤ) (base : ℤ) → pos 0 ≤ℤ base → IsLess (fitted_to t base limit) (fitted_to t base limit)
unchanged_by t limit base s = less_of t limit base base (refl, refl) s (omega (arith, ints))

greatest_some : (base : ℤ) (xs : List ℤ) → pos 0 ≤ℤ base → pos 0 ≤ℤ greatest_with base xs
greatest_some base [] s = s
greatest_some base (x ∷ xs) s = omega (arith, ints, clamps, greatest_some base xs s)

-- The asks of its items go by the track alone.
abbrev AreLone : {axis : ℕ} → Space axis → ℤ → List Track → List Item → Track → Type 0
AreLone space gap ts mine t = t.rule.least ≡ least.Auto → map (auto_asks space gap ts) mine ≡ map (single_asks (is_definite space) t.rule.most) mine

fit_less : (axis : ℕ) (gap a : ℤ) (ts : List Track) (mine : List Item) (t : Track) (l : Least) → t.rule.least ≡ l → AreLone {axis = axis} MaxContent gap ts mine t → AreLone {axis = axis} (Definite a) gap ts mine t → AreOrdered mine → IsInitial t → flexible t ≡ false
    → IsLess (fitted_to t (base_for {axis = axis} (Definite a) gap ts mine l t.base) (limit_for mine t.rule.most t.limit)) (fitted_to t (base_for {axis = axis} MaxContent gap ts mine l t.base) (limit_for mine t.rule.most t.limit))
fit_less axis gap a ts mine t (least.Fixed x) e p q o h f = unchanged_by t (limit_for mine t.rule.most t.limit) t.base h.some
fit_less axis gap a ts mine t least.MinContent e p q o h f = unchanged_by t (limit_for mine t.rule.most t.limit) (greatest_with t.base (map low mine)) (greatest_some t.base (map low mine) h.some)
fit_less axis gap a ts mine t least.MaxContent e p q o h f = unchanged_by t (limit_for mine t.rule.most t.limit) (greatest_with t.base (map high mine)) (greatest_some t.base (map high mine) h.some)
fit_less axis gap a ts mine t least.Auto e p q o h f =
    let m : Most = t.rule.most in
    let limit : Option ℤ = limit_for mine m t.limit in
    let less : ℤ = base_by true m mine t.base in
    let more : ℤ = base_by false m mine t.base in
    let some : t.base ≤ℤ less = base_least true m mine t.base in
    let so : IsLess (fitted_to t less limit) (fitted_to t more limit) =
    less_of t limit less more (same_limit m mine t.limit t.base less more f h.limit o h.some some (base_less m mine t.base) (base_most m mine t.base)) (omega (arith, ints, some, h.some)) (base_less m mine t.base) in
    subst (λ (xs : List ℤ). IsLess (fitted_to t (greatest_with t.base xs) limit) (fitted_to t (greatest_with t.base (map (auto_asks {axis = axis} MaxContent gap ts) mine)) limit)) (sym (q e))
    (subst (λ (xs : List ℤ). IsLess (fitted_to t less limit) (fitted_to t (greatest_with t.base xs) limit)) (sym (p e)) so)

-- ---- all tracks

abbrev pub AreLess : List Track → List Track → Type 0
AreLess [] [] = Unit {0}
AreLess [] (u ∷ us) = ⊥
AreLess (t ∷ ts) [] = ⊥
AreLess (t ∷ ts) (u ∷ us) = IsLess t u × AreLess ts us

abbrev pub AreInitial : List Track → Type 0
AreInitial [] = Unit {0}
AreInitial (t ∷ ts) = IsInitial t × AreInitial ts

asks_lone : {axis : ℕ} (space : Space axis) (gap : ℤ) (ts : List Track) (items : List Item) (t : Track) → ((i : Item) → is_alone i t ≡ true → IsAlone ts i t) → AreLone space gap ts (alone items t) t
asks_lone space gap ts [] t l e = refl
asks_lone space gap ts (i ∷ rest) t l e = go (is_alone i t) refl (asks_lone space gap ts rest t l e)
  where
    own : Item → ℤ
    own = single_asks (is_definite space) t.rule.most

    go : (b : Bool) → is_alone i t ≡ b → map (auto_asks space gap ts) (alone rest t) ≡ map own (alone rest t) → map (auto_asks space gap ts) (cond b (i ∷ alone rest t) (alone rest t)) ≡ map own (cond b (i ∷ alone rest t) (alone rest t))
    go true d h = ap (λ (z : ℤ). z ∷ map (auto_asks space gap ts) (alone rest t)) (sym (asks_are space gap ts i t (l i d) e)) ∙ ap (λ (zs : List ℤ). own i ∷ zs) h
    go false d h = h

ordered_alone : (items : List Item) (t : Track) → AreOrdered items → AreOrdered (alone items t)
ordered_alone [] t o = tt
ordered_alone (i ∷ rest) t o = go (is_alone i t) (ordered_alone rest t o.1)
  where
    go : (b : Bool) → AreOrdered (alone rest t) → AreOrdered (cond b (i ∷ alone rest t) (alone rest t))
    go true h = (o.0, h)
    go false h = h

lone_at : (first : ℤ) (ts : List Track) (k : ℕ) (t : Track) (rest : List Track) → AreSet first ts → drop k ts ≡ t ∷ rest → t.at ≡ first +ℤ pos k → (i : Item) → is_alone i t ≡ true → IsAlone ts i t
lone_at first ts k t rest set d at i e =
    let parts = both_true (int_eq i.span.start t.at) (int_eq i.span.end (t.at +ℤ pos 1)) e in
    let start : i.span.start ≡ t.at = that_number i.span.start t.at parts.0 in
    let last : i.span.end ≡ t.at +ℤ pos 1 = that_number i.span.end (t.at +ℤ pos 1) parts.1 in
    record {
      own = spanned_at i first ts k 1 set (start ∙ at) (omega (arith, ints, start, last)) ∙ ap (take 1) d;
      one = omega (arith, ints, start, last);
    }

drop_next : (k : ℕ) (ts : List Track) (t : Track) (rest : List Track) → drop k ts ≡ t ∷ rest → drop (suc k) ts ≡ rest
drop_next zero ts t rest e = ap (drop 1) e
drop_next (suc k) [] t rest e = absurd (omega (arith, ap length e))
drop_next (suc k) (x ∷ xs) t rest e = drop_next k xs t rest e

one_less : (axis : ℕ) (gap a : ℤ) (ts : List Track) (items : List Item) (t : Track) → ((i : Item) → is_alone i t ≡ true → IsAlone ts i t) → AreOrdered items → IsInitial t → IsLess (fit_or_pass {axis = axis} (Definite a) gap items ts t) (fit_or_pass {axis = axis} MaxContent gap items ts t)
one_less axis gap a ts items t l o h = go (flexible t) refl
  where
    mine : List Item
    mine = alone items t

    go : (b : Bool) → flexible t ≡ b → IsLess (if b then t else fit_items {axis = axis} (Definite a) gap ts mine t) (if b then t else fit_items {axis = axis} MaxContent gap ts mine t)
    go true f = record { same = refl; some = h.some; least = omega (arith, ints); ends = refl }
    go false f = fit_less axis gap a ts mine t t.rule.least refl (asks_lone {axis = axis} MaxContent gap ts items t l) (asks_lone {axis = axis} (Definite a) gap ts items t l) (ordered_alone items t o) h f

each_less : (axis : ℕ) (gap a first : ℤ) (ts : List Track) (items : List Item) (k : ℕ) (z : ℤ) (us : List Track) → AreSet first ts → AreSet z us → z ≡ first +ℤ pos k → drop k ts ≡ us → AreOrdered items → AreInitial us
    → AreLess (map (fit_or_pass {axis = axis} (Definite a) gap items ts) us) (map (fit_or_pass {axis = axis} MaxContent gap items ts) us)
each_less axis gap a first ts items k z [] set us e d o h = tt
each_less axis gap a first ts items k z (t ∷ rest) set us e d o h =
    (one_less axis gap a ts items t (lone_at first ts k t rest set d (omega (arith, ints, us.0.0, e))) o h.0, each_less axis gap a first ts items (suc k) (z +ℤ pos 1) rest set us.1 (omega (arith, ints, e)) (drop_next k ts t rest d) o h.1)

-- The items of one track make the same of the tracks for both spaces, but for base sizes (CSS Grid 2, 12.5, step 2).
pub all_less : (axis : ℕ) (gap a first : ℤ) (ts : List Track) (items : List Item) → AreSet first ts → AreOrdered items → AreInitial ts → AreLess (fit_alone {axis = axis} (Definite a) gap items ts) (fit_alone {axis = axis} MaxContent gap items ts)
all_less axis gap a first ts items set o h = each_less axis gap a first ts items 0 first ts set set (omega (arith, ints)) refl o h
