-- Sizes for a max-content space are also those for their own total as a definite space.
use Rattle.std.proofs.Common.{arith, ap, subst, ◌≡◌, ◌∙◌, sym, refl, ℕ, ◌-◌, ℤ, pos, ◌+ℤ◌, ◌*ℤ◌, ◌≤ℤ◌, Bool, true, false, not, ◌||◌, List, [], ◌∷◌, map, filter, cond, length, Option, Some, None, int_lt, if◌then◌else◌}
use Rattle.std.specs.Prelude.{IfOk, Result, Ok, Err, unwrap_or}
use Rattle.std.specs.List.{list_any}
use Rattle.std.proofs.lemmas.Int.{ints}
use Rattle.lunit.specs.Units.{top}
use Rattle.lunit.specs.declared.item.Item.{Item}
use Rattle.part_rules.specs.declared.track.Fit.{Fit}
use Rattle.part_rules.specs.declared.track.Least.TheVariants as least
use Rattle.part_rules.specs.declared.track.Most.TheVariants as most
use Rattle.part_rules.specs.declared.track.Rule.{Rule}
use Rattle.part_rules.specs.declared.track.Space.{Space}
use Rattle.part_rules.specs.declared.track.Space.TheVariants.{Definite, MaxContent}
use Rattle.part_rules.specs.Lists.{sum_of}
use Rattle.part_rules.specs.Tracks.{Track, all_gutters, alone, close_limit, content_sized, counted_rule, crosses_flexible, fit_alone, fit_items, fixed_least, flexed, flexible, full, group_fitted, initial, initialised, free_of, grown, limit_of, maximised, maximised_within, sized, stretch_space, spans_fitted, stretched, stretched_over, to_limit, total, track_sizes}
use Rattle.track_sizing.specs.Again.{AreToLast, DoLast, IsFrom, IsUnbound, IsUpTo, total_of_sizes}
use Rattle.track_sizing.specs.Alone.{fit_or_pass}
use Rattle.track_sizing.specs.Calm.{AreSteady, AreUntouched, IsSteady}
use Rattle.track_sizing.specs.Fits.{HaveFixed, IsFixed}
use Rattle.track_sizing.specs.Rows.{IsLimit}
use Rattle.track_sizing.specs.Whole.{rest_given, sizes_from}
use Rattle.track_sizing.proofs.Filled.{AreLimited, grown_full, stretched_none}
use Rattle.track_sizing.proofs.Flexed.{unflexed}
use Rattle.track_sizing.proofs.Groups.{ready_of}
use Rattle.track_sizing.proofs.Grown.{full_sums}
use Rattle.track_sizing.proofs.Idle.{either}
use Rattle.track_sizing.proofs.Initial.{set_started}
use Rattle.track_sizing.proofs.Levelled.{AreInitial, AreLess, IsInitial, IsLess, all_less}
use Rattle.track_sizing.proofs.Sized.{started_sizes}
use Rattle.track_sizing.proofs.Steady.{all_closed, closed, content_closed, steady_same}
use Rattle.track_sizing.proofs.Whole.{set_alone}

-- ---- tracks before they are sized

fixed_some : (o : Option ℤ) → IsLimit o → pos 0 ≤ℤ unwrap_or o (pos 0)
fixed_some None h = omega (arith, ints)
fixed_some (Some x) h = h

abbrev collapsed : Rule
collapsed = record { least = least.Fixed (pos 0); most = most.Fixed (pos 0); collapsed = true }

counted_initial : (at : ℤ) (r : Rule) → IsFixed r → IsInitial (initial at (counted_rule r))
counted_initial at r h = record { limit = refl; some = go r.collapsed }
  where
    go : (b : Bool) → pos 0 ≤ℤ unwrap_or (fixed_least (if b then collapsed else r).least) (pos 0)
    go true = omega (arith, ints)
    go false = fixed_some (fixed_least r.least) h

all_initial : (at : ℤ) (rules : List Rule) → HaveFixed rules → AreInitial (initialised at rules)
all_initial at [] h = tt
all_initial at (r ∷ rest) h = (counted_initial at r h.0, all_initial (at +ℤ pos 1) rest h.1)

-- ---- tracks that are less

steady_one : (less more : Track) → IsLess less more → IsSteady more → IsSteady less
steady_one less more l s =
    record {
      some = l.some;
      reached = omega (arith, ints, l.least, l.ends, s.reached);
      units = omega (arith, ints, l.ends, s.units);
      planned = ap (λ (t : Track). t.planned) l.same ∙ s.planned;
      fixed = ap flexible l.same ∙ s.fixed;
    }

steady_less : (less more : List Track) → AreLess less more → AreSteady more → AreSteady less
steady_less [] [] l s = tt
steady_less [] (u ∷ us) l s = absurd l
steady_less (t ∷ ts) [] l s = absurd l
steady_less (t ∷ ts) (u ∷ us) l s = (steady_one t u l.0 s.0, steady_less ts us l.1 s.1)

abbrev ends : List Track → List ℤ
ends ts = map limit_of ts

same_ends : (less more : List Track) → AreLess less more → ends less ≡ ends more
same_ends [] [] l = refl
same_ends [] (u ∷ us) l = absurd l
same_ends (t ∷ ts) [] l = absurd l
same_ends (t ∷ ts) (u ∷ us) l = ap (λ (z : ℤ). z ∷ ends ts) l.0.ends ∙ ap (λ (zs : List ℤ). limit_of u ∷ zs) (same_ends ts us l.1)

ends_closed : (ts : List Track) → ends (all_closed ts) ≡ ends ts
ends_closed [] = refl
ends_closed (t ∷ ts) = ap (λ (zs : List ℤ). limit_of t ∷ zs) (ends_closed ts)

abbrev bases : List Track → List ℤ
bases ts = map (λ (t : Track). t.base) ts

bases_full : (ts : List Track) → bases (map full ts) ≡ ends ts
bases_full [] = refl
bases_full (t ∷ ts) = ap (λ (zs : List ℤ). limit_of t ∷ zs) (bases_full ts)

-- ---- the total

abbrev is_open : Track → Bool
is_open t = not t.rule.collapsed

count_map : (f : Track → Track) (ts : List Track) → ((t : Track) → (f t).rule ≡ t.rule) → length (filter is_open (map f ts)) ≡ length (filter is_open ts)
count_map f [] h = refl
count_map f (t ∷ ts) h = ap (λ (r : Rule). length (cond (not r.collapsed) (f t ∷ filter is_open (map f ts)) (filter is_open (map f ts)))) (h t) ∙ go (is_open t) (count_map f ts h)
  where
    go : (b : Bool) → length (filter is_open (map f ts)) ≡ length (filter is_open ts) → length (cond b (f t ∷ filter is_open (map f ts)) (filter is_open (map f ts))) ≡ length (cond b (t ∷ filter is_open ts) (filter is_open ts))
    go true e = omega (arith, e)
    go false e = e

counted_same : (r : Rule) → (counted_rule r).collapsed ≡ r.collapsed
counted_same r = go r.collapsed refl
  where
    go : (b : Bool) → r.collapsed ≡ b → (if b then collapsed else r).collapsed ≡ r.collapsed
    go true e = sym e
    go false e = refl

abbrev is_open_rule : Rule → Bool
is_open_rule r = not r.collapsed

count_started : (at : ℤ) (rules : List Rule) → length (filter is_open (initialised at rules)) ≡ length (filter is_open_rule rules)
count_started at [] = refl
count_started at (r ∷ rest) =
    let others : List Track = initialised (at +ℤ pos 1) rest in
    ap (λ (b : Bool). length (cond (not b) (initial at (counted_rule r) ∷ filter is_open others) (filter is_open others))) (counted_same r) ∙ go (not r.collapsed) (count_started (at +ℤ pos 1) rest)
  where
    go : (b : Bool) → length (filter is_open (initialised (at +ℤ pos 1) rest)) ≡ length (filter is_open_rule rest)
        → length (cond b (initial at (counted_rule r) ∷ filter is_open (initialised (at +ℤ pos 1) rest)) (filter is_open (initialised (at +ℤ pos 1) rest))) ≡ length (cond b (r ∷ filter is_open_rule rest) (filter is_open_rule rest))
    go true e = omega (arith, e)
    go false e = e

fit_rule : {axis : ℕ} (space : Space axis) (gap : ℤ) (items : List Item) (ts : List Track) (t : Track) → (fit_or_pass space gap items ts t).rule ≡ t.rule
fit_rule {axis} space gap items ts t = go (flexible t)
  where
    go : (b : Bool) → (if b then t else fit_items space gap ts (alone items t) t).rule ≡ t.rule
    go true = refl
    go false = refl

-- ---- sizing for either space

-- the tracks once they are sized by the items of one track, and once they are sized by all
abbrev singles : {axis : ℕ} → Fit axis → List Rule → ℤ → List Item → List Track
singles fit rules first items = fit_alone fit.space fit.gap items (initialised first rules)

abbrev contents : {axis : ℕ} → Fit axis → List Rule → ℤ → List Item → List Track
contents fit rules first items = content_sized fit.space fit.gap items (initialised first rules)

same_contents : {axis : ℕ} (fit : Fit axis) (rules : List Rule) (first : ℤ) (items : List Item) → AreUntouched fit.gap items (singles fit rules first items) → all_closed (contents fit rules first items) ≡ all_closed (singles fit rules first items)
same_contents fit rules first items u =
    let start : List Track = initialised first rules in
    content_closed fit.space fit.gap items start (ready_of first (singles fit rules first items) (set_alone fit.space fit.gap first items start (set_started first rules))) u

sizes_full : {axis : ℕ} (fit : Fit axis) (rules : List Rule) (first : ℤ) (items : List Item) → AreUntouched fit.gap items (singles fit rules first items) → bases (map full (contents fit rules first items)) ≡ ends (singles fit rules first items)
sizes_full fit rules first items u =
    bases_full (contents fit rules first items) ∙ sym (ends_closed (contents fit rules first items)) ∙ ap ends (same_contents fit rules first items u) ∙ ends_closed (singles fit rules first items)

total_full : {axis : ℕ} (fit : Fit axis) (rules : List Rule) (first : ℤ) (items : List Item) → AreUntouched fit.gap items (singles fit rules first items) → total fit.gap (map full (contents fit rules first items)) ≡ total_of_sizes rules fit.gap (ends (singles fit rules first items))
total_full fit rules first items u =
    let start : List Track = initialised first rules in
    let made : List Track = contents fit rules first items in
    let fitted : List Track = singles fit rules first items in
    let count : length (filter is_open (map full made)) ≡ length (filter is_open_rule rules) =
    count_map full made (λ t. refl) ∙ sym (count_map closed made (λ t. refl)) ∙ ap (λ (ts : List Track). length (filter is_open ts)) (same_contents fit rules first items u) ∙ count_map closed fitted (λ t. refl)
    ∙ count_map (fit_or_pass fit.space fit.gap items start) start (fit_rule fit.space fit.gap items start) ∙ count_started first rules in
    ap (λ (zs : List ℤ). sum_of zs +ℤ all_gutters fit.gap (map full made)) (sizes_full fit rules first items u) ∙ ap (λ (n : ℕ). sum_of (ends fitted) +ℤ fit.gap *ℤ pos (n - 1)) count

none_flexible : (ts : List Track) → AreSteady ts → list_any flexible (map full ts) ≡ false
none_flexible [] h = refl
none_flexible (t ∷ ts) h = ap (λ (b : Bool). b || list_any flexible (map full ts)) h.0.fixed ∙ none_flexible ts h.1

limited_ends : (ts : List Track) → AreSteady (map close_limit ts) → AreLimited (map close_limit ts)
limited_ends [] s = tt
limited_ends (t ∷ ts) s = (record { limit = refl; some = s.0.some; reached = s.0.reached; units = s.0.units }, limited_ends ts s.1)

limited_content : {axis : ℕ} (space : Space axis) (gap : ℤ) (items : List Item) (ts : List Track) → AreSteady (content_sized space gap items ts) → AreLimited (content_sized space gap items ts)
limited_content space gap items ts s = limited_ends (group_fitted space gap true (filter (crosses_flexible ts) items) (spans_fitted space gap items (length ts) 2 (fit_alone space gap items ts))) s

rest_of : {axis : ℕ} (fit : Fit axis) (items : List Item) (ts : List Track) → AreSteady ts → maximised fit.space fit.max fit.gap ts ≡ map full ts → stretched_over (stretch_space fit.space fit.min) fit.gap (map full ts) ≡ map full ts → rest_given fit items ts ≡ map full ts
unfolding rest_given
rest_of fit items ts c m s =
    ap (λ (xs : List Track). stretched fit (flexed fit items xs)) m
    ∙ ap (stretched fit) (sym (unflexed fit items (map full ts) (none_flexible ts c)))
    ∙ either fit.stretch (stretched_over (stretch_space fit.space fit.min) fit.gap (map full ts)) (map full ts) (map full ts) s refl

most_unbound : (most : Option ℤ) (gap : ℤ) (ts : List Track) → IsUpTo most (total gap (map full ts)) → maximised_within most gap ts ≡ map full ts
most_unbound None gap ts h = refl
most_unbound (Some m) gap ts h = go (int_lt m (total gap (map full ts))) refl
  where
    go : (b : Bool) → int_lt m (total gap (map full ts)) ≡ b → (if b then grown to_limit (free_of gap m ts) ts else map full ts) ≡ map full ts
    go true e = absurd (omega (arith, ints))
    go false e = refl

least_unbound : (least : Option ℤ) (gap : ℤ) (ts : List Track) → AreLimited ts → IsFrom least (total gap (map full ts)) → stretched_over least gap (map full ts) ≡ map full ts
least_unbound None gap ts limited h = refl
least_unbound (Some m) gap ts limited h = stretched_none gap m ts limited h

unbound_rest : {axis : ℕ} (fit : Fit axis) (items : List Item) (ts : List Track) → IsUnbound fit (total fit.gap (map full ts)) → AreSteady ts → AreLimited ts → rest_given fit items ts ≡ map full ts
unbound_rest {axis} fit items ts o c limited =
    rest_of fit items ts c (ap (λ (s : Space axis). maximised s fit.max fit.gap ts) o.space ∙ most_unbound fit.max fit.gap ts o.max)
    (ap (λ (s : Space axis). stretched_over (stretch_space s fit.min) fit.gap (map full ts)) o.space ∙ least_unbound fit.min fit.gap ts limited o.min)

definite_rest : {axis : ℕ} (fit : Fit axis) (a : ℤ) (items : List Item) (ts : List Track) → pos 0 ≤ℤ fit.gap → AreSteady ts → AreLimited ts → a ≡ total fit.gap (map full ts) → a ≤ℤ top → rest_given (record fit { space = Definite a }) items ts ≡ map full ts
definite_rest fit a items ts g c limited e u =
    let limits : a ≡ sum_of (map limit_of ts) +ℤ all_gutters fit.gap ts = e ∙ sym (full_sums fit.gap (sum_of (map limit_of ts)) (all_gutters fit.gap ts) (sum_of (map limit_of ts) +ℤ all_gutters fit.gap ts) ts refl refl refl) in
    rest_of (record fit { space = Definite a }) items ts c (grown_full fit.gap a ts g limited limits u) (stretched_none fit.gap a ts limited (omega (arith, ints, e)))

sizes_by : {axis : ℕ} (fit : Fit axis) (rules : List Rule) (first : ℤ) (items : List Item) → AreUntouched fit.gap items (singles fit rules first items) → rest_given fit items (contents fit rules first items) ≡ map full (contents fit rules first items) →
    track_sizes rules first items fit ≡ ends (singles fit rules first items)
unfolding sized rest_given
sizes_by fit rules first items u r = ap bases r ∙ sizes_full fit rules first items u

-- ---- both

-- Sizing for the total gives the same sizes (CSS Grid 2, 12.3).
pub sizes_last : {axis : ℕ} (rules : List Rule) (first : ℤ) (items : List Item) (fit : Fit axis) (sizes : List ℤ) → pos 0 ≤ℤ fit.gap → HaveFixed rules → AreToLast fit items (initialised first rules) → sizes ≡ track_sizes rules first items fit → DoLast rules first items fit sizes
sizes_last {axis} rules first items fit sizes g h s e t d u =
    let gap : ℤ = fit.gap in
    let start : List Track = initialised first rules in
    let again : Fit axis = record fit { space = Definite t } in
    let more : List Track = fit_alone {axis = axis} MaxContent gap items start in
    let less : List Track = singles again rules first items in
    let same : singles fit rules first items ≡ more = ap (λ (p : Space axis). fit_alone p gap items start) s.unbound.space in
    let so : AreLess less more = all_less axis gap t first start items (set_started first rules) s.ordered (all_initial first rules h) in
    let untouched : AreUntouched gap items less = record { quiet = s.untouched.quiet; steady = steady_less less more so (subst AreSteady same s.untouched.steady) } in
    let steady : AreSteady (contents fit rules first items) = steady_same (contents fit rules first items) (singles fit rules first items) (same_contents fit rules first items s.untouched) s.untouched.steady in
    let steady_again : AreSteady (contents again rules first items) = steady_same (contents again rules first items) less (same_contents again rules first items untouched) untouched.steady in
    let made : sizes ≡ ends less = e ∙ sizes_by fit rules first items s.untouched (unbound_rest fit items (contents fit rules first items) s.unbound steady (limited_content fit.space gap items start steady)) ∙ ap ends same ∙ sym (same_ends less more so) in
    let sum : t ≡ total gap (map full (contents again rules first items)) = d ∙ ap (total_of_sizes rules gap) made ∙ sym (total_full again rules first items untouched) in
    sizes_by again rules first items untouched (definite_rest fit t items (contents again rules first items) g steady_again (limited_content {axis = axis} (Definite t) gap items start steady_again) sum u) ∙ sym made

-- Sizing for the total gives the same sizes, by the tracks as they were initialised.
pub started_last : {axis : ℕ} (rules : List Rule) (first at : ℤ) (items : List Item) (fit : Fit axis) (rows : List Track) (sizes : List ℤ) → pos 0 ≤ℤ fit.gap → HaveFixed rules → rows ≡ initialised at rules → at ≡ first → AreToLast fit items rows → sizes ≡ sizes_from fit items rows →
    DoLast rules first items fit sizes
started_last rules first at items fit rows sizes g h r a s e =
    sizes_last rules first items fit sizes g h (subst (AreToLast fit items) (r ∙ ap (λ (z : ℤ). initialised z rules) a) s) (e ∙ started_sizes rules first at items fit rows r a)

-- What two clauses on a value make of it.
pub both_ok : {X E : Type 0} (r : Result X E) (P Q R : X → Type 0) → ((x : X) → P x → Q x → R x) → IfOk r P → IfOk r Q → IfOk r R
both_ok (Ok x) P Q R f p q = f x p q
both_ok (Err e) P Q R f p q = tt
