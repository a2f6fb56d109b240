-- There are as many sizes as tracks.
use Rattle.std.proofs.Common.{arith, refl, ap, ◌∙◌, ◌≡◌, ℕ, zero, suc, ◌+◌, ◌==◌, ℤ, Bool, true, false, List, [], ◌∷◌, length, map, filter, Option, Some, None}
use Rattle.std.specs.Prelude.{int_lt, if◌then◌else◌}
use Rattle.std.specs.List.{list_any}
use Rattle.std.specs.Ordering.{int_eq}
use Rattle.lunit.specs.declared.item.Item.{Item}
use Rattle.part_rules.specs.declared.fraction.FrRow.{FrRow}
use Rattle.part_rules.specs.declared.fraction.Fraction.{Fraction}
use Rattle.part_rules.specs.declared.track.Fit.{Fit}
use Rattle.part_rules.specs.declared.track.Rule.{Rule}
use Rattle.part_rules.specs.declared.track.Space.{Space}
use Rattle.part_rules.specs.declared.track.Space.TheVariants.{Definite, MinContent, MaxContent}
use Rattle.part_rules.specs.Fractions.{expanded, weight_in, with_part}
use Rattle.part_rules.specs.Lists.{at_least, at_most, total_of, zipped}
use Rattle.part_rules.specs.Sharing.{apportioned, apportioned_after, apportioned_whole, shares, unshared}
use Rattle.part_rules.specs.Tracks.{BaseStep, LimitStep, Track, affected_by, auto_room, base_distributed, base_incurred_by, base_of, base_planned_by, base_planned_by_all, base_rooms, base_steps, by_factors, close_limit, content_sized, crosses_flexible, crossing_weight, definite_fraction, each_distributed, expanded_by, expanded_within, fit_alone, flexed, fr_row, fraction_for, free_of, full, group_fitted, grow_base, grown, high_limit_step, in_turns, incur, initialised, is_max_content, limit_distributed, limit_incurred_by, limit_of, limit_planned_by, limit_planned_by_all, limit_rooms, low_limit_step, low_limits, mark_endless, maximised, maximised_within, needed, of_span, only, plan, raise_limit, raised_base, raised_limit_by, sized, some_fitted, spans_fitted, stretch_space, stretched, stretched_over, to_limit, total, track_sizes, with_base, without_end}
use Rattle.track_sizing.proofs.Initial.{length_started}
use Rattle.track_sizing.proofs.Shares.{shares_length}
use Rattle.track_sizing.proofs.Whole.{length_alone}

-- ---- lists

chosen : {A : Type 0} → (b : Bool) (xs ys : List A) (n : ℕ) → length xs ≡ n → length ys ≡ n → length (if b then xs else ys) ≡ n
chosen true xs ys n h k = h
chosen false xs ys n h k = k

mapped : {A B : Type 0} → (f : A → B) (xs : List A) → length (map f xs) ≡ length xs
mapped f [] = refl
mapped f (x ∷ xs) = ap suc (mapped f xs)

pub zipped_length : {A B C : Type 0} → (f : A → B → C) (xs : List A) (ys : List B) → length ys ≡ length xs → length (zipped f xs ys) ≡ length xs
zipped_length f [] ys h = refl
zipped_length f (x ∷ xs) [] h = absurd (omega (arith, h))
zipped_length f (x ∷ xs) (y ∷ ys) h = ap suc (zipped_length f xs ys (omega (arith, h)))

parts : (before : ℕ) (space : ℤ) (whole : ℕ) (ws : List ℕ) → length (apportioned_after before space whole ws) ≡ length ws
parts before space whole [] = refl
parts before space whole (w ∷ ws) = ap suc (parts (before + w) space whole ws)

-- ---- a space handed out

shared : (f : Track → ℤ → Track) (space : ℤ) (room : Track → Option ℤ) (ts : List Track) → length (zipped f ts (shares space (map room ts))) ≡ length ts
shared f space room ts = zipped_length f ts (shares space (map room ts)) (shares_length space (map room ts) ∙ mapped room ts)

turns : (rooms : List (Track → Option ℤ)) (space : ℤ) (ts : List Track) → length (in_turns rooms space ts) ≡ length ts
turns [] space ts = refl
turns (room ∷ rooms) space ts = turns rooms (unshared space (map room ts)) (zipped incur ts (shares space (map room ts))) ∙ shared incur space room ts

factors : (affected : Track → Bool) (i : Item) (space : ℤ) (ts : List Track) → length (by_factors affected i space ts) ≡ length ts
factors affected i space ts =
    chosen (total_of (map (crossing_weight affected i) ts) == 0)
    (in_turns (only (affected_by affected i) without_end ∷ []) space ts)
    (zipped incur ts (apportioned_whole space (map (crossing_weight affected i) ts)))
    (length ts)
    (turns (only (affected_by affected i) without_end ∷ []) space ts)
    (zipped_length incur ts (apportioned_whole space (map (crossing_weight affected i) ts)) (parts 0 space (total_of (map (crossing_weight affected i) ts)) (map (crossing_weight affected i) ts) ∙ mapped (crossing_weight affected i) ts))

-- ---- steps on base sizes

base_incurred : (s : BaseStep) (i : Item) (space : ℤ) (ts : List Track) → length (base_incurred_by s i space ts) ≡ length ts
base_incurred s i space ts = chosen s.crossing (by_factors s.affected i space ts) (in_turns (base_rooms s i ts) space ts) (length ts) (factors s.affected i space ts) (turns (base_rooms s i ts) space ts)

base_planned : (s : BaseStep) (gap : ℤ) (ts : List Track) (i : Item) → length (base_planned_by s gap ts i) ≡ length ts
base_planned s gap ts i =
    let space : ℤ = needed base_of gap (s.asks ts i) ts i in
    chosen (list_any (affected_by s.affected i) ts) (map plan (base_incurred_by s i space ts)) ts (length ts) (mapped plan (base_incurred_by s i space ts) ∙ base_incurred s i space ts) refl

base_planned_all : (s : BaseStep) (gap : ℤ) (items : List Item) (ts : List Track) → length (base_planned_by_all s gap items ts) ≡ length ts
base_planned_all s gap [] ts = refl
base_planned_all s gap (i ∷ rest) ts = base_planned_all s gap rest (base_planned_by s gap ts i) ∙ base_planned s gap ts i

each : (steps : List BaseStep) (gap : ℤ) (items : List Item) (ts : List Track) → length (each_distributed steps gap items ts) ≡ length ts
each [] gap items ts = refl
each (s ∷ rest) gap items ts = each rest gap items (base_distributed s gap items ts) ∙ mapped raised_base (base_planned_by_all s gap items ts) ∙ base_planned_all s gap items ts

-- ---- steps on growth limits

limit_incurred : (s : LimitStep) (i : Item) (space : ℤ) (ts : List Track) → length (limit_incurred_by s i space ts) ≡ length ts
limit_incurred s i space ts = chosen s.crossing (by_factors s.affected i space ts) (in_turns (limit_rooms s i) space ts) (length ts) (factors s.affected i space ts) (turns (limit_rooms s i) space ts)

limit_planned : (s : LimitStep) (gap : ℤ) (ts : List Track) (i : Item) → length (limit_planned_by s gap ts i) ≡ length ts
limit_planned s gap ts i =
    let space : ℤ = needed limit_of gap (s.asks i) ts i in
    chosen (list_any (affected_by s.affected i) ts) (map plan (limit_incurred_by s i space ts)) ts (length ts) (mapped plan (limit_incurred_by s i space ts) ∙ limit_incurred s i space ts) refl

limit_planned_all : (s : LimitStep) (gap : ℤ) (items : List Item) (ts : List Track) → length (limit_planned_by_all s gap items ts) ≡ length ts
limit_planned_all s gap [] ts = refl
limit_planned_all s gap (i ∷ rest) ts = limit_planned_all s gap rest (limit_planned_by s gap ts i) ∙ limit_planned s gap ts i

limits : (s : LimitStep) (gap : ℤ) (items : List Item) (ts : List Track) → length (limit_distributed s gap items ts) ≡ length ts
limits s gap items ts = mapped (raised_limit_by s.affected items) (limit_planned_by_all s gap items ts) ∙ limit_planned_all s gap items ts

lows : (crossing : Bool) (gap : ℤ) (items : List Item) (ts : List Track) → length (low_limits crossing gap items ts) ≡ length ts
lows crossing gap items ts = zipped_length mark_endless ts (limit_distributed (low_limit_step crossing) gap items ts) (limits (low_limit_step crossing) gap items ts)

-- ---- groups

group : {axis : ℕ} (space : Space axis) (gap : ℤ) (crossing : Bool) (items : List Item) (ts : List Track) → length (group_fitted space gap crossing items ts) ≡ length ts
unfolding group_fitted
group space gap crossing items ts =
    let bases : List Track = each_distributed (base_steps space gap crossing) gap items ts in
    limits (high_limit_step crossing) gap items (low_limits crossing gap items (map raise_limit bases))
    ∙ lows crossing gap items (map raise_limit bases)
    ∙ mapped raise_limit bases
    ∙ each (base_steps space gap crossing) gap items ts

some : {axis : ℕ} (space : Space axis) (gap : ℤ) (items : List Item) (ts : List Track) → length (some_fitted space gap items ts) ≡ length ts
some space gap [] ts = refl
some space gap (i ∷ rest) ts = group space gap false (i ∷ rest) ts

spanning : {axis : ℕ} (space : Space axis) (gap : ℤ) (items : List Item) (more n : ℕ) (ts : List Track) → length (spans_fitted space gap items more n ts) ≡ length ts
unfolding spans_fitted
spanning space gap items zero n ts = refl
spanning space gap items (suc more) n ts = spanning space gap items more (n + 1) (some_fitted space gap (of_span ts items n) ts) ∙ some space gap (of_span ts items n) ts

content : {axis : ℕ} (space : Space axis) (gap : ℤ) (items : List Item) (ts : List Track) → length (content_sized space gap items ts) ≡ length ts
content space gap items ts =
    let singles : List Track = fit_alone space gap items ts in
    let wider : List Track = spans_fitted space gap items (length ts) 2 singles in
    let crossing : List Item = filter (crosses_flexible ts) items in
    mapped close_limit (group_fitted space gap true crossing wider)
    ∙ group space gap true crossing wider
    ∙ spanning space gap items (length ts) 2 singles
    ∙ length_alone space gap items ts

-- ---- the rest of the space

within : (most : Option ℤ) (gap : ℤ) (ts : List Track) → length (maximised_within most gap ts) ≡ length ts
within None gap ts = mapped full ts
within (Some most) gap ts = chosen (int_lt most (total gap (map full ts))) (grown to_limit (free_of gap most ts) ts) (map full ts) (length ts) (shared grow_base (free_of gap most ts) to_limit ts) (mapped full ts)

most : {axis : ℕ} (space : Space axis) (limit : Option ℤ) (gap : ℤ) (ts : List Track) → length (maximised space limit gap ts) ≡ length ts
most (Definite a) limit gap ts = shared grow_base (free_of gap a ts) to_limit ts
most MinContent limit gap ts = refl
most MaxContent limit gap ts = within limit gap ts

by_fraction : (f : Fraction) (ts : List Track) → length (expanded_by f ts) ≡ length ts
by_fraction f ts =
    let rows : List FrRow = map fr_row ts in
    zipped_length with_base ts (expanded f rows) (zipped_length (with_part f) rows (apportioned f.space f.weight (map (weight_in f) rows)) (parts 0 f.space f.weight (map (weight_in f) rows) ∙ mapped (weight_in f) rows) ∙ mapped fr_row ts)

again : (min limit : Option ℤ) (gap : ℤ) (ts done : List Track) → length done ≡ length ts → length (expanded_within min limit gap ts done) ≡ length ts
again min limit gap ts done h =
    let bounded : ℤ = at_least min (at_most limit (total gap done)) in
    chosen (int_eq bounded (total gap done)) done (expanded_by (definite_fraction gap bounded ts) ts) (length ts) h (by_fraction (definite_fraction gap bounded ts) ts)

flexible : {axis : ℕ} (fit : Fit axis) (items : List Item) (ts : List Track) → length (flexed fit items ts) ≡ length ts
flexible fit items ts =
    let done : List Track = expanded_by (fraction_for fit.space fit.gap items ts) ts in
    let same : length done ≡ length ts = by_fraction (fraction_for fit.space fit.gap items ts) ts in
    chosen (is_max_content fit.space) (expanded_within fit.min fit.max fit.gap ts done) done (length ts) (again fit.min fit.max fit.gap ts done same) same

over : (space : Option ℤ) (gap : ℤ) (ts : List Track) → length (stretched_over space gap ts) ≡ length ts
over None gap ts = refl
over (Some a) gap ts = shared grow_base (free_of gap a ts) auto_room ts

wider : {axis : ℕ} (fit : Fit axis) (ts : List Track) → length (stretched fit ts) ≡ length ts
wider fit ts = chosen fit.stretch (stretched_over (stretch_space fit.space fit.min) fit.gap ts) ts (length ts) (over (stretch_space fit.space fit.min) fit.gap ts) refl

-- ---- the whole

all : {axis : ℕ} (rules : List Rule) (first : ℤ) (items : List Item) (fit : Fit axis) → length (sized rules first items fit) ≡ length rules
unfolding sized
all rules first items fit =
    let start : List Track = initialised first rules in
    let inner : List Track = content_sized fit.space fit.gap items start in
    let grown_most : List Track = maximised fit.space fit.max fit.gap inner in
    wider fit (flexed fit items grown_most)
    ∙ flexible fit items grown_most
    ∙ most fit.space fit.max fit.gap inner
    ∙ content fit.space fit.gap items start
    ∙ length_started first rules

-- as many sizes as rules
pub sizes_counted : {axis : ℕ} (rules : List Rule) (first : ℤ) (items : List Item) (fit : Fit axis) → length (track_sizes rules first items fit) ≡ length rules
sizes_counted rules first items fit = mapped (λ (t : Track). t.base) (sized rules first items fit) ∙ all rules first items fit
