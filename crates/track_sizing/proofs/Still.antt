-- Items that ask for nothing.
use Rattle.std.proofs.Common.{arith, ap, subst, ◌≡◌, ◌∙◌, sym, ℕ, ◌+◌, ◌==◌, ◌<◌, ◌≤◌, ℤ, pos, negsuc, ◌-ℤ◌, ◌*ℤ◌, ◌≤ℤ◌, ◌<ℤ◌, Bool, true, false, List, [], ◌∷◌, map, drop, length, get_or, cond, Option, Some, None, if◌then◌else◌}
use Rattle.std.specs.Int.{int_max}
use Rattle.std.specs.List.{list_any}
use Rattle.std.proofs.lemmas.Int.{ints, clamps}
use Rattle.std.proofs.Math.ListN.{drop_of_length-le}
use Rattle.lunit.specs.Units.{clamp}
use Rattle.lunit.specs.declared.item.Item.{Item}
use Rattle.lunit.specs.declared.item.Floor.{Floor}
use Rattle.lunit.specs.declared.item.Floor.TheVariants.{Known, Content}
use Rattle.part_rules.specs.Lists.{at_most, sum_of, sum_of_known, total_of, zipped}
use Rattle.part_rules.specs.Sharing.{apportioned_whole, shares, unshared}
use Rattle.part_rules.specs.Tracks.{Track, BaseStep, LimitStep, affected_by, base_incurred_by, base_of, base_planned_by, base_rooms, by_factors, capped_most, crossing_weight, in_turns, incur, inner_gutters, limit_incurred_by, limit_of, limit_planned_by, limit_rooms, minimum, minimum_by, needed, only, plan, span_length, spanned, spans, without_end}
use Rattle.track_sizing.specs.declared.kinds.Affected.{Affected}
use Rattle.track_sizing.specs.declared.kinds.Kind.{Kind}
use Rattle.track_sizing.specs.declared.item.Asks.{Asks}
use Rattle.track_sizing.specs.declared.item.Asks.TheVariants as asks
use Rattle.track_sizing.specs.Here.{HaveLengths, IsIdle, IsIdleFloor}
use Rattle.track_sizing.specs.Placed.{AreReady, asks_in, base_step_of, limit_step_in}
use Rattle.track_sizing.proofs.Idle.{either, idle_parts, idle_turns, planned_idle}
use Rattle.track_sizing.proofs.Sums.{drop_item, times_some}

pub idle_known : (gap : ℤ) (i : Item) (x : ℤ) → i.floor ≡ Known x → pos 0 ≤ℤ gap → i.low ≤ℤ pos 0 → i.high ≤ℤ pos 0 → x ≤ℤ pos 0 → IsIdle gap i
idle_known gap i x e g l h f = record { gutters = g; low = l; high = h; floor = subst IsIdleFloor (sym e) f }

-- ---- what it asks for

idle_least : (gap : ℤ) (ts : List Track) (i : Item) (f : Floor) → IsIdleFloor f → minimum_by gap ts i f ≤ℤ pos 0
idle_least gap ts i (Known x) h = h
idle_least gap ts i (Content size margins inner) h = absurd h

idle_limited : (least x : ℤ) (most : Option ℤ) → least ≤ℤ pos 0 → x ≤ℤ pos 0 → int_max least (at_most most x) ≤ℤ pos 0
idle_limited least x None h g = omega (arith, ints, clamps, h, g)
idle_limited least x (Some limit) h g = omega (arith, ints, clamps, h, g)

idle_chosen : (b : Bool) (x y : ℤ) → x ≤ℤ pos 0 → y ≤ℤ pos 0 → (if b then x else y) ≤ℤ pos 0
idle_chosen true x y h g = h
idle_chosen false x y h g = g

abbrev caps : List Track → Item → Option ℤ
caps ts i = sum_of_known (map (λ (t : Track). capped_most t.rule.most) (spanned i ts))

idle_asks : (definite : Bool) (gap : ℤ) (k : Asks) (ts : List Track) (i : Item) → IsIdle gap i → asks_in definite gap k ts i ≤ℤ pos 0
idle_asks definite gap asks.Minimum ts i h =
    let least : minimum gap ts i ≤ℤ pos 0 = idle_least gap ts i i.floor h.floor in
    idle_chosen definite (minimum gap ts i) (int_max (minimum gap ts i) (at_most (caps ts i) i.low)) least (idle_limited (minimum gap ts i) i.low (caps ts i) least h.low)
idle_asks definite gap asks.Low ts i h = h.low
idle_asks definite gap asks.LimitedHigh ts i h = idle_limited (minimum gap ts i) i.high (caps ts i) (idle_least gap ts i i.floor h.floor) h.high
idle_asks definite gap asks.High ts i h = h.high

-- ---- the space that it needs

abbrev AreSome : (Track → ℤ) → List Track → Type 0
AreSome f [] = Unit {0}
AreSome f (t ∷ ts) = (pos 0 ≤ℤ f t) × AreSome f ts

bases_some : (ts : List Track) → HaveLengths ts → AreSome base_of ts
bases_some [] h = tt
bases_some (t ∷ ts) h = (h.0.0, bases_some ts h.1)

limits_some : (ts : List Track) → HaveLengths ts → AreSome limit_of ts
limits_some [] h = tt
limits_some (t ∷ ts) h = (h.0.1, limits_some ts h.1)

sum_some : (f : Track → ℤ) (i : Item) (ts : List Track) → AreSome f ts → pos 0 ≤ℤ sum_of (map f (spanned i ts))
sum_some f i [] h = omega (arith, ints)
sum_some f i (t ∷ ts) h = go (spans i t) (sum_some f i ts h.1)
  where
    go : (b : Bool) → pos 0 ≤ℤ sum_of (map f (spanned i ts)) → pos 0 ≤ℤ sum_of (map f (cond b (t ∷ spanned i ts) (spanned i ts)))
    go true g = omega (arith, ints, h.0, g)
    go false g = g

product_some : (x y : ℤ) → pos 0 ≤ℤ x → pos 0 ≤ℤ y → pos 0 ≤ℤ (x *ℤ y)
product_some x (pos n) h g = times_some x n h
product_some x (negsuc n) h g = absurd (omega (arith, ints))

none_needed : (asked sum gutters : ℤ) → asked ≤ℤ pos 0 → pos 0 ≤ℤ sum → pos 0 ≤ℤ gutters → clamp (int_max (pos 0) (asked -ℤ sum -ℤ gutters)) ≡ pos 0
unfolding clamp
none_needed asked sum gutters h g k = omega (arith, ints, clamps, h, g, k)

gutters_some : (gap : ℤ) (i : Item) → pos 0 ≤ℤ gap → i.span.start <ℤ i.span.end → pos 0 ≤ℤ inner_gutters gap i
gutters_some gap i h p = product_some gap (span_length i -ℤ pos 1) h (omega (arith, ints, p))

-- ---- what it gives

idle_factors : (p : Track → Bool) (i : Item) (ts : List Track) → by_factors p i (pos 0) ts ≡ ts
idle_factors p i ts =
    let weights : List ℕ = map (crossing_weight p i) ts in
    either (total_of weights == 0) (in_turns (only (affected_by p i) without_end ∷ []) (pos 0) ts) (zipped incur ts (apportioned_whole (pos 0) weights)) ts (idle_turns (only (affected_by p i) without_end ∷ []) ts) (idle_parts (crossing_weight p i) (total_of weights) 0 ts)

pub base_still : (a : Affected) (receives : Kind) (definite : Bool) (gap : ℤ) (k : Asks) (i : Item) (ts : List Track) → AreReady ts → HaveLengths ts → i.span.start <ℤ i.span.end → IsIdle gap i → ts ≡ base_planned_by (base_step_of a receives definite gap k) gap ts i
base_still a receives definite gap k i ts r l p h =
    let s : BaseStep = base_step_of a receives definite gap k in
    let space : needed base_of gap (s.asks ts i) ts i ≡ pos 0 = none_needed (asks_in definite gap k ts i) (sum_of (map base_of (spanned i ts))) (inner_gutters gap i) (idle_asks definite gap k ts i h) (sum_some base_of i ts (bases_some ts l)) (gutters_some gap i h.gutters p) in
    let given : base_incurred_by s i (needed base_of gap (s.asks ts i) ts i) ts ≡ ts =
    ap (λ (y : ℤ). base_incurred_by s i y ts) space ∙ either s.crossing (by_factors s.affected i (pos 0) ts) (in_turns (base_rooms s i ts) (pos 0) ts) ts (idle_factors s.affected i ts) (idle_turns (base_rooms s i ts) ts) in
    planned_idle (list_any (affected_by s.affected i) ts) (base_incurred_by s i (needed base_of gap (s.asks ts i) ts i) ts) ts given r

pub limit_still : (a : Affected) (second : Bool) (gap : ℤ) (i : Item) (ts : List Track) → AreReady ts → HaveLengths ts → i.span.start <ℤ i.span.end → IsIdle gap i → ts ≡ limit_planned_by (limit_step_in a second) gap ts i
limit_still a second gap i ts r l p h =
    let s : LimitStep = limit_step_in a second in
    let space : needed limit_of gap (s.asks i) ts i ≡ pos 0 = none_needed (if second then i.high else i.low) (sum_of (map limit_of (spanned i ts))) (inner_gutters gap i) (idle_chosen second i.high i.low h.high h.low) (sum_some limit_of i ts (limits_some ts l)) (gutters_some gap i h.gutters p) in
    let given : limit_incurred_by s i (needed limit_of gap (s.asks i) ts i) ts ≡ ts =
    ap (λ (y : ℤ). limit_incurred_by s i y ts) space ∙ either s.crossing (by_factors s.affected i (pos 0) ts) (in_turns (limit_rooms s i) (pos 0) ts) ts (idle_factors s.affected i ts) (idle_turns (limit_rooms s i) ts) in
    planned_idle (list_any (affected_by s.affected i) ts) (limit_incurred_by s i (needed limit_of gap (s.asks i) ts i) ts) ts given r

-- ---- no length falls below 0

have_zipped : (ts : List Track) (ss : List ℤ) → HaveLengths ts → HaveLengths (zipped incur ts ss)
have_zipped [] ss h = tt
have_zipped (t ∷ ts) [] h = tt
have_zipped (t ∷ ts) (s ∷ ss) h = (h.0, have_zipped ts ss h.1)

have_turns : (rooms : List (Track → Option ℤ)) (space : ℤ) (ts : List Track) → HaveLengths ts → HaveLengths (in_turns rooms space ts)
have_turns [] space ts h = h
have_turns (room ∷ rooms) space ts h = have_turns rooms (unshared space (map room ts)) (zipped incur ts (shares space (map room ts))) (have_zipped ts (shares space (map room ts)) h)

have_chosen : (b : Bool) (xs ys : List Track) → HaveLengths xs → HaveLengths ys → HaveLengths (if b then xs else ys)
have_chosen true xs ys h g = h
have_chosen false xs ys h g = g

have_factors : (p : Track → Bool) (i : Item) (space : ℤ) (ts : List Track) → HaveLengths ts → HaveLengths (by_factors p i space ts)
have_factors p i space ts h =
    have_chosen (total_of (map (crossing_weight p i) ts) == 0) (in_turns (only (affected_by p i) without_end ∷ []) space ts) (zipped incur ts (apportioned_whole space (map (crossing_weight p i) ts)))
    (have_turns (only (affected_by p i) without_end ∷ []) space ts h) (have_zipped ts (apportioned_whole space (map (crossing_weight p i) ts)) h)

have_planned : (ts : List Track) → HaveLengths ts → HaveLengths (map plan ts)
have_planned [] h = tt
have_planned (t ∷ ts) h = (h.0, have_planned ts h.1)

pub base_lengths : (s : BaseStep) (gap : ℤ) (ts : List Track) (i : Item) → HaveLengths ts → HaveLengths (base_planned_by s gap ts i)
base_lengths s gap ts i h =
    let space : ℤ = needed base_of gap (s.asks ts i) ts i in
    have_chosen (list_any (affected_by s.affected i) ts) (map plan (base_incurred_by s i space ts)) ts
    (have_planned (base_incurred_by s i space ts) (have_chosen s.crossing (by_factors s.affected i space ts) (in_turns (base_rooms s i ts) space ts) (have_factors s.affected i space ts h) (have_turns (base_rooms s i ts) space ts h))) h

pub limit_lengths : (s : LimitStep) (gap : ℤ) (ts : List Track) (i : Item) → HaveLengths ts → HaveLengths (limit_planned_by s gap ts i)
limit_lengths s gap ts i h =
    let space : ℤ = needed limit_of gap (s.asks i) ts i in
    have_chosen (list_any (affected_by s.affected i) ts) (map plan (limit_incurred_by s i space ts)) ts
    (have_planned (limit_incurred_by s i space ts) (have_chosen s.crossing (by_factors s.affected i space ts) (in_turns (limit_rooms s i) space ts) (have_factors s.affected i space ts h) (have_turns (limit_rooms s i) space ts h))) h

-- Where no length of those from this place on is below 0, none is.
pub record IsReadTo (ts : List Track) (i : ℕ) : Type 0 where
  pub whole : HaveLengths (drop i ts) → HaveLengths ts

pub none_read : (ts : List Track) → IsReadTo ts 0
none_read ts = record { whole = λ h. h }

pub more_read : (ts : List Track) (i : ℕ) (t : Track) (base limit : ℤ) → IsReadTo ts i → i < length ts → t ≡ get_or ts i t → base ≡ t.base → pos 0 ≤ℤ base → limit ≡ limit_of t → pos 0 ≤ℤ limit → IsReadTo ts (i + 1)
more_read ts i t base limit so h e b p l q =
    record { whole = λ rest. so.whole (subst HaveLengths (sym (drop_item ts i t h e)) ((subst (λ (z : ℤ). pos 0 ≤ℤ z) b p, subst (λ (z : ℤ). pos 0 ≤ℤ z) l q), rest)) }

pub all_read : (ts : List Track) (i : ℕ) → IsReadTo ts i → length ts ≤ i → HaveLengths ts
all_read ts i so h = let none : drop i ts ≡ [] = drop_of_length-le ts h in so.whole (subst HaveLengths (sym none) tt)

pub ruleset lengths = (none_read, all_read)
